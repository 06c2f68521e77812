-- The faults of lines and of conditions are faults of names.
use Rattle.std.proofs.Common.{◌≡◌, inl, inr, ℕ, List, Option, Some, None, Bool, true, false, cond, length}
use Rattle.std.specs.Prelude.{eqb}
use Rattle.dx_schema.specs.Forest.{Forest}
use Rattle.dx_schema.specs.Faults.{is_among}
use Rattle.dx_tokens.specs.declared.faults.TextFault.{TextFault}
use Rattle.dx_tokens.specs.declared.faults.TextFault.TheVariants.{At}
use Rattle.dx_tokens.specs.declared.faults.TextKind.TheVariants.{UnknownName, Width}
use Rattle.dx_schema_text.specs.declared.texts.PlaceText.{PlaceText}
use Rattle.dx_schema_text.specs.declared.texts.SourceText.{SourceText}
use Rattle.dx_schema_text.specs.declared.texts.SourceText.TheVariants as sources
use Rattle.dx_schema_text.specs.declared.texts.LineText.{LineText}
use Rattle.dx_funcs.specs.declared.conversion.Conversion.{Conversion}
use Rattle.dx_funcs.specs.Names.{first_named}
use Rattle.dx_line_text.specs.Naming.{set_names, columns_in, name_fault, place_fault, places_fault, source_call_fault, source_fault, line_fault}
use Rattle.dx_schema_text.specs.declared.texts.OnlyText.{OnlyText}
use Rattle.dx_funcs.specs.declared.row_test.RowTest.{RowTest}
use Rattle.dx_line_text.specs.Conditions.{test_names, condition_fault}
use Rattle.dx_line_text.specs.Laws.{IsOfNames, NamesAlone, UnknownAlone}
use Rattle.dx_base.proofs.Firsts.{first_so, one_of_two}

unknown : (place : ℕ) (e : TextFault) → Some (At place UnknownName) ≡ Some e → IsOfNames e
unknown place e h = (place, inl (cc))

of_name : (b : Bool) (place : ℕ) (e : TextFault) → cond b None (Some (At place UnknownName)) ≡ Some e → IsOfNames e
of_name true place e h = absurd cc
of_name false place e h = unknown place e h

of_place : (f : Forest) (p : PlaceText) (e : TextFault) → place_fault f p ≡ Some e → IsOfNames e
of_place f p e h = go (is_among p.set (set_names f)) h
  where
    go : (b : Bool) → cond b (name_fault (columns_in f p.set) p.column p.column_place) (Some (At p.set_place UnknownName)) ≡ Some e → IsOfNames e
    go true k = of_name (is_among p.column (columns_in f p.set)) p.column_place e k
    go false k = unknown p.set_place e k

of_call : (f : Forest) (found : Option Conversion) (place : ℕ) (args : List PlaceText) (e : TextFault) → source_call_fault f found place args ≡ Some e → IsOfNames e
of_call f None place args e h = unknown place e h
of_call f (Some c) place args e h = go (eqb c.arity (length args)) h
  where
    go : (b : Bool) → cond b (places_fault f args) (Some (At place Width)) ≡ Some e → IsOfNames e
    go true k = first_so IsOfNames (place_fault f) args e (of_place f) k
    go false k = (place, inr (cc))

of_source : (f : Forest) (list : List Conversion) (s : SourceText) (e : TextFault) → source_fault f list s ≡ Some e → IsOfNames e
of_source f list (sources.Column p) e h = of_place f p e h
of_source f list (sources.Literal t) e h = absurd cc
of_source f list (sources.Call name place args) e h = of_call f (first_named list name) place args e h

of_line : (source target : Forest) (list : List Conversion) (l : LineText) (e : TextFault) → line_fault source target list l ≡ Some e → IsOfNames e
of_line source target list l e h =
    elim (one_of_two (source_fault source list l.source) (place_fault target l.target) e h) [ inl k ↦ of_source source list l.source e k | inr k ↦ of_place target l.target e k ]

pub names_alone : NamesAlone
names_alone source target list lines e h = first_so IsOfNames (line_fault source target list) lines e (of_line source target list) h

-- ---- conditions

abbrev IsUnknown : TextFault → Type 0
IsUnknown e = (place : ℕ) × (e ≡ At place UnknownName)

name_unknown : (b : Bool) (place : ℕ) (e : TextFault) → cond b None (Some (At place UnknownName)) ≡ Some e → IsUnknown e
name_unknown true place e h = absurd cc
name_unknown false place e h = (place, cc)

place_unknown : (f : Forest) (p : PlaceText) (e : TextFault) → place_fault f p ≡ Some e → IsUnknown e
place_unknown f p e h = go (is_among p.set (set_names f)) h
  where
    go : (b : Bool) → cond b (name_fault (columns_in f p.set) p.column p.column_place) (Some (At p.set_place UnknownName)) ≡ Some e → IsUnknown e
    go true k = name_unknown (is_among p.column (columns_in f p.set)) p.column_place e k
    go false k = (p.set_place, cc)

condition_unknown : (f : Forest) (list : List RowTest) (o : OnlyText) (e : TextFault) → condition_fault f list o ≡ Some e → IsUnknown e
condition_unknown f list o e h =
    elim (one_of_two (place_fault f o.place) (name_fault (test_names list) o.test o.test_place) e h) [
      | inl k ↦ place_unknown f o.place e k
      | inr k ↦ name_unknown (is_among o.test (test_names list)) o.test_place e k
    ]

pub unknown_alone : UnknownAlone
unknown_alone f list os e h = first_so IsUnknown (condition_fault f list) os e (condition_unknown f list) h
