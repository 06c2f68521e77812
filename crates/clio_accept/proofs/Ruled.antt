-- Rules without derived variables are rules, however long their text is: their atoms are few, and so are the columns of tables.
use Rattle.std.proofs.Common.{◌≡◌, ℕ, ◌*◌, ◌≤◌, Bool, true, false, cond, List, [], ◌∷◌, length, Some, None, refl, sym, ◌∙◌, ap, subst, arith, inl, inr}
use Rattle.std.specs.Prelude.{eqb, map, slice_index_or, zero, suc}
use Rattle.std.proofs.lemmas.Bool.{eqb-true}
use Rattle.std.proofs.lemmas.List.{length-append, length-map}
use Rattle.dx_base.specs.Members.{◌∈◌, here, there, Each}
use Rattle.dx_base.proofs.Members.{from_append, from_map}
use Rattle.dx_base.proofs.Firsts.{each_none, first_none, none_of}
use Rattle.dx_base.proofs.Tests.{from_filter}
use Rattle.dx_model.specs.declared.rules.Rule.{Rule}
use Rattle.dx_model.specs.Fitting.{IsRule, RuleFits}
use Rattle.dx_model.specs.Following.{are_none, underived}
use Rattle.dx_model.proofs.Deciding.{none_derived}
use Rattle.dx_schema.specs.Forest.{Forest}
use Rattle.dx_schema.specs.Faults.{is_among}
use Rattle.dx_schema.specs.Links.{IsFaultless}
use Rattle.dx_schema.specs.Tables.{TableOf, model_tables, tables_of, no_table}
use Rattle.dx_schema.proofs.Valid.{are_tables}
use Rattle.dx_schema_text.specs.declared.texts.AtomText.{AtomText}
use Rattle.dx_schema_text.specs.declared.texts.MappingText.{MappingText}
use Rattle.dx_schema_text.specs.declared.texts.RuleText.{RuleText}
use Rattle.dx_tokens.specs.declared.faults.TextFault.TheVariants.{At}
use Rattle.dx_tokens.specs.declared.faults.TextKind.TheVariants.{UnknownName, Width}
use Rattle.dx_funcs.specs.declared.conversion.Conversion.{Conversion}
use Rattle.dx_funcs.specs.declared.row_test.RowTest.{RowTest}
use Rattle.dx_line_text.specs.Naming.{columns_in, set_names, set_number}
use Rattle.dx_closing.proofs.Growth.{closing_keeps}
use Rattle.dx_tgd_text.specs.Numbering.{text_cells}
use Rattle.dx_tgd_text.specs.Reading.{RuleHasFewCells, atom_fault, atom_of_text, atoms_fault, derived_faults, derived_of_text, fresh_of, known_of, rule_fault, rule_of_text, names_of_premise}
use Rattle.dx_tgd_text.proofs.Fits.{read_rules_fit}
use Rattle.clio_accept.specs.Mapping.{RulesOfLines, IsNarrowClosing, limit_of, rules_of_lines, written_of}
use Rattle.clio_accept.specs.Accepting.{IsBetweenSchemas, TextsBetween}
use Rattle.clio_accept.proofs.Accepted.{IsRead, all_rules_fit, each_fits}
use Rattle.clio_accept.proofs.LineRules.{MarksRead}
use Rattle.clio_accept.proofs.Closed.{closed_fits, closed_of}

-- a table has at most 64 columns, and what is none has none
table_few : (ts : List TableOf) (t : ℕ) → Each ts (λ t. length t.columns ≤ 64) → length (slice_index_or ts t no_table).columns ≤ 64
table_few [] t h = omega arith
table_few (u ∷ ts) zero h = h u (here refl)
table_few (u ∷ ts) (suc t) h = table_few ts t (λ v m. h v (there m))

-- an atom without a fault has few cells
atom_few : (f : Forest) (a : AtomText) → IsFaultless f → atom_fault f a ≡ None → length a.cells ≤ 64
atom_few f a ok h = go (is_among a.set (set_names f)) h
  where
    wide : (b : Bool) → eqb (length a.cells) (length (columns_in f a.set)) ≡ b → cond b None (Some (At a.place Width)) ≡ None → length a.cells ≤ 64
    wide false e k = absurd cc
    wide true e k =
        let same = eqb-true (length a.cells) (length (columns_in f a.set)) e in
        let few = table_few (tables_of f) (set_number f a.set) (λ t m. ((are_tables f ok.form).each_table t m).few_columns) in
        omega (arith, same, few)

    go : (b : Bool) → cond b (cond (eqb (length a.cells) (length (columns_in f a.set))) None (Some (At a.place Width))) (Some (At a.place UnknownName)) ≡ None → length a.cells ≤ 64
    go false k = absurd cc
    go true k = wide (eqb (length a.cells) (length (columns_in f a.set))) refl k

atoms_few : (f : Forest) (atoms : List AtomText) → IsFaultless f → atoms_fault f atoms ≡ None → length (text_cells atoms) ≤ 64 * length atoms
atoms_few f [] ok h = omega arith
atoms_few f (a ∷ atoms) ok h =
    let both = first_none (atom_fault f a) (map (atom_fault f) atoms) h in
    let one = atom_few f a ok both.0 in
    let rest = atoms_few f atoms ok both.1 in
    omega (arith, one, rest, length-append a.cells (text_cells atoms))

-- a hand-written rule without derived variables is narrow, if neither its premise nor its closing has many atoms
narrow : (source target : Forest) (list : List Conversion) (r : RuleText) (e : Rule) → IsFaultless source → IsFaultless target → rule_fault source target list r ≡ None
    → IsNarrowClosing (model_tables target) (rule_of_text source target list r) e → e.derived ≡ [] → RuleHasFewCells r
narrow source target list r e ok fine h n none =
    let a = first_none (atoms_fault source r.premise) (derived_faults list (names_of_premise r) (names_of_premise r) r.derived ∷ atoms_fault target r.conclusion ∷ []) h in
    let b = first_none (derived_faults list (names_of_premise r) (names_of_premise r) r.derived) (atoms_fault target r.conclusion ∷ []) a.1 in
    let p = atoms_few source r.premise ok a.0 in
    let q = atoms_few target r.conclusion fine (none_of (atoms_fault target r.conclusion) b.1) in
    let lp = length-map r.premise (atom_of_text source (names_of_premise r) []) in
    let lq = length-map r.conclusion (atom_of_text target (known_of r) (fresh_of r)) in
    let ld = length-map r.derived (derived_of_text list (names_of_premise r)) in
    let d = ap length (sym n.closing.derived ∙ none) in
    let kept = closing_keeps (model_tables target) (rule_of_text source target list r).conclusion e.conclusion n.closing.conclusion in
    let longer = ap length kept.1 ∙ length-append (rule_of_text source target list r).conclusion kept.0 in
    let few = n.premise in
    let short = n.conclusion in
    omega (arith, p, q, lp, lq, ld, d, longer, few, short)

-- the rules of a text that is read are rules, if they have no derived variables
pub are_rules : (list : List Conversion) (m : MappingText) (R : List Rule) → IsRead list m → RulesOfLines list m.source m.target m.lines m.rules R → Each (underived R) IsRule
are_rules list m R a r e i =
    let w = from_filter (λ (d : Rule). are_none d.derived) R i in
    elim (from_append (rules_of_lines list m.source m.target m.lines) (subst (λ rs. e ∈ rs) r.are w.0)) [
      | inl k ↦ (each_fits list m a e k).rule
      | inr k ↦ of_hand (none_derived e.derived w.1) k
    ]
  where
    of_hand : e.derived ≡ [] → e ∈ r.closed → IsRule e
    of_hand none k =
        let d = closed_of (model_tables m.target) (written_of list m.source m.target m.rules) r.closed r.closings e k in
        let t = from_map (rule_of_text m.source m.target list) m.rules d.1 in
        let fault = each_none (rule_fault m.source m.target list) m.rules a.written t.0 t.1 in
        let n : IsNarrowClosing (model_tables m.target) (rule_of_text m.source m.target list t.0) e = subst (λ (x : Rule). IsNarrowClosing (model_tables m.target) x e) (sym t.2) d.2 in
        let fit = read_rules_fit m.source m.target list t.0 (a.whole t.0 t.1) (narrow m.source m.target list t.0 e a.source a.target fault n none) fault in
        (closed_fits m.source m.target (rule_of_text m.source m.target list t.0) e a.target fit n).rule

-- ---- between two schemas

-- a text that says this
abbrev pub saying_all : TextsBetween → MappingText
saying_all b = record { version = 2; source = b.source; target = b.target; lines = b.lines; conditions = b.conditions; rules = b.by_hand }

-- the rules of lines and the closed hand-written ones fit
pub between_fit : (list : List Conversion) (tests : List RowTest) (b : TextsBetween) (R : List Rule) → IsBetweenSchemas b → MarksRead list tests b → limit_of list b.source b.target b.lines ≡ None
    → RulesOfLines list b.source b.target b.lines b.by_hand R → Each R (RuleFits (model_tables b.source) (model_tables b.target))
between_fit list tests b R ready r limits are =
    all_rules_fit list (saying_all b) R
    (record { source = ready.source; target = ready.target; named = r.named; limits = limits; written = r.written; whole = ready.whole }) ready.narrow are
