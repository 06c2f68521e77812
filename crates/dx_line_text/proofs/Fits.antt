-- Lines without a fault fit the two schemas, and their conversions are listed.
use Rattle.std.proofs.Common.{◌≡◌, ℕ, ◌<◌, ◌≤◌, take, List, [], Option, Some, None, Bool, true, false, cond, length, map, refl, sym, ap, ◌∙◌, subst}
use Rattle.std.specs.Prelude.{eqb}
use Rattle.std.proofs.lemmas.Bool.{eqb-true}
use Rattle.std.proofs.lemmas.List.{get_or-map, take_all, length-map}
use Rattle.dx_base.specs.Members.{here, there, Each}
use Rattle.dx_base.proofs.Members.{from_map}
use Rattle.dx_model.specs.Tables.{table_of}
use Rattle.dx_schema.specs.Forest.{Forest}
use Rattle.dx_schema.specs.Tables.{TableOf, tables_of, schema_table, as_numbers, model_tables, no_table}
use Rattle.dx_schema.specs.Faults.{is_among}
use Rattle.dx_schema.proofs.Loops.{among_number}
use Rattle.dx_tokens.specs.declared.faults.TextFault.TheVariants.{At}
use Rattle.dx_tokens.specs.declared.faults.TextKind.TheVariants.{UnknownName, Width}
use Rattle.dx_schema_text.specs.declared.texts.PlaceText.{PlaceText}
use Rattle.dx_schema_text.specs.declared.texts.SourceText.{SourceText}
use Rattle.dx_schema_text.specs.declared.texts.SourceText.TheVariants as sources
use Rattle.dx_schema_text.specs.declared.texts.LineText.{LineText}
use Rattle.dx_funcs.specs.declared.conversion.Conversion.{Conversion}
use Rattle.dx_lines.specs.declared.line.Line.{Line}
use Rattle.dx_lines.specs.Limits.{IsSchemaColumn, LineFits}
use Rattle.dx_lines.specs.Ways.{named_columns}
use Rattle.dx_funcs.specs.Names.{first_named}
use Rattle.dx_line_text.specs.Naming.{set_names, set_number, columns_in, name_fault, place_fault, places_fault, source_call_fault, source_fault, line_fault, lines_fault, place_of_text, code_of, origin_of, line_of_text, lines_of, IsOffered, IsOfferedFrom}
use Rattle.dx_base.proofs.Firsts.{two_none, each_none}
use Rattle.dx_funcs.proofs.Named.{found_listed}

-- ---- places

-- the numbers of a set and a column that are there
is_column : (f : Forest) (p : PlaceText) → is_among p.set (set_names f) ≡ true → is_among p.column (columns_in f p.set) ≡ true → IsSchemaColumn (model_tables f) (place_of_text f p)
is_column f p set_there column_there =
    let t = set_number f p.set in
    let lt : t < length (tables_of f) = rw (← length-map (tables_of f) (λ (t : TableOf). t.name)) (among_number p.set (set_names f) set_there) in
    let width : (table_of (model_tables f) t).width ≡ length (schema_table f t).columns =
    ap (λ n. n.width) (get_or-map as_numbers (tables_of f) t no_table (record { width = 0; determinations = []; links = []; optional = [] }) lt) in
    record {
      table = rw (length-map (tables_of f) as_numbers) lt;
      column = rw width (among_number p.column (columns_in f p.set) column_there);
    }

-- a place without a fault is a column
pub place_fits : (f : Forest) (p : PlaceText) → place_fault f p ≡ None → IsSchemaColumn (model_tables f) (place_of_text f p)
place_fits f p h = go (is_among p.set (set_names f)) refl h
  where
    inner : (b : Bool) → is_among p.column (columns_in f p.set) ≡ b → cond b None (Some (At p.column_place UnknownName)) ≡ None → is_among p.set (set_names f) ≡ true → IsSchemaColumn (model_tables f) (place_of_text f p)
    inner true e k s = is_column f p s e
    inner false e k s = absurd cc

    go : (b : Bool) → is_among p.set (set_names f) ≡ b → cond b (name_fault (columns_in f p.set) p.column p.column_place) (Some (At p.set_place UnknownName)) ≡ None → IsSchemaColumn (model_tables f) (place_of_text f p)
    go true e k = inner (is_among p.column (columns_in f p.set)) refl k e
    go false e k = absurd cc

pub places_fit : (f : Forest) (places : List PlaceText) → places_fault f places ≡ None → Each (map (place_of_text f) places) (IsSchemaColumn (model_tables f))
places_fit f places h a m =
    let p = from_map (place_of_text f) places m in
    subst (IsSchemaColumn (model_tables f)) p.2 (place_fits f p.0 (each_none (place_fault f) places h p.0 p.1))

-- ---- sources

-- a conversion without a fault is one that is listed, takes as many arguments, and none of these has a fault
call_fine : (f : Forest) (found : Option Conversion) (place : ℕ) (args : List PlaceText) → source_call_fault f found place args ≡ None
    → (c : Conversion) × (found ≡ Some c) × (c.arity ≡ length args) × (places_fault f args ≡ None)
call_fine f None place args h = absurd cc
call_fine f (Some c) place args h = go (eqb c.arity (length args)) refl h
  where
    go : (b : Bool) → eqb c.arity (length args) ≡ b → cond b (places_fault f args) (Some (At place Width)) ≡ None → (d : Conversion) × (Some c ≡ Some d) × (d.arity ≡ length args) × (places_fault f args ≡ None)
    go true e k = (c, refl, eqb-true c.arity (length args) e, k)
    go false e k = absurd cc

source_fits : (f : Forest) (list : List Conversion) (s : SourceText) → source_fault f list s ≡ None → Each (named_columns (origin_of f list s)) (IsSchemaColumn (model_tables f))
source_fits f list (sources.Column p) h a (here e) = subst (IsSchemaColumn (model_tables f)) e (place_fits f p h)
source_fits f list (sources.Column p) h a (there m) = elim m [ ]
source_fits f list (sources.Literal t) h a m = elim m [ ]
source_fits f list (sources.Call name place args) h a m = places_fit f args (call_fine f (first_named list name) place args h).3 a m

source_offered : (f : Forest) (list : List Conversion) (s : SourceText) → source_fault f list s ≡ None → IsOfferedFrom list (origin_of f list s)
source_offered f list (sources.Column p) h = tt
source_offered f list (sources.Literal t) h = tt
source_offered f list (sources.Call name place args) h =
    let r = call_fine f (first_named list name) place args h in
    (r.0, found_listed list name r.0 r.1, ap code_of (sym r.1), r.2 ∙ sym (length-map args (place_of_text f)))

-- ---- lines

line_fits : (source target : Forest) (list : List Conversion) (l : LineText) → line_fault source target list l ≡ None → LineFits (model_tables source) (model_tables target) (line_of_text source target list l)
line_fits source target list l h =
    let r = two_none (source_fault source list l.source) (place_fault target l.target) h in
    record { to = place_fits target l.target r.1; from = source_fits source list l.source r.0 }

line_offered : (source target : Forest) (list : List Conversion) (l : LineText) → line_fault source target list l ≡ None → IsOffered list (line_of_text source target list l)
line_offered source target list l h = source_offered source list l.source (two_none (source_fault source list l.source) (place_fault target l.target) h).0

-- lines without a fault fit their schemas
pub lines_fit : (source target : Forest) (list : List Conversion) (lines : List LineText) (read : List Line) → read ≡ lines_of source target list lines → lines_fault source target list lines ≡ None
    → Each read (LineFits (model_tables source) (model_tables target))
lines_fit source target list lines read is h x m =
    let l = from_map (line_of_text source target list) lines (rw is at m) in
    subst (LineFits (model_tables source) (model_tables target)) l.2 (line_fits source target list l.0 (each_none (line_fault source target list) lines h l.0 l.1))

-- and their conversions are listed
pub lines_offered : (source target : Forest) (list : List Conversion) (lines : List LineText) (read : List Line) → read ≡ lines_of source target list lines → lines_fault source target list lines ≡ None
    → Each read (IsOffered list)
lines_offered source target list lines read is h x m =
    let l = from_map (line_of_text source target list) lines (rw is at m) in
    subst (IsOffered list) l.2 (line_offered source target list l.0 (each_none (line_fault source target list) lines h l.0 l.1))

-- a loop that came to its end has read all
pub all_read : {X Y : Type 0} (f : X → Y) (xs : List X) (i : ℕ) (ys : List Y) → length xs ≤ i → ys ≡ map f (take i xs) → ys ≡ map f xs
all_read f xs i ys past h = h ∙ ap (map f) (take_all i xs past)
