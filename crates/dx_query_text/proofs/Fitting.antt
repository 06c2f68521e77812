-- A query without a fault fits its schema.
use Rattle.std.proofs.Common.{◌≡◌, ◌⊎◌, ℕ, zero, suc, ◌<◌, ◌≤◌, List, [], ◌∷◌, ◌++◌, Some, None, Bool, true, false, cond, length, map, refl, sym, ap, ◌∙◌, subst, arith, nat_eq, inl, inr, slice_get, get_or}
use Rattle.std.specs.Prelude.{eqb}
use Rattle.std.specs.Cmp.Lexicographic.{pointwise}
use Rattle.std.proofs.lemmas.Bool.{eqb-true, or_cases, and_parts}
use Rattle.std.proofs.lemmas.List.{length-map}
use Rattle.dx_base.specs.Members.{◌∈◌, here, there, Each}
use Rattle.dx_base.proofs.Members.{from_map, in_map, in_flat_map, from_flat_map}
use Rattle.dx_base.proofs.Firsts.{first_none, none_of, each_none}
use Rattle.dx_model.specs.declared.rules.Cell.{Cell}
use Rattle.dx_model.specs.declared.rules.Cell.TheVariants.{Var}
use Rattle.dx_model.specs.declared.rules.Atom.{Atom}
use Rattle.dx_model.specs.Rules.{cells_of}
use Rattle.dx_model.specs.Fitting.{AtomFitsWidths}
use Rattle.dx_schema.specs.Forest.{Forest}
use Rattle.dx_schema.specs.Tables.{TableOf, no_table, tables_of, schema_widths, number_of_name}
use Rattle.dx_base.specs.Texts.{Text}
use Rattle.dx_schema.specs.Faults.{is_among}
use Rattle.dx_schema.proofs.Loops.{among_number}
use Rattle.dx_tokens.specs.declared.faults.TextFault.TheVariants.{At}
use Rattle.dx_tokens.specs.declared.faults.TextKind.TheVariants.{UnknownName, Width, Unsafe}
use Rattle.dx_schema_text.specs.declared.texts.CellText.{CellText}
use Rattle.dx_schema_text.specs.declared.texts.CellText.TheVariants.{Name, Literal}
use Rattle.dx_schema_text.specs.declared.texts.AtomText.{AtomText}
use Rattle.dx_line_text.specs.Naming.{set_names, set_number, columns_in}
use Rattle.dx_tgd_text.specs.Numbering.{appeared, unknown_names, new_name, new_names, text_cells, with_name}
use Rattle.dx_tgd_text.specs.Reading.{atom_fault, atoms_fault, cell_of, atom_of_text, atoms_of_texts}
use Rattle.dx_tgd_text.proofs.Appearing.{among_append, among_appeared}
use Rattle.dx_queries.specs.Results.{FitsPart, FitsQuery, IsQueryCell}
use Rattle.dx_query_text.specs.declared.texts.PartText.{PartText}
use Rattle.dx_query_text.specs.Naming.{answer_cell_fault, answer_fault, part_fault, part_of_text, query_fault, query_of, part_variables, width_fault, width_of}
use Rattle.dx_query_text.specs.Queries.{HasFewAtoms}
use Rattle.dx_query_text.specs.Laws.{ReadPartsFit, ReadQueriesFit}

-- ---- atoms

slice_map : {X : Type 0} (g : X → ℕ) (xs : List X) (n : ℕ) (d : X) → n < length xs → slice_get (map g xs) n ≡ Some (g (get_or xs n d))
slice_map g [] n d h = absurd (omega (arith, h))
slice_map g (x ∷ xs) zero d h = refl
slice_map g (x ∷ xs) (suc n) d h = slice_map g xs n d (omega (arith, h))

atom_fits : (f : Forest) (known fresh : List Text) (a : AtomText) → atom_fault f a ≡ None → AtomFitsWidths (schema_widths f) (atom_of_text f known fresh a)
atom_fits f known fresh a h = go (is_among a.set (set_names f)) refl h
  where
    wide : (b : Bool) → eqb (length a.cells) (length (columns_in f a.set)) ≡ b → cond b None (Some (At a.place Width)) ≡ None → is_among a.set (set_names f) ≡ true → AtomFitsWidths (schema_widths f) (atom_of_text f known fresh a)
    wide false e k s = absurd cc
    wide true e k s =
        let lt : set_number f a.set < length (tables_of f) = rw (← length-map (tables_of f) (λ (t : TableOf). t.name)) (among_number a.set (set_names f) s) in
        let many : length (columns_in f a.set) ≡ length (map (cell_of known fresh) a.cells) = sym (length-map a.cells (cell_of known fresh) ∙ eqb-true (length a.cells) (length (columns_in f a.set)) e) in
        slice_map (λ (t : TableOf). length t.columns) (tables_of f) (set_number f a.set) no_table lt ∙ ap (λ (n : ℕ). Some n) many

    go : (b : Bool) → is_among a.set (set_names f) ≡ b → cond b (cond (eqb (length a.cells) (length (columns_in f a.set))) None (Some (At a.place Width))) (Some (At a.place UnknownName)) ≡ None → AtomFitsWidths (schema_widths f) (atom_of_text f known fresh a)
    go true e k = wide (eqb (length a.cells) (length (columns_in f a.set))) refl k e
    go false e k = absurd cc

atoms_fit : (f : Forest) (known fresh : List Text) (atoms : List AtomText) → atoms_fault f atoms ≡ None → Each (atoms_of_texts f known fresh atoms) (AtomFitsWidths (schema_widths f))
atoms_fit f known fresh atoms h a m =
    let p = from_map (atom_of_text f known fresh) atoms m in
    subst (AtomFitsWidths (schema_widths f)) p.2 (atom_fits f known fresh p.0 (each_none (atom_fault f) atoms h p.0 p.1))

-- ---- cells

known_cell : (known : List Text) (c : CellText) → Each (new_name [] c) (λ x. is_among x known ≡ true) → IsQueryCell (cell_of known [] c)
known_cell known (Name x place) k = rw (k x (here refl)) tt
known_cell known (Literal t) k = tt

-- the name in a cell of atoms is among the names of the atoms
cell_named : (atoms : List AtomText) (a : AtomText) (c : CellText) → a ∈ atoms → c ∈ a.cells → Each (new_name [] c) (λ x. is_among x (unknown_names [] atoms) ≡ true)
cell_named atoms a c m k x n = among_appeared x [] (new_names [] (text_cells atoms)) (in_flat_map (new_name []) (in_flat_map (λ (b : AtomText). b.cells) m k) n)

atoms_cells : (f : Forest) (atoms : List AtomText) → Each (cells_of (atoms_of_texts f (unknown_names [] atoms) [] atoms)) IsQueryCell
atoms_cells f atoms c m =
    let known = unknown_names [] atoms in
    let b = from_flat_map (λ (b : Atom). b.cells) (atoms_of_texts f known [] atoms) m in
    let a = from_map (atom_of_text f known []) atoms b.1 in
    let t = from_map (cell_of known []) a.0.cells (subst (λ (d : Atom). c ∈ d.cells) (sym a.2) b.2) in
    subst IsQueryCell t.2 (known_cell known t.0 (cell_named atoms a.0 t.0 a.1 t.1))

answer_known : (known : List Text) (x : Text) (place : ℕ) → answer_cell_fault known (Name x place) ≡ None → is_among x known ≡ true
answer_known known x place h = go (is_among x known) refl h
  where
    go : (b : Bool) → is_among x known ≡ b → cond b None (Some (At place Unsafe)) ≡ None → is_among x known ≡ true
    go true e k = e
    go false e k = absurd cc

answer_cell : (known : List Text) (c : CellText) → answer_cell_fault known c ≡ None → IsQueryCell (cell_of known [] c)
answer_cell known (Name x place) h = rw (answer_known known x place h) tt
answer_cell known (Literal t) h = tt

-- ---- a name of the answer stands in an atom

same_text : (x y : Text) → pointwise nat_eq x y ≡ true → x ≡ y
same_text [] [] e = refl
same_text [] (y ∷ ys) e = absurd cc
same_text (x ∷ xs) [] e = absurd cc
same_text (x ∷ xs) (y ∷ ys) e =
    let p = and_parts (nat_eq x y) (pointwise nat_eq xs ys) e in
    let first = eqb-true x y p.0 in
    let others = same_text xs ys p.1 in
    cc (first, others)

added : (x y : Text) (names : List Text) (b : Bool) → is_among x (cond b names (names ++ y ∷ [])) ≡ true → (is_among x names ≡ true) ⊎ (y ≡ x)
added x y names true k = inl k
added x y names false k = elim (or_cases (is_among x names) (is_among x (y ∷ [])) (sym (among_append x names (y ∷ [])) ∙ k)) [
  | inl e ↦ inl e
  | inr e ↦ elim (or_cases (pointwise nat_eq y x) false e) [ inl s ↦ inr (same_text y x s) | inr s ↦ absurd cc ]
]

appeared_in : (x : Text) (names xs : List Text) → is_among x (appeared names xs) ≡ true → (is_among x names ≡ true) ⊎ (x ∈ xs)
appeared_in x names [] k = inl k
appeared_in x names (y ∷ ys) k = elim (appeared_in x (with_name names y) ys k) [
  | inl e ↦ elim (added x y names (is_among y names) e) [ inl m ↦ inl m | inr s ↦ inr (here s) ]
  | inr m ↦ inr (there m)
]

-- a cell of the same name
same_cell : (known : List Text) (x : Text) (c : CellText) → x ∈ new_name [] c → is_among x known ≡ true → cell_of known [] c ≡ Var (number_of_name x known)
same_cell known x (Name y place) (here e) k = let j = subst (λ (z : Text). is_among z known ≡ true) (sym e) k in rw j (ap (λ (z : Text). Var (number_of_name z known)) e)
same_cell known x (Name y place) (there m) k = elim m [ ]
same_cell known x (Literal t) m k = elim m [ ]

name_stands : (f : Forest) (atoms : List AtomText) (x : Text) → is_among x (unknown_names [] atoms) ≡ true → Var (number_of_name x (unknown_names [] atoms)) ∈ cells_of (atoms_of_texts f (unknown_names [] atoms) [] atoms)
name_stands f atoms x k = elim (appeared_in x [] (new_names [] (text_cells atoms)) k) [ inl e ↦ absurd cc | inr m ↦ found m ]
  where
    found : x ∈ new_names [] (text_cells atoms) → Var (number_of_name x (unknown_names [] atoms)) ∈ cells_of (atoms_of_texts f (unknown_names [] atoms) [] atoms)
    found m =
        let known = unknown_names [] atoms in
        let c = from_flat_map (new_name []) (text_cells atoms) m in
        let a = from_flat_map (λ (b : AtomText). b.cells) atoms c.1 in
        let at = in_flat_map (λ (b : Atom). b.cells) (in_map (atom_of_text f known []) a.1) (in_map (cell_of known []) a.2) in
        subst (λ (d : Cell). d ∈ cells_of (atoms_of_texts f known [] atoms)) (same_cell known x c.0 c.2 k) at

answer_stands : (f : Forest) (atoms : List AtomText) (c : CellText) (y : ℕ) → answer_cell_fault (unknown_names [] atoms) c ≡ None → cell_of (unknown_names [] atoms) [] c ≡ Var y → Var y ∈ cells_of (atoms_of_texts f (unknown_names [] atoms) [] atoms)
answer_stands f atoms (Name x place) y h e =
    let k = answer_known (unknown_names [] atoms) x place h in
    let is = rw k at e in
    subst (λ (d : Cell). d ∈ cells_of (atoms_of_texts f (unknown_names [] atoms) [] atoms)) is (name_stands f atoms x k)
answer_stands f atoms (Literal t) y h e = absurd cc

-- ---- parts

width_right : (width : ℕ) (p : PartText) → width_fault width p ≡ None → length p.answer ≡ width
width_right width p h = go (eqb (length p.answer) width) refl h
  where
    go : (b : Bool) → eqb (length p.answer) width ≡ b → cond b None (Some (At p.place Width)) ≡ None → length p.answer ≡ width
    go true e k = eqb-true (length p.answer) width e
    go false e k = absurd cc

pub read_parts_fit : ReadPartsFit
read_parts_fit f width p few h =
    let known = part_variables p in
    let one = first_none (atoms_fault f p.atoms) (width_fault width p ∷ answer_fault known p.answer ∷ []) h in
    let two = first_none (width_fault width p) (answer_fault known p.answer ∷ []) one.1 in
    let three = none_of (answer_fault known p.answer) two.1 in
    record {
      part = record {
        few = rw (length-map p.atoms (atom_of_text f known [])) few;
        cells = atoms_cells f p.atoms;
        answer = λ c m. let t = from_map (cell_of known []) p.answer m in subst IsQueryCell t.2 (answer_cell known t.0 (each_none (answer_cell_fault known) p.answer three t.0 t.1));
        width = length-map p.answer (cell_of known []) ∙ width_right width p two.0;
        safe = λ y m. let t = from_map (cell_of known []) p.answer m in answer_stands f p.atoms t.0 y (each_none (answer_cell_fault known) p.answer three t.0 t.1) t.2;
      };
      wide = atoms_fit f known [] p.atoms one.0;
    }

-- the parts that are read have the atoms of their texts
few_texts : (f : Forest) (parts : List PartText) → HasFewAtoms (query_of f parts) → Each parts (λ p. length p.atoms ≤ 64)
few_texts f parts few p m = rw (← length-map p.atoms (atom_of_text f (part_variables p) [])) (few (part_of_text f p) (in_map (part_of_text f) m))

parts_fit : (f : Forest) (parts : List PartText) → Each parts (λ p. length p.atoms ≤ 64) → query_fault f parts ≡ None → FitsQuery (schema_widths f) (query_of f parts)
parts_fit f parts few h q m =
    let p = from_map (part_of_text f) parts m in
    subst (FitsPart (schema_widths f) (width_of parts)) p.2 (read_parts_fit f (width_of parts) p.0 (few p.0 p.1) (each_none (part_fault f (width_of parts)) parts h p.0 p.1))

pub read_queries_fit : ReadQueriesFit
read_queries_fit f text q (parts, says, none, is) few =
    subst (FitsQuery (schema_widths f)) (sym is) (parts_fit f parts (few_texts f parts (subst HasFewAtoms is few)) none)
