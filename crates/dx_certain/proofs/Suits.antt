-- The rows of tables that suit atoms.
use Rattle.std.proofs.Common.{◌≡◌, ◌↔◌, ◌⊎◌, ◌∙◌, ◌<◌, ◌≤◌, ◌+◌, ◌++◌, ℕ, zero, suc, List, [], ◌∷◌, refl, sym, ap, subst, arith, length, get_or, take, inl, inr, Some, slice_get, append_assoc, Result, Ok, Err}
use Rattle.std.specs.Prelude.{map, IfOk}
use Rattle.std.specs.List.{AllZip}
use Rattle.std.specs.declared.alloc.AllocError.{AllocError}
use Rattle.std.proofs.Math.Nat.{eq-or-lt_of_le}
use Rattle.std.proofs.lemmas.List.{take_more, take_all, get_or_default, get_or-map, append-nil, map-append, length-map, length-append}
use Rattle.dx_base.specs.Members.{◌∈◌, here, there, Each}
use Rattle.dx_base.proofs.Members.{in_map, from_map, in_left, in_right, from_append, in_at, item_in}
use Rattle.dx_base.proofs.Lists.{zip_at, from_zip}
use Rattle.dx_model.specs.declared.values.Value.{Value}
use Rattle.dx_model.specs.declared.values.Value.TheVariants.{Const}
use Rattle.dx_model.specs.declared.rules.Cell.{Cell}
use Rattle.dx_model.specs.declared.rules.Cell.TheVariants.{Var, Ex, Lit}
use Rattle.dx_model.specs.declared.rules.Atom.{Atom}
use Rattle.dx_model.specs.Rules.{cells_of, atom_at}
use Rattle.dx_model.specs.Fitting.{AtomsFitWidths}
use Rattle.dx_model.specs.Tables.{cell}
use Rattle.dx_instance.specs.Numbers.{value_of}
use Rattle.dx_instance.specs.Cells.{NumberTable, numbers_at}
use Rattle.dx_instance.specs.Shown.{NumberedInstance, PartsFit, NumberRowsFit, numbers_of_table, shown_row, shown_tables}
use Rattle.dx_instance.specs.Stored.{IsSorting, TableRows, widths}
use Rattle.dx_joins.specs.declared.pattern.Pattern.{Pattern}
use Rattle.dx_joins.specs.Joining.{variables_of_patterns}
use Rattle.dx_joins.specs.Planning.{FitPattern}
use Rattle.dx_joins.proofs.Translating.{rows_shown}
use Rattle.dx_queries.specs.declared.query.Part.{Part}
use Rattle.dx_certain.specs.Suiting.{IsSuited, IsSuiting, RowSuits, Suits, cell_at, no_atom}
use Rattle.dx_certain.specs.Naming.{PatternsOfAtoms, IsPatternOf, cell_number, variables_among}

-- ---- rows that are gone through

-- the rows are those of the first n that have P
pub record ArePicked (P : List ℕ → Type 0) (rows : List (List ℕ)) (n : ℕ) (picked : List (List ℕ)) : Type 0 where
  pub few : length picked ≤ n
  pub exact : (r : List ℕ) → (r ∈ picked) ↔ ((r ∈ take n rows) × P r)

pub picked_none : (P : List ℕ → Type 0) (rows : List (List ℕ)) → ArePicked P rows 0 []
picked_none P rows = record { few = omega arith; exact = λ r. ((λ m. elim m [ ]), (λ w. elim w.0 [ ])) }

from_next : {X : Type 0} (xs : List X) (n : ℕ) (x y : X) → n < length xs → x ≡ get_or xs n x → y ∈ take (n + 1) xs → (y ∈ take n xs) ⊎ (x ≡ y)
from_next {X} xs n x y h e m = elim (from_append (take n xs) (rw (take_more xs n x h) at m)) [ inl l ↦ inl l | inr k ↦ last k ]
  where
    last : y ∈ (get_or xs n x ∷ []) → (y ∈ take n xs) ⊎ (x ≡ y)
    last (here d) = inr (e ∙ d)
    last (there k) = elim k [ ]

to_next : {X : Type 0} (xs : List X) (n : ℕ) (x y : X) → n < length xs → x ≡ get_or xs n x → (y ∈ take n xs) ⊎ (x ≡ y) → y ∈ take (n + 1) xs
to_next xs n x y h e m = rw (take_more xs n x h) (elim m [ inl l ↦ in_left _ l | inr d ↦ in_right (take n xs) (here (sym e ∙ d)) ])

pub picked_more : (P : List ℕ → Type 0) (rows : List (List ℕ)) (n : ℕ) (picked : List (List ℕ)) (row : List ℕ) → n < length rows → row ≡ numbers_at rows n → P row → ArePicked P rows n picked → ArePicked P rows (n + 1) (picked ++ row ∷ [])
picked_more P rows n picked row h e p k =
    let d = e ∙ get_or_default rows n [] row h in
    record {
      few = let l = k.few in let m = length-append picked (row ∷ []) in omega (arith, l, m);
      exact = λ r. (
        (λ m. elim (from_append picked m) [
          | inl l ↦ let w = (k.exact r).0 l in (to_next rows n row r h d (inl w.0), w.1)
          | inr o ↦ let s = only r o in (to_next rows n row r h d (inr s), subst P s p)
        ]),
        (λ w. elim (from_next rows n row r h d w.0) [
          | inl l ↦ in_left (row ∷ []) ((k.exact r).1 (l, w.1))
          | inr s ↦ in_right picked (here s)
        ]),
      );
    }
  where
    only : (r : List ℕ) → r ∈ (row ∷ []) → row ≡ r
    only r (here s) = s
    only r (there m) = elim m [ ]

pub picked_same : (P : List ℕ → Type 0) (rows : List (List ℕ)) (n : ℕ) (picked : List (List ℕ)) (row : List ℕ) → n < length rows → row ≡ numbers_at rows n → ¬ (P row) → ArePicked P rows n picked → ArePicked P rows (n + 1) picked
picked_same P rows n picked row h e p k =
    let d = e ∙ get_or_default rows n [] row h in
    record {
      few = let l = k.few in omega (arith, l);
      exact = λ r. (
        (λ m. let w = (k.exact r).0 m in (to_next rows n row r h d (inl w.0), w.1)),
        (λ w. elim (from_next rows n row r h d w.0) [
          | inl l ↦ (k.exact r).1 (l, w.1)
          | inr s ↦ absurd (p (subst P (sym s) w.1))
        ]),
      );
    }

pub picked_all : (P : List ℕ → Type 0) (rows : List (List ℕ)) (n : ℕ) (picked : List (List ℕ)) → length rows ≤ n → ArePicked P rows n picked → (r : List ℕ) → (r ∈ picked) ↔ ((r ∈ rows) × P r)
picked_all P rows n picked h k r = rw (take_all n rows h) at (k.exact r)

-- ---- columns

pub suits_here : (S : List Value) (answer cells : List Cell) (row : List ℕ) (i : ℕ) (c : Cell) (n : ℕ) → i < length cells → length row ≡ length cells → c ≡ get_or cells i c → n ≡ get_or row i 0
    → (Suits answer c (value_of S n) → Suits answer (cell_at cells i) (cell (shown_row S row) i)) × (Suits answer (cell_at cells i) (cell (shown_row S row) i) → Suits answer c (value_of S n))
suits_here S answer cells row i c n h w e d =
    let b : i < length row = omega (arith, h, w) in
    let ce : cell_at cells i ≡ c = sym (e ∙ get_or_default cells i c (Lit []) h) in
    let ve : cell (shown_row S row) i ≡ value_of S n = get_or-map (value_of S) row i 0 (Const []) b ∙ ap (value_of S) (sym d) in (
      (λ s. subst (λ (d : Cell). Suits answer d (cell (shown_row S row) i)) (sym ce) (subst (λ (v : Value). Suits answer c v) (sym ve) s)),
      (λ s. subst (λ (v : Value). Suits answer c v) ve (subst (λ (d : Cell). Suits answer d (cell (shown_row S row) i)) ce s)),
    )

-- ---- tables of atoms

pub at_table : (S : List Value) (T : List NumberTable) (t n : ℕ) → slice_get (widths (shown_tables S T)) t ≡ Some n → (t < length T) × ((numbers_of_table T t).width ≡ n)
at_table S [] t n e = absurd (cc e)
at_table S (u ∷ T) zero n e = (omega arith, cc e)
at_table S (u ∷ T) (suc t) n e = let k = at_table S T t n e in (omega (arith, k.0), k.1)

table_there : (T : List NumberTable) (t : ℕ) → t < length T → numbers_of_table T t ∈ T
table_there T t h = in_at T t (record { width = 0; rows = [] }) h

module _ (S : List Value) (T : List NumberTable) (p : Part) (fits : PartsFit S T) (wide : AtomsFitWidths (widths (shown_tables S T)) p.atoms) where
  abbrev pub source : NumberedInstance
  source = record { symbols = S; tables = T }

  pub suiting_fit : (tables : List NumberTable) → AllZip (IsSuiting source p.answer) p.atoms tables → Each tables (NumberRowsFit (length S))
  suiting_fit tables z t m =
      let r = from_zip (IsSuiting source p.answer) p.atoms tables t z m in
      let a = at_table S T r.0.table (length r.0.cells) (wide r.0 r.1) in
      let f = fits.each (numbers_of_table T r.0.table) (table_there T r.0.table a.0) in
      record {
        columns = let c = f.columns in omega (arith, c, a.1, r.2.width);
        within = λ row k. f.within row ((r.2.exact row).0 k).0;
      }

  zip_widths : (atoms : List Atom) (tables : List NumberTable) → AllZip (IsSuiting source p.answer) atoms tables → widths (shown_tables S tables) ≡ map (λ (a : Atom). length a.cells) atoms
  zip_widths [] [] z = refl
  zip_widths [] (t ∷ tables) z = absurd z
  zip_widths (a ∷ atoms) [] z = absurd z
  zip_widths (a ∷ atoms) (t ∷ tables) z = let r = zip_widths atoms tables z.1 in let e = z.0.width in cc (r, e)

  suiting_at : (tables : List NumberTable) (i : ℕ) → AllZip (IsSuiting source p.answer) p.atoms tables → i < length p.atoms → IsSuiting source p.answer (atom_at p.atoms i) (numbers_of_table tables i)
  suiting_at tables i z h = zip_at (IsSuiting source p.answer) p.atoms tables i no_atom (record { width = 0; rows = [] }) z h

  pub suited_sorted : (tables : List NumberTable) (J : List TableRows) → AllZip (IsSuiting source p.answer) p.atoms tables → IsSorting (shown_tables S tables) J → IsSuited (shown_tables S T) p J
  suited_sorted tables J z s = record {
    wide = s.widths_stay ∙ zip_widths p.atoms tables z;
    exact = λ i h row. (
      (λ m. let k = s.only i row m in
          let r = from_map (shown_row S) (numbers_of_table tables i).rows (rw (rows_shown S tables i) at k) in
          let w = ((suiting_at tables i z h).exact r.0).0 r.1 in (
            rw (rows_shown S T (atom_at p.atoms i).table) (subst (λ (x : List Value). x ∈ map (shown_row S) (numbers_of_table T (atom_at p.atoms i).table).rows) r.2 (in_map (shown_row S) w.0)),
            subst (λ (x : List Value). RowSuits p.answer (atom_at p.atoms i).cells x) r.2 w.1,
          )),
      (λ w. let r = from_map (shown_row S) (numbers_of_table T (atom_at p.atoms i).table).rows (rw (rows_shown S T (atom_at p.atoms i).table) at w.0) in
          let k = ((suiting_at tables i z h).exact r.0).1 (r.1, subst (λ (x : List Value). RowSuits p.answer (atom_at p.atoms i).cells x) (sym r.2) w.1) in
          s.kept i row (rw (rows_shown S tables i) (subst (λ (x : List Value). x ∈ map (shown_row S) (numbers_of_table tables i).rows) r.2 (in_map (shown_row S) k)))),
    );
  }

-- ---- patterns of atoms

cells_next : (atoms : List Atom) (n : ℕ) (a : Atom) → n < length atoms → a ≡ get_or atoms n a → cells_of (take (n + 1) atoms) ≡ cells_of (take n atoms) ++ a.cells
cells_next atoms n a h e = ap cells_of (take_more atoms n a h) ∙ (split (take n atoms) ∙ ap (λ (l : List Cell). cells_of (take n atoms) ++ l) (append-nil (get_or atoms n a).cells ∙ ap (λ (b : Atom). b.cells) (sym e)))
  where
    split : (xs : List Atom) → cells_of (xs ++ get_or atoms n a ∷ []) ≡ cells_of xs ++ ((get_or atoms n a).cells ++ [])
    split [] = refl
    split (x ∷ xs) = ap (λ (l : List Cell). x.cells ++ l) (split xs) ∙ sym (append_assoc x.cells (cells_of xs) ((get_or atoms n a).cells ++ []))

pub all_next : (atoms : List Atom) (n : ℕ) (a : Atom) (all : List Cell) → n < length atoms → a ≡ get_or atoms n a → all ≡ cells_of (take n atoms) → all ++ a.cells ≡ cells_of (take (n + 1) atoms)
all_next atoms n a all h e k = ap (λ (l : List Cell). l ++ a.cells) k ∙ sym (cells_next atoms n a h e)

pub named_none : (cells : List Cell) (atoms : List Atom) → PatternsOfAtoms cells atoms 0 []
named_none cells atoms = record { each = λ p m. elim m [ ]; all = λ i h. absurd (omega (arith, h)); variables = refl }

pub named_more : (cells : List Cell) (atoms : List Atom) (n : ℕ) (ps : List Pattern) (q : Pattern) (a : Atom) → n < length atoms → a ≡ get_or atoms n a → q.table ≡ n → q.variables.items ≡ map (cell_number cells) a.cells
    → PatternsOfAtoms cells atoms n ps → PatternsOfAtoms cells atoms (n + 1) (ps ++ q ∷ [])
named_more cells atoms n ps q a h e t v k =
    let at : atom_at atoms n ≡ a = sym (e ∙ get_or_default atoms n a no_atom h) in
    let is : IsPatternOf cells n (atom_at atoms n) q = record { table = t; variables = v ∙ ap (λ (b : Atom). map (cell_number cells) b.cells) (sym at) } in
    record {
      each = λ p m. elim (from_append ps m) [
        | inl l ↦ let r = k.each p l in (r.0, omega (arith, r.1), r.2)
        | inr o ↦ (n, omega arith, subst (λ (x : Pattern). IsPatternOf cells n (atom_at atoms n) x) (only p o) is)
      ];
      all = λ i b. elim (below_or i b) [
        | inl l ↦ let r = k.all i l in (r.0, in_left (q ∷ []) r.1, r.2)
        | inr s ↦ (q, in_right ps (here refl), rw s is)
      ];
      variables = split ps ∙ (ap (λ (l : List ℕ). l ++ q.variables.items) k.variables ∙ (ap (λ (l : List ℕ). map (cell_number cells) (cells_of (take n atoms)) ++ l) v ∙ (sym (map-append (cell_number cells) (cells_of (take n atoms)) a.cells) ∙ ap (map (cell_number cells)) (sym (cells_next atoms n a h e)))));
    }
  where
    only : (p : Pattern) → p ∈ (q ∷ []) → q ≡ p
    only p (here s) = s
    only p (there m) = elim m [ ]

    below_or : (i : ℕ) → i < n + 1 → (i < n) ⊎ (i ≡ n)
    below_or i b = let h : i ≤ n = omega (arith, b) in elim (eq-or-lt_of_le h) [ inl e ↦ inr e | inr l ↦ inl l ]

    split : (xs : List Pattern) → variables_of_patterns (xs ++ q ∷ []) ≡ variables_of_patterns xs ++ q.variables.items
    split [] = append-nil q.variables.items
    split (x ∷ xs) = ap (λ (l : List ℕ). x.variables.items ++ l) (split xs) ∙ sym (append_assoc x.variables.items (variables_of_patterns xs) q.variables.items)

pub variables_next : (cells : List Cell) (n : ℕ) (c : Cell) → n < length cells → c ≡ get_or cells n c → variables_among (take (n + 1) cells) ≡ variables_among (take n cells) ++ variables_among (c ∷ [])
variables_next cells n c h e = ap variables_among (take_more cells n c h ∙ ap (λ (d : Cell). take n cells ++ d ∷ []) (sym e)) ∙ split (take n cells)
  where
    split : (xs : List Cell) → variables_among (xs ++ c ∷ []) ≡ variables_among xs ++ variables_among (c ∷ [])
    split [] = refl
    split (Var x ∷ xs) = ap (λ (l : List Cell). Var x ∷ l) (split xs)
    split (Ex v ∷ xs) = split xs
    split (Lit t ∷ xs) = split xs

-- each pattern fits its table
at_widths : (S : List Value) (T : List NumberTable) (atoms : List Atom) (i : ℕ) → widths (shown_tables S T) ≡ map (λ (a : Atom). length a.cells) atoms → i < length atoms → (i < length T) × ((numbers_of_table T i).width ≡ length (atom_at atoms i).cells)
at_widths S T [] i e h = absurd (omega (arith, h))
at_widths S [] (a ∷ atoms) i e h = absurd (cc e)
at_widths S (t ∷ T) (a ∷ atoms) zero e h = (omega arith, cc e)
at_widths S (t ∷ T) (a ∷ atoms) (suc i) e h = let k = at_widths S T atoms i (cc e) (omega (arith, h)) in (omega (arith, k.0), k.1)

pub named_fit : (S : List Value) (T : List NumberTable) (cells : List Cell) (atoms : List Atom) (ps : List Pattern) → widths (shown_tables S T) ≡ map (λ (a : Atom). length a.cells) atoms → PatternsOfAtoms cells atoms (length atoms) ps → Each ps (FitPattern T)
named_fit S T cells atoms ps e k q m =
    let r = k.each q m in
    let w = at_widths S T atoms r.0 e r.1 in
    record { table = rw r.2.table w.0; width = rw r.2.table (w.1 ∙ sym (ap length r.2.variables ∙ length-map (atom_at atoms r.0).cells (cell_number cells))) }

pub named_variables : (cells : List Cell) (atoms : List Atom) (ps : List Pattern) → PatternsOfAtoms cells atoms (length atoms) ps → variables_of_patterns ps ≡ map (cell_number cells) (cells_of atoms)
named_variables cells atoms ps k = k.variables ∙ ap (λ (l : List Atom). map (cell_number cells) (cells_of l)) (take_all (length atoms) atoms (omega arith))

pub result_suited : (S : List Value) (T : List NumberTable) (p : Part) → PartsFit S T → AtomsFitWidths (widths (shown_tables S T)) p.atoms → (tables : List NumberTable) (K : List TableRows) (result : Result (List TableRows) AllocError)
    → AllZip (IsSuiting (record { symbols = S; tables = T }) p.answer) p.atoms tables → shown_tables S T ≡ K → IfOk result (IsSorting (shown_tables S tables)) → IfOk result (IsSuited K p)
result_suited S T p fits wide tables K (Err e) z is s = tt
result_suited S T p fits wide tables K (Ok J) z is s = subst (λ (I : List TableRows). IsSuited I p J) is (suited_sorted S T p fits wide tables J z s)

pub zip_as : (source : NumberedInstance) (answer answer' : List Cell) (atoms atoms' : List Atom) (tables : List NumberTable) → answer ≡ answer' → atoms ≡ atoms' → AllZip (IsSuiting source answer) atoms tables → AllZip (IsSuiting source answer') atoms' tables
zip_as source answer answer' atoms atoms' tables e d z = subst (λ (cs : List Cell). AllZip (IsSuiting source cs) atoms' tables) e (subst (λ (xs : List Atom). AllZip (IsSuiting source answer) xs tables) d z)

-- ---- the numbers of variables

pub variable_listed : (answer : List Cell) (i : ℕ) (c : Cell) (x : ℕ) → i < length answer → c ≡ get_or answer i c → c ≡ Var x → c ∈ variables_among answer
variable_listed answer i c x h e v = go answer (item_in answer i c h e)
  where
    go : (cs : List Cell) → c ∈ cs → c ∈ variables_among cs
    go [] m = elim m [ ]
    go (Var y ∷ cs) (here d) = here d
    go (Ex y ∷ cs) (here d) = absurd (cc (d, v))
    go (Lit t ∷ cs) (here d) = absurd (cc (d, v))
    go (Var y ∷ cs) (there m) = there (go cs m)
    go (Ex y ∷ cs) (there m) = go cs m
    go (Lit t ∷ cs) (there m) = go cs m

pub number_more : (cells answer : List Cell) (shown : List ℕ) (i : ℕ) (c : Cell) (x : ℕ) → i < length answer → c ≡ get_or answer i c → c ≡ Var x → shown ≡ map (cell_number cells) (variables_among (take i answer))
    → shown ++ cell_number cells c ∷ [] ≡ map (cell_number cells) (variables_among (take (i + 1) answer))
number_more cells answer shown i c x h e v k =
    ap (λ (l : List ℕ). l ++ cell_number cells c ∷ []) k ∙ (sym (map-append (cell_number cells) (variables_among (take i answer)) (c ∷ [])) ∙ ap (map (cell_number cells)) (sym (variables_next answer i c h e ∙ ap (λ (l : List Cell). variables_among (take i answer) ++ l) alone)))
  where
    alone : variables_among (c ∷ []) ≡ c ∷ []
    alone = rw v refl

pub number_same : (cells answer : List Cell) (shown : List ℕ) (i : ℕ) (c : Cell) → i < length answer → c ≡ get_or answer i c → ((x : ℕ) → ¬ (c ≡ Var x)) → shown ≡ map (cell_number cells) (variables_among (take i answer))
    → shown ≡ map (cell_number cells) (variables_among (take (i + 1) answer))
number_same cells answer shown i c h e n k = k ∙ ap (map (cell_number cells)) (sym (variables_next answer i c h e ∙ (ap (λ (l : List Cell). variables_among (take i answer) ++ l) (none c n) ∙ append-nil (variables_among (take i answer)))))
  where
    none : (c : Cell) → ((x : ℕ) → ¬ (c ≡ Var x)) → variables_among (c ∷ []) ≡ []
    none (Var x) n = absurd (n x refl)
    none (Ex v) n = refl
    none (Lit t) n = refl

pub shown_as : (cells cells' answer answer' : List Cell) → cells ≡ cells' → answer ≡ answer' → map (cell_number cells) (variables_among answer) ≡ map (cell_number cells') (variables_among answer')
shown_as cells cells' answer answer' e d = rw (e, d) refl
