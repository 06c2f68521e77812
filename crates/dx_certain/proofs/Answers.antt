-- The constant answers of a part, by the numbers that its patterns are given.
use Rattle.std.proofs.Common.{◌≡◌, ◌∙◌, ◌<◌, ◌≤◌, ◌^◌, ℕ, zero, suc, List, [], ◌∷◌, refl, sym, ap, subst, arith, length, Result, Ok, Err, Option, None, Some}
use Rattle.std.specs.Prelude.{map, IfOk, MatchOption}
use Rattle.std.specs.declared.alloc.AllocError.{AllocError}
use Rattle.std.proofs.lemmas.List.{get_or_default, length-map}
use Rattle.std.proofs.lemmas.Simd.{map-map}
use Rattle.dx_base.specs.Members.{◌∈◌, ◌⊆◌, here, there, Each}
use Rattle.dx_base.proofs.Members.{in_map, from_map, in_at, contains_from_in, from_flat_map}
use Rattle.dx_base.proofs.Tests.{map_same}
use Rattle.dx_model.specs.declared.values.Value.{Value}
use Rattle.dx_model.specs.declared.values.Value.TheVariants.{Const}
use Rattle.dx_model.specs.declared.rules.Cell.{Cell}
use Rattle.dx_model.specs.declared.rules.Cell.TheVariants.{Var, Ex, Lit}
use Rattle.dx_model.specs.declared.rules.Atom.{Atom}
use Rattle.dx_model.specs.Rules.{cells_of, atom_at}
use Rattle.dx_instance.specs.Numbers.{ValuesDiffer, value_of, IsConstant}
use Rattle.dx_instance.specs.Cells.{NumberTable}
use Rattle.dx_instance.specs.Shown.{NumbersBelow, PartsFit, numbers_of_table, shown_row, shown_tables}
use Rattle.dx_instance.specs.Stored.{TableRows, facts, rows_of}
use Rattle.dx_instance.proofs.ShownFacts.{row_same}
use Rattle.dx_instance.proofs.StoredFacts.{row_from_fact, fact_from_row}
use Rattle.dx_joins.specs.declared.pattern.Pattern.{Pattern}
use Rattle.dx_joins.specs.Collecting.{RowsExactly, MoreThan}
use Rattle.dx_joins.specs.Valued.{IsJoinRow}
use Rattle.dx_joins.proofs.Distincts.{distinct_map}
use Rattle.dx_joins.proofs.Translating.{number_in, number_is, number_there, rows_shown, table_in}
use Rattle.dx_queries.specs.declared.query.Part.{Part}
use Rattle.dx_queries.specs.Queries.{assigned, fact_said}
use Rattle.dx_queries.specs.Results.{PartFits, IsQueryCell}
use Rattle.dx_queries.proofs.Exist.{cell_there}
use Rattle.dx_certain.specs.Suiting.{IsSuited, RowSuits, Suits, cell_at, no_atom}
use Rattle.dx_certain.specs.Naming.{PatternsOfAtoms, cell_number, variables_among}
use Rattle.dx_certain.specs.Finding.{IsConstantAnswer, MoreRows, StandForAnswers, answer_values}
use Rattle.dx_joins.specs.Joining.{variables_of_patterns}
use Rattle.dx_certain.proofs.Numbers.{at_number}
use Rattle.dx_certain.proofs.Suits.{named_variables}

-- ---- cells, and the values that stand under them

-- what suits cells, where each has its own value, is what an assignment gives them
cells_read : (f : Cell → Value) (answer cells : List Cell) → Each cells IsQueryCell → RowSuits answer cells (map f cells) → map (assigned (λ x. f (Var x))) cells ≡ map f cells
cells_read f answer [] q s = refl
cells_read f answer (Var x ∷ cells) q s = let r = cells_read f answer cells (λ c m. q c (there m)) (λ c h. s (suc c) (omega (arith, h))) in cc r
cells_read f answer (Ex v ∷ cells) q s = absurd (q (Ex v) (here refl))
cells_read f answer (Lit t ∷ cells) q s =
    let r = cells_read f answer cells (λ c m. q c (there m)) (λ c h. s (suc c) (omega (arith, h))) in
    let e : f (Lit t) ≡ Const t = s 0 (omega arith) in
    cc (r, e)

suits_at : (f : Cell → Value) (answer cells : List Cell) (c : Cell) → RowSuits answer cells (map f cells) → c ∈ cells → Suits answer c (f c)
suits_at f answer [] c s m = elim m [ ]
suits_at f answer (d ∷ cells) c s (here e) = subst (λ (x : Cell). Suits answer x (f x)) e (s 0 (omega arith))
suits_at f answer (d ∷ cells) c s (there m) = suits_at f answer cells c (λ k h. s (suc k) (omega (arith, h))) m

assigned_suits : (values : ℕ → Value) (answer cells : List Cell) → ((x : ℕ) → Var x ∈ answer → IsConstant (values x)) → RowSuits answer cells (map (assigned values) cells)
assigned_suits values answer [] k c h = absurd (omega (arith, h))
assigned_suits values answer (Var x ∷ cells) k zero h = k x
assigned_suits values answer (Ex v ∷ cells) k zero h = tt
assigned_suits values answer (Lit t ∷ cells) k zero h = refl
assigned_suits values answer (d ∷ cells) k (suc c) h = assigned_suits values answer cells k c (omega (arith, h))

-- ---- answers, and the values of their variables

filled_is : (f : Cell → Value) (answer : List Cell) → Each answer IsQueryCell → answer_values answer (map f (variables_among answer)) ≡ map (assigned (λ x. f (Var x))) answer
filled_is f [] q = refl
filled_is f (Var x ∷ answer) q = let r = filled_is f answer (λ c m. q c (there m)) in cc r
filled_is f (Ex v ∷ answer) q = absurd (q (Ex v) (here refl))
filled_is f (Lit t ∷ answer) q = let r = filled_is f answer (λ c m. q c (there m)) in cc r

filled_same : (answer : List Cell) (a b : List Value) → Each answer IsQueryCell → length a ≡ length (variables_among answer) → length b ≡ length (variables_among answer) → answer_values answer a ≡ answer_values answer b → a ≡ b
filled_same [] [] [] q h k e = refl
filled_same [] [] (w ∷ b) q h k e = absurd (omega (arith, k))
filled_same [] (v ∷ a) b q h k e = absurd (omega (arith, h))
filled_same (Var x ∷ answer) [] b q h k e = absurd (omega (arith, h))
filled_same (Var x ∷ answer) (v ∷ a) [] q h k e = absurd (omega (arith, k))
filled_same (Var x ∷ answer) (v ∷ a) (w ∷ b) q h k e =
    let first : v ≡ w = cc e in
    let others : answer_values answer a ≡ answer_values answer b = cc e in
    let r = filled_same answer a b (λ c m. q c (there m)) (omega (arith, h)) (omega (arith, k)) others in
    cc (first, r)
filled_same (Ex v ∷ answer) a b q h k e = absurd (q (Ex v) (here refl))
filled_same (Lit t ∷ answer) a b q h k e =
    let others : answer_values answer a ≡ answer_values answer b = cc e in
    filled_same answer a b (λ c m. q c (there m)) h k others

pub variable_there : (answer : List Cell) (c : Cell) → c ∈ variables_among answer → (x : ℕ) × (c ≡ Var x) × (Var x ∈ answer)
variable_there [] c m = elim m [ ]
variable_there (Var x ∷ answer) c (here e) = (x, sym e, here refl)
variable_there (Var x ∷ answer) c (there m) = let r = variable_there answer c m in (r.0, r.1, there r.2)
variable_there (Ex v ∷ answer) c m = let r = variable_there answer c m in (r.0, r.1, there r.2)
variable_there (Lit t ∷ answer) c m = let r = variable_there answer c m in (r.0, r.1, there r.2)

-- ---- numbers and values

numbers_back : (S : List Value) (r : List ℕ) → ValuesDiffer S → NumbersBelow (length S) r → map (number_in S) (shown_row S r) ≡ r
numbers_back S [] a b = refl
numbers_back S (n ∷ r) a b =
    let first = number_is S n (value_of S n) a (b n (here refl)) refl in
    let others = numbers_back S r a (λ m k. b m (there k)) in
    cc (first, others)

-- a row of numbers of a table, as a row of values
row_in : (S : List Value) (T : List NumberTable) (i t : ℕ) (r : List ℕ) → t ≡ i → r ∈ (numbers_of_table T t).rows → shown_row S r ∈ rows_of (shown_tables S T) i
row_in S T i t r e m = rw (rows_shown S T i) (in_map (shown_row S) (subst (λ (k : ℕ). r ∈ (numbers_of_table T k).rows) e m))

-- an atom has a number
atom_number : (atoms : List Atom) (a : Atom) → a ∈ atoms → (i : ℕ) × (i < length atoms) × (atom_at atoms i ≡ a)
atom_number atoms a m = let c = contains_from_in m in (c.0, c.1, get_or_default atoms c.0 no_atom a c.1 ∙ c.2)

module _ (K : List TableRows) (S : List Value) (T : List NumberTable) (p : Part) (w : ℕ) (ps : List Pattern) (fits : PartsFit S T) (suited : IsSuited K p (shown_tables S T)) (part : PartFits w p) (named : PatternsOfAtoms (cells_of p.atoms) p.atoms (length p.atoms) ps) where
  abbrev pub cells : List Cell
  cells = cells_of p.atoms

  abbrev pub shown : List ℕ
  shown = map (cell_number cells) (variables_among p.answer)

  abbrev pub AllJoin : (ℕ → ℕ) → Type 0
  AllJoin numbers = Each ps (λ q. map numbers q.variables.items ∈ (numbers_of_table T q.table).rows)

  abbrev pub under : (ℕ → ℕ) → Cell → Value
  under numbers c = value_of S (numbers (cell_number cells c))

  below_in : (t : ℕ) (r : List ℕ) → r ∈ (numbers_of_table T t).rows → NumbersBelow (length S) r
  below_in t r m = (fits.each (numbers_of_table T t) (table_in T t r m)).within r m

  atom_cells : (i : ℕ) → i < length p.atoms → (c : Cell) → c ∈ (atom_at p.atoms i).cells → c ∈ cells
  atom_cells i h c m = cell_there p.atoms (atom_at p.atoms i) c (in_at p.atoms i _ h) m

  -- the row of an atom, from the numbers of a join
  atom_row : (numbers : ℕ → ℕ) → AllJoin numbers → (i : ℕ) → i < length p.atoms
      → (map (under numbers) (atom_at p.atoms i).cells ∈ rows_of K (atom_at p.atoms i).table) × RowSuits p.answer (atom_at p.atoms i).cells (map (under numbers) (atom_at p.atoms i).cells)
  atom_row numbers join i h =
      let a = atom_at p.atoms i in
      let n = named.all i h in
      let q = n.0 in
      let is : shown_row S (map numbers q.variables.items) ≡ map (under numbers) a.cells =
      ap (λ (l : List ℕ). shown_row S (map numbers l)) n.2.variables ∙ (ap (shown_row S) (map-map numbers (cell_number cells) a.cells) ∙ map-map (value_of S) (λ c. numbers (cell_number cells c)) a.cells) in
      let there_shown = row_in S T i q.table (map numbers q.variables.items) n.2.table (join q n.1) in
      (suited.exact i h (map (under numbers) a.cells)).0 (subst (λ (row : List Value). row ∈ rows_of (shown_tables S T) i) is there_shown)

  atom_said : (numbers : ℕ → ℕ) → AllJoin numbers → (a : Atom) → a ∈ p.atoms → fact_said (λ x. under numbers (Var x)) a ∈ facts K
  atom_said numbers join a m =
      let n = atom_number p.atoms a m in
      let r = atom_row numbers join n.0 n.1 in
      let b = atom_at p.atoms n.0 in
      let read = cells_read (under numbers) p.answer b.cells (λ c k. part.cells c (atom_cells n.0 n.1 c k)) r.1 in
      subst (λ (x : Atom). fact_said (λ y. under numbers (Var y)) x ∈ facts K) n.2
      (fact_from_row K b.table (map (assigned (λ x. under numbers (Var x))) b.cells) (subst (λ (row : List Value). row ∈ rows_of K b.table) (sym read) r.0))

  -- a variable of the answer stands in an atom
  variable_atom : (x : ℕ) → Var x ∈ p.answer → (i : ℕ) × (i < length p.atoms) × (Var x ∈ (atom_at p.atoms i).cells)
  variable_atom x m =
      let r = from_flat_map (λ (b : Atom). b.cells) p.atoms (part.safe x m) in
      let n = atom_number p.atoms r.0 r.1 in
      (n.0, n.1, subst (λ (b : Atom). Var x ∈ b.cells) (sym n.2) r.2)

  cell_constant : (numbers : ℕ → ℕ) → AllJoin numbers → (c : Cell) → c ∈ p.answer → IsConstant (assigned (λ x. under numbers (Var x)) c)
  cell_constant numbers join (Var x) m =
      let v = variable_atom x m in
      let r = atom_row numbers join v.0 v.1 in
      suits_at (under numbers) p.answer (atom_at p.atoms v.0).cells (Var x) r.1 v.2 m
  cell_constant numbers join (Ex v) m = absurd (part.answer (Ex v) m)
  cell_constant numbers join (Lit t) m = (t, refl)

  shown_values : (numbers : ℕ → ℕ) → shown_row S (map numbers shown) ≡ map (under numbers) (variables_among p.answer)
  shown_values numbers = ap (shown_row S) (map-map numbers (cell_number cells) (variables_among p.answer)) ∙ map-map (value_of S) (λ c. numbers (cell_number cells c)) (variables_among p.answer)

  -- a join gives a constant answer
  from_join : (numbers : ℕ → ℕ) → AllJoin numbers → IsConstantAnswer (facts K) p (answer_values p.answer (shown_row S (map numbers shown)))
  from_join numbers join =
      let row : List Value = map (assigned (λ x. under numbers (Var x))) p.answer in
      let is : answer_values p.answer (shown_row S (map numbers shown)) ≡ row = ap (answer_values p.answer) (shown_values numbers) ∙ filled_is (under numbers) p.answer part.answer in
      let each : Each row IsConstant = λ v m. let r = from_map (assigned (λ x. under numbers (Var x))) p.answer m in subst IsConstant r.2 (cell_constant numbers join r.0 r.1) in
      (((λ x. under numbers (Var x)), atom_said numbers join, is), subst (λ (r : List Value). Each r IsConstant) (sym is) each)

  -- the numbers of a row of the join are below that of all
  join_below : (numbers : ℕ → ℕ) → AllJoin numbers → NumbersBelow (length S) (map numbers shown)
  join_below numbers join n m =
      let r = from_map numbers shown m in
      let k = from_map (cell_number cells) (variables_among p.answer) r.1 in
      let v = variable_there p.answer k.0 k.1 in
      let a = variable_atom v.0 v.2 in
      let q = named.all a.0 a.1 in
      let there_variable : cell_number cells (Var v.0) ∈ q.0.variables.items = subst (λ (l : List ℕ). cell_number cells (Var v.0) ∈ l) (sym q.2.variables) (in_map (cell_number cells) a.2) in
      let is : numbers (cell_number cells (Var v.0)) ≡ n = ap (λ (c : Cell). numbers (cell_number cells c)) (sym v.1) ∙ (ap numbers k.2 ∙ r.2) in
      subst (λ (x : ℕ). x < length S) is (below_in q.0.table _ (join q.0 q.1) _ (in_map numbers there_variable))

  module _ (values : ℕ → Value) (said : Each p.atoms (λ a. fact_said values a ∈ facts K)) (constant : (x : ℕ) → Var x ∈ p.answer → IsConstant (values x)) where
    abbrev pub numbers_for : ℕ → ℕ
    numbers_for k = number_in S (assigned values (cell_at cells k))

    -- the row of an atom, as numbers
    number_row : (i : ℕ) → i < length p.atoms → (r : List ℕ) × (r ∈ (numbers_of_table T i).rows) × (shown_row S r ≡ map (assigned values) (atom_at p.atoms i).cells)
    number_row i h =
        let a = atom_at p.atoms i in
        let row = row_from_fact K (fact_said values a) (said a (in_at p.atoms i _ h)) in
        let at = (suited.exact i h (map (assigned values) a.cells)).1 (row, assigned_suits values p.answer a.cells constant) in
        from_map (shown_row S) (numbers_of_table T i).rows (rw (rows_shown S T i) at at)

    named_same : (i : ℕ) → i < length p.atoms → map numbers_for (map (cell_number cells) (atom_at p.atoms i).cells) ≡ map (number_in S) (map (assigned values) (atom_at p.atoms i).cells)
    named_same i h =
        map-map numbers_for (cell_number cells) (atom_at p.atoms i).cells
        ∙ (map_same (λ c. numbers_for (cell_number cells c)) (λ c. number_in S (assigned values c)) (atom_at p.atoms i).cells (λ c m. ap (λ (d : Cell). number_in S (assigned values d)) (at_number cells c (atom_cells i h c m)))
        ∙ sym (map-map (number_in S) (assigned values) (atom_at p.atoms i).cells))

    to_join : AllJoin numbers_for
    to_join q m =
        let n = named.each q m in
        let r = number_row n.0 n.1 in
        let is : map numbers_for q.variables.items ≡ r.0 = ap (map numbers_for) n.2.variables ∙ (named_same n.0 n.1 ∙ (ap (map (number_in S)) (sym r.2) ∙ numbers_back S r.0 fits.apart (below_in n.0 r.0 r.1))) in
        subst (λ (k : ℕ). map numbers_for q.variables.items ∈ (numbers_of_table T k).rows) (sym n.2.table) (subst (λ (l : List ℕ). l ∈ (numbers_of_table T n.0).rows) (sym is) r.1)

    -- the value of a variable of the answer has a number
    value_there : (x : ℕ) → Var x ∈ p.answer → values x ∈ S
    value_there x m =
        let a = variable_atom x m in
        let r = number_row a.0 a.1 in
        let in_row : values x ∈ shown_row S r.0 = subst (λ (row : List Value). values x ∈ row) (sym r.2) (in_map (assigned values) a.2) in
        let k = from_map (value_of S) r.0 in_row in
        subst (λ (v : Value). v ∈ S) k.2 (in_at S k.0 (Const []) (below_in a.0 r.0 r.1 k.0 k.1))

    values_shown : shown_row S (map numbers_for shown) ≡ map (assigned values) (variables_among p.answer)
    values_shown = shown_values numbers_for ∙ map_same (under numbers_for) (assigned values) (variables_among p.answer) go
      where
        go : (c : Cell) → c ∈ variables_among p.answer → under numbers_for c ≡ assigned values c
        go c m =
            let v = variable_there p.answer c m in
            let a = variable_atom v.0 v.2 in
            let at : cell_at cells (cell_number cells (Var v.0)) ≡ Var v.0 = at_number cells (Var v.0) (atom_cells a.0 a.1 (Var v.0) a.2) in
            let is : under numbers_for (Var v.0) ≡ values v.0 = ap (λ (d : Cell). value_of S (number_in S (assigned values d))) at ∙ (number_there S (values v.0) (value_there v.0 v.2)).1 in
            subst (λ (d : Cell). under numbers_for d ≡ assigned values d) (sym v.1) is

    to_row : answer_values p.answer (shown_row S (map numbers_for shown)) ≡ map (assigned values) p.answer
    to_row = ap (answer_values p.answer) values_shown ∙ filled_is (assigned values) p.answer part.answer

  answer_constant : (values : ℕ → Value) (row : List Value) → row ≡ map (assigned values) p.answer → Each row IsConstant → (x : ℕ) → Var x ∈ p.answer → IsConstant (values x)
  answer_constant values row e each x m = each (values x) (subst (λ (r : List Value). values x ∈ r) (sym e) (in_map (assigned values) m))

  pub stand_for : (table : NumberTable) → RowsExactly (length shown) (IsJoinRow T ps shown) table → StandForAnswers (facts K) p S table
  stand_for table h = record {
    wide = λ r m. let j = (h.exact r).0 m in ap length j.2 ∙ (length-map shown j.0 ∙ length-map (variables_among p.answer) (cell_number cells));
    below = λ r m. let j = (h.exact r).0 m in subst (λ (x : List ℕ). NumbersBelow (length S) x) (sym j.2) (join_below j.0 j.1);
    exact = λ row. (
      (λ a. let constant = answer_constant a.0.0 row a.0.2 a.1 in (
        map (numbers_for a.0.0 a.0.1 constant) shown,
        (h.exact (map (numbers_for a.0.0 a.0.1 constant) shown)).1 (numbers_for a.0.0 a.0.1 constant, to_join a.0.0 a.0.1 constant, refl),
        a.0.2 ∙ sym (to_row a.0.0 a.0.1 constant),
      )),
      (λ m. let j = (h.exact m.0).0 m.1 in
          subst (λ (x : List Value). IsConstantAnswer (facts K) p x) (sym m.2) (subst (λ (r : List ℕ). IsConstantAnswer (facts K) p (answer_values p.answer (shown_row S r))) (sym j.2) (from_join j.0 j.1))),
    );
  }

  -- ---- different rows of numbers stand for different answers

  abbrev pub answer_of : List ℕ → List Value
  answer_of r = answer_values p.answer (shown_row S r)

  many_shown : (numbers : ℕ → ℕ) → length (shown_row S (map numbers shown)) ≡ length (variables_among p.answer)
  many_shown numbers = ap length (shown_values numbers) ∙ length-map (variables_among p.answer) (under numbers)

  joined_below : (a : List ℕ) → IsJoinRow T ps shown a → NumbersBelow (length S) a
  joined_below a j = subst (λ (x : List ℕ). NumbersBelow (length S) x) (sym j.2) (join_below j.0 j.1)

  joined_many : (a : List ℕ) → IsJoinRow T ps shown a → length (shown_row S a) ≡ length (variables_among p.answer)
  joined_many a j = subst (λ (x : List ℕ). length (shown_row S x) ≡ length (variables_among p.answer)) (sym j.2) (many_shown j.0)

  same_row : (a b : List ℕ) → IsJoinRow T ps shown a → IsJoinRow T ps shown b → answer_of a ≡ answer_of b → a ≡ b
  same_row a b j k e =
      row_same S a b fits.apart (joined_below a j) (joined_below b k)
      (filled_same p.answer (shown_row S a) (shown_row S b) part.answer (joined_many a j) (joined_many b k) e)

  pub more_answers : (most : ℕ) → MoreThan most (IsJoinRow T ps shown) → MoreRows most (IsConstantAnswer (facts K) p)
  more_answers most h = record {
    rows = map answer_of h.some;
    distinct = distinct_map answer_of h.some (λ a b m k e. same_row a b (h.each a m) (h.each b k) e) h.distinct;
    each = λ row m. let r = from_map answer_of h.some m in
        let j = h.each r.0 r.1 in
        subst (λ (x : List Value). IsConstantAnswer (facts K) p x) r.2 (subst (λ (x : List ℕ). IsConstantAnswer (facts K) p (answer_of x)) (sym j.2) (from_join j.0 j.1));
    more = let a = h.more in let l = length-map h.some answer_of in omega (arith, a, l);
  }

pub result_answers : (K : List TableRows) (S : List Value) (T : List NumberTable) (p : Part) (w : ℕ) (ps : List Pattern) (shown : List ℕ) (most : ℕ) (result : Result (Option NumberTable) AllocError)
    → PartsFit S T → IsSuited K p (shown_tables S T) → PartFits w p → PatternsOfAtoms (cells_of p.atoms) p.atoms (length p.atoms) ps → shown ≡ map (cell_number (cells_of p.atoms)) (variables_among p.answer)
    → IfOk result (λ o. MatchOption o (MoreThan most (IsJoinRow T ps shown)) (RowsExactly (length shown) (IsJoinRow T ps shown)))
    → IfOk result (λ o. MatchOption o (MoreRows most (IsConstantAnswer (facts K) p)) (StandForAnswers (facts K) p S))
result_answers K S T p w ps shown most (Err e) fits suited part named is k = tt
result_answers K S T p w ps shown most (Ok None) fits suited part named is k = more_answers K S T p w ps fits suited part named most (rw is at k)
result_answers K S T p w ps shown most (Ok (Some r)) fits suited part named is k = stand_for K S T p w ps fits suited part named r (rw is at k)

-- ---- what the join is asked for

pub safe_there : (p : Part) (w : ℕ) → PartFits w p → variables_among p.answer ⊆ cells_of p.atoms
safe_there p w part c m = let v = variable_there p.answer c m in subst (λ (d : Cell). d ∈ cells_of p.atoms) (sym v.1) (part.safe v.0 v.2)

variables_few : (cells : List Cell) → length (variables_among cells) ≤ length cells
variables_few [] = omega arith
variables_few (Var x ∷ cells) = let r = variables_few cells in omega (arith, r)
variables_few (Ex v ∷ cells) = let r = variables_few cells in omega (arith, r)
variables_few (Lit t ∷ cells) = let r = variables_few cells in omega (arith, r)

pub named_as : (cells cells' : List Cell) (atoms atoms' : List Atom) (ps : List Pattern) → cells ≡ cells' → atoms ≡ atoms' → PatternsOfAtoms cells atoms (length atoms) ps → PatternsOfAtoms cells' atoms' (length atoms') ps
named_as cells cells' atoms atoms' ps e d k = subst (λ (cs : List Cell). PatternsOfAtoms cs atoms' (length atoms') ps) e (subst (λ (bs : List Atom). PatternsOfAtoms cells bs (length bs) ps) d k)

module _ (p : Part) (w : ℕ) (ps : List Pattern) (shown : List ℕ) (part : PartFits w p) (named : PatternsOfAtoms (cells_of p.atoms) p.atoms (length p.atoms) ps) (is : shown ≡ map (cell_number (cells_of p.atoms)) (variables_among p.answer)) where
  pub shown_there : shown ⊆ variables_of_patterns ps
  shown_there n m =
      let k = from_map (cell_number (cells_of p.atoms)) (variables_among p.answer) (rw is at m) in
      let at = in_map (cell_number (cells_of p.atoms)) (safe_there p w part k.0 k.1) in
      subst (λ (l : List ℕ). n ∈ l) (sym (named_variables (cells_of p.atoms) p.atoms ps named)) (subst (λ (x : ℕ). x ∈ map (cell_number (cells_of p.atoms)) (cells_of p.atoms)) k.2 at)

  pub shown_few : length p.answer < 2 ^ 32 → length shown < 2 ^ 32
  shown_few h = omega (arith, h, variables_few p.answer, ap length is, length-map (variables_among p.answer) (cell_number (cells_of p.atoms)))

  pub variables_few_in : length (cells_of p.atoms) < 2 ^ 32 → length (variables_of_patterns ps) < 2 ^ 32
  variables_few_in h = omega (arith, h, ap length (named_variables (cells_of p.atoms) p.atoms ps named), length-map (cells_of p.atoms) (cell_number (cells_of p.atoms)))
