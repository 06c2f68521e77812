-- How many canonical cells rules can make at most.
use Rattle.std.proofs.Common.{◌≡◌, ℕ, zero, suc, ◌+◌, ◌-◌, ◌*◌, ◌^◌, ◌<◌, ◌≤◌, true, false, cond, List, [], ◌∷◌, ◌++◌, length, get_or, take, inl, inr, refl, sym, ◌∙◌, ap, subst, arith, length-append, mul_comm, pow-suc}
use native.Mathlib.Numerals.{unary_clauses}
use Rattle.std.specs.Prelude.{eqb, flat_map, map, min}
use Rattle.std.specs.List.{filter, list_all}
use Rattle.std.proofs.lemmas.Bool.{and_parts, cases_Bool, cases_lt, eqb-true, eqb-false}
use Rattle.std.proofs.lemmas.List.{append-nil, length-map}
use Rattle.std.proofs.lemmas.List.Elements.{filter_more}
use Rattle.std.proofs.lemmas.Nat.{mul-le}
use Rattle.dx_base.specs.Members.{◌∈◌, here, there, Each}
use Rattle.dx_base.proofs.Members.{from_flat_map, in_flat_map, in_map, no_longer}
use Rattle.dx_base.specs.Texts.{Text}
use Rattle.dx_model.specs.declared.values.Value.{Value}
use Rattle.dx_model.specs.declared.values.Value.TheVariants.{Const, Null}
use Rattle.dx_model.specs.declared.rules.Cell.{Cell}
use Rattle.dx_model.specs.declared.rules.Cell.TheVariants.{Var, Ex, Lit}
use Rattle.dx_model.specs.declared.rules.Atom.{Atom}
use Rattle.dx_model.specs.declared.rules.Rule.{Rule}
use Rattle.dx_model.specs.Values.{Tuple, Rows, Conversions, tuple_cmp}
use Rattle.dx_model.specs.Rules.{AreRows, IsRows, cell_value, cells_of, exported, premise_fact}
use Rattle.dx_model.specs.Following.{are_none}
use Rattle.dx_model.proofs.Ascending.{ascending_distinct}
use Rattle.dx_model.proofs.Deciding.{none_derived}
use Rattle.dx_model.proofs.Orders.{tuple_total}
use Rattle.dx_instance.specs.Cells.{NumberTable}
use Rattle.dx_instance.specs.Shown.{PartsFit, shown_tables}
use Rattle.dx_instance.specs.Stored.{TableRows, facts, rows_of}
use Rattle.dx_instance.proofs.StoredFacts.{row_from_fact}
use Rattle.dx_tgd.specs.Counting.{canonical_cells}
use Rattle.dx_tgd.proofs.Numbers.{cells_more}
use Rattle.dx_implies.specs.Bounds.{AtomsThere, HasFewTexts, MakeFewCells, MakesFewCells}
use Rattle.dx_implies.specs.Laws.{IsPlainRule}
use Rattle.dx_implies.specs.Near.{has_row, is_near}
use Rattle.dx_implies.proofs.Asked.{cell_somewhere}
use Rattle.dx_implies.proofs.Cells.{in_premise}

-- ---- the texts of a variable

text_in : Value → Text
text_in (Const t) = t
text_in (Null n) = []

-- the text of the first cell with the variable
text_at : ℕ → List Cell → List Value → Text
text_at x [] vs = []
text_at x (c ∷ cs) [] = []
text_at x (Var y ∷ cs) (v ∷ vs) = cond (eqb x y) (text_in v) (text_at x cs vs)
text_at x (Ex w ∷ cs) (v ∷ vs) = text_at x cs vs
text_at x (Lit t ∷ cs) (v ∷ vs) = text_at x cs vs

is_text_at : (f : ℕ → Text) (x : ℕ) (cs : List Cell) → Var x ∈ cs → text_at x cs (map (cell_value f (λ _. Const [])) cs) ≡ f x
unfolding text_at text_in
is_text_at f x [] m = elim m [ ]
is_text_at f x (Var y ∷ cs) m = elim (cases_Bool (eqb x y)) [
  | inl t ↦ rw t (ap f (sym (eqb-true x y t)))
  | inr n ↦ rw n (is_text_at f x cs (later m n))
]
  where
    later : Var x ∈ (Var y ∷ cs) → eqb x y ≡ false → Var x ∈ cs
    later (here e) n = let s : y ≡ x = cc in absurd (eqb-false x y n (sym s))
    later (there k) n = k
is_text_at f x (Ex w ∷ cs) (here e) = absurd (cc e)
is_text_at f x (Ex w ∷ cs) (there m) = is_text_at f x cs m
is_text_at f x (Lit t ∷ cs) (here e) = absurd (cc e)
is_text_at f x (Lit t ∷ cs) (there m) = is_text_at f x cs m

module _ (S : List Value) (ts : List NumberTable) (fit : PartsFit S ts) (atoms : List Atom) (x : ℕ) (known : Var x ∈ cells_of atoms) where
  by_symbols : HasFewTexts (shown_tables S ts) atoms x (length S)
  unfolding text_in
  by_symbols = record {
    texts = map text_in S;
    few = let e = length-map S text_in in omega (arith, e);
    among = λ f there.
        let a = from_flat_map (λ (b : Atom). b.cells) atoms known in
        in_map text_in (cell_somewhere S ts fit f (λ _. Const []) a.0 (Var x) (there a.0 a.1) a.2);
  }

by_rows : (I : List TableRows) (atoms : List Atom) (x n : ℕ) → Var x ∈ cells_of atoms → Each atoms (λ (a : Atom). length (rows_of I a.table) ≤ n) → HasFewTexts I atoms x n
by_rows I atoms x n known few =
    let a = from_flat_map (λ (b : Atom). b.cells) atoms known in
    record {
      texts = map (text_at x a.0.cells) (rows_of I a.0.table);
      few = let e = length-map (rows_of I a.0.table) (text_at x a.0.cells) in let l = few a.0 a.1 in omega (arith, e, l);
      among = λ f there.
          subst (λ (t : Text). t ∈ map (text_at x a.0.cells) (rows_of I a.0.table)) (is_text_at f x a.0.cells a.2)
          (in_map (text_at x a.0.cells) (row_from_fact I (premise_fact f a.0) (there a.0 a.1)));
    }

-- no more than there are symbols, and no more than rows
pub few_texts : (S : List Value) (ts : List NumberTable) (I : List TableRows) (atoms : List Atom) (x rows n : ℕ) → PartsFit S ts → shown_tables S ts ≡ I → Var x ∈ cells_of atoms
    → Each atoms (λ (a : Atom). length (rows_of I a.table) ≤ rows) → n ≡ min (length S) rows → HasFewTexts I atoms x n
few_texts S ts I atoms x rows n fit shows known few is = elim (cases_lt (length S) rows) [
  | inl l ↦ let n_is : n ≡ length S = omega (arith, is, l) in rw n_is (subst (λ (J : List TableRows). HasFewTexts J atoms x (length S)) shows (by_symbols S ts fit atoms x known))
  | inr l ↦ let n_is : n ≡ rows = omega (arith, is, l) in rw n_is (by_rows I atoms x rows known few)
]

-- ---- the rows of a rule

none : (n : ℕ) → 0 ≡ 0 * n
none n = omega arith

length_all : {X Y : Type 0} (f : X → List Y) (n : ℕ) (xs : List X) → ((x : X) → length (f x) ≡ n) → length (flat_map f xs) ≡ length xs * n
length_all f n [] e = none n
length_all f n (x ∷ xs) e =
    let i = length_all f n xs e in
    let h = e x in
    length-append (f x) (flat_map f xs) ∙ (ap (λ k. k + length (flat_map f xs)) h ∙ (ap (λ k. n + k) i ∙ one_more (length xs)))
  where
    one_more : (k : ℕ) → n + k * n ≡ suc k * n
    one_more k = grind arith

-- whenever the atoms are facts, the variables have one of these tuples
record AreAmong (I : List TableRows) (atoms : List Atom) (xs : List ℕ) (n : ℕ) : Type 0 where
  tuples : List Tuple
  few : length tuples ≤ n
  among : (f : ℕ → Text) → AtomsThere I atoms f → map f xs ∈ tuples

tuples_of : (I : List TableRows) (atoms : List Atom) (n : ℕ) (xs : List ℕ) → Each xs (λ x. HasFewTexts I atoms x n) → AreAmong I atoms xs (n ^ length xs)
tuples_of I atoms n [] h = record { tuples = [] ∷ []; few = simp unary_clauses (omega arith); among = λ f there. here refl }
tuples_of I atoms n (x ∷ xs) h =
    let first = h x (here refl) in
    let rest = tuples_of I atoms n xs (λ y m. h y (there m)) in
    let e = length_all (λ (t : Text). map (λ (us : Tuple). t ∷ us) rest.tuples) (length rest.tuples) first.texts (λ t. length-map rest.tuples (λ (us : Tuple). t ∷ us)) in
    let l = mul-le (length first.texts) (length rest.tuples) n (n ^ length xs) first.few rest.few in
    let p = pow-suc n (length xs) ∙ mul_comm (n ^ length xs) n in
    record {
      tuples = flat_map (λ (t : Text). map (λ (us : Tuple). t ∷ us) rest.tuples) first.texts;
      few = within (length (flat_map (λ (t : Text). map (λ (us : Tuple). t ∷ us) rest.tuples) first.texts)) (length first.texts * length rest.tuples) (n * n ^ length xs) (n ^ length (x ∷ xs)) e l p;
      among = λ f there. in_flat_map (λ (t : Text). map (λ (us : Tuple). t ∷ us) rest.tuples) (first.among f there) (in_map (λ (us : Tuple). f x ∷ us) (rest.among f there));
    }
  where
    within : (a b c d : ℕ) → a ≡ b → b ≤ c → d ≡ c → a ≤ d
    within a b c d e l p = omega (arith, e, l, p)

-- a rule whose premise's variables have few texts makes few cells
pub few_cells : (I : List TableRows) (d : Rule) (texts tuples cells n : ℕ) → IsPlainRule d → ((x : ℕ) → Var x ∈ cells_of d.premise → HasFewTexts I d.premise x texts)
    → tuples ≡ texts ^ length (exported d) → cells ≡ length (cells_of d.conclusion) → n ≡ tuples * cells → MakesFewCells I d n
few_cells I d texts tuples cells n plain h is size total convert rows are =
    let all = tuples_of I d.premise texts (exported d) (λ x m. h x (stands x (in_premise d plain x m))) in
    let l = no_longer rows all.tuples (ascending_distinct tuple_cmp tuple_total rows are.ascend)
    (λ t m. let w = (are.exact t).0 m in rw w.2 (all.among w.0 w.1.premise)) in
    let few = all.few in
    let k : length rows ≤ tuples = omega (arith, l, few, is) in
    rw total (rw size (mul-le (length rows) (length (cells_of d.conclusion)) tuples (length (cells_of d.conclusion)) k (omega arith)))
  where
    stands : (x : ℕ) → (a : Atom) × (a ∈ d.premise) × (Var x ∈ a.cells) → Var x ∈ cells_of d.premise
    stands x w = in_flat_map (λ (a : Atom). a.cells) w.1 w.2

-- ---- the cells of a conclusion

pub cells_longer : (atoms : List Atom) (i : ℕ) (a : Atom) → i < length atoms → a ≡ get_or atoms i a → length (cells_of (take (i + 1) atoms)) ≡ length (cells_of (take i atoms)) + length a.cells
cells_longer atoms i a h e = ap length (cells_more atoms i a h e) ∙ length-append (cells_of (take i atoms)) a.cells

pub cells_whole : (atoms : List Atom) (i : ℕ) → length (cells_of (take i atoms)) ≤ length (cells_of atoms)
cells_whole [] zero = omega arith
cells_whole [] (suc i) = omega arith
cells_whole (a ∷ atoms) zero = omega arith
cells_whole (a ∷ atoms) (suc i) = let h = cells_whole atoms i in omega (arith, h, length-append a.cells (cells_of (take i atoms)), length-append a.cells (cells_of atoms))

-- ---- the rows of rules

pub near_plain : (I : List TableRows) (d : Rule) → is_near I d ≡ true → d.derived ≡ []
near_plain I d e = none_derived d.derived (and_parts (are_none d.derived) (list_all (λ (a : Atom). has_row (rows_of I a.table)) d.premise) e).0

record Splits (convert : Conversions) (I : List TableRows) (N : List Rule) (d : Rule) (rows : Rows) : Type 0 where
  front : Rows
  last : List Tuple
  are : AreRows convert N (facts I) front
  is : IsRows convert d (facts I) last
  sum : canonical_cells (N ++ d ∷ []) rows ≡ canonical_cells N front + length last * length (cells_of d.conclusion)

split : (convert : Conversions) (I : List TableRows) (N : List Rule) (d : Rule) (rows : Rows) → AreRows convert (N ++ d ∷ []) (facts I) rows → Splits convert I N d rows
split convert I [] d [] a = absurd a
split convert I [] d (ts ∷ []) a = record { front = []; last = ts; are = tt; is = a.0; sum = plus_none (length ts * length (cells_of d.conclusion)) }
  where
    plus_none : (n : ℕ) → n + 0 ≡ 0 + n
    plus_none n = omega arith
split convert I [] d (ts ∷ (us ∷ rows)) a = absurd a.1
split convert I (r ∷ N) d [] a = absurd a
split convert I (r ∷ N) d (ts ∷ rows) a =
    let w = split convert I N d rows a.1 in
    record {
      front = ts ∷ w.front;
      last = w.last;
      are = (a.0, w.are);
      is = w.is;
      sum = apart (length ts * length (cells_of r.conclusion)) (canonical_cells (N ++ d ∷ []) rows) (canonical_cells N w.front) (length w.last * length (cells_of d.conclusion)) w.sum;
    }
  where
    apart : (n a b c : ℕ) → a ≡ b + c → n + a ≡ (n + b) + c
    apart n a b c e = omega (arith, e)

-- the near ones of the rules leave so many cells of the limit
pub record Leaves (I : List TableRows) (R : List Rule) (limit left : ℕ) : Type 0 where
  pub within : left ≤ limit
  pub makes : (convert : Conversions) (rows : Rows) → AreRows convert (filter (is_near I) R) (facts I) rows → canonical_cells (filter (is_near I) R) rows + left ≤ limit

pub leaves_all : (I : List TableRows) (limit : ℕ) → Leaves I [] limit limit
leaves_all I limit = record { within = omega arith; makes = λ convert rows are. omega arith }

module _ (I : List TableRows) (R : List Rule) (i : ℕ) (d : Rule) (limit left : ℕ) (inside : i < length R) (is : d ≡ get_or R i d) (leaves : Leaves I (take i R) limit left) where
  pub leaves_more : (cells after : ℕ) → is_near I d ≡ true → MakesFewCells I d cells → cells ≤ left → after ≡ left - cells → Leaves I (take (i + 1) R) limit after
  leaves_more cells after near few within gone =
      let more : filter (is_near I) (take (i + 1) R) ≡ filter (is_near I) (take i R) ++ d ∷ [] =
      filter_more (is_near I) R i d inside ∙ ap (λ xs. filter (is_near I) (take i R) ++ xs) (passes d (get_or R i d) is near) in
      let l = leaves.within in
      record {
        within = omega (arith, l, gone);
        makes = rw more (λ convert rows are.
            let w = split convert I (filter (is_near I) (take i R)) d rows are in
            let a = leaves.makes convert w.front w.are in
            let b = few convert w.last w.is in
            let s = w.sum in
            sums (canonical_cells (filter (is_near I) (take i R) ++ d ∷ []) rows) (canonical_cells (filter (is_near I) (take i R)) w.front) (length w.last * length (cells_of d.conclusion)) s a b);
      }
    where
      passes : (e f : Rule) → e ≡ f → is_near I e ≡ true → cond (is_near I f) (f ∷ []) [] ≡ e ∷ []
      passes e f s n = rw (← s) (rw n refl)

      sums : (n a b : ℕ) → n ≡ a + b → a + left ≤ limit → b ≤ cells → n + after ≤ limit
      sums n a b e h k = omega (arith, e, h, k, within, gone)

  pub leaves_same : is_near I d ≡ false → Leaves I (take (i + 1) R) limit left
  leaves_same near =
      let more : filter (is_near I) (take (i + 1) R) ≡ filter (is_near I) (take i R) =
      filter_more (is_near I) R i d inside ∙ (ap (λ xs. filter (is_near I) (take i R) ++ xs) (fails d (get_or R i d) is near) ∙ append-nil (filter (is_near I) (take i R))) in
      record { within = leaves.within; makes = rw more leaves.makes }
    where
      fails : (e f : Rule) → e ≡ f → is_near I e ≡ false → cond (is_near I f) (f ∷ []) [] ≡ []
      fails e f s n = rw (← s) (rw n refl)

pub leaves_few : (I : List TableRows) (R : List Rule) (limit left : ℕ) → Leaves I R limit left → MakeFewCells I R limit
leaves_few I R limit left h convert rows are = let l = h.makes convert rows are in omega (arith, l)
