-- Counted mentions, and marks.
use Rattle.std.proofs.Common.{◌≡◌, ℕ, zero, suc, ◌+◌, ◌-◌, ◌^◌, ◌<◌, ◌≤◌, ◌⊎◌, Bool, true, false, List, [], ◌∷◌, ◌++◌, inl, inr, refl, sym, ◌∙◌, ap, subst, arith, length, min, take, get_or, append_assoc, append-nil}
use Rattle.std.specs.Prelude.{map, flat_map, slice_set, replicate}
use Rattle.std.proofs.lemmas.Bool.{cases_Bool, cases_eq, cases_order, eq-eqb, ne_eqb}
use Rattle.std.proofs.lemmas.List.{take_more, get_or-set_same, get_or-set_other, length-append, length-set, map-append, take_all}
use Rattle.std.proofs.lemmas.List.Concat.{flat_map-append}
use Rattle.dx_base.specs.Members.{◌∈◌, Each}
use Rattle.dx_base.proofs.Loops.{each_more}
use Rattle.dx_base.proofs.Members.{in_flat_map, item_in}
use Rattle.dx_model.specs.declared.rules.Cell.{Cell}
use Rattle.dx_model.specs.declared.rules.Cell.TheVariants.{Var, Ex, Lit}
use Rattle.dx_model.specs.declared.rules.Atom.{Atom}
use Rattle.dx_model.specs.declared.rules.Derived.{Derived}
use Rattle.dx_model.specs.declared.rules.Rule.{Rule}
use Rattle.dx_model.specs.Rules.{cells_of}
use Rattle.dx_model.specs.Fitting.{IsRule, premise_variables, cell_variable}
use Rattle.dx_model.proofs.Frozen.{few_in_cells, few_numbered}
use Rattle.dx_model.proofs.RowsExist.{below_after}
use Rattle.dx_used.specs.Used.{times, mentions, IsIdle, CellsIdle, AsksOfValue, IsUsedBy, IsUsed, HaveWidths, UsesOnly, Marks, marks_at}
use Rattle.dx_used.specs.Counting.{up_to_two, CountsCells, CellHasPlace, KeepMarks, UsesOnlyOf, NewOnlyWhere, MarksUsed}
use Rattle.dx_used.proofs.UsedLaws.{times-append}

-- ---- counts

next_count : (n : ℕ) → up_to_two n < 2 → up_to_two (suc n) ≡ up_to_two n + 1
next_count zero h = refl
next_count (suc zero) h = refl
next_count (suc (suc n)) h = absurd (omega (arith, h))

full_count : (n : ℕ) → 2 ≤ up_to_two n → up_to_two (suc n) ≡ up_to_two n
full_count zero h = absurd (omega (arith, h))
full_count (suc zero) h = absurd (omega (arith, h))
full_count (suc (suc n)) h = refl

one_more : (cells : List Cell) (v : ℕ) → times v (cells ++ Var v ∷ []) ≡ suc (times v cells)
one_more cells v =
    let a = times-append v cells (Var v ∷ []) in
    let b : times v (Var v ∷ []) ≡ 1 = rw (eq-eqb v v refl) refl in
    omega (arith, a, b)

no_more : (cells : List Cell) (v x : ℕ) → ¬ (x ≡ v) → times x (cells ++ Var v ∷ []) ≡ times x cells
no_more cells v x n =
    let a = times-append x cells (Var v ∷ []) in
    let b : times x (Var v ∷ []) ≡ 0 = rw (ne_eqb x v n) refl in
    omega (arith, a, b)

pub counted_set : (cells : List Cell) (counts : List ℕ) (v : ℕ) → CountsCells cells counts → v < length counts → get_or counts v 0 < 2
    → CountsCells (cells ++ Var v ∷ []) (slice_set counts v (get_or counts v 0 + 1))
counted_set cells counts v h k l x b = elim (cases_eq x v) [
  | inl e ↦ subst (λ y. get_or (slice_set counts v (get_or counts v 0 + 1)) y 0 ≡ up_to_two (times y (cells ++ Var v ∷ []))) (sym e) at_v
  | inr n ↦ get_or-set_other counts v x (get_or counts v 0 + 1) 0 n ∙ (h x (subst (λ m. x < m) (length-set counts v (get_or counts v 0 + 1)) b) ∙ ap up_to_two (sym (no_more cells v x n)))
]
  where
    at_v : get_or (slice_set counts v (get_or counts v 0 + 1)) v 0 ≡ up_to_two (times v (cells ++ Var v ∷ []))
    at_v =
        let c = h v k in
        get_or-set_same counts v (get_or counts v 0 + 1) 0 k
        ∙ (ap (λ n. n + 1) c ∙ (sym (next_count (times v cells) (subst (λ n. n < 2) c l)) ∙ ap up_to_two (sym (one_more cells v))))

pub counted_full : (cells : List Cell) (counts : List ℕ) (v : ℕ) → CountsCells cells counts → 2 ≤ get_or counts v 0 → CountsCells (cells ++ Var v ∷ []) counts
counted_full cells counts v h l x b = elim (cases_eq x v) [
  | inl e ↦ subst (λ y. get_or counts y 0 ≡ up_to_two (times y (cells ++ Var v ∷ []))) (sym e) (at_v (subst (λ y. y < length counts) e b))
  | inr n ↦ h x b ∙ ap up_to_two (sym (no_more cells v x n))
]
  where
    at_v : v < length counts → get_or counts v 0 ≡ up_to_two (times v (cells ++ Var v ∷ []))
    at_v k =
        let c = h v k in
        c ∙ (sym (full_count (times v cells) (subst (λ n. 2 ≤ n) c l)) ∙ ap up_to_two (sym (one_more cells v)))

pub counted_out : (cells : List Cell) (counts : List ℕ) (v : ℕ) → CountsCells cells counts → length counts ≤ v → CountsCells (cells ++ Var v ∷ []) counts
counted_out cells counts v h l x b = h x b ∙ ap up_to_two (sym (no_more cells v x (λ e. let k : v < length counts = subst (λ y. y < length counts) e b in omega (arith, k, l))))

counted_plain : (cells : List Cell) (c : Cell) (counts : List ℕ) → ((x : ℕ) → times x (c ∷ []) ≡ 0) → CountsCells cells counts → CountsCells (cells ++ c ∷ []) counts
counted_plain cells c counts z h x b =
    let a = times-append x cells (c ∷ []) in
    let n = z x in
    let s : times x (cells ++ c ∷ []) ≡ times x cells = omega (arith, a, n) in
    h x b ∙ ap up_to_two (sym s)

pub counted_other : (cells : List Cell) (c : Cell) (counts : List ℕ) → ((x : ℕ) → ¬ (c ≡ Var x)) → CountsCells cells counts → CountsCells (cells ++ c ∷ []) counts
counted_other cells (Var y) counts n h = absurd (n y refl)
counted_other cells (Ex v) counts n h = counted_plain cells (Ex v) counts (λ x. refl) h
counted_other cells (Lit t) counts n h = counted_plain cells (Lit t) counts (λ x. refl) h

-- one item more of a list whose items give cells
pub counted_more : {X : Type 0} (f : X → List Cell) (before : List Cell) (xs : List X) (i : ℕ) (d : X) (new : List ℕ) → i < length xs
    → CountsCells ((before ++ flat_map f (take i xs)) ++ f (get_or xs i d)) new → CountsCells (before ++ flat_map f (take (i + 1) xs)) new
counted_more {X} f before xs i d new h c =
    let t = take_more xs i d h in
    let e : (before ++ flat_map f (take i xs)) ++ f (get_or xs i d) ≡ before ++ flat_map f (take (i + 1) xs) =
    append_assoc before (flat_map f (take i xs)) (f (get_or xs i d)) ∙ ap (λ ys. before ++ ys) (sym (flat_last f (take i xs) (get_or xs i d)) ∙ ap (flat_map f) (sym t)) in
    subst (λ cs. CountsCells cs new) e c
  where
    flat_last : (f : X → List Cell) (ys : List X) (y : X) → flat_map f (ys ++ y ∷ []) ≡ flat_map f ys ++ f y
    flat_last f [] y = end (f y)
      where
        end : (cs : List Cell) → cs ++ [] ≡ cs
        end [] = refl
        end (c ∷ cs) = ap (λ ds. c ∷ ds) (end cs)
    flat_last f (z ∷ ys) y = ap (λ cs. f z ++ cs) (flat_last f ys y) ∙ sym (append_assoc (f z) (flat_map f ys) (f y))

-- the same, with the item that a loop gives
pub counted_item : {X : Type 0} (f : X → List Cell) (before : List Cell) (xs : List X) (i : ℕ) (y : X) (new : List ℕ) → i < length xs → y ≡ get_or xs i y
    → CountsCells ((before ++ flat_map f (take i xs)) ++ f y) new → CountsCells (before ++ flat_map f (take (i + 1) xs)) new
counted_item f before xs i y new h e c = counted_more f before xs i y new h (subst (λ z. CountsCells ((before ++ flat_map f (take i xs)) ++ f z) new) e c)

-- the items of a list of cells
pub counted_cell : (before cells : List Cell) (i : ℕ) (y : Cell) (new : List ℕ) → i < length cells → y ≡ get_or cells i y → CountsCells ((before ++ take i cells) ++ y ∷ []) new → CountsCells (before ++ take (i + 1) cells) new
counted_cell before cells i y new h e c =
    subst (λ cs. CountsCells cs new) (append_assoc before (take i cells) (y ∷ []) ∙ ap (λ ys. before ++ ys) (ap (λ z. take i cells ++ z ∷ []) e ∙ sym (take_more cells i y h))) c

pub counted_variable : (before : List Cell) (xs : List ℕ) (i : ℕ) (new : List ℕ) → i < length xs → CountsCells ((before ++ map Var (take i xs)) ++ Var (get_or xs i 0) ∷ []) new → CountsCells (before ++ map Var (take (i + 1) xs)) new
counted_variable before xs i new h c =
    subst (λ cs. CountsCells cs new) (append_assoc before (map Var (take i xs)) (Var (get_or xs i 0) ∷ []) ∙ ap (λ ys. before ++ ys) (sym (map-append Var (take i xs) (get_or xs i 0 ∷ [])) ∙ ap (map Var) (sym (take_more xs i 0 h)))) c

-- nothing yet, and all
pub counted_none : (before : List Cell) (counts : List ℕ) → CountsCells before counts → CountsCells (before ++ []) counts
counted_none before counts c = subst (λ cs. CountsCells cs counts) (sym (append-nil before)) c

pub counted_all : {X : Type 0} (f : List X → List Cell) (before : List Cell) (xs : List X) (i : ℕ) (counts : List ℕ) → length xs ≤ i → CountsCells (before ++ f (take i xs)) counts → CountsCells (before ++ f xs) counts
counted_all f before xs i counts h c = subst (λ ys. CountsCells (before ++ f ys) counts) (take_all i xs h) c

pub counted_rule : (d : Rule) (premise conclusion : List Atom) (derived : List Derived) (counts : List ℕ) → premise ≡ d.premise → conclusion ≡ d.conclusion → derived ≡ d.derived
    → CountsCells ((([] ++ cells_of premise) ++ cells_of conclusion) ++ flat_map (λ (e : Derived). map Var e.args) derived) counts → CountsCells (mentions d) counts
counted_rule d premise conclusion derived counts p q r c =
    let e = append_assoc (cells_of premise) (cells_of conclusion) (flat_map (λ (e : Derived). map Var e.args) derived) in
    let k : CountsCells (cells_of premise ++ (cells_of conclusion ++ flat_map (λ (e : Derived). map Var e.args) derived)) counts = subst (λ cs. CountsCells cs counts) e c in
    rw (sym p, sym q, sym r) k

pub zero_counts : (n : ℕ) (counts : List ℕ) → (◌≡◌ {A = List ℕ} counts (replicate n 0)) → CountsCells [] counts
zero_counts n counts e x h = ap (λ xs. get_or xs x 0) e ∙ zeros n x
  where
    zeros : (n x : ℕ) → ◌≡◌ {A = ℕ} (get_or (replicate n 0) x 0) 0
    zeros zero x = refl
    zeros (suc n) zero = refl
    zeros (suc n) (suc x) = zeros n x

-- ---- how many cells there are

pub cells_more : (atoms : List Atom) (i : ℕ) (a : Atom) (count many new : ℕ) → i < length atoms → a ≡ get_or atoms i a → many ≡ length a.cells
    → count ≡ min (length (cells_of (take i atoms))) (2 ^ 64 - 1) → new ≡ min (count + many) (2 ^ 64 - 1) → new ≡ min (length (cells_of (take (i + 1) atoms))) (2 ^ 64 - 1)
cells_more atoms i a count many new h e l c n =
    let t : take (i + 1) atoms ≡ take i atoms ++ a ∷ [] = take_more atoms i a h ∙ ap (λ b. take i atoms ++ b ∷ []) (sym e) in
    let k : cells_of (take (i + 1) atoms) ≡ cells_of (take i atoms) ++ cells_of (a ∷ []) = ap cells_of t ∙ flat_map-append (λ (b : Atom). b.cells) (take i atoms) (a ∷ []) in
    let s : length (cells_of (take (i + 1) atoms)) ≡ length (cells_of (take i atoms)) + length (cells_of (a ∷ [])) = ap length k ∙ length-append (cells_of (take i atoms)) (cells_of (a ∷ [])) in
    let o : length (cells_of (a ∷ [])) ≡ length a.cells = ap length (append-nil a.cells) in
    omega (arith, l, c, n, s, o)

pub all_cells : (atoms : List Atom) (i count : ℕ) → length atoms ≤ i → count ≡ min (length (cells_of (take i atoms))) (2 ^ 64 - 1) → count ≡ min (length (cells_of atoms)) (2 ^ 64 - 1)
all_cells atoms i count h c = c ∙ ap (λ bs. min (length (cells_of bs)) (2 ^ 64 - 1)) (take_all i atoms h)

-- the variables of a rule have places, since they are numbered by first appearance
pub have_places : (d : Rule) (a : Atom) (places : ℕ) → IsRule d → a ∈ d.premise → places ≡ min (length (cells_of d.premise)) (2 ^ 64 - 1) → Each a.cells (CellHasPlace places)
have_places d a places r m e c k x p =
    let b : x < premise_variables d = below_after x (cells_of d.premise) (subst (λ (z : Cell). z ∈ cells_of d.premise) p (in_flat_map (λ (z : Atom). z.cells) m k)) in
    let f = few_numbered 0 (premise_variables d) (flat_map cell_variable (cells_of d.premise)) r.numbered in
    let g = few_in_cells (cells_of d.premise) in
    let w = r.few_variables in
    omega (arith, b, f, g, e, w)

-- ---- cells that ask something

-- what is no variable asks something
pub asks_other : (d : Rule) (c : Cell) → ((x : ℕ) → ¬ (c ≡ Var x)) → ¬ IsIdle d c
asks_other d c n i = n i.0 i.1

pub asks_in : (d : Rule) (cells : List Cell) (i : ℕ) (c : Cell) → i < length cells → c ≡ get_or cells i c → ¬ IsIdle d c → AsksOfValue d cells i
asks_in d [] i c h e n = absurd (omega (arith, h))
asks_in d (x ∷ cells) zero c h e n = subst (λ (b : Cell). ¬ IsIdle d b) e n
asks_in d (x ∷ cells) (suc i) c h e n = asks_in d cells i c (omega (arith, h)) e n

-- what asks something stands in no column without a mark
asks_not : (d : Rule) (marks : List Bool) (cells : List Cell) (i : ℕ) → i < length marks → get_or marks i false ≡ false → CellsIdle d marks cells → ¬ AsksOfValue d cells i
asks_not d [] cells i l e a w = absurd (omega (arith, l))
asks_not d (u ∷ marks) [] i l e a w = w
asks_not d (true ∷ marks) (c ∷ cells) zero l e a w = absurd (cc e)
asks_not d (false ∷ marks) (c ∷ cells) zero l e a w = w a.0
asks_not d (true ∷ marks) (c ∷ cells) (suc i) l e a w = asks_not d marks cells i (omega (arith, l)) e a w
asks_not d (false ∷ marks) (c ∷ cells) (suc i) l e a w = asks_not d marks cells i (omega (arith, l)) e a.1 w

-- ---- marks

pub true_false : {P : Type 0} → true ≡ false → P
true_false e = absurd (cc e)

below_but : (i n : ℕ) → i < n + 1 → ¬ (i ≡ n) → i < n
below_but i n b o = elim (cases_order i n) [ inl e ↦ absurd (o e) | inr c ↦ elim c [ inl l ↦ l | inr g ↦ absurd (omega (arith, g, b)) ] ]

idle_by_places : (d : Rule) (marks : List Bool) (cells : List Cell) → ((i : ℕ) → i < length cells → get_or marks i true ≡ false → IsIdle d (get_or cells i (Lit []))) → CellsIdle d marks cells
idle_by_places d [] cells h = tt
idle_by_places d (u ∷ marks) [] h = tt
idle_by_places d (true ∷ marks) (c ∷ cells) h = idle_by_places d marks cells (λ i b e. h (suc i) (omega (arith, b)) e)
idle_by_places d (false ∷ marks) (c ∷ cells) h = (h 0 (omega arith) refl, idle_by_places d marks cells (λ i b e. h (suc i) (omega (arith, b)) e))

pub all_idle : (d : Rule) (marks : List Bool) (cells : List Cell) (n : ℕ) → length cells ≤ n → ((i : ℕ) → i < n → get_or marks i true ≡ false → IsIdle d (get_or cells i (Lit [])))
    → CellsIdle d marks cells
all_idle d marks cells n l h = idle_by_places d marks cells (λ i b e. h i (omega (arith, l, b)) e)

-- the cell that a loop gives
pub idle_item : (d : Rule) (cells : List Cell) (i : ℕ) (c : Cell) → i < length cells → c ≡ get_or cells i c → IsIdle d c → IsIdle d (get_or cells i (Lit []))
idle_item d cells i c h e k = subst (IsIdle d) (e ∙ same_default cells i c (Lit []) h) k
  where
    same_default : (cs : List Cell) (i : ℕ) (a b : Cell) → i < length cs → get_or cs i a ≡ get_or cs i b
    same_default [] i a b h = absurd (omega (arith, h))
    same_default (x ∷ cs) zero a b h = refl
    same_default (x ∷ cs) (suc i) a b h = same_default cs i a b (omega (arith, h))

-- a column is marked
pub mark_one : (d : Rule) (cells : List Cell) (marks : List Bool) (n : ℕ) → n < length marks → ((i : ℕ) → i < n → get_or marks i true ≡ false → IsIdle d (get_or cells i (Lit [])))
    → (i : ℕ) → i < n + 1 → get_or (slice_set marks n true) i true ≡ false → IsIdle d (get_or cells i (Lit []))
mark_one d cells marks n l h i b e = elim (cases_eq i n) [
  | inl k ↦ true_false (sym (get_or-set_same marks n true true l) ∙ subst (λ j. get_or (slice_set marks n true) j true ≡ false) k e)
  | inr o ↦ h i (below_but i n b o) (sym (get_or-set_other marks n i true true o) ∙ e)
]

-- a column is left as it is
pub mark_none : (d : Rule) (cells : List Cell) (marks : List Bool) (n : ℕ) → (get_or marks n true ≡ false → IsIdle d (get_or cells n (Lit [])))
    → ((i : ℕ) → i < n → get_or marks i true ≡ false → IsIdle d (get_or cells i (Lit []))) → (i : ℕ) → i < n + 1 → get_or marks i true ≡ false → IsIdle d (get_or cells i (Lit []))
mark_none d cells marks n at_n h i b e = elim (cases_eq i n) [
  | inl k ↦ subst (λ j. IsIdle d (get_or cells j (Lit []))) (sym k) (at_n (subst (λ j. get_or marks j true ≡ false) k e))
  | inr o ↦ h i (below_but i n b o) e
]

-- a column without a mark is used
pub not_there : (d : Rule) (c : Cell) (marks : List Bool) (n : ℕ) → length marks ≤ n → get_or marks n true ≡ false → IsIdle d c
not_there d c [] n l e = true_false e
not_there d c (u ∷ marks) zero l e = absurd (omega (arith, l))
not_there d c (u ∷ marks) (suc n) l e = not_there d c marks n (omega (arith, l)) e

pub keep_trans : (a b c : List Bool) → KeepMarks a b → KeepMarks b c → KeepMarks a c
keep_trans a b c k l i e = k i (l i e)

pub keep_set : (marks : List Bool) (n : ℕ) → n < length marks → KeepMarks marks (slice_set marks n true)
keep_set marks n h i e = elim (cases_eq i n) [
  | inl k ↦ true_false (sym (get_or-set_same marks n true true h) ∙ subst (λ j. get_or (slice_set marks n true) j true ≡ false) k e)
  | inr o ↦ sym (get_or-set_other marks n i true true o) ∙ e
]

idle_kept : (d : Rule) (old new : List Bool) (cells : List Cell) → KeepMarks old new → CellsIdle d old cells → CellsIdle d new cells
idle_kept d old [] cells k a = tt
idle_kept d old (v ∷ new) [] k a = tt
idle_kept d [] (true ∷ new) (c ∷ cells) k a = idle_kept d [] new cells (λ i e. k (suc i) e) tt
idle_kept d [] (false ∷ new) (c ∷ cells) k a = true_false (k 0 refl)
idle_kept d (true ∷ old) (false ∷ new) (c ∷ cells) k a = true_false (k 0 refl)
idle_kept d (true ∷ old) (true ∷ new) (c ∷ cells) k a = idle_kept d old new cells (λ i e. k (suc i) e) a
idle_kept d (false ∷ old) (true ∷ new) (c ∷ cells) k a = idle_kept d old new cells (λ i e. k (suc i) e) a.1
idle_kept d (false ∷ old) (false ∷ new) (c ∷ cells) k a = (a.0, idle_kept d old new cells (λ i e. k (suc i) e) a.1)

pub only_kept : (table : ℕ) (old new : List Bool) (d : Rule) → KeepMarks old new → UsesOnlyOf table old d → UsesOnlyOf table new d
only_kept table old new d k u a m e = idle_kept d old new a.cells k (u a m e)

atoms_kept : (table : ℕ) (old new : List Bool) (d : Rule) (atoms : List Atom) → KeepMarks old new → Each atoms (λ a. a.table ≡ table → CellsIdle d old a.cells)
    → Each atoms (λ a. a.table ≡ table → CellsIdle d new a.cells)
atoms_kept table old new d atoms k u a m e = idle_kept d old new a.cells k (u a m e)

-- a rule more, or an atom more, as a loop gives it
pub rule_more : (table : ℕ) (rules : List Rule) (old new : List Bool) (i : ℕ) (d : Rule) → i < length rules → d ≡ get_or rules i d → Each (take i rules) (UsesOnlyOf table old) → KeepMarks old new
    → UsesOnlyOf table new d → Each (take (i + 1) rules) (UsesOnlyOf table new)
rule_more table rules old new i d h e all k u =
    each_more (UsesOnlyOf table new) rules i d h e (λ r m. only_kept table old new r k (all r m)) u

pub atom_more : (table : ℕ) (d : Rule) (atoms : List Atom) (old new : List Bool) (i : ℕ) (a : Atom) → atoms ≡ d.premise → i < length atoms → a ≡ get_or atoms i a
    → Each (take i d.premise) (λ b. b.table ≡ table → CellsIdle d old b.cells) → KeepMarks old new → (a.table ≡ table → CellsIdle d new a.cells)
    → Each (take (i + 1) d.premise) (λ b. b.table ≡ table → CellsIdle d new b.cells)
atom_more table d atoms old new i a s h e all k u =
    each_more (λ b. b.table ≡ table → CellsIdle d new b.cells) d.premise i a (subst (λ bs. i < length bs) s h) (subst (λ bs. a ≡ get_or bs i a) s e)
    (atoms_kept table old new d (take i d.premise) k all) u

-- what is lent is what it is lent of
pub idle_lent : (d : Rule) (marks : List Bool) (counts lent : List ℕ) (cells given : List Cell) → lent ≡ counts → given ≡ cells → CountsCells (mentions d) counts
    → ((e : Rule) → CountsCells (mentions e) lent → CellsIdle e marks given) → CellsIdle d marks cells
idle_lent d marks counts lent cells given l g c h = subst (λ cs. CellsIdle d marks cs) g (h d (subst (λ ns. CountsCells (mentions d) ns) (sym l) c))

pub no_change : (marks : List Bool) → KeepMarks marks marks
no_change marks i e = e

-- what holds of the marks of each table so far and of those of one table more
pub tables_more : (P : ℕ → List Bool → Type 0) (used : List (List Bool)) (table n : ℕ) (marks : List Bool) (new : List (List Bool)) → length used ≡ table → new ≡ used ++ marks ∷ []
    → ((t : ℕ) → t < table → P t (marks_at used t)) → P table marks → n ≡ table + 1
    → (t : ℕ) → t < n → P t (marks_at new t)
tables_more P used table n marks new s e all last k t h = elim (cases_eq t table) [
  | inl i ↦ subst (λ ms. P t ms) (sym (ap (λ us. marks_at us t) e ∙ at_end used t (s ∙ sym i))) (subst (λ u. P u marks) (sym i) last)
  | inr o ↦ let b : t < table = below o in subst (λ ms. P t ms) (sym (ap (λ us. marks_at us t) e ∙ before_end used t (subst (λ m. t < m) (sym s) b))) (all t b)
]
  where
    below : ¬ (t ≡ table) → t < table
    below o = elim (cases_order t table) [ inl i ↦ absurd (o i) | inr c ↦ elim c [ inl l ↦ l | inr g ↦ absurd (omega (arith, g, h, k)) ] ]

    at_end : (us : List (List Bool)) (t : ℕ) → length us ≡ t → marks_at (us ++ marks ∷ []) t ≡ marks
    at_end [] zero e = refl
    at_end [] (suc t) e = absurd (omega (arith, e))
    at_end (u ∷ us) zero e = absurd (omega (arith, e))
    at_end (u ∷ us) (suc t) e = at_end us t (omega (arith, e))

    before_end : (us : List (List Bool)) (t : ℕ) → t < length us → marks_at (us ++ marks ∷ []) t ≡ marks_at us t
    before_end [] t h = absurd (omega (arith, h))
    before_end (u ∷ us) zero h = refl
    before_end (u ∷ us) (suc t) h = before_end us t (omega (arith, h))

-- a table without marks
pub none_there : (us : List (List Bool)) (t : ℕ) → length us ≤ t → marks_at us t ≡ []
none_there [] t h = refl
none_there (u ∷ us) zero h = absurd (omega (arith, h))
none_there (u ∷ us) (suc t) h = none_there us t (omega (arith, h))

pub order : (x y : ℕ) → (x < y) ⊎ (y ≤ x)
order x y = elim (cases_order x y) [ inl e ↦ inr (omega (arith, e)) | inr o ↦ elim o [ inl l ↦ inl l | inr g ↦ inr (omega (arith, g)) ] ]

-- all tables that have marks, and those that have none
pub all_tables : (rules : List Rule) (used : List (List Bool)) → ((t : ℕ) → t < length used → Each rules (UsesOnlyOf t (marks_at used t))) → Each rules (UsesOnly used)
all_tables rules used all d m a k = elim (order a.table (length used)) [
  | inl b ↦ all a.table b d m a k refl
  | inr o ↦ subst (λ ms. CellsIdle d ms a.cells) (sym (none_there used a.table o)) tt
]

-- ---- marks that are new

pub new_none : (P : ℕ → Type 0) (marks : List Bool) → NewOnlyWhere P marks marks
new_none P marks i e = inl e

pub new_one : (P : ℕ → Type 0) (old marks : List Bool) (n : ℕ) → P n → NewOnlyWhere P old marks → NewOnlyWhere P old (slice_set marks n true)
new_one P old marks n p h i e = elim (cases_eq i n) [
  | inl k ↦ inr (subst P (sym k) p)
  | inr o ↦ h i (sym (get_or-set_other marks n i true false o) ∙ e)
]

pub new_trans : (P : ℕ → Type 0) (a b c : List Bool) → NewOnlyWhere P a b → NewOnlyWhere P b c → NewOnlyWhere P a c
new_trans P a b c k l i e = elim (l i e) [ inl m ↦ k i m | inr p ↦ inr p ]

-- those of an atom's cells are those of its rule
pub new_by_atom : (d : Rule) (table : ℕ) (atoms : List Atom) (i : ℕ) (a : Atom) (counts lent : List ℕ) (given : List Cell) (old new : List Bool)
    → atoms ≡ d.premise → i < length atoms → a ≡ get_or atoms i a → a.table ≡ table → lent ≡ counts → given ≡ a.cells
    → CountsCells (mentions d) counts → length counts ≡ min (length (cells_of d.premise)) (2 ^ 64 - 1) → IsRule d
    → ((e : Rule) → CountsCells (mentions e) lent → Each given (CellHasPlace (length lent)) → NewOnlyWhere (AsksOfValue e given) old new) → NewOnlyWhere (IsUsedBy d table) old new
new_by_atom d table atoms i a counts lent given old new s h e t l g k n r f j b =
    let m : a ∈ d.premise = subst (λ bs. a ∈ bs) s (item_in atoms i a h e) in
    let p : Each a.cells (CellHasPlace (length lent)) = have_places d a (length lent) r m (ap length l ∙ n) in
    let q : NewOnlyWhere (AsksOfValue d given) old new = f d (subst (λ ns. CountsCells (mentions d) ns) (sym l) k) (subst (λ cs. Each cs (CellHasPlace (length lent))) (sym g) p) in
    elim (q j b) [ inl o ↦ inl o | inr w ↦ inr (a, m, t, subst (λ cs. AsksOfValue d cs j) g w) ]

pub none_marked : (rules : List Rule) (table n : ℕ) (marks : List Bool) → (◌≡◌ {A = List Bool} marks (replicate n false)) → MarksUsed rules table marks
none_marked rules table n marks e i k = true_false (sym k ∙ (ap (λ ms. get_or ms i false) e ∙ all_false n i))
  where
    all_false : (n i : ℕ) → ◌≡◌ {A = Bool} (get_or (replicate n false) i false) false
    all_false zero i = refl
    all_false (suc n) zero = refl
    all_false (suc n) (suc i) = all_false n i

-- a rule more, as a loop gives it
pub used_more : (rules : List Rule) (table i : ℕ) (d : Rule) (old new : List Bool) → i < length rules → d ≡ get_or rules i d → Each rules IsRule
    → MarksUsed rules table old → (IsRule d → NewOnlyWhere (IsUsedBy d table) old new) → MarksUsed rules table new
used_more rules table i d old new h e r all n j k =
    let m : d ∈ rules = item_in rules i d h e in
    elim (n (r d m) j k) [ inl o ↦ all j o | inr w ↦ inr_used m w ]
  where
    inr_used : d ∈ rules → IsUsedBy d table j → IsUsed rules table j
    inr_used m w = (d, m, w)

-- ---- marks of one table more

marks_or : (us : Marks) (marks : List Bool) (t : ℕ) → (marks_at (us ++ marks ∷ []) t ≡ marks_at us t) ⊎ ((t ≡ length us) × (marks_at (us ++ marks ∷ []) t ≡ marks))
marks_or [] marks zero = inr (refl, refl)
marks_or [] marks (suc t) = inl refl
marks_or (u ∷ us) marks zero = inl refl
marks_or (u ∷ us) marks (suc t) = elim (marks_or us marks t) [ inl e ↦ inl e | inr e ↦ inr (ap suc e.0, e.1) ]

pub tables_read : (P : ℕ → List Bool → Type 0) (used : Marks) (table : ℕ) (marks : List Bool) (new : Marks) → length used ≡ table → new ≡ used ++ marks ∷ []
    → ((t : ℕ) → P t (marks_at used t)) → P table marks → (t : ℕ) → P t (marks_at new t)
tables_read P used table marks new s e all last t = elim (marks_or used marks t) [
  | inl k ↦ subst (P t) (sym (ap (λ us. marks_at us t) e ∙ k)) (all t)
  | inr k ↦ subst (P t) (sym (ap (λ us. marks_at us t) e ∙ k.1)) (subst (λ u. P u marks) (sym (k.0 ∙ s)) last)
]

pub width_more : (widths : List ℕ) (used : Marks) (i : ℕ) (marks : List Bool) (new : Marks) → i < length widths → new ≡ used ++ marks ∷ [] → length marks ≡ get_or widths i 0
    → HaveWidths (take i widths) used → HaveWidths (take (i + 1) widths) new
width_more widths used i marks new h e l w =
    ap (map (λ (ms : List Bool). length ms)) e ∙ (map-append (λ (ms : List Bool). length ms) used (marks ∷ [])
    ∙ (ap (λ ns. ns ++ length marks ∷ []) w ∙ (ap (λ n. take i widths ++ n ∷ []) l ∙ sym (take_more widths i 0 h))))

pub all_widths : (widths : List ℕ) (i : ℕ) (used : Marks) → length widths ≤ i → HaveWidths (take i widths) used → HaveWidths widths used
all_widths widths i used h w = w ∙ take_all i widths h

-- a column that some rule uses is marked
pub used_marked : (rules : List Rule) (used : Marks) → Each rules (UsesOnly used) → (table column : ℕ) → column < length (marks_at used table)
    → IsUsed rules table column → get_or (marks_at used table) column false ≡ true
used_marked rules used only table column h w = elim (cases_Bool (get_or (marks_at used table) column false)) [
  | inl t ↦ t
  | inr f ↦ absurd (
      asks_not w.0 (marks_at used table) w.2.0.cells column h f
      (subst (λ t. CellsIdle w.0 (marks_at used t) w.2.0.cells) w.2.2 (only w.0 w.1 w.2.0 w.2.1)) w.2.3)
]

pub none_wide : (widths : List ℕ) (used : Marks) → used ≡ [] → HaveWidths (take 0 widths) used
none_wide widths used e = ap (map (λ (ms : List Bool). length ms)) e
