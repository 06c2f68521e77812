-- The rows of a rule exist, are one, and depend on the members of the instance alone.
use Rattle.std.proofs.Common.{◌≡◌, ℕ, zero, suc, ◌+◌, ◌<◌, ◌≤◌, List, [], ◌∷◌, ◌++◌, ◌⊎◌, inl, inr, length, refl, sym, ◌∙◌, ap, subst, arith}
use Rattle.std.specs.Prelude.{◌-◌, map, flat_map, slice_index_or}
use Rattle.std.proofs.lemmas.Bool.{cases_order}
use Rattle.std.proofs.lemmas.Bool.Decides.{nat_tests}
use Rattle.std.proofs.lemmas.List.{length-map, length-append, append_assoc, append-nil}
use Rattle.dx_model.specs.declared.values.Value.{Value}
use Rattle.dx_model.specs.declared.values.Value.TheVariants.{Const, Null}
use Rattle.dx_model.specs.declared.facts.Fact.{Fact}
use Rattle.dx_model.specs.declared.rules.Cell.{Cell}
use Rattle.dx_model.specs.declared.rules.Cell.TheVariants.{Var, Ex, Lit}
use Rattle.dx_model.specs.declared.rules.Atom.{Atom}
use Rattle.dx_model.specs.declared.rules.Derived.{Derived}
use Rattle.dx_model.specs.declared.rules.Rule.{Rule}
use Rattle.dx_base.specs.Members.{◌∈◌, ◌⊆◌, here, there, Each}
use Rattle.dx_base.proofs.Members.{in_map, from_map, in_right, in_flat_map, from_flat_map}
use Rattle.dx_base.proofs.Tests.{map_same}
use Rattle.dx_model.specs.Values.{Tuple, Conversions, tuple_cmp}
use Rattle.dx_base.specs.Texts.{Text}
use Rattle.dx_model.specs.Tables.{AllInside}
use Rattle.dx_model.specs.Rules.{cell_value, premise_fact, after_cells, cells_of, Derive, IsMatch, exported, text_of}
use Rattle.dx_model.specs.Fitting.{ByFirstAppearance, cell_variable, premise_variables, IsRule}
use Rattle.dx_model.specs.Covers.{below}
use Rattle.dx_model.specs.Laws.{RowsOfAll, RowsOfAllExist, RowsOfAllByMembers, OneRows, RowsExist, RowsByMembers, SatisfiedByRows}
use Rattle.dx_model.proofs.Orders.{tuple_total, tuple_exact}
use Rattle.dx_model.proofs.Ascending.{one_ascending, in_order, in_order_ascends, in_in_order, from_in_order}
use Rattle.dx_model.proofs.Canonical.{in_variables, from_variables, text_of-map}
use Rattle.dx_model.proofs.Universal.{said_same}
use Rattle.dx_model.proofs.Lists.{from_below, length_below}
use Rattle.dx_model.proofs.Decided.{same_fact, decide_in}

-- ---- at most one list

pub one_rows : OneRows
one_rows convert d I ts us p q =
    one_ascending tuple_cmp tuple_total ts us p.ascend q.ascend (λ t m. (q.exact t).1 ((p.exact t).0 m)) (λ t m. (p.exact t).1 ((q.exact t).0 m))

pub match_of : (convert : Conversions) (d : Rule) (I J : List Fact) (texts : ℕ → Text) → I ⊆ J → IsMatch convert d I texts → IsMatch convert d J texts
match_of convert d I J texts s m = record { premise = λ a k. s _ (m.premise a k); derived = m.derived }

pub rows_by_members : RowsByMembers
rows_by_members convert d I J ts s r = record {
  ascend = r.ascend;
  exact = λ t. (
    (λ m. let w = (r.exact t).0 m in (w.0, match_of convert d I J w.0 s.0 w.1, w.2)),
    (λ w. (r.exact t).1 (w.0, match_of convert d J I w.0 s.1 w.1, w.2)),
  );
}

-- ---- texts by lists

-- text number x of a list
abbrev read : Tuple → ℕ → Text
read us x = slice_index_or us x []

read_front : (us vs : Tuple) (x : ℕ) → x < length us → read (us ++ vs) x ≡ read us x
read_front [] vs x h = absurd (omega arith)
read_front (u ∷ us) vs zero h = refl
read_front (u ∷ us) vs (suc x) h = read_front us vs x (omega arith)

read_back : (us vs : Tuple) (n i : ℕ) → n ≡ length us + i → read (us ++ vs) n ≡ read vs i
read_back [] vs n i e = let d : n ≡ i = omega arith in ap (read vs) d
read_back (u ∷ us) vs zero i e = absurd (omega arith)
read_back (u ∷ us) vs (suc n) i e = read_back us vs n i (omega arith)

-- the first n texts, as a list
abbrev front : (ℕ → Text) → ℕ → Tuple
front texts n = map texts (below n)

length_front : (texts : ℕ → Text) (n : ℕ) → length (front texts n) ≡ n
length_front texts n = length-map (below n) texts ∙ length_below n

map_back : (texts : ℕ → Text) (xs : List ℕ) (n : ℕ) → map texts (xs ++ n ∷ []) ≡ map texts xs ++ texts n ∷ []
map_back texts [] n = refl
map_back texts (x ∷ xs) n = ap (λ zs. texts x ∷ zs) (map_back texts xs n)

front_gives : (texts : ℕ → Text) (n x : ℕ) → x < n → read (front texts n) x ≡ texts x
front_gives texts zero x h = absurd (omega arith)
front_gives texts (suc n) x h =
    let l = length_front texts n in
    let b = ap (λ us. read us x) (map_back texts (below n) n) in
    elim (cases_order x n) [
      | inl e ↦ b ∙ (read_back (front texts n) (texts n ∷ []) x 0 (omega (arith, l, e)) ∙ ap texts (sym e))
      | inr o ↦ elim o [
        | inl k ↦ b ∙ (read_front (front texts n) (texts n ∷ []) x (omega (arith, l, k)) ∙ front_gives texts n x k)
        | inr k ↦ absurd (omega (arith, h, k))
      ]
    ]

-- ---- the texts of a match, by those of the premise variables

module _ (convert : Conversions) where
  -- the text of a derived variable, by the premise's
  abbrev value_of : Tuple → Derived → Text
  value_of us e = convert e.code (map (read us) e.args)

  -- the texts of all variables
  abbrev all_texts : Tuple → List Derived → ℕ → Text
  all_texts us ds = read (us ++ map (value_of us) ds)

  derives_from : (us done : Tuple) (ds : List Derived) → Each ds (λ e. AllInside e.args (length us)) → (n : ℕ) → n ≡ length (us ++ done)
      → Derive convert (read (us ++ (done ++ map (value_of us) ds))) n ds
  derives_from us done [] w n e = tt
  derives_from us done (d ∷ ds) w n e =
      let whole : us ++ (done ++ map (value_of us) (d ∷ ds)) ≡ (us ++ done) ++ map (value_of us) (d ∷ ds) = sym (append_assoc us done (map (value_of us) (d ∷ ds))) in
      let later : (done ++ value_of us d ∷ []) ++ map (value_of us) ds ≡ done ++ map (value_of us) (d ∷ ds) = append_assoc done (value_of us d ∷ []) (map (value_of us) ds) in
      let at : read (us ++ (done ++ map (value_of us) (d ∷ ds))) n ≡ value_of us d = ap (λ vs. read vs n) whole ∙ read_back (us ++ done) (map (value_of us) (d ∷ ds)) n 0 (omega (arith, e)) in
      let args = map_same (read us) (read (us ++ (done ++ map (value_of us) (d ∷ ds)))) d.args (λ x m. sym (read_front us (done ++ map (value_of us) (d ∷ ds)) x (w d (here refl) x m))) in
      let more : suc n ≡ length (us ++ (done ++ value_of us d ∷ [])) = longer in (
        at ∙ ap (convert d.code) args,
        subst (λ vs. Derive convert (read (us ++ vs)) (suc n) ds) later (derives_from us (done ++ value_of us d ∷ []) ds (λ f m. w f (there m)) (suc n) more),
      )
    where
      longer : suc n ≡ length (us ++ (done ++ value_of us d ∷ []))
      longer =
          let a = ap length (sym (append_assoc us done (value_of us d ∷ []))) in
          let b = length-append (us ++ done) (value_of us d ∷ []) in
          omega (arith, a, b, e)

  derives : (us : Tuple) (ds : List Derived) → Each ds (λ e. AllInside e.args (length us)) → Derive convert (all_texts us ds) (length us) ds
  derives us ds w = derives_from us [] ds w (length us) (ap length (sym (append-nil us)))

  -- a match has these texts, where they are its own on the premise variables
  derived_same : (us : Tuple) (texts : ℕ → Text) (k : ℕ) → ((x : ℕ) → x < k → read us x ≡ texts x) → (n : ℕ) (ds : List Derived) → Each ds (λ e. AllInside e.args k)
      → Derive convert texts n ds → (i : ℕ) → i < length ds → texts (n + i) ≡ read (map (value_of us) ds) i
  derived_same us texts k s n [] w d i h = absurd (omega arith)
  derived_same us texts k s n (e ∷ ds) w d zero h =
      let a : texts (n + 0) ≡ texts n = ap texts (omega arith) in
      a ∙ (d.0 ∙ ap (convert e.code) (map_same texts (read us) e.args (λ x m. sym (s x (w e (here refl) x m)))))
  derived_same us texts k s n (e ∷ ds) w d (suc i) h =
      let a : texts (n + suc i) ≡ texts (suc n + i) = ap texts (omega arith) in
      a ∙ derived_same us texts k s (suc n) ds (λ f m. w f (there m)) d.1 i (omega arith)

  all_same : (us : Tuple) (ds : List Derived) (texts : ℕ → Text) → ((x : ℕ) → x < length us → read us x ≡ texts x) → Each ds (λ e. AllInside e.args (length us))
      → Derive convert texts (length us) ds → (x : ℕ) → x < length us + length ds → all_texts us ds x ≡ texts x
  all_same us ds texts s w d x h = elim (cases_order x (length us)) [
    | inr o ↦ elim o [
      | inl k ↦ read_front us (map (value_of us) ds) x k ∙ s x k
      | inr k ↦ later (omega (arith, k))
    ]
    | inl e ↦ later (omega (arith, e))
  ]
    where
      later : length us ≤ x → all_texts us ds x ≡ texts x
      later k =
          let i : ℕ = x - length us in
          let e : x ≡ length us + i = omega (arith, k) in
          let a = derived_same us texts (length us) s (length us) ds w d i (omega (arith, h, e)) in
          read_back us (map (value_of us) ds) x i e ∙ (sym a ∙ ap texts (sym e))

-- ---- premise variables

pub below_after : (x : ℕ) (cs : List Cell) → Var x ∈ cs → x < after_cells cs
below_after x [] m = elim m [ ]
below_after x (c ∷ cs) (here e) = rw e (grind (arith, nat_tests))
below_after x (Var y ∷ cs) (there m) = let i = below_after x cs m in grind (arith, nat_tests)
below_after x (Ex v ∷ cs) (there m) = below_after x cs m
below_after x (Lit t ∷ cs) (there m) = below_after x cs m

-- each number up to the last stands among numbers by first appearance
appears : (n m : ℕ) (xs : List ℕ) → ByFirstAppearance n xs m → (x : ℕ) → n ≤ x → x < m → x ∈ xs
appears n m [] e x a b = absurd (omega (arith, e))
appears n m (y ∷ ys) (inl (l, r)) x a b = there (appears n m ys r x a b)
appears n m (y ∷ ys) (inr (e, r)) x a b = elim (cases_order x n) [
  | inl k ↦ here (e ∙ sym k)
  | inr o ↦ elim o [ inl k ↦ absurd (omega (arith, a, k)) | inr k ↦ there (appears (suc n) m ys r x (omega (arith, k)) b) ]
]

pub from_variable : (x : ℕ) (c : Cell) → x ∈ cell_variable c → c ≡ Var x
from_variable x (Var y) (here e) = ap Var e
from_variable x (Var y) (there m) = elim m [ ]
from_variable x (Ex v) m = elim m [ ]
from_variable x (Lit t) m = elim m [ ]

stands : (d : Rule) → IsRule d → (x : ℕ) → x < premise_variables d → Var x ∈ cells_of d.premise
stands d r x h =
    let w = from_flat_map cell_variable (cells_of d.premise) (appears 0 (premise_variables d) _ r.numbered x (omega arith) h) in
    subst (λ c. c ∈ cells_of d.premise) (from_variable x w.0 w.2) w.1

-- ---- the texts of an instance

constant_in : Value → List Text
constant_in (Const t) = t ∷ []
constant_in (Null n) = []

abbrev constants : List Fact → List Text
constants I = flat_map (λ (f : Fact). flat_map constant_in f.row) I

in_row : (texts : ℕ → Text) (x : ℕ) (cs : List Cell) → Var x ∈ cs → texts x ∈ flat_map constant_in (map (cell_value texts (λ _. Const [])) cs)
unfolding constant_in
in_row texts x [] m = elim m [ ]
in_row texts x (c ∷ cs) (here e) = rw e (here refl)
in_row texts x (c ∷ cs) (there m) = in_right (constant_in (cell_value texts (λ _. Const []) c)) (in_row texts x cs m)

matched_text : (convert : Conversions) (d : Rule) (I : List Fact) (texts : ℕ → Text) → IsMatch convert d I texts → (x : ℕ) → Var x ∈ cells_of d.premise → texts x ∈ constants I
matched_text convert d I texts m x v =
    let a = from_flat_map (λ (a : Atom). a.cells) d.premise v in
    in_flat_map (λ (f : Fact). flat_map constant_in f.row) (m.premise a.0 a.1) (in_row texts x a.0.cells a.2)

-- all lists of n of these texts
abbrev lists_of : ℕ → List Text → List Tuple
lists_of zero ts = [] ∷ []
lists_of (suc n) ts = flat_map (λ t. map (λ us. t ∷ us) (lists_of n ts)) ts

in_lists : (ts : List Text) (us : Tuple) → Each us (λ u. u ∈ ts) → us ∈ lists_of (length us) ts
in_lists ts [] e = here refl
in_lists ts (u ∷ us) e = in_flat_map (λ t. map (λ us. t ∷ us) (lists_of (length us) ts)) (e u (here refl)) (in_map (λ us. u ∷ us) (in_lists ts us (λ v m. e v (there m))))

long_lists : (n : ℕ) (ts : List Text) (us : Tuple) → us ∈ lists_of n ts → length us ≡ n
long_lists zero ts us (here e) = ap length (sym e)
long_lists zero ts us (there m) = elim m [ ]
long_lists (suc n) ts us m =
    let w = from_flat_map (λ t. map (λ us. t ∷ us) (lists_of n ts)) ts m in
    let v = from_map (λ us. w.0 ∷ us) (lists_of n ts) w.2 in
    let i = long_lists n ts v.0 v.1 in
    ap length (sym v.2) ∙ ap suc i

-- ---- all rows

module _ (convert : Conversions) (d : Rule) (I : List Fact) (r : IsRule d) where
  abbrev texts_by : Tuple → ℕ → Text
  texts_by us = all_texts convert us d.derived

  -- whether the premise is in I
  premise_in : (texts : ℕ → Text) (atoms : List Atom) → ((a : Atom) → a ∈ atoms → premise_fact texts a ∈ I) ⊎ (¬ ((a : Atom) → a ∈ atoms → premise_fact texts a ∈ I))
  premise_in texts [] = inl (λ a m. elim m [ ])
  premise_in texts (a ∷ atoms) = elim (decide_in same_fact (premise_fact texts a) I) [
    | inr n ↦ inr (λ h. n (h a (here refl)))
    | inl h ↦ elim (premise_in texts atoms) [
      | inr n ↦ inr (λ k. n (λ b m. k b (there m)))
      | inl k ↦ inl (both h k)
    ]
  ]
    where
      both : premise_fact texts a ∈ I → ((b : Atom) → b ∈ atoms → premise_fact texts b ∈ I) → (b : Atom) → b ∈ (a ∷ atoms) → premise_fact texts b ∈ I
      both h k b (here e) = rw (← e) h
      both h k b (there m) = k b m

  abbrev Holds : Tuple → Type 0
  Holds us = (a : Atom) → a ∈ d.premise → premise_fact (texts_by us) a ∈ I

  abbrev row_if : (us : Tuple) → Holds us ⊎ (¬ (Holds us)) → List Tuple
  row_if us (inl h) = map (texts_by us) (exported d) ∷ []
  row_if us (inr n) = []

  in_row_if : (us : Tuple) (o : Holds us ⊎ (¬ (Holds us))) → Holds us → map (texts_by us) (exported d) ∈ row_if us o
  in_row_if us (inl h) k = here refl
  in_row_if us (inr n) k = absurd (n k)

  from_row_if : (us : Tuple) (o : Holds us ⊎ (¬ (Holds us))) (t : Tuple) → t ∈ row_if us o → Holds us × (t ≡ map (texts_by us) (exported d))
  from_row_if us (inl h) t (here e) = (h, sym e)
  from_row_if us (inl h) t (there m) = elim m [ ]
  from_row_if us (inr n) t m = elim m [ ]

  row_of : Tuple → List Tuple
  row_of us = row_if us (premise_in (texts_by us) d.premise)

  abbrev some_rows : List Tuple
  some_rows = flat_map row_of (lists_of (premise_variables d) (constants I))

  match_by : (us : Tuple) → length us ≡ premise_variables d → Holds us → IsMatch convert d I (texts_by us)
  match_by us e h = record {
    premise = h;
    derived = subst (λ n. Derive convert (texts_by us) n d.derived) e (derives convert us d.derived (λ f m. subst (AllInside f.args) (sym e) (r.derived f m)));
  }

  from_rows : (t : Tuple) → t ∈ some_rows → (texts : ℕ → Text) × IsMatch convert d I texts × (t ≡ map texts (exported d))
  unfolding row_of
  from_rows t m =
      let w = from_flat_map row_of (lists_of (premise_variables d) (constants I)) m in
      let v = from_row_if w.0 (premise_in (texts_by w.0) d.premise) t w.2 in
      (texts_by w.0, match_by w.0 (long_lists (premise_variables d) (constants I) w.0 w.1) v.0, v.1)

  in_rows : (texts : ℕ → Text) → IsMatch convert d I texts → map texts (exported d) ∈ some_rows
  unfolding row_of
  in_rows texts m =
      let n : ℕ = premise_variables d in
      let us : Tuple = front texts n in
      let l : length us ≡ n = length_front texts n in
      let known : (x : ℕ) → x < n + length d.derived → texts_by us x ≡ texts x =
      (λ x h. all_same convert us d.derived texts (λ y k. front_gives texts n y (omega (arith, k, l))) (λ f k. subst (AllInside f.args) (sym l) (r.derived f k))
      (subst (λ k. Derive convert texts k d.derived) (sym l) m.derived) x (omega (arith, h, l))) in
      let holds : Holds us =
      (λ a k. subst (λ f. f ∈ I) (sym (said_same (texts_by us) texts (λ _. Const []) a (λ x v. known x (inside x (in_flat_map (λ (b : Atom). b.cells) k v))))) (m.premise a k)) in
      let same = map_same (texts_by us) texts (exported d) (λ x k. known x (r.known x (from_variables x (cells_of d.conclusion) k))) in
      let member = in_flat_map row_of {x = us} (subst (λ k. us ∈ lists_of k (constants I)) l (in_lists (constants I) us found)) (in_row_if us (premise_in (texts_by us) d.premise) holds) in
      subst (λ t. t ∈ some_rows) same member
    where
      inside : (x : ℕ) → Var x ∈ cells_of d.premise → x < premise_variables d + length d.derived
      inside x v = let h = below_after x (cells_of d.premise) v in omega (arith, h)

      found : Each (front texts (premise_variables d)) (λ u. u ∈ constants I)
      found u k =
          let w = from_map texts (below (premise_variables d)) k in
          subst (λ t. t ∈ constants I) w.2 (matched_text convert d I texts m w.0 (stands d r w.0 (from_below w.0 (premise_variables d) w.1)))

pub rows_exist : RowsExist
rows_exist convert d I r = (
  in_order tuple_cmp tuple_total tuple_exact (some_rows convert d I r),
  record {
    ascend = in_order_ascends tuple_cmp tuple_total tuple_exact (some_rows convert d I r);
    exact = λ t. (
      (λ m. from_rows convert d I r t (from_in_order tuple_cmp tuple_total tuple_exact t (some_rows convert d I r) m)),
      (λ w. in_in_order tuple_cmp tuple_total tuple_exact t (some_rows convert d I r) (rw w.2 (in_rows convert d I r w.0 w.1))),
    );
  },
)

-- ---- satisfied at each row

pub satisfied_by_rows : SatisfiedByRows
satisfied_by_rows convert d I K ts r = (
  (λ s t m.
      let w = (r.exact t).0 m in
      let v = s w.0 w.1 in
      (v.0, λ a k. rw (said_same (text_of (exported d) t) w.0 v.0 a (λ x n. ap (λ u. text_of (exported d) u x) w.2 ∙ text_of-map w.0 x (exported d) (out x a k n))) (v.1 a k))),
  (λ p texts m.
      let v = p (map texts (exported d)) ((r.exact (map texts (exported d))).1 (texts, m, refl)) in
      (v.0, λ a k. rw (said_same texts (text_of (exported d) (map texts (exported d))) v.0 a (λ x n. sym (text_of-map texts x (exported d) (out x a k n)))) (v.1 a k))),
)
  where
    out : (x : ℕ) (a : Atom) → a ∈ d.conclusion → Var x ∈ a.cells → x ∈ exported d
    out x a k n = in_variables x (cells_of d.conclusion) (in_flat_map (λ (b : Atom). b.cells) k n)

-- ---- all rules

pub rows_of_all_exist : RowsOfAllExist
rows_of_all_exist convert [] I r = ([], tt)
rows_of_all_exist convert (d ∷ R) I r =
    let head = rows_exist convert d I (r d (here refl)) in
    let rest = rows_of_all_exist convert R I (λ e m. r e (there m)) in
    (head.0 ∷ rest.0, (head.1, rest.1))

pub rows_of_all : RowsOfAll
rows_of_all convert [] I [] [] p q = (refl, refl)
rows_of_all convert [] I [] (us ∷ others) p q = absurd q
rows_of_all convert [] I (ts ∷ rows) others p q = absurd p
rows_of_all convert (d ∷ R) I [] others p q = absurd p
rows_of_all convert (d ∷ R) I (ts ∷ rows) [] p q = absurd q
rows_of_all convert (d ∷ R) I (ts ∷ rows) (us ∷ others) p q =
    let e = one_rows convert d I ts us p.0 q.0 in
    let r = rows_of_all convert R I rows others p.1 q.1 in
    let f = r.0 in
    (cc, ap suc r.1)

pub rows_of_all_by_members : RowsOfAllByMembers
rows_of_all_by_members convert [] I J [] s p = tt
rows_of_all_by_members convert [] I J (ts ∷ rows) s p = absurd p
rows_of_all_by_members convert (d ∷ R) I J [] s p = absurd p
rows_of_all_by_members convert (d ∷ R) I J (ts ∷ rows) s p = (rows_by_members convert d I J ts s p.0, rows_of_all_by_members convert R I J rows s p.1)
