-- Symbols: which number a value has, and what one value more changes.
use Rattle.std.proofs.Common.{◌≡◌, ◌∙◌, ◌+◌, ◌<◌, ◌≤◌, ◌++◌, ◌∷◌, ℕ, List, [], true, false, Some, refl, sym, ap, subst, arith, length, get_or, slice_get, position, take, inl, inr}
use Rattle.std.specs.List.{list_any}
use Rattle.std.specs.List.Sorted.{IsSortedBy, IsNonDecreasingBy, IsPartitionPoint}
use Rattle.std.specs.Ordering.{is_lt, ordering_index, ordering_reverse}
use Rattle.std.specs.declared.cmp.Ordering.{Ordering}
use Rattle.std.specs.declared.cmp.Ordering.TheVariants.{Less, Equal, Greater}
use Rattle.std.proofs.lemmas.Bool.{cases_Bool, cases_lt}
use Rattle.std.proofs.lemmas.List.{length-append, get_or_append_left, get_or-append-add, get_or_push, get_or_default, append-nil, append_assoc, get_or-take, length-take-le, take_more, nil_from_length}
use Rattle.std.proofs.lemmas.List.Quantifiers.{position-Some, all_pairs_push}
use Rattle.std.proofs.lemmas.List.Sorted.{searchable_from_sorted}
use Rattle.std.proofs.lemmas.Map.Views.{list_any-from_Contains}
use Rattle.std.proofs.lemmas.Option.{get_or_from_slice_get, slice_get_within}
use Rattle.indexmap.specs.IndexSet.{insert_key}
use Rattle.indexmap.proofs.CallerLemmas.{Contains-list_any}
use Rattle.dx_model.specs.declared.values.Value.{Value}
use Rattle.dx_model.specs.declared.values.Value.TheVariants.{Const, Null}
use Rattle.dx_model.specs.contracts.values.ValueOrd.TheImpl.{cmp-value}
use Rattle.dx_model.specs.contracts.values.ValueEq.TheImpl.Laws.{laws-law}
use Rattle.dx_model.specs.Values.{value_cmp}
use Rattle.dx_model.proofs.Orders.{value_total, value_exact}
use Rattle.dx_base.specs.Members.{Each, ◌∈◌}
use Rattle.dx_base.proofs.Members.{contains_from_in, in_from_contains, from_append, in_at, in_left, in_right}
use Rattle.dx_instance.specs.Numbers.{ValuesDiffer, Extends, ValuesAscend, value_of}
use Rattle.dx_instance.proofs.Equal.{value_eq, value_eq-Decides}

pub same_value : (a b : Value) → cmp-value.it a b ≡ value_cmp a b
same_value (Const a) (Const b) = refl
same_value (Const a) (Null n) = refl
same_value (Null m) (Const b) = refl
same_value (Null m) (Null n) = refl

pub value_order_is : cmp-value.it ≡ value_cmp
value_order_is = λ i a b. same_value a b i

-- a value is equal to itself
pub self_equal : (v : Value) → value_cmp v v ≡ Equal
self_equal v = by (value_cmp v v) refl
  where
    by : (o : Ordering) → value_cmp v v ≡ o → value_cmp v v ≡ Equal
    by Less e = let t = value_total.antisymm v v in absurd (cc (rw e at t))
    by Equal e = e
    by Greater e = let t = value_total.antisymm v v in absurd (cc (rw e at t))

falls : (xs : List Value) → ValuesAscend xs → IsSortedBy (λ a b. is_lt (value_cmp a b)) xs
falls xs up k d low h =
    let e = up k (k + 1) d (omega arith) h in
    let t = value_total.antisymm (get_or xs (k + 1) d) (get_or xs k d) in
    ap is_lt (t ∙ ap ordering_reverse e)

not_among : (xs : List Value) (v : Value) (i : ℕ) → IsPartitionPoint (λ y. value_cmp y v ≡ Less) (λ y. value_cmp y v ≡ Greater) xs i → ¬ (v ∈ xs)
not_among xs v i parts m =
    let at = contains_from_in m in
    let same = self_equal v in
    elim (cases_lt at.0 i) [
      | inl h ↦ let e = parts.0 at.0 v (omega arith) h in cc (rw at.2 at e, same)
      | inr h ↦ let e = parts.1 at.0 v h at.1 in cc (rw at.2 at e, same)
    ]

-- a value that a binary search did not find is not there
pub missing : (xs : List Value) (v : Value) (i : ℕ) → ValuesAscend xs
    → (IsNonDecreasingBy (λ y. ordering_index (cmp-value.it y v)) xs → IsPartitionPoint (λ y. cmp-value.it y v ≡ Less) (λ y. cmp-value.it y v ≡ Greater) xs i) → ¬ (v ∈ xs)
missing xs v i up found =
    let plain = subst (λ (R : Value → Value → Ordering). IsNonDecreasingBy (λ y. ordering_index (R y v)) xs → IsPartitionPoint (λ y. R y v ≡ Less) (λ y. R y v ≡ Greater) xs i) value_order_is found in
    not_among xs v i (plain (searchable_from_sorted value_total (λ (x : Value). x) xs v (falls xs up)))

same_found : (a v : Value) → cmp-value.it a v ≡ Equal → a ≡ v
same_found a v e = value_exact a v (sym (same_value a v) ∙ e)

-- a value that a binary search found stands there
pub found_in : (xs : List Value) (v : Value) (i : ℕ) → i < length xs → ((d : Value) → cmp-value.it (get_or xs i d) v ≡ Equal) → (i < length xs) × (value_of xs i ≡ v)
found_in xs v i h e = (h, same_found (get_or xs i (Const [])) v (e (Const [])))

pub found_first : (xs ks : List Value) (v : Value) (i : ℕ) → (i < length xs) × (value_of xs i ≡ v) → (i < length (xs ++ ks)) × (value_of (xs ++ ks) i ≡ v)
found_first xs ks v i f = (omega (arith, f.0, length-append xs ks), get_or_append_left xs ks (Const []) i f.0 ∙ f.1)

-- equal values are the same
pub value_same : (a b : Value) → value_eq a b ≡ true → a ≡ b
value_same a b e = (value_eq-Decides a b).0 e

at_later : (xs ks : List Value) (v : Value) (i n : ℕ) → n ≡ length xs → i < length ks → v ≡ get_or ks i v → (n + i < length (xs ++ ks)) × (value_of (xs ++ ks) (n + i) ≡ v)
at_later xs ks v i n l h e = (omega (arith, length-append xs ks), ap (λ (m : ℕ). get_or (xs ++ ks) (m + i) (Const [])) l ∙ get_or-append-add xs ks i (Const []) ∙ get_or_default ks i (Const []) v h ∙ sym e)

pub found_later : (xs ks : List Value) (v : Value) (i n : ℕ) → n ≡ length xs → position (value_eq v) ks ≡ Some i → (n + i < length (xs ++ ks)) × (value_of (xs ++ ks) (n + i) ≡ v)
found_later xs ks v i n l e =
    let p = position-Some (value_eq v) ks i v e in
    at_later xs ks v i n l p.0 (value_same v (get_or ks i v) p.1)

pub absent : (ks : List Value) (v : Value) → list_any (value_eq v) ks ≡ false → ¬ (v ∈ ks)
absent ks v e m = let t = list_any-from_Contains laws-law v ks (contains_from_in m) in cc (e, t)

pub nowhere : (xs ks : List Value) (v : Value) → ¬ (v ∈ xs) → ¬ (v ∈ ks) → ¬ (v ∈ (xs ++ ks))
nowhere xs ks v a b m = elim (from_append xs m) [ inl l ↦ a l | inr r ↦ b r ]

-- one value more
pub apart_more : (xs : List Value) (v : Value) → ValuesDiffer xs → ¬ (v ∈ xs) → ValuesDiffer (xs ++ v ∷ [])
apart_more xs v a n i j d h k e = elim (cases_lt j (length xs)) [
  | inl l ↦ a i j d h l (sym (get_or_append_left xs (v ∷ []) d i (omega arith)) ∙ e ∙ get_or_append_left xs (v ∷ []) d j l)
  | inr l ↦
      let last : length xs ≡ j = omega (arith, length-append xs (v ∷ [])) in
      let first : i < length xs = omega arith in
      let same = sym (get_or_append_left xs (v ∷ []) d i first) ∙ e ∙ get_or_push xs v d j last in
      n (subst (λ (x : Value). x ∈ xs) same (in_at xs i d first))
]

pub record Interned (old new : List Value) (v : Value) : Type 0 where
  pub there_stays : v ∈ old → new ≡ old
  pub fresh : ¬ (v ∈ old) → new ≡ old ++ v ∷ []
  pub grows : Extends old new
  pub apart : ValuesDiffer old → ValuesDiffer new
  pub few : length new ≤ length old + 1

pub stays : (xs : List Value) → Extends xs xs
stays xs = record { more = []; is = sym (append-nil xs) }

pub interned : (xs ks new : List Value) (v : Value) → ¬ (v ∈ xs) → new ≡ insert_key value_eq ks v → Interned (xs ++ ks) (xs ++ new) v
interned xs ks new v n e = elim (cases_Bool (list_any (value_eq v) ks)) [
  | inl y ↦
      let is : new ≡ ks = rw y at e in
      let m = in_from_contains ks v (Contains-list_any value_eq value_same ks v y) in
      rw is (record { there_stays = λ t. refl; fresh = λ f. absurd (f (in_right xs m)); grows = stays (xs ++ ks); apart = λ a. a; few = omega arith })
  | inr p ↦
      let is : new ≡ ks ++ v ∷ [] = rw p at e in
      let gone = nowhere xs ks v n (absent ks v p) in
      let whole : xs ++ new ≡ xs ++ ks ++ v ∷ [] = ap (λ (l : List Value). xs ++ l) is ∙ sym (append_assoc xs ks (v ∷ [])) in
      rw whole (record {
        there_stays = λ t. absurd (gone t);
        fresh = λ f. refl;
        grows = record { more = v ∷ []; is = refl };
        apart = λ a. apart_more (xs ++ ks) v a gone;
        few = omega (arith, length-append (xs ++ ks) (v ∷ []));
      })
]

pub stored_at : (xs new : List Value) (v k : Value) (i n : ℕ) → n ≡ length xs → slice_get new i ≡ Some k → value_eq v k ≡ true → (n + i < length (xs ++ new)) × (value_of (xs ++ new) (n + i) ≡ v)
stored_at xs new v k i n l e s =
    let same = value_same v k s in
    at_later xs new v i n l (slice_get_within new i k e) (same ∙ sym (get_or_from_slice_get new i k v e))

pub there_at : (xs : List Value) (i : ℕ) (v : Value) → i < length xs → value_of xs i ≡ v → v ∈ xs
there_at xs i v h e = subst (λ (x : Value). x ∈ xs) e (in_at xs i (Const []) h)

-- the values of a second part are apart
pub apart_later : (xs ks : List Value) → ValuesDiffer (xs ++ ks) → ValuesDiffer ks
apart_later xs ks a i j d h k e =
    a (length xs + i) (length xs + j) d (omega arith) (omega (arith, length-append xs ks)) (get_or-append-add xs ks i d ∙ e ∙ sym (get_or-append-add xs ks j d))

not_taken : (xs : List Value) (i : ℕ) (v : Value) → ValuesDiffer xs → i < length xs → v ≡ get_or xs i v → ¬ (v ∈ take i xs)
not_taken xs i v a h e m =
    let at = contains_from_in m in
    let l : at.0 < i = omega (arith, at.1, length-take-le i xs (omega arith)) in
    a at.0 i v l h (sym (get_or-take i xs at.0 v l) ∙ at.2 ∙ e)

-- one copy more in a set of copies
pub copied_more : (xs keys new : List Value) (i : ℕ) (v w : Value) → ValuesDiffer xs → i < length xs → v ≡ get_or xs i v → w ≡ v → keys ≡ take i xs → new ≡ insert_key value_eq keys w → new ≡ take (i + 1) xs
copied_more xs keys new i v w a h e c k n =
    let gone : ¬ (w ∈ keys) = rw (c, k) (not_taken xs i v a h e) in
    let s = interned [] keys new w (λ m. elim m [ ]) n in
    s.fresh gone ∙ rw (c, k) (ap (λ (x : Value). take i xs ++ x ∷ []) e ∙ sym (take_more xs i v h))

-- a value that is above all others, which goes last
pub record Pushed (old new : List Value) (v : Value) : Type 0 where
  pub is : new ≡ old ++ v ∷ []
  pub ascend : ValuesAscend old → ValuesAscend new
  pub apart : ValuesDiffer old → ValuesDiffer new
  pub few : length new ≡ length old + 1

not_among_lower : (old : List Value) (v : Value) → Each old (λ x. value_cmp x v ≡ Less) → ¬ (v ∈ old)
not_among_lower old v above m = let l = above v m in let s = self_equal v in cc (l, s)

pub pushed : (old new : List Value) (v : Value) → new ≡ old ++ v ∷ [] → Each old (λ x. value_cmp x v ≡ Less) → Pushed old new v
pushed old new v e above = rw e (record {
  is = refl;
  ascend = λ up. all_pairs_push (λ x y. value_cmp x y ≡ Less) old v up (λ k d h. above (get_or old k d) (in_at old k d h));
  apart = λ a. apart_more old v a (not_among_lower old v above);
  few = omega (arith, length-append old (v ∷ []));
})

-- at the end of the first part, where there is no other
pub pushed_first : (xs ks new : List Value) (v : Value) → length ks ≡ 0 → new ≡ xs ++ v ∷ [] → Each (xs ++ ks) (λ x. value_cmp x v ≡ Less) → (Pushed xs new v) × (Pushed (xs ++ ks) (new ++ ks) v)
pushed_first xs ks new v z e above =
    let none : ks ≡ [] = nil_from_length ks z in
    let one : new ++ ks ≡ (xs ++ ks) ++ v ∷ [] = rw (none, e, append-nil xs) (append-nil (xs ++ v ∷ [])) in
    (pushed xs new v e (λ x m. above x (in_left ks m)), pushed (xs ++ ks) (new ++ ks) v one above)

pub pushed_later : (xs ks new : List Value) (v : Value) → new ≡ insert_key value_eq ks v → Each (xs ++ ks) (λ x. value_cmp x v ≡ Less) → Pushed (xs ++ ks) (xs ++ new) v
pushed_later xs ks new v e above =
    let gone = not_among_lower (xs ++ ks) v above in
    let s = interned xs ks new v (λ m. gone (in_left ks m)) e in
    pushed (xs ++ ks) (xs ++ new) v (s.fresh gone) above
