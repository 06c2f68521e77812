-- Of keys in order the first of each value, and the ranks of all numbers among them.
use Rattle.std.proofs.Common.{◌≡◌, ◌∙◌, ◌+◌, ◌-◌, ◌<◌, ◌≤◌, ◌∷◌, ◌++◌, ℕ, List, [], refl, sym, ap, arith, length, get_or, set, map, inl, inr}
use Rattle.std.specs.declared.cmp.Ordering.TheVariants.{Less}
use Rattle.std.proofs.lemmas.Bool.{cases_lt}
use Rattle.std.proofs.lemmas.List.{length-map, length-set, map-append, get_or-map, get_or-set_same, get_or-set_other, get_or_default, get_or_append_left, get_or_push, length_push}
use Rattle.std.proofs.lemmas.List.Quantifiers.{all_pairs_push}
use Rattle.dx_model.specs.declared.values.Value.{Value}
use Rattle.dx_model.specs.declared.values.Value.TheVariants.{Const}
use Rattle.dx_model.specs.Values.{value_cmp}
use Rattle.dx_model.proofs.Orders.{value_total}
use Rattle.dx_base.specs.Members.{Each, ◌∈◌, here, there}
use Rattle.dx_base.proofs.Members.{contains_from_in, from_append, from_map, in_at}
use Rattle.dx_instance.specs.Numbers.{ValuesAscend, IsOrdering, value_of}
use Rattle.dx_instance.specs.Keys.{SortsNumbers, IsKeyIn, IsRepeat, IsRise, NumbersAreKeyed, places_of}
use Rattle.dx_instance.specs.Ranks.{DistinctKeys, DistinctRanks, RankFirsts, HasRank}
use Rattle.dx_instance.proofs.RankFacts.{number_read, same_or_not}

-- one number more has a rank, and the others keep theirs
ranks_more : (S : List Value) (numbers : List ℕ) (F G : List (ℕ × ℕ)) (R : List ℕ) (i n r : ℕ) → length F ≤ length G → ((j : ℕ) → j < length F → get_or (places_of G) j 0 ≡ get_or (places_of F) j 0)
    → n ≡ get_or numbers i 0 → n < length R → r < length G → value_of S (get_or (places_of G) r 0) ≡ value_of S n
    → ((k : ℕ) → k < i → HasRank S F R (get_or numbers k 0)) → (k : ℕ) → k < i + 1 → HasRank S G (set R n r) (get_or numbers k 0)
ranks_more S numbers F G R i n r l same e h w v old k b = elim (same_or_not (get_or numbers k 0) n) [
  | inl s ↦
      let at : get_or (set R n r) (get_or numbers k 0) 0 ≡ r = rw s (get_or-set_same R n r 0 h) in
      record { within = omega (arith, at, w); is = rw (at, s) v }
  | inr d ↦
      let other : k ≡ i → ⊥ = λ q. d (ap (λ (j : ℕ). get_or numbers j 0) q ∙ sym e) in
      let before : k < i = omega (arith, other, b) in
      let at : get_or (set R n r) (get_or numbers k 0) 0 ≡ get_or R (get_or numbers k 0) 0 = get_or-set_other R n (get_or numbers k 0) r 0 d in
      let was = old k before in
      record { within = omega (arith, at, was.within, l); is = rw at (ap (value_of S) (same (get_or R (get_or numbers k 0) 0) was.within) ∙ was.is) }
]

places_push : (F : List (ℕ × ℕ)) (k : ℕ × ℕ) → places_of (F ++ k ∷ []) ≡ places_of F ++ k.1 ∷ []
places_push F k = map-append (λ (q : ℕ × ℕ). q.1) F (k ∷ [])

places_many : (F : List (ℕ × ℕ)) → length (places_of F) ≡ length F
places_many F = length-map F (λ (q : ℕ × ℕ). q.1)

-- a key whose value is above all goes last
ascending_more : (S : List Value) (F : List (ℕ × ℕ)) (k : ℕ × ℕ) → DistinctKeys S F → IsKeyIn S k → ((j : ℕ) → j < length F → value_cmp (value_of S (get_or (places_of F) j 0)) (value_of S k.1) ≡ Less) → DistinctKeys S (F ++ k ∷ [])
ascending_more S F k a p above = record { ascend = ascend; below = below; keyed = keyed }
  where
    V : List Value
    V = map (value_of S) (places_of F)

    under : (j : ℕ) (d : Value) → j < length V → value_cmp (get_or V j d) (value_of S k.1) ≡ Less
    under j d h =
        let b : j < length (places_of F) = omega (arith, h, length-map (places_of F) (value_of S)) in
        let at = get_or-map (value_of S) (places_of F) j 0 d b in
        rw at (above j (omega (arith, b, places_many F)))

    ascend : ValuesAscend (map (value_of S) (places_of (F ++ k ∷ [])))
    ascend = rw (places_push F k, map-append (value_of S) (places_of F) (k.1 ∷ [])) (all_pairs_push (λ x y. value_cmp x y ≡ Less) V (value_of S k.1) a.ascend under)

    below_push : (n : ℕ) → n ∈ (places_of F ++ k.1 ∷ []) → n < length S
    below_push n m = elim (from_append (places_of F) m) [
      | inl l ↦ a.below n l
      | inr r ↦ last r
    ]
      where
        last : n ∈ (k.1 ∷ []) → n < length S
        last (here e) = omega (arith, p.below, e)
        last (there q) = elim q [ ]

    below : Each (places_of (F ++ k ∷ [])) (λ n. n < length S)
    below = rw (places_push F k) below_push

    keyed : NumbersAreKeyed S (F ++ k ∷ [])
    keyed j h = elim (cases_lt j (length F)) [
      | inl l ↦ let g = get_or_append_left F (k ∷ []) (0, 0) j l in rw g (a.keyed j l)
      | inr l ↦ let s : length F ≡ j = omega (arith, h, l, length_push F k) in let g = get_or_push F k (0, 0) j s in rw g p.keyed
    ]

-- the place of the last key
last_place : (S : List Value) (numbers : List ℕ) (F : List (ℕ × ℕ)) (R : List ℕ) (i : ℕ) → RankFirsts S numbers F R i → IsRise S numbers i → (j : ℕ) → j < length F → value_cmp (value_of S (get_or (places_of F) j 0)) (value_of S (get_or numbers i 0)) ≡ Less
last_place S numbers F R i f rise j h =
    let some : 0 < i = omega (arith, h, f.fewer) in
    let l = f.last some in
    let up = rise some in
    let top : value_cmp (value_of S (get_or (places_of F) (length F - 1) 0)) (value_of S (get_or numbers i 0)) ≡ Less = rw l.1 up in
    elim (cases_lt j (length F - 1)) [
      | inl b ↦
          let many = places_many F in
          let jb : j < length (places_of F) = omega (arith, h, many) in
          let lb : length F - 1 < length (places_of F) = omega (arith, h, many) in
          let a = f.keys.ascend j (length F - 1) (Const []) b (omega (arith, lb, length-map (places_of F) (value_of S))) in
          let x = get_or-map (value_of S) (places_of F) j 0 (Const []) jb in
          let y = get_or-map (value_of S) (places_of F) (length F - 1) 0 (Const []) lb in
          value_total.trans (value_of S (get_or (places_of F) j 0)) (value_of S (get_or (places_of F) (length F - 1) 0)) (value_of S (get_or numbers i 0)) (rw (x, y) at a) top
      | inr b ↦ let s : j ≡ length F - 1 = omega (arith, h, b) in rw s top
    ]

-- the first key of a value
pub first_more : (S : List Value) (K F G : List (ℕ × ℕ)) (R : List ℕ) (i : ℕ) → i < length K → G ≡ F ++ get_or K i (0, 0) ∷ [] → IsRise S (places_of K) i → IsKeyIn S (get_or K i (0, 0))
    → RankFirsts S (places_of K) F R i → RankFirsts S (places_of K) G (set R (get_or K i (0, 0)).1 (length G - 1)) (i + 1)
first_more S K F G R i h e rise p f = rw e (record {
  fewer = omega (arith, f.fewer, long);
  many = length-set R k.1 (length (F ++ k ∷ []) - 1) ∙ f.many;
  keys = ascending_more S F k f.keys p (λ j b. rw read (last_place S (places_of K) F R i f rise j b));
  last = λ z. (omega (arith, long), rw one (ap (value_of S) (top ∙ read)));
  ranked = ranks_more S (places_of K) F (F ++ k ∷ []) R i k.1 (length (F ++ k ∷ []) - 1) (omega (arith, long)) same read (omega (arith, p.below, f.many)) (omega (arith, long)) (ap (value_of S) top) f.ranked;
})
  where
    k : ℕ × ℕ
    k = get_or K i (0, 0)

    read : k.1 ≡ get_or (places_of K) i 0
    read = number_read K i (0, 0) h

    long : length (F ++ k ∷ []) ≡ length F + 1
    long = length_push F k

    one : i + 1 - 1 ≡ i
    one = omega arith

    top : get_or (places_of (F ++ k ∷ [])) (length (F ++ k ∷ []) - 1) 0 ≡ k.1
    top =
        let s : length (places_of F) ≡ length (F ++ k ∷ []) - 1 = omega (arith, long, places_many F) in
        ap (λ (l : List ℕ). get_or l (length (F ++ k ∷ []) - 1) 0) (places_push F k) ∙ get_or_push (places_of F) k.1 0 (length (F ++ k ∷ []) - 1) s

    same : (j : ℕ) → j < length F → get_or (places_of (F ++ k ∷ [])) j 0 ≡ get_or (places_of F) j 0
    same j b = ap (λ (l : List ℕ). get_or l j 0) (places_push F k) ∙ get_or_append_left (places_of F) (k.1 ∷ []) 0 j (omega (arith, b, places_many F))

-- another key of the last value
pub repeat_more : (S : List Value) (K F : List (ℕ × ℕ)) (R : List ℕ) (i : ℕ) → i < length K → IsRepeat S (places_of K) i → IsKeyIn S (get_or K i (0, 0))
    → RankFirsts S (places_of K) F R i → RankFirsts S (places_of K) F (set R (get_or K i (0, 0)).1 (length F - 1)) (i + 1)
repeat_more S K F R i h again p f = record {
  fewer = omega (arith, f.fewer);
  many = length-set R (get_or K i (0, 0)).1 (length F - 1) ∙ f.many;
  keys = f.keys;
  last = λ z. (l.0, rw one (l.1 ∙ sym again.1));
  ranked = ranks_more S (places_of K) F F R i (get_or K i (0, 0)).1 (length F - 1) (omega arith) (λ j b. refl) read (omega (arith, p.below, f.many)) (omega (arith, l.0)) (l.1 ∙ sym again.1 ∙ ap (value_of S) (sym read)) f.ranked;
}
  where
    l : (0 < length F) × (value_of S (get_or (places_of F) (length F - 1) 0) ≡ value_of S (get_or (places_of K) (i - 1) 0))
    l = f.last again.0

    read : (get_or K i (0, 0)).1 ≡ get_or (places_of K) i 0
    read = number_read K i (0, 0) h

    one : i + 1 - 1 ≡ i
    one = omega arith

-- no key yet
pub no_firsts : (S : List Value) (numbers R : List ℕ) → length R ≡ length S → RankFirsts S numbers [] R 0
no_firsts S numbers R m = record {
  fewer = omega arith;
  many = m;
  keys = record { ascend = λ i j d h k. absurd (omega arith); below = λ n q. elim q [ ]; keyed = λ j h. absurd (omega (arith, h)) };
  last = λ z. absurd (omega (arith, z));
  ranked = λ k h. absurd (omega (arith, h));
}

-- all keys
pub all_firsts : (S : List Value) (K F : List (ℕ × ℕ)) (R : List ℕ) (i : ℕ) → i ≡ length K → SortsNumbers S (places_of K) → RankFirsts S (places_of K) F R i → DistinctRanks S F R
all_firsts S K F R i e s f = record {
  fewer = omega (arith, f.fewer, e, many);
  many = f.many;
  keys = f.keys;
  ranked = λ n h.
      let c = contains_from_in (s.all n h) in
      let at : get_or (places_of K) c.0 0 ≡ n = get_or_default (places_of K) c.0 0 n c.1 ∙ c.2 in
      rw at at (f.ranked c.0 (omega (arith, c.1, e, places_many K)));
}
  where
    many : length K ≡ length S
    many = sym (places_many K) ∙ s.many

-- what the keys and the ranks come to
pub ordering : (S : List Value) (F : List (ℕ × ℕ)) (R : List ℕ) → DistinctRanks S F R → IsOrdering S (map (value_of S) (places_of F)) R
ordering S F R d = record {
  ascend = d.keys.ascend;
  fewer = omega (arith, d.fewer, long);
  only = λ v m.
      let q = from_map (value_of S) (places_of F) m in
      rw (← q.2) (in_at S q.0 (Const []) (d.keys.below q.0 q.1));
  ranked = d.many;
  within = λ n h. let w = (d.ranked n h).within in omega (arith, w, long);
  at = λ n h.
      let r = d.ranked n h in
      get_or-map (value_of S) (places_of F) (get_or R n 0) 0 (Const []) (omega (arith, r.within, places_many F)) ∙ r.is;
}
  where
    long : length (map (value_of S) (places_of F)) ≡ length F
    long = length-map (places_of F) (value_of S) ∙ places_many F
