-- What key steps make of each null, as a function: the invariant of each body of the chase.
use Rattle.std.proofs.Common.{◌≡◌, ℕ, List, [], ◌∷◌, ◌++◌, ◌⊎◌, inl, inr, refl, sym, ◌∙◌, ap}
use Rattle.std.specs.Prelude.{map}
use Rattle.std.proofs.lemmas.Bool.{cases_Bool}
use Rattle.std.specs.declared.cmp.Ordering.TheVariants.{Less, Greater}
use Rattle.dx_model.specs.declared.values.NullId.{NullId}
use Rattle.dx_model.specs.declared.values.Value.{Value}
use Rattle.dx_model.specs.declared.values.Value.TheVariants.{Const, Null}
use Rattle.dx_model.specs.declared.facts.Fact.{Fact}
use Rattle.dx_model.specs.declared.facts.NullPair.{NullPair}
use Rattle.dx_model.specs.Tables.{Table}
use Rattle.dx_model.specs.Tables.{Determination}
use Rattle.dx_model.specs.Values.{value_cmp}
use Rattle.dx_base.specs.Members.{◌∈◌}
use Rattle.dx_model.specs.Instances.{moved, fact_moved, same_null, given, values, image, IsHomomorphism}
use Rattle.dx_model.specs.Tables.{IsInstance, KeysHold, IsKeyed}
use Rattle.dx_model.specs.Chase.{ForcedEqual, IsForcedMap, IsKeyStep, IsClashAt, NoneReceives, AreSteps, after}
use Rattle.dx_base.proofs.Members.{in_map, from_map}
use Rattle.dx_model.proofs.Maps.{same_null-true, listing, is_null_map, listing_gives, listing_pairs, moved_same}
use Rattle.dx_model.proofs.Forced.{fact_twice, steps_forced, clash_none}
use Rattle.dx_model.proofs.Closed.{image_fits}
use Rattle.dx_model.proofs.Orders.{not_above}
use Rattle.dx_keys.proofs.Reached.{from_moved, null_stands, facts_moved, less_then, steps_more, after_more}

-- h is what the steps make of each null
pub record Followed (schema : List Table) (A : List Fact) (h : NullId → Value) (ss : List NullPair) : Type 0 where
  pub there : map (fact_moved h) A ≡ after ss A
  pub steps : AreSteps schema A ss
  pub to : (n k : NullId) → Null n ∈ values A → h n ≡ Null k → Null k ∈ values A
  pub from : (n : NullId) → (h n ≡ Null n) ⊎ (Null n ∈ values A)
  pub least : (n : NullId) → (h n ≡ Null n) ⊎ (value_cmp (h n) (Null n) ≡ Less)
  pub forced : (n : NullId) → ForcedEqual schema A (Null n) (h n)

-- first h, and then the pair
abbrev pub then_one : NullPair → (NullId → Value) → NullId → Value
then_one p h n = moved (given (p ∷ [])) (h n)

module _ (schema : List Table) (A : List Fact) (h : NullId → Value) (ss : List NullPair) (F : Followed schema A h ss) where
  image_through : (K : List Fact) (g : List NullPair) → IsKeyed schema K → IsHomomorphism g A K → IsHomomorphism g (map (fact_moved h) A) K
  image_through K g keyed i = record {
    null_map = i.null_map;
    inside = λ f k.
        let a = from_map (fact_moved (given g)) (map (fact_moved h) A) k in
        let b = from_map (fact_moved h) A a.1 in
        let e = ap (fact_moved (given g)) (sym b.2) ∙ fact_twice (given g) h (λ n. sym (F.forced n K g keyed i)) b.0 in
        rw (sym (sym e ∙ a.2)) (i.inside _ (in_map (fact_moved (given g)) b.1));
  }

  nulls_of : (k : NullId) → Null k ∈ values (map (fact_moved h) A) → Null k ∈ values A
  nulls_of k i = go (from_moved h A (Null k) i).0 (from_moved h A (Null k) i).1 (from_moved h A (Null k) i).2
    where
      go : (w : Value) → w ∈ values A → moved h w ≡ Null k → Null k ∈ values A
      go (Const t) l e = absurd (none e)
        where
          none : Const t ≡ Null k → ⊥
          none e = cc
      go (Null j) l e = F.to j k l e

  module _ (p : NullPair) (s : IsKeyStep schema (map (fact_moved h) A) p) where
    step_forced : ForcedEqual schema A (Null p.null) p.value
    step_forced K g keyed i = steps_forced schema (map (fact_moved h) A) p s K g keyed (image_through K g keyed i)

    value_kept : (K : List Fact) (g : List NullPair) → IsKeyed schema K → IsHomomorphism g A K → (v : Value) → moved (given g) v ≡ moved (given g) (moved (given (p ∷ [])) v)
    value_kept K g keyed i (Const t) = refl
    value_kept K g keyed i (Null j) = elim (cases_Bool (same_null p.null j)) [
      | inl t ↦ rw t (ap (given g) (sym (same_null-true p.null j t)) ∙ step_forced K g keyed i)
      | inr n ↦ rw n refl
    ]

    value_to : (v : Value) → ((k : NullId) → v ≡ Null k → Null k ∈ values A) → (k : NullId) → moved (given (p ∷ [])) v ≡ Null k → Null k ∈ values A
    value_to (Const t) f k e = f k e
    value_to (Null j) f k e = elim (cases_Bool (same_null p.null j)) [
      | inl t ↦ nulls_of k (null_stands (map (fact_moved h) A) s.b s.c k s.break.right (s.value ∙ (rw t at e)))
      | inr n ↦ f k (rw n at e)
    ]

    value_from : (n : NullId) → (h n ≡ Null n) ⊎ (Null n ∈ values A) → (then_one p h n ≡ Null n) ⊎ (Null n ∈ values A)
    value_from n (inr m) = inr m
    value_from n (inl e) = elim (cases_Bool (same_null p.null n)) [
      | inl t ↦ inr (rw (same_null-true p.null n t) at (nulls_of p.null (null_stands (map (fact_moved h) A) s.a s.c p.null s.break.left s.null)))
      | inr f ↦ inl (rw (e, f) refl)
    ]

    value_least : (n : NullId) → (h n ≡ Null n) ⊎ (value_cmp (h n) (Null n) ≡ Less)
        → (then_one p h n ≡ Null n) ⊎ (value_cmp (then_one p h n) (Null n) ≡ Less)
    value_least n (inr l) = inr (less_then p n (h n) s.less l)
    value_least n (inl e) = elim (cases_Bool (same_null p.null n)) [
      | inl t ↦ inr (rw (e, t) (rw (ap Null (sym (same_null-true p.null n t))) s.less))
      | inr f ↦ inl (rw (e, f) refl)
    ]

    pub followed_more : Followed schema A (then_one p h) (ss ++ p ∷ [])
    followed_more = record {
      there = sym (facts_moved (given (p ∷ [])) h (then_one p h) (λ n. refl) A) ∙ (ap (image (p ∷ [])) F.there ∙ sym (after_more p ss A));
      steps = steps_more schema p ss A F.steps (rw (sym F.there) s);
      to = λ n k i e. value_to (h n) (λ j q. F.to n j i q) k e;
      from = λ n. value_from n (F.from n);
      least = λ n. value_least n (F.least n);
      forced = λ n K g keyed i. F.forced n K g keyed i ∙ value_kept K g keyed i (h n);
    }

  pub clash_followed : (a b : Fact) (d : Determination) (c : ℕ) → IsClashAt schema (map (fact_moved h) A) a b d c → NoneReceives schema A
  clash_followed a b d c s K g keyed i = clash_none schema (map (fact_moved h) A) a b d c s K g keyed (image_through K g keyed i)

  -- the null map that lists h is the forced map, if keys hold in the image
  module _ (fits : IsInstance schema A) (keys : KeysHold schema (map (fact_moved h) A)) where
    pub image_listed : image (listing h (values A)) A ≡ map (fact_moved h) A
    image_listed = moved_same (given (listing h (values A))) h A (λ n i. listing_gives h n (values A) i)

    listed_into : IsHomomorphism (listing h (values A)) A (map (fact_moved h) A)
    listed_into = record { null_map = is_null_map h (values A); inside = λ f k. rw image_listed at k }

    equal_at : (n : NullId) (v : Value) → Null n ∈ values A → ForcedEqual schema A (Null n) v → h n ≡ moved (given (listing h (values A))) v
    equal_at n v i f =
        sym (listing_gives h n (values A) i)
        ∙ f (map (fact_moved h) A) (listing h (values A)) (record { fits = image_fits schema A h fits; keys = keys }) listed_into

    not_after : (k : NullId) → (h k ≡ Null k) ⊎ (value_cmp (h k) (Null k) ≡ Less) → ¬ (value_cmp (h k) (Null k) ≡ Greater)
    not_after k (inl e) g = not_above k (rw e at g)
    not_after k (inr l) g = clash (sym g ∙ l)
      where
        clash : Greater ≡ Less → ⊥
        clash e = cc

    pub followed_forced : IsForcedMap schema A (listing h (values A))
    followed_forced = record {
      null_map = is_null_map h (values A);
      here_alone = λ p l. (listing_pairs h (values A) p l).0;
      gives = λ n i. rw (listing_gives h n (values A) i) (record {
        forced = F.forced n;
        constant = λ t f. equal_at n (Const t) i f;
        of_here = λ k e. F.to n k i e;
        least = λ k l f. rw (equal_at n (Null k) i f ∙ listing_gives h k (values A) l) (not_after k (F.least k));
      });
    }

pub followed_first : (schema : List Table) (A : List Fact) → A ≡ map (fact_moved Null) A → Followed schema A Null []
followed_first schema A e = record { there = sym e; steps = tt; to = λ n k i q. rw (← q) i; from = λ n. inl refl; least = λ n. inl refl; forced = λ n K g keyed i. refl }
