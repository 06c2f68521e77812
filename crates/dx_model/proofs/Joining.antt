-- Maps of closed parts join.
use Rattle.std.proofs.Common.{◌≡◌, List, [], ◌∷◌, ◌⊎◌, inl, inr, refl, subst}
use Rattle.std.specs.Prelude.{flat_map}
use Rattle.dx_model.specs.declared.values.NullId.{NullId}
use Rattle.dx_model.specs.declared.values.Value.{Value}
use Rattle.dx_model.specs.declared.values.Value.TheVariants.{Null}
use Rattle.dx_model.specs.declared.facts.Fact.{Fact}
use Rattle.dx_base.specs.Members.{◌∈◌, ◌⊆◌, here, there, Each}
use Rattle.dx_base.proofs.Members.{in_flat_map, from_flat_map}
use Rattle.dx_model.specs.Instances.{values, Moves}
use Rattle.dx_model.specs.Blocks.{IsClosedPart}
use Rattle.dx_model.specs.Laws.{PartsJoin}
use Rattle.dx_model.proofs.Decided.{same_value, same_fact, decide_in}
use Rattle.dx_model.proofs.Reduction.{fact_same}

module _ (A B F G : List Fact) (g h : NullId → Value) (c : IsClosedPart A F) (inside : G ⊆ A) (by_g : Moves g F B) (by_h : Moves h G B) where
  -- the nulls of F go by g, and the others by h
  choose : (n : NullId) → (Null n ∈ values F) ⊎ (¬ (Null n ∈ values F)) → Value
  choose n (inl m) = g n
  choose n (inr m) = h n

  joined : NullId → Value
  joined n = choose n (decide_in same_value (Null n) (values F))

  of_part : (n : NullId) → Null n ∈ values F → joined n ≡ g n
  unfolding joined choose
  of_part n m = go (decide_in same_value (Null n) (values F))
    where
      go : (o : (Null n ∈ values F) ⊎ (¬ (Null n ∈ values F))) → choose n o ≡ g n
      go (inl k) = refl
      go (inr k) = absurd (k m)

  of_rest : (n : NullId) → ¬ (Null n ∈ values F) → joined n ≡ h n
  unfolding joined choose
  of_rest n m = go (decide_in same_value (Null n) (values F))
    where
      go : (o : (Null n ∈ values F) ⊎ (¬ (Null n ∈ values F))) → choose n o ≡ h n
      go (inl k) = absurd (m k)
      go (inr k) = refl

  part_moves : Moves joined F B
  part_moves f m = rw (fact_same joined g f (λ n k. of_part n (in_flat_map (λ (e : Fact). e.row) m k))) (by_g f m)

  rest_moves : Moves joined G B
  rest_moves f m = elim (decide_in same_fact f F) [
    | inl k ↦ part_moves f k
    | inr k ↦ rw (fact_same joined h f (λ n l. of_rest n (λ i. k (shares n l i)))) (by_h f m)
  ]
    where
      shares : (n : NullId) → Null n ∈ f.row → Null n ∈ values F → f ∈ F
      shares n l i = let w = from_flat_map (λ (e : Fact). e.row) F i in c.closed w.0 f n w.1 (inside f m) w.2 l

pub parts_join : PartsJoin
parts_join A B [] c m = (Null, λ F k. elim k [ ])
parts_join A B (F ∷ parts) c m =
    let first = m F (here refl) in
    let rest = parts_join A B parts (λ E k. c E (there k)) (λ E k. m E (there k)) in
    let G : List Fact = flat_map (λ (E : List Fact). E) parts in
    let inside : G ⊆ A = λ f k. let w = from_flat_map (λ (E : List Fact). E) parts k in (c w.0 (there w.1)).inside f w.2 in
    let by_rest : Moves rest.0 G B = λ f k. let w = from_flat_map (λ (E : List Fact). E) parts k in rest.1 w.0 w.1 f w.2 in
    (joined A B F G first.0 rest.0 (c F (here refl)) inside first.1 by_rest, each first.0 first.1 rest.0 inside by_rest)
  where
    each : (g : NullId → Value) (by_g : Moves g F B) (h : NullId → Value) (inside : flat_map (λ (E : List Fact). E) parts ⊆ A) (by_h : Moves h (flat_map (λ (E : List Fact). E) parts) B)
        → Each (F ∷ parts) (λ E. Moves (joined A B F (flat_map (λ (E : List Fact). E) parts) g h (c F (here refl)) inside by_g by_h) E B)
    each g by_g h inside by_h E (here e) =
        subst (λ (D : List Fact). Moves (joined A B F (flat_map (λ (E : List Fact). E) parts) g h (c F (here refl)) inside by_g by_h) D B) e
        (part_moves A B F (flat_map (λ (E : List Fact). E) parts) g h (c F (here refl)) inside by_g by_h)
    each g by_g h inside by_h E (there k) = λ f l.
        rest_moves A B F (flat_map (λ (E : List Fact). E) parts) g h (c F (here refl)) inside by_g by_h f (in_flat_map (λ (E : List Fact). E) k l)
