-- Collections that gain what comes of the rows of a list, by their places.
use Rattle.std.proofs.Common.{◌≡◌, ◌⊎◌, ◌∙◌, ◌<◌, ◌≤◌, ◌+◌, ◌%◌, ℕ, List, [], Bool, sym, ap, subst, arith, length, inl, inr}
use Rattle.std.specs.Prelude.{slice_index}
use Rattle.std.proofs.lemmas.Bool.{cases_lt}
use Rattle.std.proofs.lemmas.List.{get_or-map, get_or_default, length-map}
use Rattle.dx_base.specs.Members.{◌∈◌}
use Rattle.dx_base.proofs.Members.{in_at, contains_from_in}
use Rattle.dx_instance.specs.Cells.{row_key, numbers_at}
use Rattle.dx_joins.specs.declared.plan.Plan.{Plan}
use Rattle.dx_joins.specs.Collecting.{Collection, CollectsRows, MoreThan}
use Rattle.dx_joins.specs.Looking.{IsNextInBucket, keys_of, numbers_at_places}
use Rattle.dx_joins.specs.Planning.{IsJoinPlan, Pairs}
use Rattle.dx_joins.proofs.Places.{keys_meet}
use Rattle.dx_joins.proofs.Collections.{gains_nothing, gains_same, gains_then, more_then}

module _ (E : List ℕ → List ℕ → Type 0) (rows : List (List ℕ)) where
  abbrev pub By : ℕ → List ℕ → Type 0
  By i t = (q : ℕ) × (q < i) × E (numbers_at rows q) t

  abbrev pub One : List ℕ → Type 0
  One t = (r : List ℕ) × (r ∈ rows) × E r t

  pub by_none : (c : Collection) → CollectsRows c c (By 0)
  by_none c = gains_nothing c (By 0) (λ t p. absurd (omega (arith, p.1)))

  pub by_more : (old mid new : Collection) (i : ℕ) → CollectsRows old mid (By i) → CollectsRows mid new (E (numbers_at rows i)) → CollectsRows old new (By (i + 1))
  by_more old mid new i g h = gains_then old mid new (By i) (E (numbers_at rows i)) (By (i + 1)) (λ t. (
    (λ m. elim m [ inl p ↦ (p.0, omega (arith, p.1), p.2) | inr e ↦ (i, omega arith, e) ]),
    (λ p. elim (cases_lt p.0 i) [
      | inl b ↦ inl (p.0, b, p.2)
      | inr b ↦ let q : p.0 ≡ i = omega (arith, b, p.1) in inr (subst (λ (k : ℕ). E (numbers_at rows k) t) q p.2)
    ]),
  )) g h

  pub by_skip : (old new : Collection) (i j : ℕ) → i ≤ j → ((q : ℕ) → i ≤ q → q < j → (t : List ℕ) → ¬ (E (numbers_at rows q) t)) → CollectsRows old new (By i) → CollectsRows old new (By j)
  by_skip old new i j h n g = gains_same old new (By i) (By j) (λ t. (
    (λ p. (p.0, omega (arith, h, p.1), p.2)),
    (λ p. elim (cases_lt p.0 i) [ inl b ↦ (p.0, b, p.2) | inr b ↦ absurd (n p.0 (omega (arith, b)) p.1 t p.2) ]),
  )) g

  pub by_full : (old mid : Collection) (i : ℕ) → i < length rows → CollectsRows old mid (By i) → MoreThan mid.most (λ t. (t ∈ mid.rows) ⊎ E (numbers_at rows i) t) → MoreThan old.most (λ t. (t ∈ old.rows) ⊎ One t)
  by_full old mid i h g m = more_then old mid (By i) (E (numbers_at rows i)) One
      (λ t p. (numbers_at rows p.0, in_at rows p.0 [] (omega (arith, p.1, h)), p.2)) (λ t e. (numbers_at rows i, in_at rows i [] h, e)) g m

  pub by_all : (old new : Collection) (i : ℕ) → i ≡ length rows → CollectsRows old new (By i) → CollectsRows old new One
  by_all old new i e g = gains_same old new (By i) One (λ t. (
    (λ p. (numbers_at rows p.0, in_at rows p.0 [] (omega (arith, p.1, e)), p.2)),
    (λ p. let a = contains_from_in p.1 in
        let r : numbers_at rows a.0 ≡ p.0 = get_or_default rows a.0 [] p.0 a.1 ∙ a.2 in
        (a.0, omega (arith, a.1, e), subst (λ (x : List ℕ). E x t) (sym r) p.2)),
  )) g

-- a row whose key falls into another bucket joins with nothing
pub other_bucket : (p : Plan) (marks : List Bool) (rows : List (List ℕ)) (left : List ℕ) (m q : ℕ) → IsJoinPlan p → q < length rows
    → ¬ (slice_index (keys_of p.by_right.items rows) q % m ≡ row_key (numbers_at_places left p.by_left.items) % m) → (t : List ℕ) → ¬ (Pairs p marks left (numbers_at rows q) t)
other_bucket p marks rows left m q i h n t x =
    let at : slice_index (keys_of p.by_right.items rows) q ≡ row_key (numbers_at_places (numbers_at rows q) p.by_right.items) = get_or-map (λ (row : List ℕ). row_key (numbers_at_places row p.by_right.items)) rows q [] 0 h in
    let same = keys_meet p.left.items p.right.items p.kept.items p.by_left.items p.by_right.items left (numbers_at rows q) t i.left_within i.right_within i.shared x.joined in
    n (ap (λ (k : ℕ). k % m) (at ∙ sym same))

pub next_self : (keys : List ℕ) (m b from at : ℕ) → IsNextInBucket keys m b from at → IsNextInBucket keys m b at at
next_self keys m b from at n = record { after = omega arith; within = n.within; skips = λ q l h. absurd (omega (arith, l, h)); falls = n.falls }

pub keys_long : (columns : List ℕ) (rows : List (List ℕ)) → length (keys_of columns rows) ≡ length rows
keys_long columns rows = length-map rows (λ (row : List ℕ). row_key (numbers_at_places row columns))
