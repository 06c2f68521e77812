-- Places that agree with a fact in the columns that are known.
use Rattle.std.proofs.Common.{◌≡◌, ℕ, ◌<◌, ◌≤◌, List, [], ◌∷◌, length, get_or, refl, sym, ◌∙◌, ap, arith, inl, inr}
use Rattle.std.specs.Prelude.{map, Option, Some, None}
use Rattle.std.proofs.lemmas.Bool.{cases_lt}
use Rattle.std.proofs.lemmas.List.{get_or-map}
use Rattle.dx_base.specs.Members.{◌∈◌}
use Rattle.dx_model.specs.declared.values.NullId.{NullId}
use Rattle.dx_model.specs.declared.values.Value.{Value}
use Rattle.dx_model.specs.declared.values.Value.TheVariants.{Const, Null}
use Rattle.dx_model.specs.declared.facts.Fact.{Fact}
use Rattle.dx_model.specs.Instances.{moved, fact_moved}
use Rattle.dx_instance.specs.NullMaps.{ByNull}
use Rattle.dx_instance.specs.Stored.{TableRows, rows_of}
use Rattle.dx_instance.specs.Places.{HasValues, IsFirstWith, row_at, value_at, fact_at}
use Rattle.dx_hom.specs.declared.matching.Found.{Found}
use Rattle.dx_hom.specs.Narrowing.{ExtendsPartialMap, null_value}
use Rattle.dx_hom.specs.Searching.{IsAhead, IsKnownImage, NotFrom}

-- ---- what is known

pub known_const : (T : List TableRows) (found : List Found) (v : Value) (t : List ℕ) → v ≡ Const t → IsKnownImage T found v v
known_const T found v t e g w = rw e refl

pub known_null : (T : List TableRows) (found : List Found) (v w : Value) (n : NullId) (b : Found) → v ≡ Null n → b ∈ found → b.null ≡ n
    → w ≡ null_value T b → IsKnownImage T found v w
known_null T found v w n b e m d h g k = let at : g n ≡ w = ap g (sym d) ∙ (k b m ∙ sym h) in rw e at

-- ---- places ahead of which there is none

module _ (T : List TableRows) (fixed : ByNull) (found : List Found) (f : Fact) where
  -- a place that lacks what is known of a column is no image
  other_column : (c p : ℕ) (x v : Value) → c < length f.row → x ≡ get_or f.row c x → IsKnownImage T found x v
      → ¬ (HasValues T f.table (c ∷ []) (v ∷ []) p) → (g : NullId → Value) → ExtendsPartialMap T fixed found g
      → ¬ (fact_moved g f ≡ fact_at T f.table p)
  other_column c p x v h e known none g w q =
      let r : map (moved g) f.row ≡ row_at T f.table p = ap (λ (y : Fact). y.row) q in
      let d : get_or (row_at T f.table p) c (Const []) ≡ moved g x =
      ap (λ l. get_or l c (Const [])) (sym r) ∙ (get_or-map (moved g) f.row c x (Const []) h ∙ ap (moved g) (sym e)) in
      let k : value_at T f.table p c ≡ v = d ∙ known g w.cell_values in
      none (ap (λ y. y ∷ []) k)

  pub by_column : (c n : ℕ) (x v : Value) → c < length f.row → x ≡ get_or f.row c x → IsKnownImage T found x v → (r : Option ℕ)
      → IsFirstWith T f.table (c ∷ []) (v ∷ []) n r → IsAhead T fixed found f n r
  by_column c n x v h e known None a = λ p g l k w. other_column c p x v h e known (a p l k) g w
  by_column c n x v h e known (Some q) a = (a.0, a.1, λ p g l k w. other_column c p x v h e known (a.2 p l k) g w)

  pub none_ahead : (n : ℕ) → length (rows_of T f.table) ≤ n → IsAhead T fixed found f n None
  none_ahead n h p g l k = absurd (omega (arith, h, l, k))

  pub ahead_here : (n : ℕ) → n < length (rows_of T f.table) → IsAhead T fixed found f n (Some n)
  ahead_here n h = (omega arith, h, λ p g l k. absurd (omega (arith, l, k)))

  pub not_from_here : (n : ℕ) → NotFrom T fixed found f n n
  not_from_here n p g l k = absurd (omega (arith, l, k))

  pub not_from_on : (a b c : ℕ) → NotFrom T fixed found f a b → NotFrom T fixed found f b c → NotFrom T fixed found f a c
  not_from_on a b c h k p g l m w = elim (cases_lt p b) [ inl d ↦ h p g l d w | inr d ↦ k p g d m w ]
