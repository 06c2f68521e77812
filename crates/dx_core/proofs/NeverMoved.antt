-- Rows that no endomorphism moves to a certain row.
use Rattle.std.proofs.Common.{◌≡◌, ◌∙◌, ℕ, zero, suc, ◌<◌, List, [], ◌∷◌, ◌++◌, inl, inr, refl, sym, ap, subst, arith, length, get_or, map}
use Rattle.std.specs.Prelude.{None, Option, Some}
use Rattle.dx_base.specs.Members.{◌∈◌, Each, here, there}
use Rattle.dx_base.proofs.Members.{from_append, from_map, in_at}
use Rattle.dx_model.specs.declared.values.NullId.{NullId}
use Rattle.dx_model.specs.declared.values.Value.{Value}
use Rattle.dx_model.specs.declared.values.Value.TheVariants.{Null}
use Rattle.dx_model.specs.declared.facts.Fact.{Fact}
use Rattle.dx_model.specs.Instances.{fact_moved, moved}
use Rattle.dx_instance.specs.Numbers.{value_of}
use Rattle.dx_instance.specs.Places.{row_at}
use Rattle.dx_instance.specs.Shown.{NumberedInstance, PartsFit, numbers_of_table}
use Rattle.dx_instance.proofs.ShownFacts.{number_same}
use Rattle.dx_blocks.specs.declared.numbered.At.{At}
use Rattle.dx_blocks.specs.Numbered.{IsRowIn, as_null, fact_of, null_under}
use Rattle.dx_rigid.specs.Rigid.{IsRigidValue, IsRigid}
use Rattle.dx_core.specs.NeverMoves.{IsApart, NeverMoves}
use Rattle.dx_core.specs.Asking.{Avoids, KnownAreRigid}
use Rattle.dx_blocks.specs.NullRows.{row_numbers}
use Rattle.dx_core.specs.Left.{shown_by}
use Rattle.dx_core.proofs.Asked.{row_below, row_is, row_wide}

at_column : (g : NullId → Value) (S : List Value) (xs ys : List ℕ) (i : ℕ) → i < length xs → i < length ys
    → map (moved g) (map (value_of S) xs) ≡ map (value_of S) ys → moved g (value_of S (get_or xs i 0)) ≡ value_of S (get_or ys i 0)
at_column g S [] ys i h k e = absurd (omega (arith, h))
at_column g S (x ∷ xs) [] i h k e = absurd (omega (arith, k))
at_column g S (x ∷ xs) (y ∷ ys) zero h k e = cc e
at_column g S (x ∷ xs) (y ∷ ys) (suc i) h k e =
    let d : map (moved g) (map (value_of S) xs) ≡ map (value_of S) ys = cc e in
    at_column g S xs ys i (omega (arith, h)) (omega (arith, k)) d

module _ (N : NumberedInstance) (fit : PartsFit N.symbols N.tables) (from to : At) (r : IsRowIn N from) (q : IsRowIn N to) where
  pub as_wide : from.table ≡ to.table → length (row_numbers N from) ≡ length (row_numbers N to)
  as_wide e = row_wide N fit from r ∙ (ap (λ (t : ℕ). (numbers_of_table N.tables t).width) e ∙ sym (row_wide N fit to q))

  pub other_number : (T : List Fact) (i : ℕ) → i < length (row_numbers N from) → i < length (row_numbers N to)
      → ¬ (get_or (row_numbers N from) i 0 ≡ get_or (row_numbers N to) i 0) → IsRigidValue T (value_of N.symbols (get_or (row_numbers N from) i 0))
      → NeverMoves T (fact_of N from) (fact_of N to)
  other_number T i h k apart kept g moves e =
      let d : map (moved g) (row_at (shown_by N) from.table from.place) ≡ row_at (shown_by N) to.table to.place = ap (λ (f : Fact). f.row) e in
      let v = at_column g N.symbols (row_numbers N from) (row_numbers N to) i h k (rw (row_is N fit from r, row_is N fit to q) at d) in
      apart (number_same N.symbols (get_or (row_numbers N from) i 0) (get_or (row_numbers N to) i 0) fit.apart
      (row_below N fit from r _ (in_at (row_numbers N from) i 0 h)) (row_below N fit to q _ (in_at (row_numbers N to) i 0 k))
      (sym (kept g moves) ∙ v))

-- a fact that can be moved elsewhere can so beside facts that are never moved to it
pub apart_avoids : (N : NumberedInstance) (T : List Fact) (all rows : List At) (at : At) → Each rows (IsApart N T all at)
    → ¬ (Avoids T (map (fact_of N) rows) (fact_of N at)) → ¬ (Avoids T (fact_of N at ∷ []) (fact_of N at))
apart_avoids N T all rows at apart none a = none (
  a.0,
  a.1,
  λ e m j.
      let w = from_map (fact_of N) rows m in elim (apart w.0 w.1).apart [
        | inl q ↦
            let d : fact_of N at ≡ e = ap (fact_of N) (sym q) ∙ w.2 in
            a.2 e (subst (λ (y : Fact). y ∈ (fact_of N at ∷ [])) d (here refl)) j
        | inr n ↦ let d = n a.0 a.1 in subst (λ (y : Fact). ¬ (fact_moved a.0 y ≡ fact_of N at)) w.2 d
      ],
)

pub one_more_apart : (N : NumberedInstance) (T : List Fact) (all rows new : List At) (at r : At) → IsApart N T all at r → new ≡ rows ++ (r ∷ [])
    → Each rows (IsApart N T all at) → Each new (IsApart N T all at)
one_more_apart N T all rows new at r a e before x i = elim (from_append rows (rw e at i)) [
  | inl k ↦ before x k
  | inr k ↦ last k
]
  where
    last : x ∈ (r ∷ []) → IsApart N T all at x
    last (here d) = rw (← d) a
    last (there k) = elim k [ ]

pub only_itself : (N : NumberedInstance) (T : List Fact) (all new : List At) (at : At) → at ∈ all → new ≡ at ∷ [] → Each new (IsApart N T all at)
only_itself N T all new at m e =
    one_more_apart N T all [] new at at (record { row = m; apart = inl refl }) e (λ x i. elim i [ ])

-- a null that is known is kept
pub kept_null : (N : NumberedInstance) (T : List Fact) (nulls : List ℕ) (known : List (Option ℕ)) (x v n : ℕ) (null : NullId)
    → value_of N.symbols x ≡ Null null → get_or nulls v 0 ≡ x → get_or known v None ≡ Some n → KnownAreRigid N T nulls known
    → IsRigidValue T (value_of N.symbols x)
kept_null N T nulls known x v n null e i d k =
    let w = k.rigid v n d in
    let q : n ≡ x = sym w.0 ∙ i in
    let r : IsRigid T (null_under N x) = subst (λ (j : ℕ). IsRigid T (null_under N j)) q w.1 in
    let u : value_of N.symbols x ≡ Null (null_under N x) = e ∙ ap Null (sym (ap as_null e)) in
    subst (λ (y : Value). IsRigidValue T y) (sym u) r

pub other_table : (N : NumberedInstance) (from to : At) → ¬ (from.table ≡ to.table) → (T : List Fact) → NeverMoves T (fact_of N from) (fact_of N to)
other_table N from to k T g moves e = k (ap (λ (f : Fact). f.table) e)
