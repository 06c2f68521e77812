-- The whole of a premise with derived variables.
use Rattle.std.proofs.Common.{◌≡◌, ◌↔◌, ◌∙◌, ◌<◌, ◌≤◌, ◌+◌, ◌^◌, ◌++◌, ℕ, List, [], sym, ap, arith, length, Result, Ok, Err, Option, None, Some}
use Rattle.std.specs.Prelude.{map, IfOk, MatchOption}
use Rattle.std.specs.List.{range_with_len}
use Rattle.std.specs.declared.alloc.AllocError.{AllocError}
use Rattle.dx_base.specs.Members.{◌∈◌, ◌⊆◌, Each}
use Rattle.dx_base.proofs.Members.{in_map, from_map}
use Rattle.dx_base.proofs.Tests.{map_same}
use Rattle.dx_model.specs.declared.values.Value.{Value}
use Rattle.dx_model.specs.declared.facts.Fact.{Fact}
use Rattle.dx_model.specs.declared.rules.Atom.{Atom}
use Rattle.dx_model.specs.declared.rules.Derived.{Derived}
use Rattle.dx_model.specs.Values.{Conversions, Tuple}
use Rattle.dx_model.specs.Rules.{after_cells, cells_of}
use Rattle.dx_instance.specs.Numbers.{Extends}
use Rattle.dx_instance.specs.Cells.{NumberTable}
use Rattle.dx_joins.specs.Shown.{FitsMatching, IsMatchTuple, MoreTuples, StandFor, texts_of}
use Rattle.dx_joins.specs.Derivations.{GivenBy, IsVariableWanted, given_to}
use Rattle.dx_joins.proofs.Growing.{texts_grow, texts_stay}
use Rattle.dx_joins.proofs.Derived.{derived_from, derived_to}
use Rattle.dx_joins.proofs.Wanting.{args_known, shown_known}

pub stand_grow : (w : ℕ) (P : Tuple → Type 0) (S S' : List Value) (table : NumberTable) → Extends S S' → StandFor w P S table → StandFor w P S' table
stand_grow w P S S' table e s =
    let same : map (texts_of S') table.rows ≡ map (texts_of S) table.rows = map_same (texts_of S') (texts_of S) table.rows (λ r m. texts_stay S S' r e (s.texts r m)) in
    record { width = s.width; ascend = s.ascend; texts = λ r m. texts_grow S S' r e (s.texts r m); exact = λ t. rw same (s.exact t) }

pub result_grow : (result : Result (Option NumberTable) AllocError) (most w : ℕ) (P : Tuple → Type 0) (S S' : List Value) → Extends S S'
    → IfOk result (λ o. MatchOption o (MoreTuples most P) (StandFor w P S)) → IfOk result (λ o. MatchOption o (MoreTuples most P) (StandFor w P S'))
result_grow (Err x) most w P S S' e k = tt
result_grow (Ok None) most w P S S' e k = k
result_grow (Ok (Some r)) most w P S S' e k = stand_grow w P S S' r e k

pub result_same : (result : Result (Option NumberTable) AllocError) (most w : ℕ) (P Q : Tuple → Type 0) (S : List Value) → ((t : Tuple) → P t ↔ Q t)
    → IfOk result (λ o. MatchOption o (MoreTuples most P) (StandFor w P S)) → IfOk result (λ o. MatchOption o (MoreTuples most Q) (StandFor w Q S))
result_same (Err x) most w P Q S s k = tt
result_same (Ok None) most w P Q S s k = record { tuples = k.tuples; distinct = k.distinct; each = λ t m. (s t).0 (k.each t m); more = k.more; few = k.few }
result_same (Ok (Some r)) most w P Q S s k = record { width = k.width; ascend = k.ascend; texts = k.texts; exact = λ t. ((λ m. (s t).0 ((k.exact t).0 m)), (λ q. (k.exact t).1 ((s t).1 q))) }

pub none_found : (o : Option NumberTable) (Q : Tuple → Type 0) (R : NumberTable → Type 0) → o ≡ None → MatchOption o (MoreTuples 18446744073709551615 Q) R → ⊥
none_found None Q R e m = let a = m.more in let b = m.few in absurd (omega (arith, a, b))
none_found (Some r) Q R e m = absurd (cc e)

module _ (widths : List ℕ) (premise : List Atom) (derived : List Derived) (shown wanted : List ℕ) (first : ℕ) (fits : FitsMatching widths premise derived shown) (is : first ≡ after_cells (cells_of premise))
    (below : Each wanted (λ x. x < first)) (all : (x : ℕ) → x < first → IsVariableWanted derived shown x → x ∈ wanted) (few : length wanted ≤ first) where
  pub fits_wanted : FitsMatching widths premise [] wanted
  fits_wanted = record {
    some = fits.some;
    plain = fits.plain;
    wide = fits.wide;
    numbered = fits.numbered;
    args = λ e m. none m;
    known = λ x m. let b = below x m in omega (arith, b, is);
    numbers = let n = fits.numbers in omega (arith, n);
    few = fits.few;
    short = let n = fits.numbers in omega (arith, n, is, few);
  }
    where
      none : {Z : Type 0} {e : Derived} → e ∈ [] → Z
      none m = elim m [ ]

  pub args_wanted : Each derived (λ (e : Derived). e.args ⊆ wanted)
  args_wanted = args_known derived shown wanted first all (λ e m. rw is (fits.args e m))

  pub shown_wanted : shown ⊆ (wanted ++ range_with_len first (length derived))
  shown_wanted = shown_known derived shown wanted first all (λ x m. rw is (fits.known x m))

  pub room_wanted : first + length derived < 2 ^ 32
  room_wanted = let n = fits.numbers in omega (arith, n, is)

  pub given_same : (convert : Conversions) (I : List Fact) (S : List Value) (table : NumberTable) → StandFor (length wanted) (IsMatchTuple convert premise [] I wanted) S table
      → (t : Tuple) → GivenBy convert wanted derived first shown S table.rows t ↔ IsMatchTuple convert premise derived I shown t
  given_same convert I S table s t = (
    (λ g. derived_to convert wanted premise derived I first shown is below args_wanted shown_wanted t (texts_of S g.0, (s.exact (texts_of S g.0)).0 (in_map (texts_of S) g.1), g.2)),
    (λ q. let u = derived_from convert wanted premise derived I first shown is below args_wanted shown_wanted t q in
        let r = from_map (texts_of S) table.rows ((s.exact u.0).1 u.1) in
        (r.0, r.1, u.2 ∙ ap (given_to convert wanted derived first shown) (sym r.2))),
  )

pub no_derived : (convert : Conversions) (premise : List Atom) (derived : List Derived) (I : List Fact) (shown : List ℕ) → derived ≡ [] → (t : Tuple) → IsMatchTuple convert premise [] I shown t ↔ IsMatchTuple convert premise derived I shown t
no_derived convert premise derived I shown e t = rw e ((λ x. x), (λ x. x))
