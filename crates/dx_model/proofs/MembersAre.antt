-- What the canonical instance and its uncovered part have.
use Rattle.std.proofs.Common.{◌≡◌, ℕ, List, sym, ◌∙◌, ap, subst, arith}
use Rattle.dx_model.specs.declared.values.Value.{Value}
use Rattle.dx_model.specs.declared.values.Value.TheVariants.{Null}
use Rattle.dx_model.specs.declared.facts.Fact.{Fact}
use Rattle.dx_model.specs.declared.rules.Rule.{Rule}
use Rattle.dx_base.specs.Members.{◌∈◌}
use Rattle.dx_base.proofs.Members.{in_map, from_map}
use Rattle.dx_model.specs.Values.{Rows}
use Rattle.dx_base.specs.Texts.{Text}
use Rattle.dx_model.specs.Rules.{fact_of_atom, exported, text_of, at_place}
use Rattle.dx_model.specs.Covers.{SaysAt, rule_at, tuple_at}
use Rattle.dx_model.specs.Laws.{CanonicalAre, UncoveredAre}
use Rattle.dx_model.proofs.CoverFold.{from_canonical, in_canonical, from_uncovered, in_uncovered}

module _ (R : List Rule) (rows : Rows) (i k : ℕ) where
  abbrev texts_at : ℕ → Text
  texts_at = text_of (exported (rule_at R i)) (tuple_at rows i k)

  abbrev nulls_at : ℕ → Value
  nulls_at v = Null (record { rule = i; var = v; row = k })

  says : (f : Fact) → f ∈ at_place i (rule_at R i) k (tuple_at rows i k) → SaysAt R rows i k f
  says f m = let w = from_map (fact_of_atom texts_at nulls_at) (rule_at R i).conclusion m in (w.0, w.1, w.2)

  in_place : (f : Fact) → SaysAt R rows i k f → f ∈ at_place i (rule_at R i) k (tuple_at rows i k)
  in_place f s = subst (λ (e : Fact). e ∈ at_place i (rule_at R i) k (tuple_at rows i k)) s.2 (in_map (fact_of_atom texts_at nulls_at) s.1)

pub canonical_are : CanonicalAre
canonical_are R rows f = (
  (λ m.
      let w = from_canonical 0 R rows f m in
      let q : w.0 ≡ w.1 = omega (arith, w.3) in
      (w.1, w.2, w.4, says R rows w.1 w.2 f (rw q at w.5))),
  (λ s. in_canonical 0 R rows s.0 s.0 s.1 (omega arith) s.2 f (in_place R rows s.0 s.1 f s.3)),
)

pub uncovered_are : UncoveredAre
uncovered_are cover R rows f = (
  (λ m.
      let w = from_uncovered cover 0 R rows f m in
      let q : w.0 ≡ w.1 = omega (arith, w.3) in
      (w.1, w.2, w.4, ap (λ i. cover i w.2) (sym q) ∙ w.5, says R rows w.1 w.2 f (rw q at w.6))),
  (λ s. in_uncovered cover 0 R rows s.0 s.0 s.1 (omega arith) s.2 s.3 f (in_place R rows s.0 s.1 f s.4)),
)
