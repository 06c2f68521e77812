-- A rule alone, with one atom on the left and no derived variables: it is not tried on many cells, and it stays.
use Rattle.std.proofs.Common.{◌≡◌, ◌<◌, List, [], ◌∷◌, ◌++◌, length, inr, refl, subst, ap, arith}
use Rattle.std.proofs.lemmas.List.{length-append}
use Rattle.dx_base.specs.Members.{◌∈◌, here, there}
use Rattle.dx_model.specs.declared.facts.Fact.{Fact}
use Rattle.dx_model.specs.declared.rules.Atom.{Atom}
use Rattle.dx_model.specs.declared.rules.Rule.{Rule}
use Rattle.dx_model.specs.Following.{CanGo, PrunedAfter, underived}
use Rattle.dx_model.specs.Rules.{AreRows, premise_fact}
use Rattle.dx_model.specs.Values.{Conversions, Rows}
use Rattle.dx_tgd.specs.Counting.{canonical_cells}
use Rattle.dx_implies.specs.Frozen.{PassesFrozen, frozen_premise}
use Rattle.dx_implies.specs.Pruning.{IsPrunedAlways, PassesBeside, PruningPassesLimit}
use Rattle.clio_accept.specs.Mapping.{frozen_cells}

abbrev pub no_conversions : Conversions
no_conversions = λ code texts. []

-- no rules have no cells
pub few_on : (I : List Fact) (rows : Rows) → AreRows no_conversions [] I rows → ¬ (frozen_cells < canonical_cells [] rows)
few_on I rows a h = omega (arith, h)

-- beside no other rule it is not tried on many cells
no_test : (only : Rule) (front : List Rule) (r : Rule) (back kept : List Rule) → only ∷ [] ≡ front ++ r ∷ back
    → PrunedAfter no_conversions (front ++ r ∷ []) back kept → ¬ (PassesBeside frozen_cells (front ++ kept) r)
no_test only [] r [] kept is behind p =
    let q = subst (λ (k : List Rule). PassesFrozen frozen_cells (underived k) r) behind p.1 in
    few_on (frozen_premise r) q.rows (q.are no_conversions) q.more
no_test only [] r (x ∷ back) kept is behind p = let h = ap length is in omega (arith, h)
no_test only (x ∷ front) r back kept is behind p =
    let h = ap length is in
    let k = length-append front (r ∷ back) in omega (arith, h, k)

pub not_tested : (only : Rule) → ¬ (PruningPassesLimit frozen_cells (only ∷ []))
not_tested only p = no_test only p.front p.rule p.back p.kept p.is (p.behind no_conversions) p.passes

module _ (p c : Atom) (cs : List Atom) where
  abbrev pub alone : Rule
  alone = record { premise = p ∷ []; derived = []; conclusion = c ∷ cs }

  abbrev one_fact : List Fact
  one_fact = premise_fact (λ x. []) p ∷ []

  -- it follows from none
  stays : (convert : Conversions) → ¬ (CanGo convert [] alone)
  stays convert g =
      let s = g.1 one_fact [] (λ r m. elim m [ ]) (λ x. []) (record { premise = λ a m. premise a m; derived = tt }) in
      elim (s.1 c (here refl)) [ ]
    where
      premise : (a : Atom) → a ∈ alone.premise → premise_fact (λ x. []) a ∈ one_fact
      premise a (here e) = subst (λ (b : Atom). premise_fact (λ x. []) b ∈ one_fact) e (here refl)
      premise a (there m) = elim m [ ]

  pub is_left : IsPrunedAlways (alone ∷ []) (alone ∷ [])
  is_left convert = ([], refl, inr (stays convert, refl))
