-- The rows of a rule from the tuples that are shown.
use Rattle.std.proofs.Common.{◌⊎◌, ◌∙◌, ◌<◌, ◌∷◌, ℕ, suc, List, [], inl, inr, sym, subst, arith}
use Rattle.std.specs.Prelude.{flat_map}
use Rattle.std.proofs.lemmas.Bool.{cases_eq}
use Rattle.dx_base.specs.Members.{◌∈◌, here, there}
use Rattle.dx_base.proofs.Members.{from_flat_map}
use Rattle.dx_model.specs.declared.rules.Cell.{Cell}
use Rattle.dx_model.specs.declared.rules.Cell.TheVariants.{Var}
use Rattle.dx_model.specs.declared.rules.Rule.{Rule}
use Rattle.dx_model.specs.Fitting.{AtomsFitWidths, IsRule, ByFirstAppearance, cell_variable}
use Rattle.dx_model.specs.Rules.{after_cells, cells_of, exported}
use Rattle.dx_model.proofs.Canonical.{from_variables}
use Rattle.dx_model.proofs.Frozen.{few_in_cells, few_numbered}
use Rattle.dx_model.proofs.RowsExist.{from_variable}
use Rattle.dx_model.proofs.Cells.{variables_few}
use Rattle.dx_joins.specs.Shown.{FitsMatching}

pub numbered_in : (n m : ℕ) (xs : List ℕ) → ByFirstAppearance n xs m → (x : ℕ) → x < m → (x < n) ⊎ (x ∈ xs)
numbered_in n m [] e x h = inl (omega (arith, h, e))
numbered_in n m (y ∷ xs) h x k = elim h [
  | inl p ↦ elim (numbered_in n m xs p.1 x k) [ inl l ↦ inl l | inr q ↦ inr (there q) ]
  | inr p ↦ elim (numbered_in (suc n) m xs p.1 x k) [
    | inl l ↦ elim (cases_eq x n) [ inl e ↦ inr (here (p.0 ∙ sym e)) | inr d ↦ inl (omega (arith, l, d)) ]
    | inr q ↦ inr (there q)
  ]
]

in_cells : (x : ℕ) (cs : List Cell) → x ∈ flat_map cell_variable cs → Var x ∈ cs
in_cells x cs m = let r = from_flat_map cell_variable cs m in subst (λ (c : Cell). c ∈ cs) (from_variable x r.0 r.2) r.1

-- a rule can be matched, and its exported variables shown
pub rule_fits : (widths : List ℕ) (d : Rule) → IsRule d → AtomsFitWidths widths d.premise → FitsMatching widths d.premise d.derived (exported d)
rule_fits widths d r w =
    let up = few_numbered 0 (after_cells (cells_of d.premise)) (flat_map cell_variable (cells_of d.premise)) r.numbered in
    let few = few_in_cells (cells_of d.premise) in
    record {
      some = r.some_premise;
      plain = r.plain;
      wide = w;
      numbered = λ x h. elim (numbered_in 0 (after_cells (cells_of d.premise)) (flat_map cell_variable (cells_of d.premise)) r.numbered x h) [ inl l ↦ absurd (omega (arith, l)) | inr m ↦ in_cells x (cells_of d.premise) m ];
      args = r.derived;
      known = λ x m. r.known x (from_variables x (cells_of d.conclusion) m);
      numbers = let k = r.few_variables in omega (arith, up, few, k);
      few = let k = r.few_variables in omega (arith, k);
      short = let k = r.few_cells in let e = variables_few (cells_of d.conclusion) in omega (arith, k, e);
    }
