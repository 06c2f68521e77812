use Rattle.std.proofs.Common.{◌≡◌, ◌∙◌, ◌*◌, ◌^◌, ap, arith, length, refl}
use Rattle.dx_model.specs.Rules.{exported}
use Rattle.dx_implies.proofs.Bounds.{few_cells}
use Rattle.dx_implies.proofs.bounding.most_cells.Goals as goal

pub returns : goal.returns
returns c =
    let many : c.len.result ≡ length (exported c.args.rule.now) = omega (arith, c.len.ensures, ap length c.in_ok-variables.ensures) in
    few_cells c.args.source.now c.args.rule.now c.most_texts-texts.result c.in-Some.tuples c.conclusion_cells.result (c.in-Some.tuples * c.conclusion_cells.result) c.requires.rule
    (rw c.items.ensures at c.most_texts-texts.ensures) (c.in-Some.ensures.few ∙ ap (λ n. c.most_texts-texts.result ^ n) many) c.conclusion_cells.ensures refl
