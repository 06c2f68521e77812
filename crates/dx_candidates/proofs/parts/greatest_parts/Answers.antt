use Rattle.std.proofs.Common.{◌≡◌, ◌+◌, ◌++◌, ◌∙◌, List, sym, subst}
use Rattle.std.specs.Prelude.{map}
use Rattle.std.specs.List.{filter}
use Rattle.dx_schema.specs.Tables.{model_tables}
use Rattle.dx_logical.specs.declared.relation.Occurrence.{Occurrence}
use Rattle.dx_logical.specs.Unfolding.{sub}
use Rattle.dx_lines.specs.Candidates.{upto}
use Rattle.dx_candidates.specs.Parts.{children, is_tip, without}
use Rattle.dx_candidates.proofs.UpTo.{made_more, made_same}
use Rattle.dx_candidates.proofs.parts.greatest_parts.Goals as goal
use Rattle.dx_candidates.proofs.parts.greatest_parts.Goals.{then-is_tip+in_ok-without+in_ok-push, else-is_tip}

pub loop-place-preserved : goal.loop-place-preserved
loop-place-preserved c =
    let schema = model_tables c.args.schema.now in
    let os = c.args.occurrences.now in
    let n = c.loop-place.place in
    let old = map (sub os) (children os) in
    elim c.if-is_tip.branch [
      | then-is_tip+in_ok-without+in_ok-push w ↦
          subst (λ (ps : List (List Occurrence)). ps ≡ old ++ map (without os) (filter (is_tip schema os) (upto (n + 1)))) (sym w.parts-is)
          (made_more (without os) (is_tip schema os) n old c.loop-place.parts w.push.new.self _ (sym c.is_tip.ensures ∙ w.if-is_tip.true) w.in_ok-without.ensures c.loop-place.invariant w.in_ok-push.ensures.ok)
      | else-is_tip w ↦
          subst (λ (ps : List (List Occurrence)). ps ≡ old ++ map (without os) (filter (is_tip schema os) (upto (n + 1)))) (sym w.parts-is)
          (made_same (without os) (is_tip schema os) n old c.loop-place.parts (sym c.is_tip.ensures ∙ w.if-is_tip.false) c.loop-place.invariant)
    ]
