use Rattle.std.proofs.Common.{◌≡◌, ◌+◌, ◌++◌, ◌∙◌, List, sym, ap, subst, true, false}
use Rattle.std.specs.Prelude.{map}
use Rattle.std.specs.List.{filter}
use Rattle.dx_logical.specs.declared.relation.Occurrence.{Occurrence}
use Rattle.dx_logical.specs.Unfolding.{sub}
use Rattle.dx_lines.specs.Candidates.{upto}
use Rattle.dx_candidates.specs.Parts.{is_child}
use Rattle.dx_candidates.proofs.UpTo.{made_more, made_same}
use Rattle.dx_candidates.proofs.Opens.{child_at}
use Rattle.dx_candidates.proofs.parts.add_subtrees.Goals as goal
use Rattle.dx_candidates.proofs.parts.add_subtrees.Goals.{then-is_child+in_ok-copy_all+in_ok-push, else-is_child}

pub loop-place-preserved : goal.loop-place-preserved
loop-place-preserved c =
    let os = c.args.occurrences.now in
    let n = c.loop-place.place in
    elim c.if-is_child.branch [
      | then-is_child+in_ok-copy_all+in_ok-push w ↦
          let child = child_at os n c.index-occurrences-place.result c.is_child.result true c.loop-place-test.true c.index-occurrences-place.is c.is_child.ensures w.if-is_child.true in
          let part = w.in_ok-copy_all.ensures ∙ (ap (λ (xs : List Occurrence). xs ++ w.subtree.result.now) w.new-part.ensures ∙ w.subtree.ensures) in
          subst (λ (ps : List (List Occurrence)). ps ≡ c.args.parts.now ++ map (sub os) (filter (is_child os) (upto (n + 1)))) (sym w.parts-is)
          (made_more (sub os) (is_child os) n c.args.parts.now c.loop-place.parts w.push.new.self _ child part c.loop-place.invariant w.in_ok-push.ensures.ok)
      | else-is_child w ↦
          let child = child_at os n c.index-occurrences-place.result c.is_child.result false c.loop-place-test.true c.index-occurrences-place.is c.is_child.ensures w.if-is_child.false in
          subst (λ (ps : List (List Occurrence)). ps ≡ c.args.parts.now ++ map (sub os) (filter (is_child os) (upto (n + 1)))) (sym w.parts-is)
          (made_same (sub os) (is_child os) n c.args.parts.now c.loop-place.parts child c.loop-place.invariant)
    ]
