use Rattle.std.proofs.Common.{◌∙◌, get_or, subst, sym}
use Rattle.std.proofs.lemmas.List.{get_or_default}
use Rattle.dx_base.specs.Members.{◌∈◌}
use Rattle.dx_base.proofs.Members.{in_at}
use Rattle.dx_model.proofs.Before.{place_folded}
use Rattle.dx_cover_fold.specs.Matched.{matched_tuples}
use Rattle.dx_cover_fold.proofs.FoldFacts.{none_folded, one_folded}
use Rattle.dx_cover_fold.proofs.folding.Fold.null_map.Goals as goal

pub loop-null-init : goal.loop-null-init
loop-null-init c = rw c.new-map.ensures (none_folded c.args.self.now.rules.now (matched_tuples c.args.self.now.matches.now))

pub fold_null-requires-clause-place : goal.fold_null-requires-clause-place
fold_null-requires-clause-place c =
    let m = in_at c.deref-null-items.result.now c.loop-null.null-index (record { rule = 0; var = 0; row = 0 }) c.loop-null-test.true in
    let n = subst (λ z. get_or c.deref-null-items.result.now c.loop-null.null-index (record { rule = 0; var = 0; row = 0 }) ∈ z) c.deref-null-items.ensures.value m in
    ((c.in_ok-nulls.ensures (get_or c.deref-null-items.result.now c.loop-null.null-index (record { rule = 0; var = 0; row = 0 }))).0 n).place

pub loop-null-preserved : goal.loop-null-preserved
loop-null-preserved c =
    let null = get_or c.deref-null-items.result.now c.loop-null.null-index (record { rule = 0; var = 0; row = 0 }) in
    let m = in_at c.deref-null-items.result.now c.loop-null.null-index (record { rule = 0; var = 0; row = 0 }) c.loop-null-test.true in
    let n = subst (λ z. null ∈ z) c.deref-null-items.ensures.value m in
    let p = (c.in_ok-nulls.ensures null).0 n in
    one_folded c.args.self.now.rules.now (matched_tuples c.args.self.now.matches.now) c.deref-null-items.result.now c.loop-null.null-index null c.in_ok-value.value
    c.loop-null.map c.set.new.self c.loop-null-test.true (get_or_default c.deref-null-items.result.now c.loop-null.null-index (record { rule = 0; var = 0; row = 0 }) _ c.loop-null-test.true)
    (c.in_ok-value.ensures ∙ sym (place_folded c.args.self.now.rules.now (matched_tuples c.args.self.now.matches.now) null p.place p.variable)) c.in_ok-set.ensures.ok c.loop-null.invariant
