use Rattle.std.proofs.Common.{◌≡◌, rules}
use Rattle.std.proofs.lemmas.Fn.{always_returns_same}
use Rattle.dx_model.specs.declared.facts.NullPair.{NullPair}
use Rattle.dx_model.specs.Values.{null_cmp}
use Rattle.dx_instance.proofs.MergeFacts.{pair_found, pair_missed}
use Rattle.dx_instance.proofs.null_merge.value_among.Goals as goal

pub returns-in-Ok : goal.returns-in-Ok
returns-in-Ok c =
    pair_found c.args.pairs.now c.index-pairs-place.result c.in-Ok.place c.args.null.now c.requires c.in-Ok.ensures.bound
    (c.in-Ok.ensures.position (λ (p : NullPair). null_cmp p.null c.args.null.now) (always_returns_same _ (λ a r. r ≡ null_cmp a.0.now.null c.args.null.now) _ (λ a r f k. search rules)))

pub returns-in-Err : goal.returns-in-Err
returns-in-Err c =
    pair_missed c.args.pairs.now c.in-Err.field-0 c.args.null.now c.requires (c.in-Err.ensures.position (λ (p : NullPair). null_cmp p.null c.args.null.now) (always_returns_same _ (λ a r. r ≡ null_cmp a.0.now.null c.args.null.now) _ (λ a r f k. search rules)))
