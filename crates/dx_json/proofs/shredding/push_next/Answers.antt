use Rattle.std.proofs.Common.{sym, ◌∙◌}
use Rattle.dx_json.specs.Said.{item_says, sets_say}
use Rattle.dx_json.specs.View.{view}
use Rattle.dx_json.proofs.Streams.{still_told, told_fault}
use Rattle.dx_json.proofs.shredding.push_next.Goals as goal

pub returns-then-is_some : goal.returns-then-is_some
returns-then-is_some c = λ old before h.
    still_told c.args.met old c.args.out.now before (item_says c.args.list.now.tree.now.label c.args.list.now.tree.now.inner (sets_say c.args.list.now.tree.now.inner) c.args.list.now.at.now c.args.k (view c.args.item.now)) (sym c.is_some.ensures ∙ c.if-is_some.true) h

pub returns-in-Err-Bad : goal.returns-in-Err-Bad
returns-in-Err-Bad c = λ old before h.
    told_fault c.args.met c.in-Err-Bad.field-0 c.in-Err-Bad.kind old c.args.out.now before (item_says c.args.list.now.tree.now.label c.args.list.now.tree.now.inner (sets_say c.args.list.now.tree.now.inner) c.args.list.now.at.now c.args.k (view c.args.item.now)) (sym c.is_some.ensures ∙ c.if-is_some.false) h c.in-Err-Bad.field-0-is
    c.in-Err-Bad.ensures.fault
