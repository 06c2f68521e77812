use Rattle.std.proofs.Common.{◌∙◌, sym, ap, refl}
use Rattle.dx_base.specs.Members.{here}
use Rattle.dx_joins.specs.Shown.{is_text}
use Rattle.dx_joins.proofs.computed.text_at.Goals as goal

pub value-requires : goal.value-requires
value-requires c = (c.requires c.args.number (here refl)).0

pub unreachable-requires : goal.unreachable-requires
unreachable-requires c = let t = sym (c.requires c.args.number (here refl)).1 ∙ ap is_text (sym c.value.ensures ∙ c.in-Null.is) in absurd (cc t)
