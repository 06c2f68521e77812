use Rattle.std.proofs.Common.{◌∙◌, sym}
use Rattle.dx_instance.proofs.TieFacts.{short_tie}
use Rattle.dx_instance.proofs.ties.Ties.compare.Goals as goal

pub returns-then-length-le8 : goal.returns-then-length-le8
returns-then-length-le8 c =
    sym (short_tie c.args.self.now.values.now c.args.self.now.lengths.now c.args.self.now.seconds.items c.args.self.now.blank c.args.a c.args.b c.length_or_zero-length.result c.length_or_zero.result c.length_or_zero-length.ensures c.length_or_zero.ensures (sym c.cmp.ensures ∙ c.in-Equal.is) c.if-length-le8.true)
