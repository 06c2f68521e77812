use Rattle.dx_instance.proofs.TieFacts.{decides}
use Rattle.dx_instance.proofs.ties.Ties.is_same.Goals as goal

pub returns-then-a-b : goal.returns-then-a-b
returns-then-a-b c =
    decides c.args.self.now.values.now c.args.self.now.lengths.now c.args.self.now.seconds.items c.args.self.now.blank c.args.a c.args.b c.compare.result c.is_eq.result c.requires.tied.lengths_are c.requires.tied.seconds_are c.requires.first c.requires.second c.if-a-b.true c.compare.ensures c.is_eq.ensures
