use Rattle.std.proofs.Common.{arith, ◌-◌}
use Rattle.dx_instance.proofs.RankFacts.{first_or_repeat, key_in}
use Rattle.dx_instance.proofs.ties.Ties.is_first.Goals as goal

pub is_same-requires-clause-first : goal.is_same-requires-clause-first
is_same-requires-clause-first c = key_in c.args.self.now.values.now c.args.keys.now (c.args.place - 1) c.requires.sorted c.requires.keyed (omega (arith, c.requires.place))

pub is_same-requires-clause-second : goal.is_same-requires-clause-second
is_same-requires-clause-second c = key_in c.args.self.now.values.now c.args.keys.now c.args.place c.requires.sorted c.requires.keyed c.requires.place

pub returns : goal.returns
returns c = first_or_repeat c.args.self.now.values.now c.args.keys.now c.args.place c.is_same.result c.requires.sorted c.requires.place (omega (arith, c.if-place-eq0.false)) c.is_same.ensures
