use Rattle.std.proofs.Common.{length, refl}
use Rattle.dx_instance.proofs.LayerFacts.{ascend_left, ascend_right, found_second}
use Rattle.dx_instance.proofs.NumberFacts.{found_first, nowhere}
use Rattle.dx_instance.proofs.symbols.number_among.Goals as goal

pub number_in-requires : goal.number_in-requires
number_in-requires c = ascend_left c.args.first.now c.args.second.now c.requires.ascend

pub number_in-requires-2 : goal.number_in-requires-2
number_in-requires-2 c = ascend_right c.args.first.now c.args.second.now c.requires.ascend

pub returns-in-Some : goal.returns-in-Some
returns-in-Some c = found_first c.args.first.now c.args.second.now c.args.value.now c.in-Some.number c.in-Some.ensures

pub returns-in-Some-number_in : goal.returns-in-Some-number_in
returns-in-Some-number_in c = found_second c.args.first.now c.args.second.now c.args.value.now c.in-Some-number_in.number (length c.args.first.now) refl c.in-Some-number_in.ensures

pub returns-in-None : goal.returns-in-None
returns-in-None c = nowhere c.args.first.now c.args.second.now c.args.value.now c.in_default.ensures c.in-None.ensures
