use Rattle.dx_tgd.proofs.Ascending.{number_there}
use Rattle.dx_tgd.proofs.texts.push_texts.Goals as goal

pub value-requires : goal.value-requires
value-requires c = number_there c.args.symbols.now c.args.row.now c.loop-number.number-index c.requires c.loop-number-test.true
