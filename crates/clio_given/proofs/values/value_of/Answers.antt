use Rattle.clio_given.proofs.Parsed.{no_constant, value_told}
use Rattle.clio_given.proofs.values.value_of.Goals as goal

pub returns-in-Const : goal.returns-in-Const
returns-in-Const c = value_told _ c.args.field.now c.value_read.result c.in-Const.is c.value_read.ensures.read c.value_read.ensures.back

pub returns-in-Null : goal.returns-in-Null
returns-in-Null c = no_constant c.args.field.now _ c.in-Null.is
