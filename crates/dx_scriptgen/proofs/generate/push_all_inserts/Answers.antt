use Rattle.std.proofs.Common.{◌∙◌, ap, length, arith}
use Rattle.dx_base.proofs.Members.{item_in}
use Rattle.dx_schema.proofs.Facts.{atom_table}
use Rattle.dx_scriptgen.proofs.Tables.{exported_few}
use Rattle.dx_scriptgen.proofs.generate.push_all_inserts.Goals as goal

pub push_inserts-requires-clause-tables : goal.push_inserts-requires-clause-tables
push_inserts-requires-clause-tables c =
    let d = c.index-rules-number.result in
    let m = item_in c.args.rules.now c.loop-number.number d c.loop-number-test.true c.index-rules-number.is in
    λ a n. atom_table c.args.target.now a ((c.requires.rules d m).conclusion a n)

pub push_inserts-requires-clause-few : goal.push_inserts-requires-clause-few
push_inserts-requires-clause-few c =
    let d = c.index-rules-number.result in
    let m = item_in c.args.rules.now c.loop-number.number d c.loop-number-test.true c.index-rules-number.is in
    let f = exported_few d (c.requires.rules d m).rule in
    let e = ap length (c.deref.ensures.value ∙ c.in_ok-variables.ensures) in
    omega (arith, f, e)
