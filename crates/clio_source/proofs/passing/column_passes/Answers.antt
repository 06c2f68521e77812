use Rattle.std.proofs.Common.{length}
use Rattle.clio_source.proofs.PassingRows.{answers_same, constant_passes, null_passes, number_there}
use Rattle.clio_source.proofs.passing.column_passes.Goals as goal

pub value-requires : goal.value-requires
value-requires g c =
    let l = c.in-Some.ensures.lookup in
    number_there (length c.args.numbers.now.symbols) c.args.row.now _ c.in-Some.number.now c.requires.below l.3.0 l.1

pub returns-in-Const : goal.returns-in-Const
returns-in-Const g c =
    let l = c.in-Some.ensures.lookup in
    answers_same c.check.result _ _
    (constant_passes g.M.Meaning.passes c.args.condition.now.code c.args.numbers.now.symbols c.args.row.now c.args.condition.now.place.column c.in-Some.number.now
    c.value.result.now _ l.3.0 l.1 c.value.ensures c.in-Const.is)
    c.check.ensures

pub returns-in-Null : goal.returns-in-Null
returns-in-Null g c =
    let l = c.in-Some.ensures.lookup in
    null_passes g.M.Meaning.passes c.args.condition.now.code c.args.numbers.now.symbols c.args.row.now c.args.condition.now.place.column c.in-Some.number.now
    c.value.result.now _ l.3.0 l.1 c.value.ensures c.in-Null.is
