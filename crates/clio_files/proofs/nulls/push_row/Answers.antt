use Rattle.std.proofs.Common.{take, get_or, [], ◌∷◌}
use Rattle.dx_base.proofs.Members.{in_at}
use Rattle.dx_model.specs.Instances.{nulls_in}
use Rattle.dx_instance.specs.Shown.{shown_row}
use Rattle.clio_files.proofs.SheetNulls.{number_constant, number_null, pushed}
use Rattle.clio_files.proofs.nulls.push_row.Goals as goal
use Rattle.clio_files.proofs.nulls.push_row.Goals.{in-Null+in_ok-push, in_default}

pub loop-number-preserved : goal.loop-number-preserved
loop-number-preserved c =
    let symbols = c.args.target.now.symbols in
    let row = c.args.row.now in
    let i = c.loop-number.number-index in
    elim c.match-value.branch [
      | in-Null+in_ok-push w ↦
          rw w.nulls-is
          (pushed c.args.nulls.now.items c.loop-number.nulls.items w.push.new.self.items (nulls_in (shown_row symbols (take i row))) _
          (w.in-Null.null ∷ []) w.in_ok-push.ensures.items c.loop-number.invariant
          (number_null symbols row i c.value.result.now w.in-Null.null c.loop-number-test.true c.value.ensures w.in-Null.is))
      | in_default w ↦
          let constant =
          number_constant symbols row i c.value.result.now w.in_default.field-0 c.loop-number-test.true c.value.ensures w.in_default.is in
          rw (w.nulls-is, constant) c.loop-number.invariant
    ]

pub value-requires : goal.value-requires
value-requires c =
    c.requires (get_or c.args.row.now c.loop-number.number-index 0)
    (in_at c.args.row.now c.loop-number.number-index 0 c.loop-number-test.true)
