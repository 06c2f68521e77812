use Rattle.std.proofs.Common.{arith, refl}
use Rattle.dx_base.proofs.Loops.{not_so}
use Rattle.dx_schema.specs.Names.{table_names_of}
use Rattle.dx_funcs.specs.Serving.{offered}
use Rattle.dx_script.proofs.FitsTest.{one_fits, script_fits, step_of}
use Rattle.dx_script.proofs.fitting.fits.Goals as goal

pub returns-then-not-create_target : goal.returns-then-not-create_target
returns-then-not-create_target g c = not_so c.if-not-create_target.true (rw c.items-steps.ensures at c.create_target.ensures) (λ f. f.creates)

pub returns-then-not-step_fits : goal.returns-then-not-step_fits
returns-then-not-step_fits g c =
    not_so c.if-not-step_fits.true c.step_fits.ensures
    (λ f. step_of (table_names_of c.args.source.now) (table_names_of c.args.target.now) (offered c.args.host.now) c.through_keeps-keeps.result.now c.items-steps.result.now c.loop-number.number c.index-steps-number.result c.through_keeps-keeps.ensures
    (omega arith) c.index-steps-number.is (rw c.items-steps.ensures f))

pub loop-number-preserved : goal.loop-number-preserved
loop-number-preserved g c =
    one_fits (table_names_of c.args.source.now) (table_names_of c.args.target.now) (offered c.args.host.now) c.through_keeps-keeps.result.now c.items-steps.result.now c.loop-number.number c.index-steps-number.result
    (omega arith) c.index-steps-number.is (c.step_fits.ensures.0 c.if-not-step_fits.false) c.loop-number.invariant

pub returns : goal.returns
returns g c = (
  (λ t. rw (← c.items-steps.ensures) (script_fits (table_names_of c.args.source.now) (table_names_of c.args.target.now) (offered c.args.host.now) c.through_keeps-keeps.result.now c.items-steps.result.now c.loop-number.number
      (c.create_target.ensures.0 c.if-not-create_target.false) c.through_keeps-keeps.ensures (omega arith) c.loop-number.invariant)),
  (λ f. refl),
)
