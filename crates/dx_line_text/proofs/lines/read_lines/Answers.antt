use Rattle.dx_funcs.specs.Serving.{offered}
use Rattle.dx_line_text.specs.Naming.{line_fault, line_of_text}
use Rattle.dx_line_text.proofs.Faults.{fault_none}
use Rattle.dx_line_text.proofs.Fits.{lines_fit, lines_offered, all_read}
use Rattle.dx_line_text.proofs.lines.read_lines.Goals as goal

pub returns-clause-fit : goal.returns-clause-fit
returns-clause-fit g c =
    lines_fit c.args.source.now c.args.target.now (offered c.args.host.now) c.args.lines.now c.loop-line.read
    (all_read (line_of_text c.args.source.now c.args.target.now (offered c.args.host.now)) c.args.lines.now c.loop-line.line-index c.loop-line.read c.loop-line-test.false c.loop-line.invariant.0)
    (fault_none (line_fault c.args.source.now c.args.target.now (offered c.args.host.now)) c.args.lines.now c.loop-line.line-index c.loop-line-test.false c.loop-line.invariant.1)

pub returns-clause-listed : goal.returns-clause-listed
returns-clause-listed g c =
    lines_offered c.args.source.now c.args.target.now (offered c.args.host.now) c.args.lines.now c.loop-line.read
    (all_read (line_of_text c.args.source.now c.args.target.now (offered c.args.host.now)) c.args.lines.now c.loop-line.line-index c.loop-line.read c.loop-line-test.false c.loop-line.invariant.0)
    (fault_none (line_fault c.args.source.now c.args.target.now (offered c.args.host.now)) c.args.lines.now c.loop-line.line-index c.loop-line-test.false c.loop-line.invariant.1)
