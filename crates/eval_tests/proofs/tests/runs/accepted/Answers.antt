use Rattle.std.proofs.Common.{arith}
use Rattle.dx_funcs.specs.Judging.{tested}
use Rattle.dx_funcs.specs.Serving.{offered}
use Rattle.clio_accept.proofs.Accepted.{fits_of}
use Rattle.eval_tests.proofs.tests.runs.accepted.Goals as goal

pub returns : goal.returns
returns g c = rw c.new.ensures at (rw c.build-tests.ensures.tested at (fits_of (offered c.args.host.now) (tested c.build-tests.result) c.as_bytes-bytes.result.now c.accept.result (omega arith) c.accept.ensures))
