use Rattle.std.proofs.lemmas.Result.{on_ok_weaker}
use Rattle.dx_csv.proofs.TextFacts.{on-ok, utf8-const, utf8-null}
use Rattle.dx_csv.proofs.lines.Lines.value.Goals as goal

pub returns-in-Const-clause-utf8 : goal.returns-in-Const-clause-utf8
returns-in-Const-clause-utf8 c = on-ok c.constant.result _ (rw c.in-Const.is (utf8-const _ c.bytes.ensures.utf8))

pub returns-in-Null-clause-utf8 : goal.returns-in-Null-clause-utf8
returns-in-Null-clause-utf8 c = on_ok_weaker c.null.result (λ fits. rw c.in-Null.is (utf8-null _ fits)) c.null.ensures.fits
