use Rattle.std.proofs.Common.{refl}
use Rattle.dx_csv.proofs.LinesFacts.{line-ended}
use Rattle.dx_csv.proofs.lines.Lines.end.Goals as goal

pub returns : goal.returns
returns c = line-ended c.args.self.now _ c.in_ok-push_ending.ensures refl
