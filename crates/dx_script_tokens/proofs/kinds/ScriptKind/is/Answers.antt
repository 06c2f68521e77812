use Rattle.std.proofs.Common.{refl}
use Rattle.dx_script_tokens.proofs.Ranks.{same_kind}
use Rattle.dx_script_tokens.proofs.kinds.ScriptKind.is.Goals as goal

pub returns-clause-same : goal.returns-clause-same
returns-clause-same c = same_kind _ c.args.self c.args.other (rw (c.rank.ensures, c.rank-2.ensures) refl)
