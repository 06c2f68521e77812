use Rattle.clio_terminal.proofs.Harmless.{harmless_stays, shown_is_harmless}
use Rattle.clio_terminal.proofs.laws.shown_is_harmless.Goals as goal

pub returns-clause-harmless : goal.returns-clause-harmless
returns-clause-harmless c = shown_is_harmless

pub returns-clause-same : goal.returns-clause-same
returns-clause-same c = harmless_stays
