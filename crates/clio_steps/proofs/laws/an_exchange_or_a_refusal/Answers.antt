use Rattle.clio_steps.proofs.Decided.{exchanges_decided}
use Rattle.clio_steps.proofs.InWorld.{in_world}
use Rattle.clio_steps.proofs.There.{exchange_passed, exchange_there}
use Rattle.clio_steps.proofs.laws.an_exchange_or_a_refusal.Goals as goal

pub returns-clause-decided : goal.returns-clause-decided
returns-clause-decided c = exchanges_decided

pub returns-clause-worlds : goal.returns-clause-worlds
returns-clause-worlds c = λ P mode w M e x. in_world P mode w (M, e) x

pub returns-clause-solutions : goal.returns-clause-solutions
returns-clause-solutions c = λ P mode w h. let x = exchange_there P mode w h in (x.0, exchange_passed P mode w h x.0 x.1)
