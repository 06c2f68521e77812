use Rattle.dx_model.specs.Rules.{exported}
use Rattle.dx_model.proofs.Canonical.{in_variables}
use Rattle.dx_model.specs.Rules.{cells_of, text_of}
use Rattle.dx_instance.specs.Stored.{facts}
use Rattle.dx_judge.proofs.Moves.{atoms_fit, said_fits, tuple_answered}
use Rattle.dx_judge.proofs.opening.tuple_holds.Goals as goal

pub facts_said-requires-clause-known : goal.facts_said-requires-clause-known
facts_said-requires-clause-known c = λ x m. rw c.requires.tuple.variables_are (in_variables x (cells_of c.args.rule.now.conclusion) (rw c.items.ensures at m))

pub moves_into-requires-clause-fit : goal.moves_into-requires-clause-fit
moves_into-requires-clause-fit c =
    rw (c.deref.ensures.value, c.in_ok-said.ensures, c.items.ensures, c.requires.tuple.variables_are)
    (said_fits c.args.given.now.plain.now (text_of (exported c.args.rule.now) c.args.tuple.now) c.args.rule.now.conclusion
    (atoms_fit c.args.given.now.plain.now c.args.rule.now.conclusion c.requires.conclusion))

pub returns : goal.returns
returns c =
    tuple_answered c.args.rule.now (facts c.args.given.now.plain.now) c.in_ok-said.said.items c.args.tuple.now c.moves_into.result
    (rw (c.items.ensures, c.requires.tuple.variables_are) at c.in_ok-said.ensures) (rw c.deref.ensures.value at c.moves_into.ensures)
