use Rattle.std.proofs.Common.{arith}
use Rattle.dx_holds.specs.Searching.{texts}
use Rattle.dx_holds.proofs.Parts.{decided, state_none}
use Rattle.dx_holds.proofs.room.completes.Goals as goal

pub extend-requires-clause-state : goal.extend-requires-clause-state
extend-requires-clause-state c = rw (c.clear.ensures.items, c.clear-2.ensures.items) (state_none (texts c.args.question.now.atoms.now c.args.question.now.tuple.now) c.args.question.now.atoms.now c.args.question.now.target.now _)

pub extend-requires-clause-room : goal.extend-requires-clause-room
extend-requires-clause-room c = record {
  variables = rw c.clear.ensures.capacity c.requires.variables;
  atoms = omega (arith, c.requires.atoms, c.clear-2.ensures.capacity);
}

pub returns-clause-value : goal.returns-clause-value
returns-clause-value c =
    decided (texts c.args.question.now.atoms.now c.args.question.now.tuple.now) c.args.question.now.atoms.now c.args.question.now.target.now _ _ _ c.extend.result (rw (c.clear.ensures.items, c.clear-2.ensures.items) at c.extend.ensures.cases)
