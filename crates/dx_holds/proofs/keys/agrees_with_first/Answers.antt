use Rattle.dx_holds.proofs.keys.agrees_with_first.Goals as goal

pub returns : goal.returns
returns c = (c.first_like.result, c.first_like.ensures, c.agrees.ensures)
