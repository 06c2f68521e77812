use Rattle.dx_instance.specs.Images.{AreImages}
use Rattle.dx_instance.proofs.instance.images_among.Given as goal

abbrev pub invariant-loop-number : goal.invariant-loop-number
invariant-loop-number l = AreImages l.map l.symbols l.symbols l.images.items l.number
