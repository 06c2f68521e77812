use Rattle.std.proofs.Common.{◌∙◌, ap}
use Rattle.dx_instance.specs.Shown.{NumberedInstance}
use Rattle.dx_instance.proofs.ShownFacts.{grown_fitting}
use Rattle.dx_tgd.specs.Planned.{built}
use Rattle.dx_tgd.proofs.builder.Builder.number.Goals as goal

pub returns-clause-same : goal.returns-clause-same
returns-clause-same c =
    grown_fitting c.self.inside.symbols c.intern.new.self c.self.inside.tables.items c.intern.ensures.grows c.self.invariant ∙ ap (λ (b : NumberedInstance). built b) c.self.view_is
