use Rattle.std.proofs.Common.{◌∙◌, ap}
use Rattle.dx_instance.specs.Shown.{NumberedInstance}
use Rattle.dx_instance.proofs.ShownFacts.{grown_fitting}
use Rattle.dx_tgd.specs.Planned.{built}
use Rattle.dx_tgd.proofs.Plans.{atoms_listed}
use Rattle.dx_tgd.proofs.Built.{grown_fit}
use Rattle.dx_tgd.proofs.builder.Builder.plan.Goals as goal

pub planned_atoms-requires : goal.planned_atoms-requires
planned_atoms-requires c = record { listed = atoms_listed c.args.rule.now c.items.result.now c.args.at.now.variables.now c.items.ensures c.requires.variables }

pub invariant_of-self : goal.invariant_of-self
invariant_of-self c = grown_fit c.self.inside.symbols c.planned_atoms.new.symbols c.self.inside.tables.items c.planned_atoms.ensures.grows c.self.invariant

pub returns-clause-same : goal.returns-clause-same
returns-clause-same c =
    grown_fitting c.self.inside.symbols c.planned_atoms.new.symbols c.self.inside.tables.items c.planned_atoms.ensures.grows c.self.invariant ∙ ap (λ (b : NumberedInstance). built b) c.self.view_is
