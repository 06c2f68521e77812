use Rattle.std.proofs.Common.{◌∙◌, sym, ap}
use Rattle.dx_chase.specs.Parts.{demands_in}
use Rattle.dx_chase.specs.Repeats.{columns_listed}
use Rattle.dx_chase.proofs.Repeating.{there_asks, there_more}
use Rattle.dx_chase.proofs.asked.add_unless_there.Goals as goal

pub returns-in-Some-clause-adds : goal.returns-in-Some-clause-adds
returns-in-Some-clause-adds c =
    there_asks c.args.tables.now c.args.table (demands_in c.args.tables.now c.args.parts.now.items) c.args.there.now c.args.determination _ c.in_ok-columns.columns
    (c.in_ok-columns.ensures ∙ ap columns_listed c.columns_of.ensures) c.requires.parts.there (sym c.in-Some.ensures)

pub returns-in_ok-set-in-None-clause-parts : goal.returns-in_ok-set-in-None-clause-parts
returns-in_ok-set-in-None-clause-parts c = record {
  lie = c.in_ok-end-in-None.ensures.lie;
  there =
      there_more c.args.tables.now c.args.table (demands_in c.args.tables.now c.args.parts.now.items) _ c.args.there.now c.set.new.self c.args.determination c.in_ok-columns.columns
      c.requires.table c.requires.determination (c.in_ok-columns.ensures ∙ ap columns_listed c.columns_of.ensures) c.requires.parts.there
      c.in_ok-end-in-None.ensures.adds (rw c.from.ensures at c.in_ok-set-in-None.ensures);
}
