use Rattle.dx_base.proofs.Members.{in_at}
use Rattle.dx_keys.proofs.clashes.read_clash.Goals as goal

pub demand_row-requires : goal.demand_row-requires
demand_row-requires c = record {
  roots_are = c.requires.roots_are;
  below = c.requires.below;
  demand = c.requires.demands_in _ (in_at c.args.found.now.demands c.args.place.one _ c.requires.one_in);
  inside = c.requires.one_in;
}

pub demand_row-requires-2 : goal.demand_row-requires-2
demand_row-requires-2 c = record {
  roots_are = c.requires.roots_are;
  below = c.requires.below;
  demand = c.requires.demands_in _ (in_at c.args.found.now.demands c.args.place.other _ c.requires.other_in);
  inside = c.requires.other_in;
}

pub column_at-requires-clause-demand : goal.column_at-requires-clause-demand
column_at-requires-clause-demand c = c.requires.demands_in _ (in_at c.args.found.now.demands c.args.place.one _ c.requires.one_in)
