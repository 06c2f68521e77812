use Rattle.std.proofs.Common.{◌≡◌, take, Ok}
use Rattle.dx_schema.specs.Forest.{forest_of}
use Rattle.dx_schema.specs.Tables.{count}
use Rattle.dx_stages.specs.Stages.{each}
use Rattle.clio_source.specs.Fitting.{UnusedAreBlank, RanTo, ReadFits}
use Rattle.clio_source.specs.Source.{at_start, reading}
use Rattle.clio_source.proofs.Roots.{first_roots}
use Rattle.clio_source.proofs.files.read_files.Given as goal

abbrev pub invariant-loop-tree : goal.invariant-loop-tree
invariant-loop-tree g l =
    record {
      root : l.root ≡ count (forest_of (take l.tree-index l.tree-items));
      fit : ReadFits l.schema l.root l.so_far;
      blank : UnusedAreBlank l.used l.schema l.so_far;
      read : RanTo l.used (each (reading l.schema) (first_roots l.tree-items l.tree-index)) at_start (Ok l.so_far)
          (g.I.Inputs.state l.initial.inputs) (g.I.Inputs.state l.inputs);
    }
