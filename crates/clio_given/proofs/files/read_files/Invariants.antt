use Rattle.std.proofs.Common.{Ok}
use Rattle.std.specs.List.{range_with_len}
use Rattle.dx_stages.specs.Running.{Ran}
use Rattle.dx_stages.specs.Stages.{each}
use Rattle.clio_given.specs.Given.{none_read, given_reading}
use Rattle.clio_given.specs.Reading.{GivenReadFits, read_of}
use Rattle.clio_given.proofs.files.read_files.Given as goal

abbrev pub invariant-loop-table : goal.invariant-loop-table
invariant-loop-table g l = record {
  fit : GivenReadFits l.schema l.table l.so_far;
  read : Ran (each (given_reading l.schema) (range_with_len 0 l.table)) (none_read l.bytes_left) (Ok (read_of l.so_far))
      (g.I.Inputs.state l.initial.inputs) (g.I.Inputs.state l.inputs);
}
