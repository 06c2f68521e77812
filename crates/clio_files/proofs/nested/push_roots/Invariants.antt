use Rattle.std.proofs.Common.{◌≡◌, map, take}
use Rattle.dx_instance.specs.Stored.{IsSorting}
use Rattle.dx_schema.specs.Forest.{forest_of}
use Rattle.dx_schema.specs.Tables.{count, level_numbers}
use Rattle.clio_files.specs.Files.{printed_view}
use Rattle.clio_files.specs.Printing.{AddsRoots}
use Rattle.clio_files.proofs.nested.push_roots.Given as goal

-- the files added are those of the roots so far
abbrev pub invariant-loop-tree : goal.invariant-loop-tree
invariant-loop-tree l = record {
  sorted : IsSorting l.target l.sorted;
  root : l.root ≡ count (forest_of (take l.tree-index l.tree-items));
  adds : AddsRoots l.schema l.target (level_numbers 0 (forest_of (take l.tree-index l.tree-items))) (map printed_view l.fn.files.items)
      (map printed_view l.files.items);
}
