use Rattle.std.proofs.Common.{◌<◌, take, drop, length}
use Rattle.dx_joins.specs.Products.{IsPartOf, ShareNone}
use Rattle.dx_joins.proofs.parts.parts_rows.Given as goal

abbrev pub invariant-loop-end : goal.invariant-loop-end
invariant-loop-end l = record {
  part : IsPartOf l.marked.source.now.tables l.marked.marks.now l.most (take l.done l.patterns) l.shown l.whole;
  apart : ShareNone (take l.done l.patterns) (drop l.done l.patterns);
  before : l.done < l.end;
  within : l.done < length l.patterns;
}
