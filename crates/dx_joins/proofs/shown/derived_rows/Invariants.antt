use Rattle.std.proofs.Common.{◌≡◌, length}
use Rattle.dx_instance.specs.Numbers.{ValuesDiffer, Extends}
use Rattle.dx_joins.proofs.Growing.{Standing, Upto}
use Rattle.dx_joins.proofs.shown.derived_rows.Given as goal

abbrev pub invariant-loop-place : goal.invariant-loop-place
invariant-loop-place g l = record {
  grows : Extends l.initial.symbols l.symbols;
  apart : ValuesDiffer l.symbols;
  width : l.out.width ≡ length l.shown;
  most : l.out.most ≡ l.most;
  standing : Standing l.symbols l.out (Upto g.M.Meaning.apply l.derivation.wanted.now l.derivation.derived.now l.derivation.first l.shown l.initial.symbols l.rows.rows l.place);
}
