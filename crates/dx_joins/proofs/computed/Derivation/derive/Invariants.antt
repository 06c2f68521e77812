use Rattle.std.proofs.Common.{◌≡◌, ◌++◌, take}
use Rattle.dx_instance.specs.Numbers.{ValuesDiffer, Extends}
use Rattle.dx_joins.specs.Shown.{AllTexts, texts_of}
use Rattle.dx_joins.specs.Derivations.{derived_values}
use Rattle.dx_joins.proofs.computed.Derivation.derive.Given as goal

abbrev pub invariant-loop-one : goal.invariant-loop-one
invariant-loop-one g l = record {
  grows : Extends l.initial.symbols l.symbols;
  apart : ValuesDiffer l.symbols;
  texts : AllTexts l.symbols l.buffer.items;
  shown : texts_of l.symbols l.buffer.items ≡ texts_of l.initial.symbols l.row ++ derived_values g.M.Meaning.apply l.self.wanted.now (take l.one-index l.self.derived.now) (texts_of l.initial.symbols l.row);
}
