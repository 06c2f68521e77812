use Rattle.std.proofs.Common.{◌≡◌, ℕ, List, length}
use Rattle.dx_base.specs.Members.{◌∈◌}
use Rattle.dx_model.specs.declared.facts.Fact.{Fact}
use Rattle.dx_blocks.specs.Numbered.{null_under}
use Rattle.dx_rigid.specs.Rigid.{IsRigid}
use Rattle.dx_core.specs.Asking.{KnownAreRigid}
use Rattle.dx_blocks.specs.NullRows.{row_numbers}
use Rattle.dx_core.proofs.sparing.Reduction.keep_nulls.Given as goal

abbrev pub invariant-loop-number : goal.invariant-loop-number
invariant-loop-number l = record {
  long : length l.known.items ≡ length l.nulls;
  known : (T : List Fact) → ((x : ℕ) → x ∈ row_numbers l.self.numbers l.fn.at → x ∈ l.nulls → IsRigid T (null_under l.self.numbers x))
      → KnownAreRigid l.self.numbers T l.nulls l.fn.known.items → KnownAreRigid l.self.numbers T l.nulls l.known.items;
}
