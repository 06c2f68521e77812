-- Facts that no endomorphism moves to a certain fact.
use Rattle.std.specs.Prelude.{◌≡◌, ◌⊎◌, List}
use Rattle.dx_base.specs.Members.{◌∈◌}
use Rattle.dx_model.specs.declared.values.NullId.{NullId}
use Rattle.dx_model.specs.declared.values.Value.{Value}
use Rattle.dx_model.specs.declared.facts.Fact.{Fact}
use Rattle.dx_model.specs.Instances.{Moves, fact_moved}
use Rattle.dx_instance.specs.Shown.{NumberedInstance}
use Rattle.dx_blocks.specs.declared.numbered.At.{At}
use Rattle.dx_blocks.specs.Numbered.{fact_of}

-- no endomorphism of T moves e to f
abbrev pub NeverMoves : List Fact → Fact → Fact → Type 0
NeverMoves T e f = (g : NullId → Value) → Moves g T T → ¬ (fact_moved g e ≡ f)

-- r is one of the rows, and it is the row `at`, or no endomorphism of T moves its fact to that one's
pub record IsApart (N : NumberedInstance) (T : List Fact) (rows : List At) (at r : At) : Type 0 where
  pub row : r ∈ rows
  pub apart : (r ≡ at) ⊎ NeverMoves T (fact_of N r) (fact_of N at)
