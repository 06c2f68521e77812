-- How many determinations and links a table may have, so that each has a number of 32 bits.
use Rattle.std.specs.Prelude.{ℕ, ◌+◌, ◌<◌, ◌-◌, ◌^◌, length}
use Rattle.dx_schema.specs.Forest.{Forest, none, set}
use Rattle.dx_schema.specs.Tables.{TableOf}

-- each set, inner sets included, has fewer than n keys and dependencies together, and fewer than n refs
abbrev pub RulesBelow : ℕ → Forest → Type 0
RulesBelow n none = Unit {0}
RulesBelow n (set l inner rest) =
    (length l.keys + length l.deps < n) × (length l.refs < n) × RulesBelow n inner × RulesBelow n rest

-- the determinations and links of each table have numbers:
-- a table may have one key and one link more than its set has keys and refs
abbrev pub HasFewRules : Forest → Type 0
HasFewRules f = RulesBelow (2 ^ 32 - 2) f

-- the determinations of a table have numbers of 32 bits, its dependencies after its keys, and so have its links,
-- its optional ones after the others
pub record HasSmallNumbers (t : TableOf) : Type 0 where
  pub determinations : length t.keys + length t.deps < 2 ^ 32 - 1
  pub links : length t.links + length t.optional < 2 ^ 32 - 1
