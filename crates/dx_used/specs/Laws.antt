-- Rules see of an instance the columns that they use, and nothing else.
use Rattle.std.specs.Prelude.{List}
use Rattle.dx_base.specs.Members.{Each}
use Rattle.dx_model.specs.declared.facts.Fact.{Fact}
use Rattle.dx_model.specs.declared.rules.Rule.{Rule}
use Rattle.dx_model.specs.Values.{Conversions, Rows}
use Rattle.dx_model.specs.Rules.{AreRows, Satisfies}
use Rattle.dx_model.specs.Solutions.{IsSolution, IsUniversal}
use Rattle.dx_model.specs.Tables.{Table}
use Rattle.dx_lines.specs.declared.line.Condition.{Condition}
use Rattle.dx_used.specs.Used.{AgreeOnUsed, Marks, UsesOnly}
use Rattle.dx_used.specs.Named.{ReadNamed}
use Rattle.dx_used.specs.Passing.{Passes, passing}

-- instances that agree on the used columns have the same rows of each rule
abbrev pub SameRows : Type 0
SameRows =
    (convert : Conversions) (used : Marks) (R : List Rule) (I J : List Fact) (rows : Rows)
    → Each R (UsesOnly used) → AgreeOnUsed used I J → AreRows convert R I rows → AreRows convert R J rows

-- and satisfy the rules with the same targets
abbrev pub SameTargets : Type 0
SameTargets =
    (convert : Conversions) (used : Marks) (d : Rule) (I J K : List Fact)
    → UsesOnly used d → AgreeOnUsed used I J → Satisfies convert d I K → Satisfies convert d J K

-- so they have the same solutions
abbrev pub SameSolutions : Type 0
SameSolutions =
    (convert : Conversions) (used : Marks) (R : List Rule) (schema : List Table) (I J K : List Fact)
    → Each R (UsesOnly used) → AgreeOnUsed used I J → IsSolution convert R schema I K → IsSolution convert R schema J K

-- and the same universal ones
abbrev pub SameUniversal : Type 0
SameUniversal =
    (convert : Conversions) (used : Marks) (R : List Rule) (schema : List Table) (I J K : List Fact)
    → Each R (UsesOnly used) → AgreeOnUsed used I J → IsUniversal convert R schema I K
    → IsUniversal convert R schema J K

-- of instances that agree the rows that pass agree, if the columns that the conditions name are read
abbrev pub SamePassing : Type 0
SamePassing =
    (passes : Passes) (used : Marks) (conditions : List Condition) (I J : List Fact)
    → ReadNamed used conditions → AgreeOnUsed used I J
    → AgreeOnUsed used (passing passes conditions I) (passing passes conditions J)
