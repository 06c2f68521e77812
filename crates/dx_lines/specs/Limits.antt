-- The limits of lines between two schemas.
use Rattle.std.specs.Prelude.{ℕ, suc, ◌<◌, Bool, cond, nat_lt, Option, Some}
use Rattle.std.specs.Prelude.{None, List, [], ◌∷◌, ◌++◌, map, flat_map, length}
use Rattle.std.specs.List.{list_any}
use Rattle.dx_base.specs.declared.file.Limit.{Limit}
use Rattle.dx_base.specs.declared.file.Count.TheVariants.{Variants, Occurrences, Ways, Candidates}
use Rattle.dx_base.specs.declared.limits.TheConstants.{VARIANTS, OCCURRENCES, WAYS, CANDIDATES}
use Rattle.dx_base.specs.Members.{Each}
use Rattle.dx_model.specs.Tables.{Table, table_of}
use Rattle.dx_logical.specs.declared.relation.Relation.{Relation}
use Rattle.dx_logical.specs.Unfolding.{variants_of}
use Rattle.dx_lines.specs.declared.line.Place.{Place}
use Rattle.dx_lines.specs.declared.line.Line.{Line}
use Rattle.dx_lines.specs.Ways.{named_columns}
use Rattle.dx_lines.specs.Candidates.{upto, all_variants, pair_ways, candidates_of}

-- the first of these, or else what is found otherwise
abbrev pub first_or : List (Option Limit) → Option Limit → Option Limit
first_or [] rest = rest
first_or (None ∷ more) rest = first_or more rest
first_or (Some l ∷ more) rest = Some l

-- the variants of the tables up to number t, summed
abbrev pub count_upto : List Table → ℕ → ℕ
count_upto schema t = length (flat_map (variants_of schema) (upto (suc t)))

-- an unfolding has too many occurrences
abbrev pub is_wide : Relation → Bool
is_wide r = nat_lt OCCURRENCES (length r.occurrences)

-- the first limit that is passed at table t: variants, then occurrences
abbrev pub passed_at : List Table → ℕ → Option Limit
passed_at schema t =
    cond (nat_lt VARIANTS (count_upto schema t)) (Some (record { what = Variants; number = VARIANTS }))
    (cond (list_any is_wide (variants_of schema t)) (Some (record { what = Occurrences; number = OCCURRENCES })) None)

-- what is passed at each table of a schema
abbrev pub passed_by : List Table → List (Option Limit)
passed_by schema = map (passed_at schema) (upto (length schema))

-- a variant of a source table and one of a target table have too many ways
abbrev pub has_many_ways : List Line → List Table → List Table → Bool
has_many_ways lines source target =
    list_any (λ s. list_any (λ t. nat_lt WAYS (length (pair_ways lines s t))) (all_variants target))
    (all_variants source)

-- the first limit that is passed: those of the source's tables, then those of the target's, then ways, then candidates
abbrev pub passed_limit : List Line → List Table → List Table → Option Limit
passed_limit lines source target =
    first_or (passed_by source ++ passed_by target)
    (cond (has_many_ways lines source target) (Some (record { what = Ways; number = WAYS }))
    (cond (nat_lt CANDIDATES (length (candidates_of lines source target)))
    (Some (record { what = Candidates; number = CANDIDATES })) None))

-- a place is a column of a schema
pub record IsSchemaColumn (schema : List Table) (a : Place) : Type 0 where
  pub table : a.table < length schema
  pub column : a.column < (table_of schema a.table).width

-- the places of a line are columns of their schemas
pub record LineFits (source target : List Table) (l : Line) : Type 0 where
  pub to : IsSchemaColumn target l.target
  pub from : Each (named_columns l.source) (IsSchemaColumn source)
