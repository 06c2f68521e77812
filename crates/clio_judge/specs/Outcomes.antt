-- A verdict in a world, and the given files that are asked for.
use Rattle.std.specs.Prelude.{◌≡◌, ◌++◌, ℕ, List, [], ◌∷◌, length}
use Rattle.std.specs.List.{range_with_len}
use Rattle.dx_stages.specs.Worlds.{World}
use Rattle.dx_stages.specs.Stages.{each}
use Rattle.dx_schema.specs.Tables.{schema_table, tables_of}
use Rattle.dx_instance.specs.Stored.{TableRows}
use Rattle.dx_judge.specs.declared.verdict.Verdict.{Verdict}
use Rattle.dx_judge.specs.Verdicts.{IsJudgement}
use Rattle.clio_accept.specs.declared.mapping.Mapping.{Mapping}
use Rattle.clio_source.specs.Source.{ReadState, source_left}
use Rattle.clio_given.specs.Given.{TargetRequest, given_name, given_stages, none_read, given_reading}
use Rattle.clio_files.specs.Verdicts.{verdict_text}
use Rattle.clio_steps.specs.Steps.{Program, wanted}
use Rattle.clio_steps.specs.Outcomes.{ReadIn, Writing}
use Rattle.clio_judge.specs.Judging.{judged, wanted_given}

-- ---- a verdict

-- The verdict on the given files in a world, as a target of the rows of its source files; no file was put, and the line
-- of the verdict was said. The given files may have the bytes that the source left.
pub record IsJudgedIn (P : Program) (c : World) (v : Verdict) (Wrote : Writing) : Type 0 where
  pub mapping : Mapping
  pub rows : List TableRows
  pub read : ReadIn P c mapping rows
  pub left : ℕ
  pub left_is : (source_left P.passes).passes c (wanted mapping) (rows, left)
  pub target : List TableRows
  pub given : given_stages.passes c (wanted_given ((mapping, rows), left)) target
  pub judgement : IsJudgement P.apply (judged ((mapping, rows), target)) v
  pub written : Wrote [] (verdict_text mapping.target v)

-- the given file of a table, come to when those of all tables before it are held, in form and within the limits
pub record IsNextGiven (c : World) (w : TargetRequest) (name : List ℕ) : Type 0 where
  pub before : List ℕ
  pub table : ℕ
  pub after : List ℕ
  pub tables_are : range_with_len 0 (length (tables_of w.schema)) ≡ before ++ table ∷ after
  pub read : ReadState
  pub passed : (each (given_reading w.schema) before).passes c (none_read w.bytes_left) read
  pub is : name ≡ given_name (schema_table w.schema table).name
