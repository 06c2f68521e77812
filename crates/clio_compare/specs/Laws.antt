-- What holds of comparisons of two mappings.
use Rattle.std.specs.Prelude.{List}
use Rattle.dx_ports.specs.States.{OutputState}
use Rattle.dx_stages.specs.Laws.{IsDecided}
use Rattle.dx_stages.specs.Worlds.{World}
use Rattle.dx_compare.specs.declared.comparing.Comparison.{Comparison}
use Rattle.clio_accept.specs.declared.mapping.Mapping.{Mapping}
use Rattle.clio_files.specs.Comparisons.{AreComparedFiles, compared_text}
use Rattle.clio_files.specs.Files.{files_of}
use Rattle.clio_files.specs.Sheets.{PrintedFile}
use Rattle.clio_ending.specs.Ending.{AreAlike}
use Rattle.clio_steps.specs.Steps.{Program}
use Rattle.clio_steps.specs.Outcomes.{wrote_all}
use Rattle.clio_compare.specs.Comparing.{compare_stages, comparisons}
use Rattle.clio_compare.specs.Outcomes.{IsComparedIn}

-- there is a comparison, or one reason to refuse it, and never both
abbrev pub ComparisonOrRefusal : Type 0
ComparisonOrRefusal = (P : Program) → IsDecided AreAlike (λ u. Unit {0}) (compare_stages P)

-- the comparison is that of the rules of both mapping texts
abbrev pub ComparisonsAreSo : Type 0
ComparisonsAreSo =
    (P : Program) (c : World) (M : Mapping) (k : Comparison) (files : List PrintedFile)
    (before after : OutputState) → (comparisons P).passes c (tt {0}) (M, k)
    → AreComparedFiles M.source M.target k files
    → wrote_all before after (files_of files) (compared_text k files) → IsComparedIn P c k (wrote_all before after)
