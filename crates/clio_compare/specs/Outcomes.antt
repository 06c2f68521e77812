-- A comparison in a world.
use Rattle.std.specs.Prelude.{◌≡◌, ◌↔◌, List}
use Rattle.dx_model.specs.Following.{Implies}
use Rattle.dx_model.specs.Values.{Conversions}
use Rattle.dx_stages.specs.Worlds.{World}
use Rattle.dx_compare.specs.declared.comparing.Answer.TheVariants as answers
use Rattle.dx_compare.specs.declared.comparing.Comparison.{Comparison}
use Rattle.dx_compare.specs.Comparing.{IsComparison}
use Rattle.clio_accept.specs.declared.mapping.Mapping.{Mapping}
use Rattle.clio_files.specs.Comparisons.{AreComparedFiles, compared_text}
use Rattle.clio_files.specs.Files.{files_of}
use Rattle.clio_files.specs.Sheets.{PrintedFile}
use Rattle.clio_steps.specs.declared.texts.Side.TheVariants.{First, Second}
use Rattle.clio_steps.specs.Steps.{Program}
use Rattle.clio_steps.specs.Outcomes.{AcceptedIn, Writing}
use Rattle.clio_compare.specs.Comparing.{BothPlain, BothUnconditional, HaveSameSets}

-- ---- a comparison

-- Two mapping texts that are accepted in a world, between the same sets, without conditions and conversions. A
-- direction is implied exactly if the one list of rules implies the other, and for one that is not there are two
-- instances that show it; their files were written, and then what is said of the comparison.
pub record IsComparedIn (P : Program) (c : World) (k : Comparison) (Wrote : Writing) : Type 0 where
  pub first : Mapping
  pub accepted : AcceptedIn P First c first
  pub second : Mapping
  pub other_accepted : AcceptedIn P Second c second
  pub same : HaveSameSets (first, second)
  pub free : BothUnconditional (first, second)
  pub plain : BothPlain (first, second)
  pub forward : (convert : Conversions) → (k.forward ≡ answers.Implies) ↔ Implies convert first.rules second.rules
  pub backward : (convert : Conversions) → (k.backward ≡ answers.Implies) ↔ Implies convert second.rules first.rules
  pub comparison : IsComparison first.source first.target first.rules second.rules k
  pub files : List PrintedFile
  pub are : AreComparedFiles first.source first.target k files
  pub written : Wrote (files_of files) (compared_text k files)
