-- What an exchange that is written, a mapping that is shown and a demo come to in a world.
use Rattle.std.specs.Prelude.{ℕ, List, [], length, Bool}
use Rattle.dx_model.specs.declared.values.NullId.{NullId}
use Rattle.dx_stages.specs.Worlds.{World}
use Rattle.dx_instance.specs.Stored.{TableRows, facts}
use Rattle.dx_exchange.specs.declared.mode.Mode.{Mode}
use Rattle.dx_exchange.specs.declared.result.Exchange.{Exchange}
use Rattle.clio_accept.specs.declared.mapping.Mapping.{Mapping}
use Rattle.clio_files.specs.Files.{AreFiles, contents_of, files_of, summary_of}
use Rattle.clio_files.specs.Sheets.{AreTargetNulls, PrintedFile}
use Rattle.clio_files.specs.Texts.{texts_told}
use Rattle.clio_steps.specs.declared.texts.Side.TheVariants.{First}
use Rattle.clio_steps.specs.Steps.{Program}
use Rattle.clio_steps.specs.Outcomes.{AcceptedIn, ExchangedIn, Writing}
use Rattle.clio_top.specs.Demo.{demo_text, demo_world}

-- 9: the exchange in a world, whose files were written and whose summary was said after them
pub record WrittenIn (P : Program) (mode : Mode) (nested : Bool) (c : World) (e : Exchange)
    (Wrote : Writing) : Type 0 where
  pub mapping : Mapping
  pub rows : List TableRows
  pub exchanged : ExchangedIn P mode c mapping rows e
  pub files : List PrintedFile
  pub are : AreFiles mapping.source mapping.target P.list mode nested mapping.rules e files
  pub written : Wrote (files_of files) (summary_of files)

-- a mapping text that is accepted in a world; no file was put, and the text of its rules was said, and then that of
-- their script in this mode
pub record IsShownIn (P : Program) (mode : Mode) (c : World) (Wrote : Writing) : Type 0 where
  pub mapping : Mapping
  pub accepted : AcceptedIn P First c mapping
  pub written : Wrote [] (contents_of (texts_told mapping.source mapping.target P.list mode mapping.rules))

-- the exchange of the files of a demo; no file was put, and the number, the rows of each table and the nulls were said
pub record IsDemoIn (P : Program) (number : ℕ) (mode : Mode) (e : Exchange) (Wrote : Writing) : Type 0 where
  pub mapping : Mapping
  pub rows : List TableRows
  pub exchanged : ExchangedIn P mode (demo_world number) mapping rows e
  pub nulls : List NullId
  pub nulls_are : AreTargetNulls (facts e.target) nulls
  pub written : Wrote [] (demo_text number mapping e.target (length nulls))
