-- What there is in a world after each step of an exchange; and how a plan was written.
use Rattle.std.specs.Prelude.{◌≡◌, ◌++◌, ℕ, List, ◌∷◌, length, Some, ◌≤◌}
use Rattle.dx_base.specs.Entries.{Entry}
use Rattle.dx_base.specs.Texts.{Text}
use Rattle.dx_ports.specs.States.{OutputState}
use Rattle.dx_model.specs.Values.{Rows}
use Rattle.dx_model.specs.declared.facts.Fact.{Fact}
use Rattle.dx_model.specs.Rules.{AreRows}
use Rattle.dx_model.specs.Solutions.{IsSolution}
use Rattle.dx_stages.specs.Worlds.{World}
use Rattle.dx_stages.specs.Ending.{WroteAll, WroteFirst, WroteLess}
use Rattle.dx_stages.specs.Stages.{each}
use Rattle.dx_schema.specs.Forest.{Forest}
use Rattle.dx_schema.specs.Tables.{model_tables}
use Rattle.dx_instance.specs.Stored.{TableRows, facts}
use Rattle.dx_tgd.specs.Counting.{canonical_cells}
use Rattle.dx_keys.specs.declared.answers.Clash.{Clash}
use Rattle.dx_exchange.specs.declared.mode.Mode.{Mode}
use Rattle.dx_exchange.specs.declared.result.Exchange.{Exchange}
use Rattle.dx_exchange.specs.Exchanging.{HasClash, IsExchange}
use Rattle.clio_accept.specs.declared.mapping.Mapping.{Mapping}
use Rattle.clio_accept.specs.Accepting.{accepting}
use Rattle.clio_source.specs.Source.{ReadState, at_start, file_at, reading, roots, source_stages}
use Rattle.clio_ending.specs.declared.ending.Refusal.TheVariants as refusals
use Rattle.clio_ending.specs.Ending.{named_clash}
use Rattle.clio_steps.specs.declared.texts.Side.{Side}
use Rattle.clio_steps.specs.declared.texts.Side.TheVariants.{First}
use Rattle.clio_steps.specs.Steps.{Program, exchange_input, target_cells, text_bytes, text_name, wanted}

-- ---- how it is written

-- how files and a text were written
abbrev pub Writing : Type 1
Writing = List Entry → List ℕ → Type 0

-- all of them
abbrev pub wrote_all : OutputState → OutputState → List Entry → List ℕ → Type 0
wrote_all before after files text = WroteAll files text before after

-- so many files, the first ones, and after all of them a part of the text
abbrev pub wrote_first : ℕ → OutputState → OutputState → List Entry → List ℕ → Type 0
wrote_first count before after files text = WroteFirst files text count before after

-- the same, and of the text not all
abbrev pub wrote_less : ℕ → OutputState → OutputState → List Entry → List ℕ → Type 0
wrote_less count before after files text = WroteLess files text count before after

-- ---- after each step

-- A record for each step, with the one before. The numbers are those of docs/HOW-IT-WORKS.md. In a world the text, the
-- mapping, the rows and the matches are each one (specs/Laws, `OnceInWorlds`).

-- there is a mapping text, within its limit
pub record HeldIn (side : Side) (c : World) (text : List ℕ) : Type 0 where
  pub is : c (text_name side) ≡ Some text
  pub few : length text ≤ text_bytes

-- 1 to 3: it is accepted as the text of this mapping
pub record AcceptedIn (P : Program) (side : Side) (c : World) (M : Mapping) : Type 0 where
  pub text : List ℕ
  pub held : HeldIn side c text
  pub accepted : (accepting P.list P.tests).passes c text M

-- 4: its source files are read, and these are their rows that pass its conditions
pub record ReadIn (P : Program) (c : World) (M : Mapping) (rows : List TableRows) : Type 0 where
  pub accepted : AcceptedIn P First c M
  pub source : (source_stages P.passes).passes c (wanted M) rows

-- 5: these are the matches of its rules, and the canonical instance is within its limit
pub record MatchedIn (P : Program) (c : World) (M : Mapping) (rows : List TableRows) (matches : Rows) : Type 0 where
  pub read : ReadIn P c M rows
  pub are : AreRows P.apply M.rules (facts rows) matches
  pub within : canonical_cells M.rules matches ≤ target_cells

-- 6 to 8: this is their exchange
pub record ExchangedIn (P : Program) (mode : Mode) (c : World) (M : Mapping) (rows : List TableRows) (e : Exchange)
    : Type 0 where
  pub matched : MatchedIn P c M rows e.matches
  pub exchange : IsExchange P.apply (exchange_input mode (M, rows)) e

-- ---- a clash, a solution or none

-- The rows that match have no solution: there is a clash. The three names are those that the target has for the clash's
-- table, for the columns of its key and for its column.
pub record IsClashIn (P : Program) (mode : Mode) (c : World) (k : Clash) (table : Text)
    (key : List Text) (column : Text)
    : Type 0 where
  pub mapping : Mapping
  pub rows : List TableRows
  pub clash : HasClash P.apply (exchange_input mode (mapping, rows)) k
  pub matched : MatchedIn P c mapping rows clash.matches
  pub named : refusals.Clash k table key column ≡ named_clash mapping.target k

-- they have a solution
pub record HasSolutionIn (P : Program) (c : World) : Type 0 where
  pub mapping : Mapping
  pub rows : List TableRows
  pub matches : Rows
  pub matched : MatchedIn P c mapping rows matches
  pub solution : List Fact
  pub solves : IsSolution P.apply mapping.rules (model_tables mapping.target) (facts rows) solution

-- they have none
pub record HasNoSolutionIn (P : Program) (c : World) : Type 0 where
  pub mapping : Mapping
  pub rows : List TableRows
  pub matches : Rows
  pub matched : MatchedIn P c mapping rows matches
  pub none : (K : List Fact) → ¬ (IsSolution P.apply mapping.rules (model_tables mapping.target) (facts rows) K)

-- ---- files that are asked for

-- the file of a root, come to when those of all roots before it are held, in form and within the limits
pub record IsNextFile (c : World) (f : Forest) (name : List ℕ) : Type 0 where
  pub before : List ℕ
  pub root : ℕ
  pub after : List ℕ
  pub roots_are : roots f ≡ before ++ root ∷ after
  pub read : ReadState
  pub passed : (each (reading f) before).passes c at_start read
  pub is : name ≡ file_at f root
