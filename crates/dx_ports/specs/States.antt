-- What a port tells of itself.
use Rattle.std.specs.Prelude.{ℕ, List, [], ◌∷◌, ◌++◌, Option, Some, None, Result, Ok, Err}
use Rattle.dx_base.specs.Entries.{Entry, FileMap}
use Rattle.dx_ports.specs.declared.inputs.FetchFault.{FetchFault}
use Rattle.dx_ports.specs.declared.inputs.FetchFault.TheVariants as faults

-- what a read tells of a file: its bytes, that there is none, or that it has more bytes than this
pub data Sight : Type 0 where
  bytes : List ℕ → Sight
  nothing : Sight
  more_than : ℕ → Sight

-- a file that was asked for, and what was found under its name
pub record Found : Type 0 where
  pub name : List ℕ
  pub sight : Sight

-- of inputs: the bytes by name, if they tell them; what the reads have answered, in order; how many reads have failed;
-- the name at which one failed, if they tell it
pub record InputState : Type 0 where
  pub holds : Option FileMap
  pub answered : List Found
  pub faults : ℕ
  pub stopped : Option (List ℕ)

-- what was written: files, and a text
pub record Written : Type 0 where
  pub files : List Entry
  pub said : List ℕ

-- of outputs: the files written whole, and what was said, if they tell them
pub record OutputState : Type 0 where
  pub files : Option (List Entry)
  pub said : Option (List ℕ)

-- nothing was read, of inputs that do not tell what they hold; and nothing was written
abbrev pub nothing_read : InputState
nothing_read = record { holds = None; answered = []; faults = 0; stopped = None }

abbrev pub nothing_written : OutputState
nothing_written = record { files = Some []; said = Some [] }

-- What has been answered after a read of this name, within this limit, that ended so with these bytes. Of a file that
-- could not be read nothing was answered.
abbrev pub answered_then : List Found → List ℕ → ℕ → Result (Unit {0}) FetchFault → List ℕ → List Found
answered_then before name limit (Ok done) into = before ++ (record { name = name; sight = bytes into }) ∷ []
answered_then before name limit (Err faults.Absent) into = before ++ (record { name = name; sight = nothing }) ∷ []
answered_then before name limit (Err faults.Long) into =
    before ++ (record { name = name; sight = more_than limit }) ∷ []
answered_then before name limit (Err faults.Failed) into = before
answered_then before name limit (Err faults.Memory) into = before
