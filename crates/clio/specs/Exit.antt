-- What the exit status of the program tells.
use Rattle.std.specs.Prelude.{◌≡◌, ◌⊎◌, ℕ, List}
use Rattle.dx_ports.specs.States.{InputState, OutputState}
use Rattle.dx_funcs.specs.Shipped.{shipped_apply, shipped_conversions, shipped_passes, shipped_row_tests}
use Rattle.clio_ending.specs.declared.ending.Ending.{Ending}
use Rattle.clio_ending.specs.declared.ending.Ending.TheVariants.{Memory}
use Rattle.clio_ending.specs.Ending.{status_of}
use Rattle.clio_steps.specs.Steps.{Program, program}
use Rattle.clio_top.specs.Right.{IsRight}
use Rattle.clio_top.specs.Words.{Word}

-- the program that is shipped: its conversions and its row tests
abbrev pub shipped : Program
shipped = program shipped_conversions shipped_row_tests shipped_apply shipped_passes

-- nothing was read or written, and no write failed
abbrev pub NothingCame : InputState → InputState → OutputState → OutputState → ℕ → ℕ → Type 0
NothingCame old new before after writes writes' = (new ≡ old) × (after ≡ before) × (writes' ≡ writes)

-- It is the status of an ending that is right for these words, for what the reads answered and for what the writes
-- took; or memory ran out before anything was read or written.
abbrev pub IsExit : List Word → ℕ → InputState → InputState → OutputState → OutputState → ℕ → ℕ → Type 0
IsExit words status old new before after writes writes' =
    (e : Ending) × (status ≡ status_of e)
    × (((e ≡ Memory) × NothingCame old new before after writes writes')
    ⊎ IsRight shipped words e old new before after writes writes')
