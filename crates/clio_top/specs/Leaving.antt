-- What a run leaves that is not done.
use Rattle.std.specs.Prelude.{◌≡◌, ◌⊎◌, ℕ, List}
use Rattle.dx_ports.specs.States.{OutputState}
use Rattle.dx_stages.specs.Worlds.{World}
use Rattle.clio_ending.specs.declared.ending.Done.{Done}
use Rattle.clio_ending.specs.declared.ending.Ending.{Ending}
use Rattle.clio_ending.specs.declared.ending.Ending.TheVariants as endings
use Rattle.clio_steps.specs.Steps.{Program}
use Rattle.clio_steps.specs.Outcomes.{wrote_first, wrote_less}
use Rattle.clio_top.specs.Words.{Word}
use Rattle.clio_top.specs.Promises.{AsAsked}

-- of what the words ask for so many files were put, the first ones, and after all of them a part of the text was said
abbrev pub WroteFirstAsked : Program → World → List Word → ℕ → OutputState → OutputState → Type 0
WroteFirstAsked P c words count before after = (d : Done) × AsAsked P c words d (wrote_first count before after)

-- the same, and of the text not all was said
abbrev pub WroteLessAsked : Program → World → List Word → ℕ → OutputState → OutputState → Type 0
WroteLessAsked P c words count before after = (d : Done) × AsAsked P c words d (wrote_less count before after)

-- An ending with `WriteFault` says how many files were put, the first ones; with `Memory` nothing was written, or
-- the same, and not all of the text; with each other one that is not `Done` nothing. What is left after `Done` says
-- the field `done` of specs/Right.
abbrev pub Leaves : Program → World → List Word → OutputState → OutputState → Ending → Type 0
Leaves P c words before after (endings.Done done) = Unit {0}
Leaves P c words before after (endings.WriteFault files) = WroteFirstAsked P c words files before after
Leaves P c words before after endings.Memory =
    (after ≡ before) ⊎ ((count : ℕ) × WroteLessAsked P c words count before after)
Leaves P c words before after endings.Usage = after ≡ before
Leaves P c words before after (endings.Clash k table key column) = after ≡ before
Leaves P c words before after (endings.Mapping fault) = after ≡ before
Leaves P c words before after (endings.Rows file fault) = after ≡ before
Leaves P c words before after (endings.Limit limit) = after ≡ before
Leaves P c words before after (endings.ReadFault file) = after ≡ before
Leaves P c words before after (endings.Query fault) = after ≡ before
Leaves P c words before after (endings.Other fault) = after ≡ before
