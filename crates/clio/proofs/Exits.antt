-- The exit status of a run of the shipped program.
use Rattle.std.proofs.Common.{◌≡◌, ℕ, List, refl, subst, inl, inr}
use Rattle.dx_ports.specs.States.{InputState, OutputState}
use Rattle.dx_funcs.specs.declared.conversion.Conversion.{Conversion}
use Rattle.dx_funcs.specs.declared.row_test.RowTest.{RowTest}
use Rattle.dx_funcs.specs.Shipped.{shipped_apply, shipped_conversions, shipped_passes, shipped_row_tests}
use Rattle.clio_ending.specs.declared.ending.Ending.{Ending}
use Rattle.clio_ending.specs.declared.ending.Ending.TheVariants.{Memory}
use Rattle.clio_ending.specs.Ending.{status_of}
use Rattle.clio_steps.specs.Steps.{program}
use Rattle.clio_top.specs.Right.{IsRight}
use Rattle.clio_top.specs.Words.{Word}
use Rattle.clio.specs.Exit.{IsExit}

-- with the lists of the shipped program
pub exits : (list : List Conversion) (tests : List RowTest) (words : List Word) (old new : InputState) (before after : OutputState) (writes writes' status : ℕ)
    → list ≡ shipped_conversions → tests ≡ shipped_row_tests
    → ((e : Ending) × (status ≡ status_of e) × IsRight (program list tests shipped_apply shipped_passes) words e old new before after writes writes')
    → IsExit words status old new before after writes writes'
exits list tests words old new before after writes writes' status is are (e, told, right) =
    let a = subst (λ (l : List Conversion). IsRight (program l tests shipped_apply shipped_passes) words e old new before after writes writes') is right in
    (e, told, inr (subst (λ (l : List RowTest). IsRight (program shipped_conversions l shipped_apply shipped_passes) words e old new before after writes writes') are a))

-- without memory for the lists
pub without_memory : (words : List Word) (told : InputState) (written : OutputState) (writes status : ℕ) → status ≡ status_of Memory
    → IsExit words status told told written written writes writes
without_memory words told written writes status is = (Memory, is, inl (refl, (refl, refl, refl)))
