-- A mapping text, fetched and accepted.
use Rattle.std.proofs.Common.{◌≡◌, ◌<◌, ◌≤◌, ◌-◌, ◌^◌, ℕ, List, length, refl, subst, sym, Some, Result, Ok, Err, arith}
use Rattle.dx_base.specs.declared.file.Limit.{Limit}
use Rattle.dx_ports.specs.States.{InputState}
use Rattle.dx_stages.specs.declared.stop.Stop.{Stop}
use Rattle.dx_stages.specs.Stages.{file, saying_if}
use Rattle.dx_stages.specs.Running.{Ran, Gives}
use Rattle.dx_stages.proofs.Running.{ran_next, ran_passes, ran_stop, ran_value, silent_apart}
use Rattle.clio_accept.specs.declared.fault.AcceptFault.TheVariants as faults
use Rattle.clio_accept.specs.declared.mapping.Mapping.{Mapping}
use Rattle.clio_accept.specs.Accepting.{accepting}
use Rattle.clio_accept.specs.Laws.{MappingFits}
use Rattle.clio_accept.proofs.Accepted.{accepted_fits}
use Rattle.clio_accept.proofs.Silent.{accepting_silent}
use Rattle.clio_ending.specs.declared.ending.Refusal.{Refusal}
use Rattle.clio_ending.specs.declared.ending.Refusal.TheVariants as refusals
use Rattle.clio_steps.specs.declared.texts.Side.{Side}
use Rattle.clio_steps.specs.declared.texts.Side.TheVariants.{First, Second}
use Rattle.clio_steps.specs.Steps.{Program, absent_text, text_bytes, text_file, text_name, side_refusal, text_stages, too_long}

-- the file that was asked for is that of the side
its_file : (side : Side) (called : List ℕ) (absent : Refusal) (r : Result (List ℕ) (Stop Refusal)) (old new : InputState) → called ≡ text_name side
    → absent ≡ absent_text side → Ran (file {A = Unit {0}} called text_bytes absent too_long) (tt {0}) r old new → Ran (text_file side) (tt {0}) r old new
its_file side called absent r old new is said x =
    subst (λ e. Ran (file {A = Unit {0}} (text_name side) text_bytes e too_long) (tt {0}) r old new) said
    (subst (λ n. Ran (file {A = Unit {0}} n text_bytes absent too_long) (tt {0}) r old new) is x)

pub stopped : (P : Program) (side : Side) (called : List ℕ) (absent : Refusal) (e : Stop Refusal) (old new : InputState) → called ≡ text_name side
    → absent ≡ absent_text side → Ran (file {A = Unit {0}} called text_bytes absent too_long) (tt {0}) (Err e) old new
    → Ran (text_stages P side) (tt {0}) (Err e) old new
stopped P side called absent e old new is said x =
    ran_stop (text_file side) (saying_if (side_refusal side) (accepting P.list P.tests)) (tt {0}) e old new (its_file side called absent (Err e) old new is said x)

pub passed : (P : Program) (side : Side) (called : List ℕ) (absent : Refusal) (text bytes : List ℕ) (r : Result Mapping (Stop Refusal)) (old new : InputState)
    → called ≡ text_name side → absent ≡ absent_text side → bytes ≡ text
    → Ran (file {A = Unit {0}} called text_bytes absent too_long) (tt {0}) (Ok text) old new
    → Gives (saying_if (side_refusal side) (accepting P.list P.tests)) bytes r → Ran (text_stages P side) (tt {0}) r old new
passed P side called absent text bytes r old new is said same x g =
    let accepted = saying_if (side_refusal side) (accepting P.list P.tests) in
    ran_next (text_file side) accepted (tt {0}) text r old new new (silent_apart (text_file side) accepted (accepting_silent P.list P.tests))
    (its_file side called absent (Ok text) old new is said x)
    (ran_value accepted text r new (subst (λ v. Gives accepted v r) same g))

-- the file of a mapping text is far smaller than a text may be
pub is_small : (text : List ℕ) → length text ≤ text_bytes → length text < 2 ^ 32 - 1
is_small text few = omega (arith, few)

-- a mapping that was read fits
pub mapping_fits : (P : Program) (side : Side) (M : Mapping) (old new : InputState) → Ran (text_stages P side) (tt {0}) (Ok M) old new
    → MappingFits P.list P.tests M
mapping_fits P side M old new x =
    let p = ran_passes (text_stages P side) (tt {0}) M old new x in
    accepted_fits P.list P.tests p.0 p.1.0 M (is_small p.1.0 p.1.1.1) p.1.2

-- a text that was fetched is within the limit
pub within : (called : List ℕ) (absent : Refusal) (text bytes : List ℕ) (old new : InputState) → bytes ≡ text
    → Ran (file {A = Unit {0}} called text_bytes absent too_long) (tt {0}) (Ok text) old new → length bytes ≤ text_bytes
within called absent text bytes old new same x =
    let p = ran_passes (file {A = Unit {0}} called text_bytes absent too_long) (tt {0}) text old new x in
    subst (λ v. length v ≤ text_bytes) (sym same) p.1.1

-- a limit is said as one, whichever text it is of
pub limit_said : (side : Side) (limit : Limit) → side_refusal side (faults.Limit limit) ≡ Some (refusals.Limit limit)
limit_said First limit = refl
limit_said Second limit = refl
