-- What is logged where nothing was answered, and at the start.
use Rattle.std.proofs.Common.{◌≡◌, ℕ, List, [], refl, sym, ap, ◌∙◌, subst, Some, None, Err}
use Rattle.dx_base.specs.Entries.{Entry}
use Rattle.dx_ports.specs.declared.inputs.FetchFault.{FetchFault}
use Rattle.dx_ports.specs.declared.inputs.FetchFault.TheVariants as faults
use Rattle.dx_ports.specs.States.{Found, InputState, OutputState, answered_then, nothing_read, nothing_written}

-- want of memory answers nothing
pub none_answered : (log : List Found) (name : List ℕ) (limit : ℕ) (into : List ℕ) (e : FetchFault) → e ≡ faults.Memory
    → log ≡ answered_then log name limit (Err e) into
none_answered log name limit into e is = subst (λ (f : FetchFault). log ≡ answered_then log name limit (Err f) into) (sym is) refl

-- ---- at the start

abbrev reading : List Found → InputState
reading log = record { holds = None; answered = log; faults = 0; stopped = None }

pub reads_nothing : (log : List Found) → log ≡ [] → reading log ≡ nothing_read
reads_nothing log is = ap reading is

abbrev writing : List Entry → List ℕ → OutputState
writing files said = record { files = Some files; said = Some said }

pub wrote_nothing : (files : List Entry) (said : List ℕ) → files ≡ [] → said ≡ [] → writing files said ≡ nothing_written
wrote_nothing files said is are = ap (λ (f : List Entry). writing f said) is ∙ ap (λ (s : List ℕ). writing [] s) are
