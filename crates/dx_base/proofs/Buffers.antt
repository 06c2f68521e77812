-- A buffer as a whole is a text.
use Rattle.std.proofs.Common.{arith, ◌≡◌, ◌-◌, ◌≤◌, ◌∙◌, ℕ, List, IsUtf8, String, Global, length, string_bytes, take, subst, sym}
use Rattle.std.specs.String.{string_len}
use Rattle.std.proofs.lemmas.List.{take_all}
use Rattle.std.proofs.lemmas.Str.{IsUtf8-string_bytes}

all_bytes : (bytes : List ℕ) (end : ℕ) → end ≡ length bytes → IsUtf8 bytes
    → (0 ≤ end) × (end ≤ length bytes) × IsUtf8 (take (end - 0) bytes)
all_bytes bytes end size text =
    let none : 0 ≤ end = omega arith in
    let here : end ≤ length bytes = omega (arith, size) in
    let long : length bytes ≤ end - 0 = omega (arith, size) in
    (none, here, subst IsUtf8 (sym (take_all (end - 0) bytes long)) text)

pub whole_text : (s buffer : String Global) (end : ℕ) → buffer ≡ s → end ≡ string_len s
    → (0 ≤ end) × (end ≤ length (string_bytes buffer)) × IsUtf8 (take (end - 0) (string_bytes buffer))
whole_text s buffer end is size =
    subst (λ b. (0 ≤ end) × (end ≤ length (string_bytes b)) × IsUtf8 (take (end - 0) (string_bytes b))) (sym is)
    (all_bytes (string_bytes s) end (size ∙ s.bytes.ok.0) (IsUtf8-string_bytes s))
