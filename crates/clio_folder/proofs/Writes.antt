-- What a writer has taken, one write after the other.
use Rattle.std.proofs.Common.{◌≡◌, ◌∙◌, ◌≤◌, ◌+◌, ◌-◌, ℕ, List, ◌++◌, length, take, drop, ap, sym, append_assoc, arith, length-take, length-drop}
use Rattle.std.proofs.lemmas.List.{take_all}
use Rattle.std.proofs.Math.Seq.{take-add}

-- all that is left
abbrev rest : ℕ → List ℕ → List ℕ
rest done bytes = take (length bytes - done) (drop done bytes)

rest-is : (done : ℕ) (bytes : List ℕ) → rest done bytes ≡ drop done bytes
rest-is done bytes = let long = length-drop done bytes in take_all (length bytes - done) (drop done bytes) (omega (arith, long))

-- a write took so many bytes of what was left
pub one_write_more : (before said new bytes : List ℕ) (done taken now : ℕ) → now ≡ done + taken → (done ≤ length bytes) × (said ≡ before ++ take done bytes)
    → taken ≤ length (take (length bytes - done) (drop done bytes)) → new ≡ said ++ take taken (take (length bytes - done) (drop done bytes))
    → (now ≤ length bytes) × (new ≡ before ++ take now bytes)
one_write_more before said new bytes done taken now sum inv few took =
    let left = ap length (rest-is done bytes) in
    let long = length-drop done bytes in
    let within = inv.0 in
    let parts : take done bytes ++ take taken (drop done bytes) ≡ take now bytes = sym (take-add done taken bytes) ∙ ap (λ (n : ℕ). take n bytes) (sym sum) in (
      omega (arith, sum, few, left, long, within),
      took ∙ ap (λ (bs : List ℕ). said ++ take taken bs) (rest-is done bytes) ∙ ap (λ (bs : List ℕ). bs ++ take taken (drop done bytes)) inv.1
          ∙ append_assoc before (take done bytes) (take taken (drop done bytes)) ∙ ap (λ (bs : List ℕ). before ++ bs) parts,
    )

-- a write took nothing
pub no_write_more : (before said new bytes : List ℕ) (done now : ℕ) → now ≡ done → (done ≤ length bytes) × (said ≡ before ++ take done bytes) → new ≡ said
    → (now ≤ length bytes) × (new ≡ before ++ take now bytes)
no_write_more before said new bytes done now same inv kept =
    let within = inv.0 in (omega (arith, same, within), kept ∙ inv.1 ∙ ap (λ (n : ℕ). before ++ take n bytes) (sym same))
