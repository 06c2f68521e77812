-- How the name of a part begins and ends.
use Rattle.std.proofs.Common.{◌≡◌, ◌∙◌, ◌≤◌, ◌+◌, ◌-◌, ℕ, List, ◌++◌, length, take, drop, ap, sym, arith, length-take-le, drop-drop, Option, Some, None}
use Rattle.std.specs.Prelude.{IfSome}
use Rattle.std.proofs.Math.Seq.{drop-append_seam, take-append_seam}

-- a name that begins with these six bytes
pub name_begins : (name start : List ℕ) (k : ℕ) → name ≡ start ++ drop k name → length start ≡ 6 → take 6 name ≡ start
name_begins name start k begins six =
    ap (λ (l : List ℕ). take 6 l) begins ∙ ap (λ (i : ℕ). take i (start ++ drop k name)) (sym six) ∙ take-append_seam start (drop k name)

-- a text that ends with these five bytes
text_ends : (text last : List ℕ) (n : ℕ) → n ≡ length last → length last ≡ 5 → n ≤ length text → text ≡ take (length text - n) text ++ last
    → drop (length text - 5) text ≡ last
text_ends text last n is five few ends =
    let long = length-take-le (length text - n) text (omega arith) in
    let same : length text - 5 ≡ length (take (length text - n) text) = omega (arith, long, is, five) in
    ap (λ (l : List ℕ). drop (length text - 5) l) ends ∙ ap (λ (i : ℕ). drop i (take (length text - n) text ++ last)) same
    ∙ drop-append_seam (take (length text - n) text) last

-- a name ends as what is left of it after two cuts
pub name_ends : (name rest time last : List ℕ) (k j n : ℕ) → rest ≡ drop k name → length rest + k ≡ length name → time ≡ drop j rest → length time + j ≡ length rest
    → n ≡ length last → length last ≡ 5 → n ≤ length time → time ≡ take (length time - n) time ++ last → drop (length name - 5) name ≡ last
name_ends name rest time last k j n r lr t lt is five few ends =
    let at : length name - 5 ≡ k + (j + (length time - 5)) = omega (arith, lr, lt, is, five, few) in
    ap (λ (i : ℕ). drop i name) at ∙ sym (drop-drop (j + (length time - 5)) k name) ∙ ap (λ (l : List ℕ). drop (j + (length time - 5)) l) (sym r)
    ∙ sym (drop-drop (length time - 5) j rest) ∙ ap (λ (l : List ℕ). drop (length time - 5) l) (sym t) ∙ text_ends time last n is five few ends

-- what holds anyway
pub anyway : {T : Type 0} (o : Option T) (P : Type 0) → P → IfSome o (λ _. P)
anyway None P p = tt
anyway (Some x) P p = p
