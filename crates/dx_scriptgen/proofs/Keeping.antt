-- Keep steps, one rule after the other.
use Rattle.std.proofs.Common.{◌≡◌, ℕ, ◌+◌, ◌<◌, ◌≤◌, List, [], ◌∷◌, ◌++◌, refl, sym, ◌∙◌, ap, length, drop, get_or, arith}
use Rattle.std.specs.Prelude.{flat_map, slice_index_or}
use Rattle.std.proofs.lemmas.List.{append-nil}
use Rattle.dx_model.specs.Covers.{below}
use Rattle.dx_script.specs.declared.form.Unless.{Unless}
use Rattle.dx_script.specs.declared.form.Step.{Step}
use Rattle.dx_script.specs.declared.form.Step.TheVariants.{KeepRows}
use Rattle.dx_script.specs.Generated.{keep_step}
use Rattle.dx_scriptgen.proofs.Lists.{drop_next, drop_none, flat_more}

pub keep_more : (r : ℕ) (us : List Unless) → 0 < length us → KeepRows r us ∷ [] ≡ keep_step r us
keep_more r [] h = absurd (omega (arith, h))
keep_more r (u ∷ us) h = refl

pub keep_none : (r : ℕ) (us : List Unless) (steps : List Step) → length us ≤ 0 → steps ≡ steps ++ keep_step r us
keep_none r [] steps h = sym (append-nil steps)
keep_none r (u ∷ us) steps h = absurd (omega (arith, h))

-- the keep steps of the rules before a number
abbrev pub kept_below : List (List Unless) → ℕ → List Step
kept_below parts n = flat_map (λ r. keep_step r (slice_index_or parts r [])) (below n)

pub kept_one : (parts : List (List Unless)) (n next number : ℕ) (rest left : List (List Unless)) (len less : ℕ) (us : List Unless) (start ys zs : List Step)
    → rest ≡ drop n parts → len ≡ length rest → ys ≡ start ++ kept_below parts n → rest ≡ us ∷ left → less + 1 ≡ len → number ≡ n → next ≡ n + 1 → zs ≡ ys ++ keep_step number us
    → (left ≡ drop next parts) × (less ≡ length left) × (next ≤ length parts) × (zs ≡ start ++ kept_below parts next)
kept_one parts n next number rest left len less us start ys zs a l p b s e f q =
    let w = drop_next parts n next [] us left f (sym a ∙ b) in
    let k : len ≡ length left + 1 = l ∙ (ap length b ∙ (omega arith)) in
    let g : keep_step number us ≡ keep_step n (get_or parts n []) = ap (λ z. keep_step z us) e ∙ ap (keep_step n) (sym w.2) in (
      w.1,
      omega (arith, s, k),
      (let v = w.0 in omega (arith, v, f)),
      rw f (flat_more (λ r. keep_step r (slice_index_or parts r [])) n start ys zs p (q ∙ ap (λ z. ys ++ z) g)),
    )

pub all_kept : (parts : List (List Unless)) (n : ℕ) (rest : List (List Unless)) (len : ℕ) (start ys : List Step)
    → rest ≡ drop n parts → len ≡ length rest → n ≤ length parts → ys ≡ start ++ kept_below parts n → len ≡ 0 → ys ≡ start ++ kept_below parts (length parts)
all_kept parts n rest len start ys a l h p z =
    let d : length (drop n parts) ≡ 0 = ap length (sym a) ∙ (sym l ∙ z) in
    let k = drop_none parts n d in
    let e : n ≡ length parts = omega (arith, k, h) in
    p ∙ ap (λ m. start ++ kept_below parts m) e
