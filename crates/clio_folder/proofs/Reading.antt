-- What a reader gives up to a limit.
use Rattle.std.proofs.Common.{◌≡◌, ◌∙◌, ◌<◌, ◌≤◌, ◌+◌, ℕ, List, [], ◌++◌, length, take, ap, subst, inl, inr, arith, Option, Some, None, Result, Ok, Err}
use Rattle.std.specs.Prelude.{◌⊎◌, IfSome, OnOk, true, is_ok}
use Rattle.std.specs.Option.{option_map}
use Rattle.std.proofs.lemmas.Bool.{cases_lt, true≢false}
use Rattle.std.proofs.lemmas.List.{length-take, take_all}

-- of no more than the limit nothing is left
pub all_read : (known : Option (List ℕ)) (limit : ℕ) (now : List ℕ) → IfSome (option_map (take (limit + 1)) known) (λ bytes. now ≡ bytes) → length now ≤ limit
    → IfSome known (λ bytes. now ≡ bytes)
all_read None limit now is within = tt
all_read (Some bytes) limit now is within = of (cases_lt limit (length bytes))
  where
    many : length now ≡ length (take (limit + 1) bytes)
    many = ap length is

    of : (limit < length bytes) ⊎ (length bytes ≤ limit) → now ≡ bytes
    of (inl more) = let cut = length-take (limit + 1) bytes in absurd (omega (arith, within, more, many, cut))
    of (inr fits) = let whole : length bytes ≤ limit + 1 = omega (arith, fits) in is ∙ take_all (limit + 1) bytes whole

-- where there is more than the limit, the reader gives more
pub more_read : (known : Option (List ℕ)) (limit : ℕ) (now : List ℕ) → IfSome (option_map (take (limit + 1)) known) (λ bytes. now ≡ bytes) → limit < length now
    → IfSome known (λ bytes. limit < length bytes)
more_read None limit now is more = tt
more_read (Some bytes) limit now is more =
    let many : length now ≡ length (take (limit + 1) bytes) = ap length is in
    let cut = length-take (limit + 1) bytes in
    omega (arith, more, many, cut)

-- what a call that read to the end answers of a reader that was taken up to the limit
pub all_taken : {E : Type 0} (r : Result ℕ E) (known inner : Option (List ℕ)) (limit most : ℕ) (before now : List ℕ) → true ≡ is_ok r
    → OnOk r (IfSome (option_map (take most) inner) (λ bytes. now ≡ before ++ bytes)) → most ≡ limit + 1 → inner ≡ known → before ≡ [] → length now ≤ limit
    → IfSome known (λ bytes. now ≡ bytes)
all_taken (Ok n) known inner limit most before now ok h m i b within =
    let h1 = subst (λ (k : ℕ). IfSome (option_map (take k) inner) (λ bytes. now ≡ before ++ bytes)) m h in
    let h2 = subst (λ (o : Option (List ℕ)). IfSome (option_map (take (limit + 1)) o) (λ bytes. now ≡ before ++ bytes)) i h1 in
    let h3 = subst (λ (l : List ℕ). IfSome (option_map (take (limit + 1)) known) (λ bytes. now ≡ l ++ bytes)) b h2 in
    all_read known limit now h3 within
all_taken (Err e) known inner limit most before now ok h m i b within = absurd (true≢false ok)
