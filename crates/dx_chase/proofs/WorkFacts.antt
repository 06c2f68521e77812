-- What waits: numbers that were never taken, and then others.
use Rattle.std.proofs.Common.{◌≡◌, ◌∙◌, ℕ, ◌+◌, ◌-◌, ◌<◌, List, [], ◌∷◌, ◌++◌, ◌⊎◌, inl, inr, refl, sym, ap, length, arith}
use Rattle.std.specs.List.{range_with_len}
use Rattle.std.proofs.lemmas.List.{append-nil, nil_from_length}
use Rattle.dx_base.specs.Members.{◌∈◌, ◌⊆◌, here, there, Each}
use Rattle.dx_base.proofs.Members.{from_append, in_left, in_right}
use Rattle.dx_base.proofs.Ranges.{to_range}
use Rattle.dx_chase.specs.Work.{AddsNumbers}
use Rattle.dx_chase.proofs.Opening.{firsts_more}

-- the last of the numbers below n
pub take_fresh : (n : ℕ) (old new : List ℕ) → 0 < n → old ≡ new ++ [] → length old ≡ 0
    → range_with_len 0 n ++ old ≡ (range_with_len 0 (n - 1) ++ new) ++ (n - 1) ∷ []
take_fresh n old new h e l =
    let on : n ≡ (n - 1) + 1 = omega arith in
    let a : old ≡ [] = nil_from_length old l in
    let b : new ≡ [] = sym (append-nil new) ∙ (sym e ∙ a) in
    ap (λ z. range_with_len 0 n ++ z) a
    ∙ (append-nil (range_with_len 0 n)
    ∙ (ap (range_with_len 0) on
    ∙ (firsts_more (n - 1)
    ∙ ap (λ z. z ++ (n - 1) ∷ []) (sym (append-nil (range_with_len 0 (n - 1))) ∙ ap (λ z. range_with_len 0 (n - 1) ++ z) (sym b)))))

pub adds_none : (old : List ℕ) → AddsNumbers [] old old
adds_none old = record { stays = λ i m. m; all = λ i m. elim m [ ]; either = λ i m. inl m }

adds_more : (more old now new : List ℕ) (one : ℕ) → now ⊆ new → one ∈ new → Each new (λ i. (i ∈ now) ⊎ (i ≡ one)) → AddsNumbers more old now
    → AddsNumbers (more ++ one ∷ []) old new
adds_more more old now new one up there_is from A = record {
  stays = λ i m. up i (A.stays i m);
  all = λ i m. elim (from_append more m) [ inl l ↦ up i (A.all i l) | inr l ↦ last i l ];
  either = λ i m. elim (from i m) [
    | inl l ↦ elim (A.either i l) [ inl k ↦ inl k | inr k ↦ inr (in_left (one ∷ []) k) ]
    | inr e ↦ inr (in_right more (here (sym e)))
  ];
}
  where
    last : (i : ℕ) → i ∈ (one ∷ []) → i ∈ new
    last i (here e) = rw (← e) there_is
    last i (there e) = elim e [ ]

-- one that was never taken waits already
pub adds_fresh : (more old woken : List ℕ) (n one : ℕ) → one < n → AddsNumbers more old (range_with_len 0 n ++ woken)
    → AddsNumbers (more ++ one ∷ []) old (range_with_len 0 n ++ woken)
adds_fresh more old woken n one h A =
    let now : List ℕ = range_with_len 0 n ++ woken in
    adds_more more old now now one (λ i m. m) (in_left woken (to_range 0 n one (omega arith) (omega arith))) (λ i m. inl m) A

-- another goes to the end
pub adds_last : (more old woken new : List ℕ) (n one : ℕ) → new ≡ woken ++ one ∷ [] → AddsNumbers more old (range_with_len 0 n ++ woken)
    → AddsNumbers (more ++ one ∷ []) old (range_with_len 0 n ++ new)
adds_last more old woken new n one e A =
    adds_more more old (range_with_len 0 n ++ woken) (range_with_len 0 n ++ new) one up (in_right (range_with_len 0 n) (rw e (in_right woken (here refl)))) from A
  where
    up : (range_with_len 0 n ++ woken) ⊆ (range_with_len 0 n ++ new)
    up i m = elim (from_append (range_with_len 0 n) m) [
      | inl l ↦ in_left new l
      | inr l ↦ in_right (range_with_len 0 n) (rw e (in_left (one ∷ []) l))
    ]

    last : (i : ℕ) → i ∈ (one ∷ []) → i ≡ one
    last i (here q) = sym q
    last i (there q) = elim q [ ]

    from : (i : ℕ) → i ∈ (range_with_len 0 n ++ new) → (i ∈ (range_with_len 0 n ++ woken)) ⊎ (i ≡ one)
    from i m = elim (from_append (range_with_len 0 n) m) [
      | inl l ↦ inl (in_left woken l)
      | inr l ↦ elim (from_append woken (rw e at l)) [ inl k ↦ inl (in_right (range_with_len 0 n) k) | inr k ↦ inr (last i k) ]
    ]
