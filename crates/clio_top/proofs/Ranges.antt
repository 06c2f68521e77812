-- The commands that words say are in range.
use Rattle.std.proofs.Common.{◌≡◌, ℕ, zero, suc, ◌+◌, ◌-◌, ◌*◌, ◌≤◌, List, [], ◌∷◌, refl, sym, ◌∙◌, subst, Bool, true, false, nat_lt, Option, None, Some, arith}
use Rattle.std.specs.Prelude.{cond, eqb, ◌&&◌, ◌||◌, codes, nat_le}
use Rattle.std.proofs.lemmas.Bool.{and_parts, cond_both, eq-eqb, leb-true, ltb-true, true≢false}
use Rattle.std.proofs.lemmas.Option.{none-some, same_Some}
use Rattle.dx_tokens.specs.Tokens.{is_digit}
use Rattle.dx_exchange.specs.declared.mode.Mode.{Mode}
use Rattle.dx_exchange.specs.declared.mode.Mode.TheVariants.{Core, Plain}
use Rattle.clio_top.specs.declared.command.Command.{Command}
use Rattle.clio_top.specs.declared.command.Command.TheVariants.{Answering, Comparing, Demonstrating, Exchanging, Judging, Showing}
use Rattle.clio_top.specs.Commands.{IsInRange}
use Rattle.clio_top.specs.Words.{Word, without_options, demo_of, demo_said, exchange_said, is_core, is_nested, number_after, numeral_number, demo_with_number, same_word, says, show_said}

-- ---- numerals

if_true : {A : Type 0} (b : Bool) (o : Option A) (x : A) → cond b o None ≡ Some x → (b ≡ true) × (o ≡ Some x)
if_true true o x e = (refl, e)
if_true false o x e = absurd (none-some x e)

if_false : {A : Type 0} (b : Bool) (o : Option A) (x : A) → cond b None o ≡ Some x → (b ≡ false) × (o ≡ Some x)
if_false true o x e = absurd (none-some x e)
if_false false o x e = (refl, e)

-- what digits say after n is at least n, and within the limit
digits_within : (n : ℕ) (w : Word) (m : ℕ) → n ≤ 100000 → number_after n w ≡ Some m → (n ≤ m) × (m ≤ 100000)
digits_within n [] m few e = subst (λ k. (n ≤ k) × (k ≤ 100000)) (same_Some n m e) (omega arith, few)
digits_within n (b ∷ bs) m few e =
    let p = if_true (is_digit b && nat_lt (10 * n + (b - 48)) 100001) (number_after (10 * n + (b - 48)) bs) m e in
    let q = and_parts (is_digit b) (nat_lt (10 * n + (b - 48)) 100001) p.0 in
    let small = ltb-true (10 * n + (b - 48)) 100001 q.1 in
    let r = digits_within (10 * n + (b - 48)) bs m (omega (arith, small)) p.1 in
    let low = r.0 in (omega (arith, low), r.1)

numeral_within : (w : Word) (m : ℕ) → numeral_number w ≡ Some m → (1 ≤ m) × (m ≤ 100000)
numeral_within [] m e = absurd (none-some m e)
numeral_within (b ∷ bs) m e =
    let p = if_false (eqb b 48) (number_after 0 (b ∷ bs)) m e in
    let q = if_true (is_digit b && nat_lt (10 * 0 + (b - 48)) 100001) (number_after (10 * 0 + (b - 48)) bs) m p.1 in
    let t = and_parts (is_digit b) (nat_lt (10 * 0 + (b - 48)) 100001) q.0 in
    let small = ltb-true (10 * 0 + (b - 48)) 100001 t.1 in
    let bounds = and_parts (nat_le 48 b) (nat_le b 57) t.0 in
    let digit = leb-true 48 b bounds.0 in
    let r = digits_within (10 * 0 + (b - 48)) bs m (omega (arith, small)) q.1 in
    let low = r.0 in
    (above b m digit (λ zero. true≢false (sym (eq-eqb b 48 zero) ∙ p.0)) low, r.1)
  where
    above : (b m : ℕ) → 48 ≤ b → ¬ (b ≡ 48) → 10 * 0 + (b - 48) ≤ m → 1 ≤ m
    above b zero digit other low = absurd (other (omega (arith, digit, low)))
    above b (suc m) digit other low = omega arith

-- ---- commands

-- if it is a command, it is in range
AreRanged : Option Command → Type 0
AreRanged o = (c : Command) → o ≡ Some c → IsInRange c

none_ranged : AreRanged None
unfolding AreRanged
none_ranged c e = absurd (none-some c e)

one_ranged : (d : Command) → IsInRange d → AreRanged (Some d)
unfolding AreRanged
one_ranged d h c e = subst IsInRange (same_Some d c e) h

numbered_ranged : (w : Word) (mode : Mode) → AreRanged (demo_with_number w mode)
unfolding AreRanged
numbered_ranged w mode = of (numeral_number w) (numeral_within w)
  where
    of : (o : Option ℕ) → ((m : ℕ) → o ≡ Some m → (1 ≤ m) × (m ≤ 100000)) → AreRanged (demo_of mode o)
    of None h = none_ranged
    of (Some n) h = one_ranged (Demonstrating n mode) (h n refl)

show_ranged : (words : List Word) → AreRanged (show_said words)
show_ranged [] = one_ranged (Showing Plain) tt
show_ranged (w ∷ []) =
    cond_both (is_core w) (Some (Showing Core)) None AreRanged (λ y. one_ranged (Showing Core) tt) (λ n. none_ranged)
show_ranged (v ∷ w ∷ words) = none_ranged

exchange_ranged : (words : List Word) → AreRanged (exchange_said words)
exchange_ranged [] = one_ranged (Exchanging Plain false) tt
exchange_ranged (w ∷ []) =
    cond_both (is_core w) (Some (Exchanging Core false)) (cond (is_nested w) (Some (Exchanging Plain true)) None) AreRanged
    (λ y. one_ranged (Exchanging Core false) tt)
    (λ n. cond_both (is_nested w) (Some (Exchanging Plain true)) None AreRanged (λ y. one_ranged (Exchanging Plain true) tt) (λ n. none_ranged))
exchange_ranged (v ∷ w ∷ []) =
    cond_both ((is_core v && is_nested w) || (is_nested v && is_core w)) (Some (Exchanging Core true)) None AreRanged
    (λ y. one_ranged (Exchanging Core true) tt) (λ n. none_ranged)
exchange_ranged (u ∷ v ∷ w ∷ words) = none_ranged

demo_ranged : (words : List Word) → AreRanged (demo_said words)
demo_ranged [] = none_ranged
demo_ranged (w ∷ []) = numbered_ranged w Plain
demo_ranged (v ∷ w ∷ []) =
    cond_both (is_core v) (demo_with_number w Core) (cond (is_core w) (demo_with_number v Core) None) AreRanged (λ y. numbered_ranged w Core)
    (λ n. cond_both (is_core w) (demo_with_number v Core) None AreRanged (λ y. numbered_ranged v Core) (λ n. none_ranged))
demo_ranged (u ∷ v ∷ w ∷ words) = none_ranged

alone_ranged : (c : Command) (words : List Word) → IsInRange c → AreRanged (without_options c words)
alone_ranged c [] h = one_ranged c h
alone_ranged c (w ∷ words) h = none_ranged

-- one command, or another
either_ranged : (b : Bool) (x y : Option Command) → AreRanged x → AreRanged y → AreRanged (cond b x y)
either_ranged true x y p q = p
either_ranged false x y p q = q

words_ranged : (words : List Word) → AreRanged (says words)
words_ranged [] = none_ranged
words_ranged (name ∷ words) =
    either_ranged (same_word name (codes "show")) (show_said words) _ (show_ranged words)
    (either_ranged (same_word name (codes "exchange")) (exchange_said words) _ (exchange_ranged words)
    (either_ranged (same_word name (codes "demo")) (demo_said words) _ (demo_ranged words)
    (either_ranged (same_word name (codes "answer")) (without_options Answering words) _ (alone_ranged Answering words tt)
    (either_ranged (same_word name (codes "judge")) (without_options Judging words) _ (alone_ranged Judging words tt)
    (either_ranged (same_word name (codes "compare")) (without_options Comparing words) _ (alone_ranged Comparing words tt)
    none_ranged)))))

pub says_ranged : (words : List Word) (c : Command) → says words ≡ Some c → IsInRange c
unfolding AreRanged
says_ranged words = words_ranged words
