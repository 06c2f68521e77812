-- First faults of small texts, what readers answer of them, and how values are spelled, computed. Tokens are numbers.
use Rattle.std.proofs.Common.{◌≡◌, ℕ, ◌+◌, Bool, true, false, List, [], ◌∷◌, Some, None, Result, Ok, Err, nat_eq, nat_lt, length, refl, ap, inr, arith}
use Rattle.dx_grammar.specs.Forms.{Form, one, ◌▸◌, Derives, Starts}
use Rattle.dx_grammar.specs.Faults.{IsUnexpectedAt, IsStoppedAt}
use Rattle.dx_grammar.specs.declared.reading.ReadError.TheVariants as errors
use Rattle.dx_grammar.specs.Readers.{Reader, ◌>>=◌, token, many, whole, TellsOfTokens, FailsAs, LeavesAs, ReadsAs, Many, no_more, one_more}
use Rattle.dx_grammar.specs.Lists.{list_reader, past_one, SpellsList, list_of}
use Rattle.dx_grammar.specs.Numbers.{counted_reader, may_be, has_number, number_then, Knower, always, number_token, knowing, knowing_within}
use Rattle.dx_grammar.proofs.Verdicts.{Anything}
use Rattle.dx_grammar.proofs.Combined.{one_reads, then_any}
use Rattle.dx_grammar.proofs.Told.{answers}

-- this number, and any but 0
abbrev this : ℕ → ℕ → Bool
this n x = nat_eq x n

abbrev some : ℕ → Bool
some x = nat_lt 0 x

-- ---- first faults

-- 7 and then 8
abbrev pair : Form ℕ
pair = one (this 7) ▸ one (this 8)

abbrev pair_reader : Reader ℕ ℕ
pair_reader = token (this 7) >>= λ x. token (this 8)

told : (xs : List ℕ) → TellsOfTokens pair xs (whole pair_reader xs)
told xs =
    answers Anything pair pair_reader
    (then_any Anything (one (this 7)) (one (this 8)) (token (this 7)) (λ x. token (this 8))
    (one_reads Anything (this 7)) (λ x. one_reads Anything (this 8)))
    tt xs

-- each token has a place
abbrev place_of : ℕ → ℕ
place_of x = x + 100

-- the second token can't stand, and its own place is told
second_at_fault : IsUnexpectedAt pair place_of (7 ∷ 9 ∷ 8 ∷ []) 109
second_at_fault = record { number = 1; first = (told (7 ∷ 9 ∷ 8 ∷ [])).1; token = 9; is = refl; at = refl }

-- more is wanted where the text ends, which is at 12, and the fault is of kind 5
too_short : IsStoppedAt {K = ℕ} pair (7 ∷ []) None 12 5 12 5
too_short =
    let t : Starts pair (7 ∷ []) × ¬ (Derives pair (7 ∷ [])) = told (7 ∷ []) in
    record { all_stand = t.0; why = inr (refl, refl, refl, t.1) }

-- ---- readers

-- a token after all that is read can't stand, and it is one of those that are left
one_too_many : whole pair_reader (7 ∷ 8 ∷ 9 ∷ []) ≡ Err 1
one_too_many = refl

-- as many as come, in their order
several : many some (token some) (3 ∷ 1 ∷ 2 ∷ 0 ∷ 4 ∷ []) ≡ Ok (3 ∷ 1 ∷ 2 ∷ [], 0 ∷ 4 ∷ [])
unfolding many
several = refl

all_of_them : many some (token some) (3 ∷ 1 ∷ []) ≡ Ok (3 ∷ 1 ∷ [], [])
unfolding many
all_of_them = refl

-- a list has a member at least, and one behind each token that parts two
parted_by_zeros : list_reader (this 0) (token some) (3 ∷ 0 ∷ 1 ∷ 0 ∷ 2 ∷ 4 ∷ []) ≡ Ok (3 ∷ 1 ∷ 2 ∷ [], 4 ∷ [])
unfolding many
parted_by_zeros = refl

no_member : list_reader (this 0) (token some) [] ≡ Err 0
unfolding many
no_member = refl

none_behind : list_reader (this 0) (token some) (3 ∷ 0 ∷ []) ≡ Err 0
unfolding many
none_behind = refl

-- members are numbered without a gap, here from 1, and are two at most
numbered_on : counted_reader some (λ n. token (this n)) 2 1 (1 ∷ 2 ∷ 0 ∷ []) ≡ Ok (1 ∷ 2 ∷ [], 0 ∷ [])
unfolding counted_reader
numbered_on = refl

a_gap : counted_reader some (λ n. token (this n)) 2 1 (1 ∷ 3 ∷ []) ≡ Err 1
unfolding counted_reader
a_gap = refl

two_at_most : counted_reader some (λ n. token (this n)) 2 1 (1 ∷ 2 ∷ 3 ∷ []) ≡ Ok (1 ∷ 2 ∷ [], 3 ∷ [])
unfolding counted_reader
two_at_most = refl

-- ---- a form's number

-- it is at most the greatest, and once it is known it is no other
the_greatest : may_be 5 None 5 ≡ true
the_greatest = refl

one_more_than_the_greatest : may_be 5 None 6 ≡ false
one_more_than_the_greatest = refl

the_known : may_be 5 (Some 3) 3 ≡ true
the_known = refl

not_another : may_be 5 (Some 3) 2 ≡ false
not_another = refl

-- a token has it only if it passes
of_another_kind : has_number some (λ x. x) 0 0 ≡ false
of_another_kind = refl

of_another_number : has_number some (λ x. x) 3 4 ≡ false
of_another_number = refl

-- what stands after the number depends on it
its_own_form : number_then some (λ x. x) 5 (λ n. token (this n)) (3 ∷ 3 ∷ []) ≡ Ok (3, [])
its_own_form = refl

form_of_another : number_then some (λ x. x) 5 (λ n. token (this n)) (3 ∷ 4 ∷ []) ≡ Err 1
form_of_another = refl

-- a token that says the number, which is 5 at most
abbrev says_number : Knower ℕ ℕ
says_number = number_token some (λ x. x) 5

-- the first says the number, and the next says the same
learned : knowing some says_number None (3 ∷ 3 ∷ 0 ∷ []) ≡ Ok ((3 ∷ 3 ∷ [], Some 3), 0 ∷ [])
unfolding knowing knowing_within
learned = refl

says_another : knowing some says_number None (3 ∷ 4 ∷ []) ≡ Err 1
unfolding knowing knowing_within
says_another = refl

known_before : knowing some says_number (Some 4) (3 ∷ []) ≡ Err 1
unfolding knowing knowing_within
known_before = refl

-- what is known stays known if no token says it
stays_known : knowing some says_number (Some 4) (0 ∷ []) ≡ Ok (([], Some 4), 0 ∷ [])
unfolding knowing knowing_within
stays_known = refl

known_past_another : always (token some) (Some 4) (3 ∷ []) ≡ Ok ((3, Some 4), [])
known_past_another = refl

-- ---- what a function of the code may return

abbrev number_in : Result ℕ ℕ → ℕ
number_in (Ok v) = v
number_in (Err n) = n

-- no other value, and no other number of tokens that are left
another_value : ¬ (ReadsAs {A = ℕ} (λ x. x) (Ok 2) (Ok 1))
another_value h = let e : 1 ≡ 2 = ap number_in h in omega (arith, e)

another_place : ¬ (FailsAs {A = ℕ} (errors.Left 2) (Err 1))
another_place h = let e : 1 ≡ 2 = ap number_in h in omega (arith, e)

-- how many tokens are left
abbrev left_in : Result (ℕ × List ℕ) ℕ → ℕ
left_in (Ok p) = length p.1
left_in (Err n) = n

-- what is left may be after any value, and is no other
after_a_value : LeavesAs {A = List ℕ} (λ xs. xs) (Ok (3 ∷ [])) (token some (1 ∷ 3 ∷ []))
after_a_value = (1, refl)

another_rest : ¬ (LeavesAs {A = List ℕ} {B = ℕ} (λ xs. xs) (Ok []) (Ok (1, 3 ∷ [])))
another_rest h = let e : 1 ≡ 0 = ap left_in h.1 in omega (arith, e)

-- ---- spellings

-- a number spells itself
data Itself : ℕ → List ℕ → Type 0 where
  itself : (n : ℕ) → Itself n (n ∷ [])

-- values are in the order of their tokens
in_their_order : Many Itself (3 ∷ 1 ∷ 2 ∷ []) (3 ∷ 1 ∷ 2 ∷ [])
in_their_order = one_more (itself 3) (one_more (itself 1) (one_more (itself 2) no_more))

in_their_order_parted : SpellsList (this 0) Itself (3 ∷ 1 ∷ 2 ∷ []) (3 ∷ 0 ∷ 1 ∷ 0 ∷ 2 ∷ [])
in_their_order_parted =
    list_of (itself 3) (one_more (past_one 0 refl (itself 1)) (one_more (past_one 0 refl (itself 2)) no_more))
