-- The notions on small values: what the inputs hold, what stages in a row refuse, pass and ask for, and what a run leaves.
use Rattle.std.proofs.Common.{◌≡◌, ℕ, zero, suc, ◌+◌, ◌<◌, take, List, [], ◌∷◌, ◌++◌, length, refl, sym, ap, inl, inr, arith, Option, Some, None, Result, Ok, Err, Bool, true, false}
use Rattle.std.proofs.lemmas.Option.{none-some, same_Some}
use Rattle.std.specs.FinMap.{get}
use Rattle.dx_base.specs.Entries.{Entry, FileMap}
use Rattle.dx_ports.specs.Faults.{Rose}
use Rattle.dx_ports.specs.States.{Found, InputState, OutputState}
use Rattle.dx_ports.specs.States as sights
use Rattle.dx_stages.specs.declared.stop.Stop.TheVariants as stops
use Rattle.dx_stages.specs.declared.plan.Ended.{Ended}
use Rattle.dx_stages.specs.declared.plan.Ended.TheVariants as endeds
use Rattle.dx_stages.specs.Worlds.{World, Agrees, IsOf, IsSeen, HoldsFound, IsOnce}
use Rattle.dx_stages.specs.Stages.{Stage, next, each, file, computing, saying_if}
use Rattle.dx_stages.specs.Running.{Meets, FailedAt}
use Rattle.dx_stages.specs.Ending.{PlanContent, WroteAll, WroteFirst, WroteLess, Ends, Counts, IsOutside, IsRefusedAs}

-- ---- worlds

-- if the inputs tell what they hold, the world is that
told_is_the_world : (m : FileMap) (c : World) → IsOf (Some m) c → (n : List ℕ) → c n ≡ get m n
told_is_the_world m c held = held

-- if they tell nothing, it may be any
any_world : (c : World) → IsOf None c
any_world c = tt

-- what was found is what they told
told_is_found : (m : FileMap) (f : Found) → HoldsFound (Some m) (f ∷ []) → IsSeen (get m f.name) f.sight
told_is_found m f told = told.0

abbrev none_there : Found
none_there = record { name = 1 ∷ []; sight = sights.nothing }

asked_once : IsOnce (none_there ∷ [])
asked_once = ((λ h. h), tt)

not_asked_twice : ¬ (IsOnce (none_there ∷ none_there ∷ []))
not_asked_twice h = h.0 (inl refl)

-- ---- a file of at most one byte; 7 is said if it is absent, and 8 if it is too long

abbrev one_byte : Stage ℕ (Unit {0}) (List ℕ)
one_byte = file (1 ∷ []) 1 7 8

abbrev unwrapped : Option (List ℕ) → List ℕ
unwrapped None = []
unwrapped (Some bytes) = bytes

-- a world that has the same under each name
abbrev all_are : Option (List ℕ) → World
all_are bytes n = bytes

absent_is_told : one_byte.refuses (all_are None) tt 7
absent_is_told = inl (refl, refl)

absent_is_not_long : ¬ (one_byte.refuses (all_are None) tt 8)
absent_is_not_long (inl h) = let e : 8 ≡ 7 = h.1 in omega (arith, e)
absent_is_not_long (inr h) = let e : None ≡ Some h.0 = h.1 in absurd (cc e)

limit_is_passed_on : one_byte.passes (all_are (Some (5 ∷ []))) tt (5 ∷ [])
limit_is_passed_on = (refl, omega arith)

limit_is_not_long : ¬ (one_byte.refuses (all_are (Some (5 ∷ []))) tt 8)
limit_is_not_long (inl h) = let e : Some (5 ∷ []) ≡ None = h.0 in absurd (cc e)
limit_is_not_long (inr (bytes, is, more, said)) = let e : Some bytes ≡ Some (5 ∷ []) = sym is in let l : length bytes ≡ 1 = ap (λ (o : Option (List ℕ)). length (unwrapped o)) e in omega (arith, l, more)

one_more_is_long : one_byte.refuses (all_are (Some (5 ∷ 6 ∷ []))) tt 8
one_more_is_long = inr (5 ∷ 6 ∷ [], refl, omega arith, refl)

one_more_is_not_passed : ¬ (one_byte.passes (all_are (Some (5 ∷ 6 ∷ []))) tt (5 ∷ 6 ∷ []))
one_more_is_not_passed h = let l = h.1 in omega (arith, l)

its_name_is_asked : one_byte.asks (all_are None) tt (1 ∷ [])
its_name_is_asked = refl

-- a fault is one of a file that was asked for
no_fault_of_another : ¬ (Meets one_byte (all_are None) tt (Err (stops.Failed [])))
no_fault_of_another h = let e : [] ≡ (1 ∷ []) = h in absurd (cc e)

-- ---- what a read tells

abbrev one_file : Found
one_file = record { name = 1 ∷ []; sight = sights.bytes (5 ∷ []) }

-- it is so in a world of these bytes alone, also where the inputs don't tell what they hold
its_bytes : Agrees (all_are (Some (5 ∷ []))) (one_file ∷ [])
its_bytes = (refl, tt)

abbrev byte_of : Option (List ℕ) → ℕ
byte_of None = 0
byte_of (Some []) = 0
byte_of (Some (b ∷ bs)) = b

no_other_bytes : ¬ (Agrees (all_are (Some (6 ∷ []))) (one_file ∷ []))
no_other_bytes h = let e : 6 ≡ 5 = ap byte_of h.0 in omega (arith, e)

no_file_there : ¬ (Agrees (all_are (Some [])) (none_there ∷ []))
no_file_there h = let e : Some [] ≡ None = h.0 in absurd (cc e)

-- of a file that is too long it is told how many bytes it exceeds, and not which they are
abbrev long_file : Found
long_file = record { name = 1 ∷ []; sight = sights.more_than 1 }

two_are_more : Agrees (all_are (Some (5 ∷ 6 ∷ []))) (long_file ∷ [])
two_are_more = (omega arith, tt)

one_is_not_more : ¬ (Agrees (all_are (Some (5 ∷ []))) (long_file ∷ []))
one_is_not_more h = let l = h.0 in omega (arith, l)

none_is_not_more : ¬ (Agrees (all_are None) (long_file ∷ []))
none_is_not_more h = h.0

-- ---- stages in a row

abbrev adds : Stage ℕ ℕ ℕ
adds = computing (λ n. Ok (n + 1))

abbrev fails : Stage ℕ ℕ ℕ
fails = computing (λ n. Err n)

-- a computation has its result in each world, and asks for nothing
computed_anywhere : (c : World) → adds.passes c 1 2
computed_anywhere c = refl

nothing_is_asked : (c : World) (n : List ℕ) → ¬ (adds.asks c 1 n)
nothing_is_asked c n h = h

-- the second gets what the first passes
second_refuses : (c : World) → (next adds fails).refuses c 1 2
second_refuses c = inr (2, refl, refl)

-- its file is asked for if the first passes, and not if the first refuses
abbrev reads : Stage ℕ ℕ (List ℕ)
reads = file (1 ∷ []) 1 7 8

second_asks : (c : World) → (next adds reads).asks c 1 (1 ∷ [])
second_asks c = inr (2, refl, refl)

refused_or_not : {n : ℕ} (r : Result ℕ ℕ) → r ≡ Err 1 → r ≡ Ok n → ⊥
refused_or_not r p q = cc

second_is_not_come_to : (c : World) → ¬ ((next fails reads).asks c 1 (1 ∷ []))
second_is_not_come_to c (inl h) = h
second_is_not_come_to c (inr (n, p, q)) = refused_or_not (Err 1) refl p

-- in order
abbrev puts : ℕ → Stage ℕ (List ℕ) (List ℕ)
puts x = computing (λ xs. Ok (xs ++ x ∷ []))

first_comes_first : (c : World) → (each puts (1 ∷ 2 ∷ [])).passes c [] (1 ∷ 2 ∷ [])
first_comes_first c = (1 ∷ [], refl, (1 ∷ 2 ∷ [], refl, refl))

-- ---- refusals in other words: 7 is the word for one of two, and the other has none

abbrev refuses_it : Stage Bool Bool ℕ
refuses_it = computing (λ b. Err b)

abbrev seven_or_none : Bool → Option ℕ
seven_or_none true = Some 7
seven_or_none false = None

its_word_is_said : (c : World) → (saying_if seven_or_none refuses_it).refuses c true 7
its_word_is_said c = (true, refl, refl)

nothing_else_is_said : (c : World) → ¬ ((saying_if seven_or_none refuses_it).refuses c true 8)
nothing_else_is_said c (true, failed, is) = let e : 7 ≡ 8 = same_Some 7 8 is in omega (arith, e)
nothing_else_is_said c (false, failed, is) = none-some 8 is

one_of_two : (r : Result ℕ Bool) → r ≡ Err true → r ≡ Err false → ⊥
one_of_two r p q = cc

without_a_word_nothing_is_said : (c : World) (e : ℕ) → ¬ ((saying_if seven_or_none refuses_it).refuses c false e)
without_a_word_nothing_is_said c e (true, failed, is) = one_of_two (Err false) failed refl
without_a_word_nothing_is_said c e (false, failed, is) = none-some e is

-- ---- what is counted

-- one more, many more, and none more
one_more_rose : Rose 4 5
one_more_rose = omega arith

none_more_did_not : ¬ (Rose 4 4)
none_more_did_not h = omega (arith, h)

abbrev told : ℕ → Option (List ℕ) → InputState
told faults stopped = record { holds = None; answered = []; faults = faults; stopped = stopped }

memory_is_no_fault : ¬ (FailedAt {E = ℕ} {B = ℕ} (told 0 None) (told 1 None) (Err stops.Memory))
memory_is_no_fault h = let e : 1 ≡ 0 = h in omega (arith, e)

refusals_are_no_fault : ¬ (FailedAt {E = ℕ} {B = ℕ} (told 0 None) (told 1 None) (Err (stops.Refused 7)))
refusals_are_no_fault h = let e : 1 ≡ 0 = h in omega (arith, e)

results_are_no_fault : ¬ (FailedAt {E = ℕ} {B = ℕ} (told 0 None) (told 1 None) (Ok 7))
results_are_no_fault h = let e : 1 ≡ 0 = h in omega (arith, e)

another_name_failed : ¬ (FailedAt {E = ℕ} {B = ℕ} (told 0 None) (told 1 (Some [])) (Err (stops.Failed (1 ∷ []))))
another_name_failed h = let e : [] ≡ (1 ∷ []) = h.1 in absurd (cc e)

memory_has_no_read_fault : ¬ (Counts {D = ℕ} {R = ℕ} (told 0 None) (told 1 None) 0 0 endeds.Memory)
memory_has_no_read_fault h = let e : 1 ≡ 0 = h.0 in omega (arith, e)

memory_has_no_write_fault : ¬ (Counts {D = ℕ} {R = ℕ} (told 0 None) (told 0 None) 0 1 endeds.Memory)
memory_has_no_write_fault h = let e : 1 ≡ 0 = h.1 in omega (arith, e)

refusals_have_no_read_fault : ¬ (Counts {D = ℕ} {R = ℕ} (told 0 None) (told 1 None) 0 0 (endeds.Refused 7))
refusals_have_no_read_fault h = let e : 1 ≡ 0 = h.0 in omega (arith, e)

read_fault_names_its_file : ¬ (Counts {D = ℕ} {R = ℕ} (told 0 None) (told 1 (Some [])) 0 0 (endeds.ReadFault (1 ∷ [])))
read_fault_names_its_file h = let e : [] ≡ (1 ∷ []) = h.1 in absurd (cc e)

-- ---- how a run ends

-- neither a finished run, nor a refusal, nor a write fault is one of outside
finished_is_inside : ¬ (IsOutside {D = ℕ} {R = ℕ} (endeds.Done 0))
finished_is_inside h = h

refused_is_inside : ¬ (IsOutside {D = ℕ} {R = ℕ} (endeds.Refused 0))
refused_is_inside h = h

write_fault_is_inside : ¬ (IsOutside {D = ℕ} {R = ℕ} (endeds.WriteFault 0))
write_fault_is_inside h = h

abbrev reason : Ended ℕ ℕ → ℕ
reason (endeds.Done d) = 0
reason (endeds.Refused r) = r
reason (endeds.ReadFault n) = 0
reason (endeds.WriteFault count) = 0
reason endeds.Memory = 0

-- 7 is not 8
another_refusal : ¬ (IsRefusedAs {D = ℕ} {R = ℕ} (λ x y. x ≡ y) 7 (endeds.Refused 8))
another_refusal (k, is, alike) = let e : 8 ≡ k = ap reason is in let f : k ≡ 7 = alike in omega (arith, e, f)

abbrev written : List Entry → List ℕ → OutputState
written files said = record { files = Some files; said = Some said }

abbrev first_file : Entry
first_file = (1 ∷ [], [])

abbrev second_file : Entry
second_file = (2 ∷ [], [])

-- of two files the first was written
first_was_written : WroteFirst (first_file ∷ second_file ∷ []) (3 ∷ []) 1 (written [] []) (written (first_file ∷ []) [])
first_was_written = record { within = omega arith; put = refl; said = (0, refl); silent = λ h. refl }

-- nothing is said before the last file
nothing_is_said_before : ¬ (WroteFirst (first_file ∷ second_file ∷ []) (3 ∷ []) 1 (written [] []) (written (first_file ∷ []) (3 ∷ [])))
nothing_is_said_before h = let e : Some (3 ∷ []) ≡ Some [] = h.silent (omega arith) in absurd (cc e)

-- all was written if the text was said too, and each file; both come after what was there before
said_too : ¬ (WroteAll (first_file ∷ []) (3 ∷ []) (written [] []) (written (first_file ∷ []) []))
said_too h = let e : [] ≡ (3 ∷ []) = ap (λ (o : Option (List ℕ)). unwrapped o) h.said in absurd (cc e)

each_file : ¬ (WroteAll (first_file ∷ second_file ∷ []) [] (written [] []) (written (first_file ∷ []) []))
each_file h = let e : Some (first_file ∷ []) ≡ Some (first_file ∷ second_file ∷ []) = h.put in absurd (cc e)

after_what_was_there : WroteAll (second_file ∷ []) (4 ∷ 5 ∷ []) (written (first_file ∷ []) (3 ∷ [])) (written (first_file ∷ second_file ∷ []) (3 ∷ 4 ∷ 5 ∷ []))
after_what_was_there = record { put = refl; said = refl }

-- a part of the text is its beginning
a_part_was_said : WroteFirst [] (4 ∷ 5 ∷ []) 0 (written [] (3 ∷ [])) (written [] (3 ∷ 4 ∷ []))
a_part_was_said = record { within = omega arith; put = refl; said = (1, refl); silent = λ h. absurd (omega (arith, h)) }

-- memory may run out after it, or before the last file, and not after all
after_a_part : WroteLess [] (4 ∷ 5 ∷ []) 0 (written [] (3 ∷ [])) (written [] (3 ∷ 4 ∷ []))
after_a_part = (a_part_was_said, inr (1, omega arith, refl))

before_the_last : WroteLess (first_file ∷ second_file ∷ []) (3 ∷ []) 1 (written [] []) (written (first_file ∷ []) [])
before_the_last = (first_was_written, inl refl)

abbrev length_said : Option (List ℕ) → ℕ
length_said None = 0
length_said (Some said) = length said

abbrev four : List ℕ
four = 4 ∷ []

not_after_all : ¬ (WroteLess (first_file ∷ []) (4 ∷ []) 1 (written [] []) (written (first_file ∷ []) (4 ∷ [])))
not_after_all (first, inl is) = let e : 1 ≡ 0 = ap length_said is in omega (arith, e)
not_after_all (first, inr (k, less, is)) = let e : 1 ≡ length (take k four) = ap length_said is in none_of k less e
  where
    none_of : (k : ℕ) → k < 1 → 1 ≡ length (take k four) → ⊥
    none_of zero less e = omega (arith, e)
    none_of (suc k) less e = omega (arith, less)

-- what is refused, or could not be read, has written nothing
refused_wrote_nothing : (s : Stage ℕ ℕ (PlanContent ℕ)) (c : World) → ¬ (Ends s c 0 (written [] []) (written (first_file ∷ []) []) (endeds.Refused 7))
refused_wrote_nothing s c h = let e : Some (first_file ∷ []) ≡ Some [] = ap (λ (w : OutputState). w.files) h.1 in absurd (cc e)

unread_wrote_nothing : (s : Stage ℕ ℕ (PlanContent ℕ)) (c : World) → ¬ (Ends s c 0 (written [] []) (written (first_file ∷ []) []) (endeds.ReadFault []))
unread_wrote_nothing s c h = let e : Some (first_file ∷ []) ≡ Some [] = ap (λ (w : OutputState). w.files) h.1 in absurd (cc e)
