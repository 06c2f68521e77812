-- Accepting a text asks for no file.
use Rattle.std.proofs.Common.{ℕ, List, inl, inr}
use Rattle.dx_funcs.specs.declared.conversion.Conversion.{Conversion}
use Rattle.dx_funcs.specs.declared.row_test.RowTest.{RowTest}
use Rattle.dx_stages.specs.Worlds.{World}
use Rattle.dx_stages.specs.Stages.{Stage, next}
use Rattle.clio_accept.specs.Accepting.{accepting, accepting_said, between_of, closing, frozen_count, leaving, limits, line_count, naming, pruning}
use Rattle.clio_accept.specs.Accepting.{rule_count, said_by, said_rules, source_sets, taking, target_names, target_sets, conditions_stage, writing}

abbrev pub IsSilent : {E A B : Type 0} → Stage E A B → Type 0
IsSilent {E} {A} {B} s = (c : World) (a : A) (n : List ℕ) → ¬ (s.asks c a n)

next_silent : {E A B C : Type 0} (s : Stage E A B) (t : Stage E B C) → IsSilent s → IsSilent t → IsSilent (next s t)
next_silent s t p q c a n (inl h) = p c a n h
next_silent s t p q c a n (inr h) = q c h.0 n h.2

leaving_silent : IsSilent leaving
leaving_silent = next_silent rule_count (next frozen_count pruning) (λ c a n h. h) (next_silent frozen_count pruning (λ c a n h. h) (λ c a n h. h))

taking_silent : (list : List Conversion) (tests : List RowTest) → IsSilent (taking list tests)
taking_silent list tests =
    next_silent line_count (next (naming list) (next (conditions_stage tests) (next (writing list) (next (limits list) (next (closing list) leaving))))) (λ c a n h. h)
    (next_silent (naming list) (next (conditions_stage tests) (next (writing list) (next (limits list) (next (closing list) leaving)))) (λ c a n h. h)
    (next_silent (conditions_stage tests) (next (writing list) (next (limits list) (next (closing list) leaving))) (λ c a n h. h)
    (next_silent (writing list) (next (limits list) (next (closing list) leaving)) (λ c a n h. h)
    (next_silent (limits list) (next (closing list) leaving) (λ c a n h. h) (next_silent (closing list) leaving (λ c a n h. h) leaving_silent)))))

pub accepting_silent : (list : List Conversion) (tests : List RowTest) → IsSilent (accepting list tests)
accepting_silent list tests =
    next_silent said_by (accepting_said list tests) (λ c a n h. h)
    (next_silent source_sets (next target_sets (next target_names (said_rules list tests))) (λ c a n h. h)
    (next_silent target_sets (next target_names (said_rules list tests)) (λ c a n h. h)
    (next_silent target_names (said_rules list tests) (λ c a n h. h) (λ c m n h. taking_silent list tests c (between_of m) n h))))
