-- Which given files a verdict asks for.
use Rattle.std.proofs.Common.{ℕ, List, sym, subst, inl, inr, length}
use Rattle.std.specs.List.{range_with_len}
use Rattle.dx_schema.specs.Tables.{tables_of}
use Rattle.dx_stages.specs.Worlds.{World}
use Rattle.dx_stages.specs.Stages.{each}
use Rattle.clio_given.specs.Given.{TargetRequest, given_stages, none_read, given_reading}
use Rattle.clio_given.proofs.Runs.{asks_own as asks_given_file}
use Rattle.clio_judge.specs.Outcomes.{IsNextGiven}
use Rattle.clio_steps.proofs.Asking.{one_asks, asks_after}

-- ---- the given files

pub next_given : (c : World) (w : TargetRequest) (n : List ℕ) → given_stages.asks c w n → IsNextGiven c w n
next_given c w n (inl h) =
    let f = w.schema in
    let r = one_asks (given_reading f) (range_with_len 0 (length (tables_of f))) c (none_read w.bytes_left) n h in record {
      before = r.before;
      table = r.one;
      after = r.after;
      tables_are = r.split;
      read = r.given;
      passed = r.passed;
      is = asks_given_file f r.one c r.given n r.asks;
    }
next_given c w n (inr h) = absurd h.2

pub asks_given : (c : World) (w : TargetRequest) (n : List ℕ) → IsNextGiven c w n → given_stages.asks c w n
asks_given c w n h =
    let f = w.schema in
    inl (subst (λ xs. (each (given_reading f) xs).asks c (none_read w.bytes_left) n) (sym h.tables_are)
    (asks_after (given_reading f) h.before h.table h.after c (none_read w.bytes_left) h.read n h.passed (inl h.is)))
