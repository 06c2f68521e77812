use Rattle.std.proofs.Common.{ℕ, List, map, take}
use Rattle.dx_instance.specs.ValueText.{const_text}
use Rattle.clio_files.specs.Printing.{AreRecords, HasFields}
use Rattle.clio_files.proofs.answers.push_answer.Given as goal

-- the texts so far are fields of the next record
abbrev pub invariant-loop-text : goal.invariant-loop-text
invariant-loop-text l =
    (rs : List (List (List ℕ))) → AreRecords l.fn.records rs → HasFields l.records rs (map const_text (take l.text-index l.texts))
