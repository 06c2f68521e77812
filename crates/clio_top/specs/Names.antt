-- The names of the files that a run asks for and puts: whatever its mapping says, none is outside the folder.
use Rattle.std.specs.Prelude.{◌≡◌, ◌⊎◌, ◌++◌, List, ℕ, codes}
use Rattle.dx_base.specs.Entries.{Entry}
use Rattle.dx_base.specs.Members.{Each}
use Rattle.dx_stages.specs.Ending.{PlanContent}
use Rattle.dx_stages.specs.Worlds.{World}
use Rattle.dx_tokens.specs.Lexing.{IsWord}
use Rattle.clio_ending.specs.declared.ending.Done.{Done}
use Rattle.clio_steps.specs.Steps.{Program}
use Rattle.clio_top.specs.Words.{Word}
use Rattle.clio_top.specs.Commands.{run_stages}

-- a word, and which kind of data it is: letters, digits and _, and then `.csv` or `.json`
abbrev pub IsDataName : List ℕ → Type 0
IsDataName n = (word : List ℕ) × IsWord word × ((n ≡ word ++ codes ".csv") ⊎ (n ≡ word ++ codes ".json"))

-- the same of a table, in the folder of given files
abbrev pub IsGivenName : List ℕ → Type 0
IsGivenName n = (word : List ℕ) × IsWord word × (n ≡ codes "given/" ++ (word ++ codes ".csv"))

-- what may be read: the two mapping texts, the query, files of data, and given ones
abbrev pub IsReadName : List ℕ → Type 0
IsReadName n =
    (n ≡ codes "mapping.clio") ⊎ ((n ≡ codes "query.clio")
    ⊎ ((n ≡ codes "other.clio") ⊎ (IsDataName n ⊎ IsGivenName n)))

-- what may be put: the rules, their script, and files of data
abbrev pub IsPutName : List ℕ → Type 0
IsPutName n = (n ≡ codes "rules.txt") ⊎ ((n ≡ codes "script.sql") ⊎ IsDataName n)

-- each file that a run asks for has such a name, whatever is outside
abbrev pub ReadsByName : Type 0
ReadsByName =
    (P : Program) (c : World) (words : List Word) (n : List ℕ) → (run_stages P).asks c words n → IsReadName n

-- and each that it plans to put
abbrev pub PutsByName : Type 0
PutsByName =
    (P : Program) (c : World) (words : List Word) (plan : PlanContent Done) → (run_stages P).passes c words plan
    → Each plan.files (λ (f : Entry). IsPutName f.0)
