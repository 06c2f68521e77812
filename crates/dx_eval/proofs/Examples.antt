-- The cells that a small script inserts, computed, and what is made of a limit.
use Rattle.std.proofs.Common.{◌≡◌, ◌∙◌, ℕ, suc, List, [], ◌∷◌, Bool, true, false, codes, length, get_or, refl, sym, ap, arith}
use Rattle.std.specs.Prelude.{map}
use Rattle.dx_base.specs.declared.file.Count.{Count}
use Rattle.dx_base.specs.declared.file.Count.TheVariants.{SourceCells, TargetCells}
use Rattle.dx_base.specs.declared.file.Limit.{Limit as Passed}
use Rattle.dx_model.specs.declared.facts.Fact.{Fact}
use Rattle.dx_model.specs.Values.{Tuple, Rows}
use Rattle.dx_base.specs.Texts.{Text}
use Rattle.dx_schema.specs.Names.{TableNames}
use Rattle.dx_instance.specs.Stored.{facts, widths}
use Rattle.dx_script.specs.declared.form.Out.TheVariants.{Column, Literal, Skolem}
use Rattle.dx_script.specs.declared.form.Step.{Step}
use Rattle.dx_script.specs.declared.form.Step.TheVariants.{Create, MatchRows, KeepRows, InsertRows}
use Rattle.dx_script.specs.Meaning.{Means}
use Rattle.dx_eval.specs.declared.made.Made.{Made}
use Rattle.dx_eval.specs.declared.fault.EvalFault.{EvalFault}
use Rattle.dx_eval.specs.declared.fault.EvalFault.TheVariants.{Limit, Memory}
use Rattle.dx_eval.specs.Evaluating.{AreMatchTables, IsMade, ScriptPassesLimit, cells_for, script_cells}
use Rattle.dx_model.specs.Matches.{rows_of_matches}
use Rattle.dx_eval.specs.Finding.{IsEvalRefusal}

-- rule 0 fills two rows of two cells for each tuple, the second from its keep table, and rule 1 one row of one
abbrev steps : List Step
steps =
    Create (codes "T") (codes "a" ∷ codes "b" ∷ [])
    ∷ MatchRows 0 [] (codes "S" ∷ []) []
    ∷ MatchRows 1 [] (codes "S" ∷ codes "S" ∷ []) []
    ∷ KeepRows 0 []
    ∷ InsertRows (codes "T") 0 false (Column 0 ∷ Skolem 0 ∷ [])
    ∷ InsertRows (codes "T") 0 true (Literal (codes "z") ∷ Column 1 ∷ [])
    ∷ InsertRows (codes "U") 1 false (Column 0 ∷ [])
    ∷ []

abbrev tuple : Tuple
tuple = codes "x" ∷ codes "y" ∷ []

for_a_tuple : cells_for steps 0 ≡ 4
for_a_tuple = refl

for_no_insert : cells_for steps 2 ≡ 0
for_no_insert = refl

-- three tuples of rule 0, of which some may have partners, and two of rule 1
abbrev tables : Rows
tables = (tuple ∷ tuple ∷ tuple ∷ []) ∷ (tuple ∷ tuple ∷ []) ∷ []

cells : script_cells steps tables ≡ 14
cells = refl

-- ---- the limit

-- what a fault tells
abbrev number_in : EvalFault → ℕ
number_in (Limit l) = l.number
number_in Memory = 0

abbrev counts_target : Count → Bool
counts_target TargetCells = true
counts_target other = false

abbrev targets_in : EvalFault → Bool
targets_in (Limit l) = counts_target l.what
targets_in Memory = false

module _ (source target : List TableNames) (call : Text → Tuple → Text) (I : List Fact) where
  -- as many cells as the limit are made
  at_the_limit : (m : Made) → Means source target call steps I (rows_of_matches m.matches) (facts m.instance)
      → widths m.instance ≡ map (λ (t : TableNames). length t.columns) target → script_cells steps (rows_of_matches m.matches) ≡ 14
      → IsMade source target call steps I 14 m
  at_the_limit m means wide e = record { means = means; within = omega (arith, e); wide = wide }

  -- one more passes it, and is told with the limit
  over_the_limit : AreMatchTables source call steps I tables
      → ScriptPassesLimit source call steps I 13 (Limit (record { what = TargetCells; number = 13 }))
  over_the_limit are = record { tables = tables; are = are; more = omega (arith, cells); fault = refl }

  -- another number, or another count, is not the fault of a limit, and want of memory is none
  other_number : ¬ ScriptPassesLimit source call steps I 13 (Limit (record { what = TargetCells; number = 14 }))
  other_number h = let e : 14 ≡ 13 = ap number_in h.fault in omega (arith, e)

  other_count : ¬ ScriptPassesLimit source call steps I 13 (Limit (record { what = SourceCells; number = 13 }))
  other_count h = let e : false ≡ true = ap targets_in h.fault in absurd (cc e)

  want_of_memory : ¬ ScriptPassesLimit source call steps I 13 Memory
  want_of_memory h = absurd (cc h.fault)

  -- no step passes no limit: a refusal is told for want of memory alone
  none_found : (found : Rows) → AreMatchTables source call [] I found → found ≡ []
  none_found [] are = refl
  none_found (ts ∷ others) are = let w = are.no_more 0 (omega arith) in elim w.3 [ ]

  nothing_is_refused : (l : Passed) → ¬ IsEvalRefusal source call [] I 0 (Limit l)
  nothing_is_refused l h =
      let p : ScriptPassesLimit source call [] I 0 (Limit l) = h in
      let none = ap (script_cells []) (none_found p.tables p.are) in
      let more = p.more in
      omega (arith, more, none)

  -- a target without tables is made of no script, if the schema has one
  missing_table : (t : TableNames) (limit : ℕ) (m : Made) → widths m.instance ≡ [] → ¬ IsMade source (t ∷ target) call steps I limit m
  missing_table t limit m e h = absurd (cc (sym e ∙ h.wide))

  -- a table without rows has its width still
  other_width : (t : TableNames) (limit : ℕ) (m : Made) → widths m.instance ≡ suc (length t.columns) ∷ [] → ¬ IsMade source (t ∷ []) call steps I limit m
  other_width t limit m e h = let w = ap (λ (z : List ℕ). get_or z 0 0) (sym e ∙ h.wide) in omega (arith, w)
