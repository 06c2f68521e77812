-- A script has one run.
use Rattle.std.proofs.Common.{◌≡◌, ◌≤◌, List, length, refl, subst, inl, inr, arith}
use Rattle.std.proofs.lemmas.Bool.{cases_lt}
use Rattle.dx_model.specs.declared.facts.Fact.{Fact}
use Rattle.dx_model.specs.Values.{Tuple, Rows}
use Rattle.dx_base.specs.Texts.{Text}
use Rattle.dx_schema.specs.Names.{TableNames}
use Rattle.dx_script.specs.declared.form.Step.{Step}
use Rattle.dx_script.specs.Meaning.{match_table}
use Rattle.dx_script.proofs.Steps.{at_most}
use Rattle.dx_script.proofs.Unique.{meaning_is_unique, one_list, one_by_one}
use Rattle.dx_eval.specs.Evaluating.{AreMatchTables, script_cells}
use Rattle.dx_model.specs.Matches.{rows_of_matches}
use Rattle.dx_eval.specs.Laws.{MadeOrPassed, MadeOrTooMany, RunsAgree, TablesOfMeaning}

module _ (source : List TableNames) (call : Text → Tuple → Text) (steps : List Step) (I : List Fact) where
  below : (tables others : Rows) → AreMatchTables source call steps I tables → AreMatchTables source call steps I others → length tables ≤ length others
  below tables others m n = at_most (length tables) (length others) (λ r h. let w = m.no_more r h in (n.matches r w.0 w.1 w.2 w.3).0)

  same_tables : (tables others : Rows) → AreMatchTables source call steps I tables → AreMatchTables source call steps I others → tables ≡ others
  same_tables tables others m n =
      let a = below tables others m n in
      let b = below others tables n m in
      one_by_one tables others (omega arith) (λ r h.
      let w = m.no_more r h in
      let p = (m.matches r w.0 w.1 w.2 w.3).1 in
      let q = (n.matches r w.0 w.1 w.2 w.3).1 in
      one_list (match_table tables r) (match_table others r) p.ascend q.ascend (λ t. ((λ k. (q.exact t).1 ((p.exact t).0 k)), (λ k. (p.exact t).1 ((q.exact t).0 k)))))

pub tables_of_meaning : TablesOfMeaning
tables_of_meaning source target call steps I tables others K m n =
    let own : AreMatchTables source call steps I tables = record { matches = m.matches; no_more = m.no_more } in
    same_tables source call steps I tables others own n

pub runs_agree : RunsAgree
runs_agree source target call steps I limit m n p q =
    let w = meaning_is_unique source target call steps I (rows_of_matches m.matches) (rows_of_matches n.matches) _ _ p.means q.means in
    (w.0, (w.1, w.2))

pub made_or_too_many : MadeOrTooMany
made_or_too_many source target call steps I limit m e p q =
    let same = tables_of_meaning source target call steps I (rows_of_matches m.matches) q.tables _ p.means q.are in
    let more = q.more in
    let within : script_cells steps q.tables ≤ limit = subst (λ z. script_cells steps z ≤ limit) same p.within in
    omega arith

pub made_or_passed : MadeOrPassed
made_or_passed source target call steps I limit m means wide =
    elim (cases_lt limit (script_cells steps (rows_of_matches m.matches))) [
      | inl more ↦ inr (record {
        tables = rows_of_matches m.matches;
        are = record { matches = means.matches; no_more = means.no_more };
        more = more;
        fault = refl;
      })
      | inr few ↦ inl (record { means = means; within = omega (arith, few); wide = wide })
    ]
