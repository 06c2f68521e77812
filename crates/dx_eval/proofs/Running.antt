-- What a script that fits gives to each part of a run.
use Rattle.std.proofs.Common.{◌≡◌, ◌↔◌, ℕ, ◌<◌, ◌≤◌, Bool, true, false, List, [], ◌∷◌, ◌++◌, length, get_or, refl, sym, ◌∙◌, ap, subst, arith}
use Rattle.std.specs.Prelude.{IsTrue, map, slice_index_or}
use Rattle.std.specs.List.{AllZip}
use Rattle.std.proofs.lemmas.List.{get_or-map, get_or_append_left, length-append}
use Rattle.std.proofs.lemmas.List.Concat.{flat_map-append}
use Rattle.dx_base.specs.Members.{◌∈◌, here, Each}
use Rattle.dx_base.proofs.Members.{from_map, in_flat_map, in_left, in_map}
use Rattle.dx_base.proofs.Lists.{zip_long, zip_at}
use Rattle.dx_model.specs.declared.facts.Fact.{Fact}
use Rattle.dx_model.specs.declared.matches.Matches.{Matches}
use Rattle.dx_model.specs.declared.values.Value.{Value}
use Rattle.dx_model.specs.Values.{Tuple, Rows}
use Rattle.dx_base.specs.Texts.{Text}
use Rattle.dx_schema.specs.Names.{TableNames}
use Rattle.dx_instance.specs.Cells.{NumberTable}
use Rattle.dx_instance.specs.Numbers.{ValuesAscend}
use Rattle.dx_instance.specs.Shown.{numbers_of_table}
use Rattle.dx_instance.specs.Stored.{IsSorting, TableRows, facts, widths, without_rows}
use Rattle.dx_instance.proofs.RankFacts.{ascend_apart}
use Rattle.dx_instance.proofs.StoredFacts.{widths_without}
use Rattle.dx_funcs.specs.declared.conversion.Conversion.{Conversion}
use Rattle.dx_script.specs.declared.form.Test.{Test}
use Rattle.dx_script.specs.declared.form.Test.TheVariants.{Columns, Literal as Same}
use Rattle.dx_script.specs.declared.form.Unless.{Unless}
use Rattle.dx_script.specs.declared.form.Out.{Out}
use Rattle.dx_script.specs.declared.form.Out.TheVariants.{Column, Literal, Skolem}
use Rattle.dx_script.specs.declared.form.Step.{Step}
use Rattle.dx_script.specs.declared.form.Step.TheVariants.{Create, MatchRows, KeepRows, InsertRows}
use Rattle.dx_script.specs.Fits.{FitsScript, HasColumn, InsertFits, KeepFits, OutFits, ReadsKept, TestFits, created, created_in, kept_in, match_widths, width_in}
use Rattle.dx_script.specs.Meaning.{IsInserted, Means}
use Rattle.dx_script.specs.Names.{table_names}
use Rattle.dx_tgd.specs.Found.{IsRenumbering}
use Rattle.dx_tgd.specs.Texts.{tuples_in}
use Rattle.dx_tgd.proofs.Tables.{no_facts}
use Rattle.dx_eval.specs.Evaluating.{IsMade, script_cells}
use Rattle.dx_model.specs.Matches.{rows_of_matches}
use Rattle.dx_eval.specs.Finding.{AllStepsFound, IsFoundStep, MatchStep, MatchesFit, matchings}
use Rattle.dx_eval.specs.Inserting.{InsertStands, OutStands}
use Rattle.dx_eval.specs.Keeping.{PartStands, TestStands}
use Rattle.dx_eval.proofs.Inserts.{sorted_facts}
use Rattle.dx_eval.proofs.Limits.{reordered_cells}
use Rattle.dx_eval.proofs.Tables.{are_tables, found_reordered, matching_long, no_matching, split_in, to_tables}

pub matches_fit : (source target : List TableNames) (list : List Conversion) (steps : List Step) → FitsScript source target list steps → MatchesFit source list steps
matches_fit source target list steps f before after r select sources equal e = f.each before after (MatchRows r select sources equal) e

-- ---- widths

widths_are : (steps : List Step) → match_widths steps ≡ map (λ (m : MatchStep). length m.select) (matchings steps)
widths_are [] = refl
widths_are (Create table columns ∷ steps) = widths_are steps
widths_are (MatchRows r select sources equal ∷ steps) = ap (λ (z : List ℕ). length select ∷ z) (widths_are steps)
widths_are (KeepRows r unless ∷ steps) = widths_are steps
widths_are (InsertRows table r kept cells ∷ steps) = widths_are steps

-- what the steps before one make, they all make
early : (steps before after : List Step) (s : Step) (r : ℕ) → steps ≡ before ++ s ∷ after → r < length (match_widths before)
    → (r < length (match_widths steps)) × (slice_index_or (match_widths steps) r 0 ≡ slice_index_or (match_widths before) r 0)
early steps before after s r e h =
    let all : match_widths steps ≡ match_widths before ++ match_widths (s ∷ after) = ap match_widths e ∙ flat_map-append width_in before (s ∷ after) in
    let l = ap length all ∙ length-append (match_widths before) (match_widths (s ∷ after)) in
    (omega (arith, l, h), ap (λ (z : List ℕ). get_or z r 0) all ∙ get_or_append_left (match_widths before) (match_widths (s ∷ after)) 0 r h)

none : NumberTable
none = record { width = 0; rows = [] }

module _ (source target : List TableNames) (list : List Conversion) (steps : List Step) (fit : FitsScript source target list steps) (call : Text → Tuple → Text) (I : List Fact) (S : List Value) (ts : List NumberTable)
    (found : AllStepsFound source call I S (matchings steps) ts) where
  wide_at : (r : ℕ) → r < length (match_widths steps) → (numbers_of_table ts r).width ≡ slice_index_or (match_widths steps) r 0
  unfolding none
  wide_at r k =
      let l = matching_long steps in
      let h : r < length (matchings steps) = omega (arith, l, k) in
      let z = zip_at (IsFoundStep source call I S) (matchings steps) ts r no_matching none found h in
      z.width ∙ sym (ap (λ (q : List ℕ). get_or q r 0) (widths_are steps) ∙ get_or-map (λ (m : MatchStep). length m.select) (matchings steps) r no_matching 0 h)

  column_low : (before after : List Step) (s : Step) (r c : ℕ) → steps ≡ before ++ s ∷ after → HasColumn before r c → c < (numbers_of_table ts r).width
  column_low before after s r c e h =
      let p = early steps before after s r e h.0 in
      subst (λ (z : ℕ). c < z) (sym (wide_at r p.0 ∙ p.1)) h.1

  table_low : (before after : List Step) (s : Step) (r : ℕ) → steps ≡ before ++ s ∷ after → r < length (match_widths before) → r < length ts
  table_low before after s r e h =
      let p = (early steps before after s r e h).0 in
      let l = matching_long steps in
      let z = zip_long (IsFoundStep source call I S) (matchings steps) ts found in
      omega (arith, p, l, z)

  test_stands : (before after : List Step) (s : Step) (r other : ℕ) → steps ≡ before ++ s ∷ after → (t : Test) → TestFits before r other t → TestStands (numbers_of_table ts r).width (numbers_of_table ts other).width t
  test_stands before after s r other e (Columns c d) f = (column_low before after s other c e f.0, column_low before after s r d e f.1)
  test_stands before after s r other e (Same d text) f = column_low before after s r d e f

  out_stands : (before after : List Step) (s : Step) (r : ℕ) → steps ≡ before ++ s ∷ after → (o : Out) → OutFits before r o → OutStands (numbers_of_table ts r).width o
  out_stands before after s r e (Column c) f = column_low before after s r c e f
  out_stands before after s r e (Literal text) f = tt
  out_stands before after s r e (Skolem v) f = tt

  -- the parts of keep steps read tables that are there
  pub parts_stand : (r : ℕ) (unless : List Unless) → KeepRows r unless ∈ steps → Each unless (PartStands ts r)
  parts_stand r unless m =
      let s = split_in steps (KeepRows r unless) m in
      let k : KeepFits s.before r unless = fit.each s.before s.after (KeepRows r unless) s.is in
      (λ u n.
      let p = k.parts u n in
      record {
        rule = table_low s.before s.after (KeepRows r unless) u.rule s.is p.rule;
        tests = λ t q. test_stands s.before s.after (KeepRows r unless) r u.rule s.is t (p.tests t q);
      })

  pub insert_stands : (table : Text) (r : ℕ) (kept : Bool) (cells : List Out) → InsertRows table r kept cells ∈ steps → InsertStands target (numbers_of_table ts r).width table cells
  insert_stands table r kept cells m =
      let s = split_in steps (InsertRows table r kept cells) m in
      let k : InsertFits target steps s.before table r kept cells = fit.each s.before s.after (InsertRows table r kept cells) s.is in
      record {
        named = made s.before s.after (InsertRows table r kept cells) s.is k.made;
        many = k.width;
        outs = λ o n. out_stands s.before s.after (InsertRows table r kept cells) r s.is o (k.outs o n);
      }
    where
      made : (before after : List Step) (s : Step) → steps ≡ before ++ s ∷ after → table ∈ map (λ (t : Text × List Text). t.0) (created before) → table ∈ table_names target
      made before after s e n =
          let w = from_map (λ (t : Text × List Text). t.0) (created before) n in
          let all : created steps ≡ created before ++ created (s ∷ after) = ap created e ∙ flat_map-append created_in before (s ∷ after) in
          let there_is : w.0 ∈ map (λ (t : TableNames). (t.name, t.columns)) target = subst (λ (z : List (Text × List Text)). w.0 ∈ z) (sym all ∙ fit.creates) (in_left (created (s ∷ after)) w.1) in
          let u = from_map (λ (t : TableNames). (t.name, t.columns)) target there_is in
          subst (λ (z : Text). z ∈ table_names target) (ap (λ (t : Text × List Text). t.0) u.2 ∙ w.2) (in_map (λ (t : TableNames). t.name) u.1)

-- an insert reads the keep table if there is one
pub reads_kept : (source target : List TableNames) (list : List Conversion) (steps : List Step) → FitsScript source target list steps → (table : Text) (r : ℕ) (kept : Bool) (cells : List Out) (unless : List Unless)
    → InsertRows table r kept cells ∈ steps → KeepRows r unless ∈ steps → IsTrue kept
reads_kept source target list steps fit table r kept cells unless m n =
    let s = split_in steps (InsertRows table r kept cells) m in
    let k : InsertFits target steps s.before table r kept cells = fit.each s.before s.after (InsertRows table r kept cells) s.is in
    go kept s.before k.reads
  where
    go : (b : Bool) (before : List Step) → ReadsKept steps before r b → IsTrue b
    go true before f = refl
    go false before f = absurd (f (in_flat_map kept_in n (here refl)))

-- ---- the target

pub nothing_built : (ws : List ℕ) (I : List TableRows) → I ≡ without_rows ws → facts I ≡ []
nothing_built ws I e = empty (facts I) (λ f m. no_facts ws f (subst (λ (z : List TableRows). f ∈ facts z) e m))
  where
    empty : (fs : List Fact) → ((f : Fact) → ¬ (f ∈ fs)) → fs ≡ []
    empty [] n = refl
    empty (f ∷ fs) n = absurd (n f (here refl))

pub widths_built : (ws : List ℕ) (I : List TableRows) → I ≡ without_rows ws → widths I ≡ ws
widths_built ws I e = ap widths e ∙ widths_without ws

-- ---- the whole

pub made_is : (source target : List TableNames) (list : List Conversion) (steps : List Step) (call : Text → Tuple → Text) (I J : List Fact) (T S : List Value) (us ts : List NumberTable) (matches : Matches)
    (B K : List TableRows) (limit : ℕ) → FitsScript source target list steps → I ≡ J → ValuesAscend S → AllStepsFound source call I T (matchings steps) us → AllZip (IsRenumbering T S) us ts
    → script_cells steps (tuples_in T us) ≤ limit → rows_of_matches matches ≡ tuples_in S ts → ((f : Fact) → (f ∈ facts B) ↔ IsInserted target steps (tuples_in S ts) f) → IsSorting B K
    → widths B ≡ map (λ (t : TableNames). length t.columns) target → IsMade source target call steps J limit (record { instance = K; matches = matches })
made_is source target list steps call I J T S us ts matches B K limit fit e up found order few same inserted sorted wide =
    let found_now = found_reordered source call I T S (matchings steps) us ts order found in
    let a = are_tables source call I list steps (tuples_in S ts) (matches_fit source target list steps fit) (to_tables source call I S (matchings steps) ts up found_now) in
    let means : Means source target call steps I (tuples_in S ts) (facts K) = record {
      matches = a.matches;
      no_more = a.no_more;
      facts = λ f. (
        (λ m. (inserted f).0 ((sorted_facts B K sorted f).0 m)),
        (λ w. (sorted_facts B K sorted f).1 ((inserted f).1 w)),
      );
    } in
    let here_means = subst (λ (z : List Fact). Means source target call steps z (tuples_in S ts) (facts K)) e means in
    let less = reordered_cells steps T S us ts (ascend_apart S up) order in
    let within : script_cells steps (tuples_in S ts) ≤ limit = omega (arith, less, few) in
    record {
      means = subst (λ (z : Rows). Means source target call steps J z (facts K)) (sym same) here_means;
      within = subst (λ (z : Rows). script_cells steps z ≤ limit) (sym same) within;
      wide = sorted.widths_stay ∙ wide;
    }
