-- How many cells are inserted for the tuples that are found.
use Rattle.std.proofs.Common.{◌≡◌, ℕ, suc, ◌+◌, ◌*◌, ◌/◌, ◌-◌, ◌<◌, ◌≤◌, ◌^◌, List, [], ◌∷◌, ◌++◌, length, get_or, take, drop, refl, sym, ◌∙◌, ap, subst, inl, inr, arith}
use Rattle.std.specs.Prelude.{map, flat_map, ◌↔◌, Some, None, Option, MatchOption}
use Rattle.std.specs.List.{AllZip}
use Rattle.std.proofs.lemmas.Bool.{cases_lt}
use Rattle.std.proofs.lemmas.List.{take_all, append-nil, get_or-map, get_or_append_left, get_or_push, length-map, length-append, take_more, take-append-drop, map_push}
use Rattle.std.proofs.lemmas.List.Concat.{flat_map-append}
use Rattle.std.proofs.Math.Nat.{mul-le-mul_right, le-div_iff_mul-le}
use Rattle.dx_base.specs.Members.{◌∈◌, here, there, Distinct, Each}
use Rattle.dx_base.proofs.Members.{in_at, no_longer}
use Rattle.dx_base.specs.declared.file.Count.TheVariants.{TargetCells}
use Rattle.dx_base.proofs.Lists.{zip_push, zip_long, zip_at}
use Rattle.dx_model.specs.declared.facts.Fact.{Fact}
use Rattle.dx_model.specs.declared.values.Value.{Value}
use Rattle.dx_model.specs.Values.{Tuple, Rows}
use Rattle.dx_base.specs.Texts.{Text}
use Rattle.dx_instance.specs.Cells.{NumberTable}
use Rattle.dx_instance.specs.Numbers.{ValuesDiffer, Extends}
use Rattle.dx_instance.proofs.ShownFacts.{extends_both}
use Rattle.dx_instance.proofs.SortFacts.{distinct_numbers}
use Rattle.dx_joins.specs.Shown.{MoreTuples, StandFor, texts_of}
use Rattle.dx_joins.proofs.Translating.{distinct_texts}
use Rattle.dx_schema.specs.Names.{TableNames}
use Rattle.dx_funcs.specs.declared.conversion.Conversion.{Conversion}
use Rattle.dx_script.specs.declared.form.Select.{Select}
use Rattle.dx_script.specs.declared.form.Equal.{Equal}
use Rattle.dx_script.specs.declared.form.Step.{Step}
use Rattle.dx_script.specs.declared.form.Step.TheVariants.{Create, MatchRows, KeepRows, InsertRows}
use Rattle.dx_script.specs.Fits.{MatchFits}
use Rattle.dx_script.specs.Meaning.{IsMatchTable, match_table}
use Rattle.dx_tgd.specs.Found.{IsRenumbering}
use Rattle.dx_tgd.specs.Texts.{tuples_in}
use Rattle.dx_tgd.proofs.Steps.{tuples_grown}
use Rattle.dx_tgd.proofs.Founds.{reordered_few}
use Rattle.dx_eval.specs.declared.fault.EvalFault.{EvalFault}
use Rattle.dx_eval.specs.declared.fault.EvalFault.TheVariants.{Limit}
use Rattle.dx_eval.specs.Evaluating.{ScriptPassesLimit, cells_for, script_cells}
use Rattle.dx_eval.specs.Query.{IsSelected}
use Rattle.dx_eval.specs.Finding.{AllStepsFound, FoundSoFar, IsFoundUpTo, IsEvalRefusal, IsFoundStep, MatchStep, MatchesFit, MatchingFits, matching_in, matchings}
use Rattle.dx_eval.proofs.Sums.{total, total_less, total_longer, total_more, total_same}
use Rattle.dx_eval.proofs.Tables.{matching_long, IsTable, are_tables, found_grown, of_step, stands_at, tables_exist, no_matching}

-- ---- few and many

-- ---- cells

-- the cells of the tuples of one rule
abbrev pub cells_of_rule : List Step → Rows → ℕ → ℕ
cells_of_rule steps tables r = length (match_table tables r) * cells_for steps r

pub cells_more : (steps : List Step) (tables : Rows) (ts : List Tuple) → script_cells steps (tables ++ ts ∷ []) ≡ script_cells steps tables + length ts * cells_for steps (length tables)
cells_more steps tables ts =
    let l : length (tables ++ ts ∷ []) ≡ suc (length tables) = omega (arith, length-append tables (ts ∷ [])) in
    let a = ap (total (cells_of_rule steps (tables ++ ts ∷ []))) l in
    let b = total_more (cells_of_rule steps (tables ++ ts ∷ [])) (length tables) in
    let c = total_same (cells_of_rule steps (tables ++ ts ∷ [])) (cells_of_rule steps tables) (length tables) (λ k h. ap (λ z. length z * cells_for steps k) (get_or_append_left tables (ts ∷ []) [] k h)) in
    let d : cells_of_rule steps (tables ++ ts ∷ []) (length tables) ≡ length ts * cells_for steps (length tables) = ap (λ z. length z * cells_for steps (length tables)) (get_or_push tables ts [] (length tables) refl) in
    a ∙ (b ∙ omega (arith, c, d))

-- more tuples at each place make no fewer cells
pub cells_less : (steps : List Step) (some all : Rows) → length some ≤ length all → ((k : ℕ) → k < length some → length (match_table some k) ≤ length (match_table all k)) → script_cells steps some ≤ script_cells steps all
cells_less steps some all l h =
    let a = total_less (cells_of_rule steps some) (cells_of_rule steps all) (length some) (λ k i. mul-le-mul_right (cells_for steps k) (h k i)) in
    let b = total_longer (cells_of_rule steps all) (length some) (length all) l in
    omega (arith, a, b)

tuples_long : (S : List Value) (ts : List NumberTable) → length (tuples_in S ts) ≡ length ts
tuples_long S ts = length-map ts (λ (t : NumberTable). map (texts_of S) t.rows)

no_rows : NumberTable
no_rows = record { width = 0; rows = [] }

tuples_at : (S : List Value) (ts : List NumberTable) (k : ℕ) → k < length ts → match_table (tuples_in S ts) k ≡ map (texts_of S) (get_or ts k no_rows).rows
tuples_at S ts k h = get_or-map (λ (t : NumberTable). map (texts_of S) t.rows) ts k no_rows [] h

-- ---- in another order

pub reordered_cells : (steps : List Step) (S T : List Value) (ts us : List NumberTable) → ValuesDiffer T → AllZip (IsRenumbering S T) ts us → script_cells steps (tuples_in T us) ≤ script_cells steps (tuples_in S ts)
reordered_cells steps S T ts us p z =
    let l = zip_long (IsRenumbering S T) ts us z in
    let a = tuples_long T us in
    let b = tuples_long S ts in
    cells_less steps (tuples_in T us) (tuples_in S ts) (omega (arith, l, a, b)) (λ k h.
    let i : k < length ts = omega (arith, h, a, l) in
    let j : k < length us = omega (arith, h, a) in
    let one = reordered_few S T (get_or ts k no_rows) (get_or us k no_rows) p (zip_at (IsRenumbering S T) ts us k no_rows no_rows z i) in
    let x = length-map (get_or us k no_rows).rows (texts_of T) in
    let y = length-map (get_or ts k no_rows).rows (texts_of S) in
    rw (tuples_at T us k j, tuples_at S ts k i) (omega (arith, one, x, y)))

-- ---- step by step

module _ (source : List TableNames) (call : Text → Tuple → Text) (I : List Fact) (steps : List Step) where
  grown_tuples : (S T : List Value) (ms : List MatchStep) (ts : List NumberTable) → Extends S T → AllStepsFound source call I S ms ts → tuples_in T ts ≡ tuples_in S ts
  grown_tuples S T [] [] e f = refl
  grown_tuples S T [] (t ∷ ts) e f = absurd f
  grown_tuples S T (m ∷ ms) [] e f = absurd f
  grown_tuples S T (m ∷ ms) (t ∷ ts) e f =
      let first = tuples_grown S T t.rows e f.0.texts in
      let rest = grown_tuples S T ms ts e f.1 in
      cc (first, rest)

  pub start : (old S : List Value) (ts : List NumberTable) (limit : ℕ) → S ≡ old → ts ≡ [] → ValuesDiffer old → FoundSoFar source call I steps old S [] ts limit limit
  start old S ts limit e f p = rw (e, f) (record { found = tt; grows = record { more = []; is = sym (append-nil old) }; apart = p; cells = omega arith })

  -- a step that makes no match table
  pub other_step : (old S : List Value) (ts : List NumberTable) (limit left i : ℕ) (s : Step) → i < length steps → s ≡ get_or steps i s → ((r : ℕ) (a b d : _) → ¬ (s ≡ MatchRows r a b d))
      → FoundSoFar source call I steps old S (matchings (take i steps)) ts limit left → FoundSoFar source call I steps old S (matchings (take (i + 1) steps)) ts limit left
  other_step old S ts limit left i s h is n f =
      let e : matchings (take (i + 1) steps) ≡ matchings (take i steps) =
      ap matchings (take_more steps i s h ∙ ap (λ z. take i steps ++ z ∷ []) (sym is)) ∙ (flat_map-append matching_in (take i steps) (s ∷ []) ∙ (ap (λ z. matchings (take i steps) ++ z) (none s n) ∙ append-nil (matchings (take i steps)))) in
      rw e f
    where
      none : (s : Step) → ((r : ℕ) (a b d : _) → ¬ (s ≡ MatchRows r a b d)) → flat_map matching_in (s ∷ []) ≡ []
      none (Create table columns) n = refl
      none (MatchRows r a b d) n = absurd (n r a b d refl)
      none (KeepRows r unless) n = refl
      none (InsertRows table r kept cells) n = refl

  -- a match step more
  pub match_step : (old S U : List Value) (ts us : List NumberTable) (limit left i r : ℕ) (select : List Select) (sources : List Text) (equal : List Equal) (s : Step) (t : NumberTable)
      → i < length steps → s ≡ get_or steps i s → s ≡ MatchRows r select sources equal → length ts ≡ r
      → FoundSoFar source call I steps old S (matchings (take i steps)) ts limit left → Extends S U → ValuesDiffer U
      → StandFor (length select) (IsSelected source call I select sources equal) U t → us ≡ ts ++ t ∷ [] → length t.rows * cells_for steps r ≤ left
      → FoundSoFar source call I steps old U (matchings (take (i + 1) steps)) us limit (left - length t.rows * cells_for steps r)
  match_step old S U ts us limit left i r select sources equal s t h is variant number f grown p stand more few =
      let e : matchings (take (i + 1) steps) ≡ matchings (take i steps) ++ of_step select sources equal ∷ [] =
      ap matchings (take_more steps i s h ∙ ap (λ z. take i steps ++ z ∷ []) (sym is ∙ variant)) ∙ flat_map-append matching_in (take i steps) (MatchRows r select sources equal ∷ []) in
      let before = found_grown source call I S U (matchings (take i steps)) ts grown f.found in
      let same = grown_tuples S U (matchings (take i steps)) ts grown f.found in
      let old_cells : script_cells steps (tuples_in U ts) + left ≡ limit = rw same f.cells in
      let push : tuples_in U (ts ++ t ∷ []) ≡ tuples_in U ts ++ map (texts_of U) t.rows ∷ [] = map_push (λ (z : NumberTable). map (texts_of U) z.rows) ts t in
      let c = cells_more steps (tuples_in U ts) (map (texts_of U) t.rows) in
      let x = length-map t.rows (texts_of U) in
      let y = tuples_long U ts in
      let number_is : cells_for steps (length (tuples_in U ts)) ≡ cells_for steps r = ap (cells_for steps) (y ∙ number) in
      let product : length (map (texts_of U) t.rows) * cells_for steps (length (tuples_in U ts)) ≡ length t.rows * cells_for steps r = ap (λ z. z * cells_for steps (length (tuples_in U ts))) x ∙ ap (λ z. length t.rows * z) number_is in
      let total_is : script_cells steps (tuples_in U (ts ++ t ∷ [])) ≡ script_cells steps (tuples_in U ts) + length t.rows * cells_for steps r = ap (script_cells steps) push ∙ (c ∙ ap (λ z. script_cells steps (tuples_in U ts) + z) product) in
      rw (e, more) (record {
        found = zip_push (IsFoundStep source call I U) (matchings (take i steps)) ts (of_step select sources equal) t before stand;
        grows = extends_both old S U f.grows grown;
        apart = p;
        cells = omega (arith, total_is, old_cells, few);
      })

  -- more tuples of one step than there is room for: the script passes the limit
  pub passes : (list : List Conversion) (old S : List Value) (ts : List NumberTable) (limit left i r : ℕ) (select : List Select) (sources : List Text) (equal : List Equal) (s : Step) (us : List Tuple)
      → MatchesFit source list steps → i < length steps → s ≡ get_or steps i s → s ≡ MatchRows r select sources equal → length ts ≡ r
      → FoundSoFar source call I steps old S (matchings (take i steps)) ts limit left → Distinct us → Each us (IsSelected source call I select sources equal) → left < length us * cells_for steps r
      → ScriptPassesLimit source call steps I limit (Limit (record { what = TargetCells; number = limit }))
  unfolding IsTable
  passes list old S ts limit left i r select sources equal s us fit h is variant number f distinct each many =
      let member : MatchRows r select sources equal ∈ steps = subst (λ z. z ∈ steps) (sym is ∙ variant) (in_at steps i s h) in
      let w = tables_exist source call I list steps steps fit (λ z m. m) in
      let all = w.0 in
      let p = stands_at source list steps fit r select sources equal member in
      let own : IsMatchTable source call I select sources equal (match_table all r) = subst (λ (q : MatchStep). IsMatchTable source call I q.select q.sources q.equal (match_table all r)) p.1 (zip_at (IsTable source call I) (matchings steps) all r no_matching [] w.1 p.0) in
      let lw = zip_long (IsTable source call I) (matchings steps) all w.1 in
      let one : length us ≤ length (match_table all r) = no_longer us (match_table all r) distinct (λ t m. (own.exact t).1 (each t m)) in
      let tl = tuples_long S ts in
      let within = p.0 in
      let less = total_less (cells_of_rule steps (tuples_in S ts)) (cells_of_rule steps all) r (λ k l. mul-le-mul_right (cells_for steps k) (before k l all w.1 lw)) in
      let here_cells = total_more (cells_of_rule steps all) r in
      let whole = total_longer (cells_of_rule steps all) (suc r) (length all) (omega (arith, within, lw)) in
      let start_is : script_cells steps (tuples_in S ts) ≡ total (cells_of_rule steps (tuples_in S ts)) r = ap (total (cells_of_rule steps (tuples_in S ts))) (tl ∙ number) in
      let product = mul-le-mul_right (cells_for steps r) one in
      let cells = f.cells in
      record {
        tables = all;
        are = are_tables source call I list steps all fit w.1;
        more = omega (arith, less, here_cells, whole, start_is, product, cells, many);
        fault = refl;
      }
    where
      -- what is found of the steps before has no more tuples than their tables
      before : (k : ℕ) → k < r → (all : Rows) → AllZip (IsTable source call I) (matchings steps) all → length (matchings steps) ≡ length all → length (match_table (tuples_in S ts) k) ≤ length (match_table all k)
      before k l all z long =
          let a : k < length ts = omega (arith, l, number) in
          let fl = zip_long (IsFoundStep source call I S) (matchings (take i steps)) ts f.found in
          let b : k < length (matchings (take i steps)) = omega (arith, a, fl) in
          let found = zip_at (IsFoundStep source call I S) (matchings (take i steps)) ts k no_matching no_rows f.found b in
          let split : matchings steps ≡ matchings (take i steps) ++ matchings (drop i steps) = ap matchings (sym (take-append-drop i steps)) ∙ flat_map-append matching_in (take i steps) (drop i steps) in
          let same : get_or (matchings steps) k no_matching ≡ get_or (matchings (take i steps)) k no_matching = ap (λ z. get_or z k no_matching) split ∙ get_or_append_left (matchings (take i steps)) (matchings (drop i steps)) no_matching k b in
          let e = ap length split ∙ length-append (matchings (take i steps)) (matchings (drop i steps)) in
          let c : k < length (matchings steps) = omega (arith, b, e) in
          let table = zip_at (IsTable source call I) (matchings steps) all k no_matching [] z c in
          let table_is : IsMatchTable source call I (get_or (matchings (take i steps)) k no_matching).select (get_or (matchings (take i steps)) k no_matching).sources (get_or (matchings (take i steps)) k no_matching).equal (match_table all k) =
          subst (λ (q : MatchStep). IsMatchTable source call I q.select q.sources q.equal (match_table all k)) same table in
          rw (tuples_at S ts k a) (no_longer (map (texts_of S) (get_or ts k no_rows).rows) (match_table all k) (distinct_texts S (get_or ts k no_rows).rows f.apart found.texts (distinct_numbers (get_or ts k no_rows).rows found.ascend)) (λ t m. (table_is.exact t).1 ((found.exact t).0 m)))

  -- each match step so far has a table
  pub number_is : (list : List Conversion) (old S : List Value) (ts : List NumberTable) (limit left i r : ℕ) (select : List Select) (sources : List Text) (equal : List Equal)
      → FoundSoFar source call I steps old S (matchings (take i steps)) ts limit left → MatchFits source list (take i steps) r select sources equal → length ts ≡ r
  number_is list old S ts limit left i r select sources equal f m =
      sym (zip_long (IsFoundStep source call I S) (matchings (take i steps)) ts f.found) ∙ (matching_long (take i steps) ∙ sym m.number)

  -- all steps
  pub all_found : (old S : List Value) (ts : List NumberTable) (limit left i : ℕ) → length steps ≤ i → FoundSoFar source call I steps old S (matchings (take i steps)) ts limit left
      → AllStepsFound source call I S (matchings steps) ts
  all_found old S ts limit left i h f = subst (λ (z : List Step). AllStepsFound source call I S (matchings z) ts) (take_all i steps h) f.found

-- ---- room

pub room_without : (left cells n : ℕ) → cells ≡ 0 → n < 2 ^ 64 → (n ≤ 18446744073709551615) ↔ (n * cells ≤ left)
room_without left cells n e h = let p : n * cells ≡ n * 0 = ap (λ (z : ℕ). n * z) e in ((λ q. omega (arith, p)), (λ q. omega (arith, h)))

pub room_is : (left cells n : ℕ) → ¬ (cells ≡ 0) → (n ≤ left / cells) ↔ (n * cells ≤ left)
room_is left cells n some = let k : 0 < cells = omega (arith, some) in le-div_iff_mul-le {k = cells} {x = n} {y = left} k

-- more tuples than there is room for
pub record TooMany (room : ℕ) (P : Tuple → Type 0) : Type 0 where
  pub tuples : List Tuple
  pub distinct : Distinct tuples
  pub each : Each tuples P
  pub more : room < length tuples
  pub few : length tuples < 2 ^ 32

pub too_many : (found : Option NumberTable) (room w : ℕ) (P : Tuple → Type 0) (U : List Value) → ValuesDiffer U → MatchOption found (MoreTuples room P) (StandFor w P U)
    → MatchOption found (Unit {0}) (λ t. (room < length t.rows) × (length t.rows < 2 ^ 32)) → TooMany room P
too_many None room w P U apart m q = record { tuples = m.tuples; distinct = m.distinct; each = m.each; more = m.more; few = m.few }
too_many (Some t) room w P U apart m q =
    let l = length-map t.rows (texts_of U) in
    record {
      tuples = map (texts_of U) t.rows;
      distinct = distinct_texts U t.rows apart m.texts (distinct_numbers t.rows m.ascend);
      each = (λ u n. (m.exact u).0 n);
      more = let a = q.0 in omega (arith, a, l);
      few = let b = q.1 in omega (arith, b, l);
    }

pub many_cells : (room cells left n : ℕ) → ((k : ℕ) → k < 2 ^ 64 → (k ≤ room) ↔ (k * cells ≤ left)) → n < 2 ^ 32 → room < n → left < n * cells
many_cells room cells left n f h more = elim (cases_lt left (n * cells)) [
  | inl l ↦ l
  | inr g ↦ absurd (let k = (f n (omega (arith, h))).1 g in omega (arith, k, more))
]

pub few_cells : (room cells left n : ℕ) → ((k : ℕ) → k < 2 ^ 64 → (k ≤ room) ↔ (k * cells ≤ left)) → n < 2 ^ 32 → n ≤ room → n * cells ≤ left
few_cells room cells left n f h few = (f n (omega (arith, h))).0 few

-- ---- what a step says, if it is a match step

pub of_matching : (P : MatchStep → Type 0) (s : Step) (r : ℕ) (select : List Select) (sources : List Text) (equal : List Equal) → s ≡ MatchRows r select sources equal → P (of_step select sources equal) → Each (matching_in s) P
of_matching P s r select sources equal e p = subst (λ z. Each (matching_in z) P) (sym e) one
  where
    one : (m : MatchStep) → m ∈ (of_step select sources equal ∷ []) → P m
    one m (here q) = subst P q p
    one m (there n) = elim n [ ]

pub matching_at : (P : MatchStep → Type 0) (s : Step) (r : ℕ) (select : List Select) (sources : List Text) (equal : List Equal) → s ≡ MatchRows r select sources equal → Each (matching_in s) P → P (of_step select sources equal)
matching_at P s r select sources equal e h = (subst (λ z. Each (matching_in z) P) e h) (of_step select sources equal) (here refl)

pub not_matching : (P : MatchStep → Type 0) (s : Step) → ((r : ℕ) (a b d : _) → ¬ (s ≡ MatchRows r a b d)) → Each (matching_in s) P
not_matching P (Create table columns) n = λ m k. elim k [ ]
not_matching P (MatchRows r a b d) n = absurd (n r a b d refl)
not_matching P (KeepRows r unless) n = λ m k. elim k [ ]
not_matching P (InsertRows table r kept cells) n = λ m k. elim k [ ]

pub matching_fits : (source : List TableNames) (list : List Conversion) (before : List Step) (s : Step) (r : ℕ) (select : List Select) (sources : List Text) (equal : List Equal) → s ≡ MatchRows r select sources equal
    → MatchFits source list before r select sources equal → Each (matching_in s) (MatchingFits source list)
matching_fits source list before s r select sources equal e m =
    of_matching (MatchingFits source list) s r select sources equal e (record { sources_named = m.sources_named; selected = m.selected; equal_cells = m.equal_cells })

-- the rows of a match step, by the lists that are lent
pub lent_matching : (most : ℕ) (source : List TableNames) (call : Text → Tuple → Text) (I : List Fact) (U : List Value) (o : Option NumberTable) (sel select : List Select) (src sources : List Text) (eq equal : List Equal)
    → sel ≡ select → src ≡ sources → eq ≡ equal → IsFoundUpTo most source call I U o (of_step sel src eq) → IsFoundUpTo most source call I U o (of_step select sources equal)
lent_matching most source call I U o sel select src sources eq equal a b d s =
    subst (λ (z : List Equal). IsFoundUpTo most source call I U o (of_step select sources z)) d
    (subst (λ (z : List Text). IsFoundUpTo most source call I U o (of_step select z eq)) b (subst (λ (z : List Select). IsFoundUpTo most source call I U o (of_step z src eq)) a s))

-- ---- the refusal

pub refused_limit : (source : List TableNames) (call : Text → Tuple → Text) (steps : List Step) (I : List Fact) (limit : ℕ) (e : EvalFault) → e ≡ Limit (record { what = TargetCells; number = limit })
    → ScriptPassesLimit source call steps I limit (Limit (record { what = TargetCells; number = limit })) → IsEvalRefusal source call steps I limit e
refused_limit source call steps I limit e is p = subst (IsEvalRefusal source call steps I limit) (sym is) p

pub refused_same : (source : List TableNames) (call : Text → Tuple → Text) (steps others : List Step) (I J : List Fact) (limit : ℕ) (e f : EvalFault) → steps ≡ others → I ≡ J → f ≡ e → IsEvalRefusal source call steps I limit e → IsEvalRefusal source call others J limit f
refused_same source call steps others I J limit e f s i is r =
    subst (IsEvalRefusal source call others J limit) (sym is) (subst (λ (z : List Fact). IsEvalRefusal source call others z limit e) i (subst (λ (z : List Step). IsEvalRefusal source call z I limit e) s r))
