-- The match tables of the steps of a script, by their places.
use Rattle.std.proofs.Common.{◌≡◌, ℕ, zero, suc, ◌+◌, ◌<◌, List, [], ◌∷◌, ◌++◌, length, get_or, take, drop, refl, sym, ◌∙◌, ap, subst, arith}
use Rattle.std.specs.Prelude.{map}
use Rattle.std.specs.List.{AllZip}
use Rattle.std.proofs.lemmas.List.{append_assoc, take-append-drop, length-append, take_more}
use Rattle.std.proofs.lemmas.List.Concat.{flat_map-append}
use Rattle.dx_base.specs.Members.{◌∈◌, here, there, Each}
use Rattle.dx_base.proofs.Members.{in_right}
use Rattle.dx_base.proofs.Lists.{zip_long, zip_grow, zip_at}
use Rattle.dx_model.specs.declared.facts.Fact.{Fact}
use Rattle.dx_model.specs.declared.values.Value.{Value}
use Rattle.dx_model.specs.Values.{Tuple, Rows}
use Rattle.dx_base.specs.Texts.{Text}
use Rattle.dx_instance.specs.Cells.{NumberTable, NumbersAscend}
use Rattle.dx_instance.specs.Numbers.{Extends, ValuesAscend}
use Rattle.dx_joins.specs.Shown.{AllTexts, texts_of}
use Rattle.dx_joins.proofs.Whole.{stand_grow}
use Rattle.dx_schema.specs.Names.{TableNames}
use Rattle.dx_funcs.specs.declared.conversion.Conversion.{Conversion}
use Rattle.dx_script.specs.declared.form.Select.{Select}
use Rattle.dx_script.specs.declared.form.Equal.{Equal}
use Rattle.dx_script.specs.declared.form.Step.{Step}
use Rattle.dx_script.specs.declared.form.Step.TheVariants.{Create, MatchRows, KeepRows, InsertRows}
use Rattle.dx_script.specs.Fits.{MatchFits, match_widths}
use Rattle.dx_script.specs.Meaning.{IsMatchTable, match_table}
use Rattle.dx_tgd.specs.Found.{IsRenumbering}
use Rattle.dx_tgd.specs.Texts.{tuples_in}
use Rattle.dx_tgd.proofs.Ascending.{tuples_ascend}
use Rattle.dx_tgd.proofs.Founds.{stand_reordered}
use Rattle.dx_eval.specs.Evaluating.{AreMatchTables}
use Rattle.dx_eval.specs.Query.{IsSelected}
use Rattle.dx_eval.specs.Finding.{AllStepsFound, IsFoundStep, MatchStep, MatchesFit, matching_in, matchings}
use Rattle.dx_eval.proofs.Exists.{has_table}

-- ---- steps by their places

pub matching_long : (steps : List Step) → length (matchings steps) ≡ length (match_widths steps)
matching_long [] = refl
matching_long (Create table columns ∷ steps) = matching_long steps
matching_long (MatchRows r select sources equal ∷ steps) = let e = matching_long steps in omega (arith, e)
matching_long (KeepRows r unless ∷ steps) = matching_long steps
matching_long (InsertRows table r kept cells ∷ steps) = matching_long steps

pub record Split (steps : List Step) (s : Step) : Type 0 where
  pub before : List Step
  pub after : List Step
  pub is : steps ≡ before ++ s ∷ after

pub split_in : (steps : List Step) (s : Step) → s ∈ steps → Split steps s
split_in [] s m = elim m [ ]
split_in (t ∷ steps) s (here e) = record { before = []; after = steps; is = ap (λ z. z ∷ steps) e }
split_in (t ∷ steps) s (there m) = let w = split_in steps s m in record { before = t ∷ w.before; after = w.after; is = ap (λ z. t ∷ z) w.is }

pub in_split : (steps : List Step) (s : Step) → Split steps s → s ∈ steps
in_split steps s w = subst (λ z. s ∈ z) (sym w.is) (in_right w.before (here refl))

pub no_matching : MatchStep
no_matching = record { select = []; sources = []; equal = [] }

abbrev pub of_step : List Select → List Text → List Equal → MatchStep
of_step select sources equal = record { select = select; sources = sources; equal = equal }

-- the match step at a place
pub record AtPlace (steps : List Step) (k : ℕ) : Type 0 where
  pub rule : ℕ
  pub select : List Select
  pub sources : List Text
  pub equal : List Equal
  pub split : Split steps (MatchRows rule select sources equal)
  pub place : length (matchings split.before) ≡ k

pub at_place : (steps : List Step) (k : ℕ) → k < length (matchings steps) → AtPlace steps k
at_place [] k h = absurd (omega (arith, h))
at_place (Create table columns ∷ steps) k h =
    let w = at_place steps k h in
    record { rule = w.rule; select = w.select; sources = w.sources; equal = w.equal; split = record { before = Create table columns ∷ w.split.before; after = w.split.after; is = ap (λ z. Create table columns ∷ z) w.split.is }; place = w.place }
at_place (KeepRows r unless ∷ steps) k h =
    let w = at_place steps k h in
    record { rule = w.rule; select = w.select; sources = w.sources; equal = w.equal; split = record { before = KeepRows r unless ∷ w.split.before; after = w.split.after; is = ap (λ z. KeepRows r unless ∷ z) w.split.is }; place = w.place }
at_place (InsertRows table r kept cells ∷ steps) k h =
    let w = at_place steps k h in
    record { rule = w.rule; select = w.select; sources = w.sources; equal = w.equal; split = record { before = InsertRows table r kept cells ∷ w.split.before; after = w.split.after; is = ap (λ z. InsertRows table r kept cells ∷ z) w.split.is }; place = w.place }
at_place (MatchRows r select sources equal ∷ steps) zero h = record { rule = r; select = select; sources = sources; equal = equal; split = record { before = []; after = steps; is = refl }; place = refl }
at_place (MatchRows r select sources equal ∷ steps) (suc k) h =
    let w = at_place steps k (omega (arith, h)) in
    record { rule = w.rule; select = w.select; sources = w.sources; equal = w.equal; split = record { before = MatchRows r select sources equal ∷ w.split.before; after = w.split.after; is = ap (λ z. MatchRows r select sources equal ∷ z) w.split.is }; place = ap suc w.place }

get_middle : (xs ys : List MatchStep) (m d : MatchStep) → get_or (xs ++ m ∷ ys) (length xs) d ≡ m
get_middle [] ys m d = refl
get_middle (x ∷ xs) ys m d = get_middle xs ys m d

-- a match step stands at the place of its number
module _ (source : List TableNames) (list : List Conversion) (steps : List Step) (fit : MatchesFit source list steps) where
  pub placed : (r : ℕ) (select : List Select) (sources : List Text) (equal : List Equal) (s : Split steps (MatchRows r select sources equal)) → length (matchings s.before) ≡ r
  placed r select sources equal s = let f = fit s.before s.after r select sources equal s.is in let n = f.number in matching_long s.before ∙ sym n

  pub stands_at : (r : ℕ) (select : List Select) (sources : List Text) (equal : List Equal) → MatchRows r select sources equal ∈ steps → (r < length (matchings steps)) × (get_or (matchings steps) r no_matching ≡ of_step select sources equal)
  stands_at r select sources equal m =
      let s = split_in steps (MatchRows r select sources equal) m in
      let p = placed r select sources equal s in
      let all : matchings steps ≡ matchings s.before ++ (of_step select sources equal ∷ matchings s.after) = ap matchings s.is ∙ flat_map-append matching_in s.before (MatchRows r select sources equal ∷ s.after) in
      let e = ap length all ∙ length-append (matchings s.before) (of_step select sources equal ∷ matchings s.after) in (
        omega (arith, p, e),
        ap (λ z. get_or (matchings steps) z no_matching) (sym p) ∙ (ap (λ z. get_or z (length (matchings s.before)) no_matching) all ∙ get_middle (matchings s.before) (matchings s.after) (of_step select sources equal) no_matching),
      )

  pub rule_at : (k : ℕ) (h : k < length (matchings steps)) → let w = at_place steps k h in w.rule ≡ k
  rule_at k h = let w = at_place steps k h in sym (placed w.rule w.select w.sources w.equal w.split) ∙ w.place

-- ---- lists side by side

pub zip_each : {X Y : Type 0} (R : X → Y → Type 0) (P : Y → Type 0) (xs : List X) (ys : List Y) → ((x : X) (y : Y) → R x y → P y) → AllZip R xs ys → Each ys P
zip_each R P [] [] f z y m = elim m [ ]
zip_each R P [] (w ∷ ys) f z y m = absurd z
zip_each R P (x ∷ xs) [] f z y m = absurd z
zip_each R P (x ∷ xs) (w ∷ ys) f z y (here e) = subst P e (f x w z.0)
zip_each R P (x ∷ xs) (w ∷ ys) f z y (there m) = zip_each R P xs ys f z.1 y m

zip_through : {X Y Z : Type 0} (R : X → Y → Type 0) (Q : Y → Z → Type 0) (S : X → Z → Type 0) (xs : List X) (ys : List Y) (zs : List Z) → ((x : X) (y : Y) (z : Z) → R x y → Q y z → S x z) → AllZip R xs ys → AllZip Q ys zs → AllZip S xs zs
zip_through R Q S [] [] [] f a b = tt
zip_through R Q S [] [] (z ∷ zs) f a b = absurd b
zip_through R Q S [] (y ∷ ys) zs f a b = absurd a
zip_through R Q S (x ∷ xs) [] zs f a b = absurd a
zip_through R Q S (x ∷ xs) (y ∷ ys) [] f a b = absurd b
zip_through R Q S (x ∷ xs) (y ∷ ys) (z ∷ zs) f a b = (f x y z a.0 b.0, zip_through R Q S xs ys zs f a.1 b.1)

-- ---- what is found

module _ (source : List TableNames) (call : Text → Tuple → Text) (I : List Fact) where
  pub found_grown : (S T : List Value) (ms : List MatchStep) (ts : List NumberTable) → Extends S T → AllStepsFound source call I S ms ts → AllStepsFound source call I T ms ts
  found_grown S T ms ts e f =
      zip_grow (IsFoundStep source call I S) (IsFoundStep source call I T) ms ts (λ m t s. stand_grow (length m.select) (IsSelected source call I m.select m.sources m.equal) S T t e s) f

  pub found_texts : (S : List Value) (ms : List MatchStep) (ts : List NumberTable) → AllStepsFound source call I S ms ts → Each ts (λ (t : NumberTable). Each t.rows (AllTexts S))
  found_texts S ms ts f = zip_each (IsFoundStep source call I S) (λ (t : NumberTable). Each t.rows (AllTexts S)) ms ts (λ m t s. s.texts) f

  pub found_ascend : (S : List Value) (ms : List MatchStep) (ts : List NumberTable) → AllStepsFound source call I S ms ts → Each ts (λ (t : NumberTable). NumbersAscend t.rows)
  found_ascend S ms ts f = zip_each (IsFoundStep source call I S) (λ (t : NumberTable). NumbersAscend t.rows) ms ts (λ m t s. s.ascend) f

  pub found_reordered : (S T : List Value) (ms : List MatchStep) (ts us : List NumberTable) → AllZip (IsRenumbering S T) ts us → AllStepsFound source call I S ms ts → AllStepsFound source call I T ms us
  found_reordered S T ms ts us z f =
      zip_through (IsFoundStep source call I S) (IsRenumbering S T) (IsFoundStep source call I T) ms ts us
      (λ m t u s r. stand_reordered (length m.select) (IsSelected source call I m.select m.sources m.equal) S T t u r s) f z

  -- a match table of what a step says
  unfoldable pub IsTable : MatchStep → List Tuple → Type 0
  IsTable m tuples = IsMatchTable source call I m.select m.sources m.equal tuples

  pub to_table : (S : List Value) (m : MatchStep) (t : NumberTable) → ValuesAscend S → IsFoundStep source call I S m t → IsTable m (map (texts_of S) t.rows)
  unfolding IsTable
  to_table S m t up s = record { ascend = tuples_ascend S t.rows up s.texts s.ascend; exact = s.exact }

  pub to_tables : (S : List Value) (ms : List MatchStep) (ts : List NumberTable) → ValuesAscend S → AllStepsFound source call I S ms ts → AllZip IsTable ms (tuples_in S ts)
  to_tables S [] [] up f = tt
  to_tables S [] (t ∷ ts) up f = absurd f
  to_tables S (m ∷ ms) [] up f = absurd f
  to_tables S (m ∷ ms) (t ∷ ts) up f = (to_table S m t up f.0, to_tables S ms ts up f.1)

  -- each match step has one
  pub tables_exist : (list : List Conversion) (steps all : List Step) → MatchesFit source list all → ((s : Step) → s ∈ steps → s ∈ all) → (tables : Rows) × AllZip IsTable (matchings steps) tables
  unfolding IsTable
  tables_exist list [] all fit inside = ([], tt)
  tables_exist list (Create table columns ∷ steps) all fit inside = tables_exist list steps all fit (λ s m. inside s (there m))
  tables_exist list (KeepRows r unless ∷ steps) all fit inside = tables_exist list steps all fit (λ s m. inside s (there m))
  tables_exist list (InsertRows table r kept cells ∷ steps) all fit inside = tables_exist list steps all fit (λ s m. inside s (there m))
  tables_exist list (MatchRows r select sources equal ∷ steps) all fit inside =
      let rest = tables_exist list steps all fit (λ s m. inside s (there m)) in
      let s = split_in all (MatchRows r select sources equal) (inside (MatchRows r select sources equal) (here refl)) in
      let f = fit s.before s.after r select sources equal s.is in
      let one = has_table source list call I select sources equal f.selected f.equal_cells in
      (one.0 ∷ rest.0, (one.1, rest.1))

  -- they are the match tables of the script
  pub are_tables : (list : List Conversion) (steps : List Step) (tables : Rows) → MatchesFit source list steps → AllZip IsTable (matchings steps) tables → AreMatchTables source call steps I tables
  unfolding IsTable
  are_tables list steps tables fit z = record {
    matches = λ r select sources equal m.
        let p = stands_at source list steps fit r select sources equal m in
        let h = zip_at IsTable (matchings steps) tables r no_matching [] z p.0 in
        let l = zip_long IsTable (matchings steps) tables z in
        let k = p.0 in
        (omega (arith, l, k), subst (λ (q : MatchStep). IsMatchTable source call I q.select q.sources q.equal (match_table tables r)) p.1 h);
    no_more = λ r h.
        let l = zip_long IsTable (matchings steps) tables z in
        let k : r < length (matchings steps) = omega (arith, l, h) in
        more r k;
  }
    where
      more : (r : ℕ) → r < length (matchings steps) → (select : List Select) × (sources : List Text) × (equal : List Equal) × (MatchRows r select sources equal ∈ steps)
      more r k =
          let w = at_place steps r k in
          let e = rule_at source list steps fit r k in
          (w.select, w.sources, w.equal, subst (λ (z : ℕ). MatchRows z w.select w.sources w.equal ∈ steps) e (in_split steps (MatchRows w.rule w.select w.sources w.equal) w.split))

-- the steps before a place, the step there, and those after it
pub split_at : (steps : List Step) (i : ℕ) (s t : Step) → i < length steps → s ≡ get_or steps i s → s ≡ t → steps ≡ take i steps ++ t ∷ drop (i + 1) steps
split_at steps i s t h is e =
    sym (take-append-drop (i + 1) steps)
    ∙ (ap (λ (z : List Step). z ++ drop (i + 1) steps) (take_more steps i s h ∙ ap (λ (z : Step). take i steps ++ z ∷ []) (sym is ∙ e)) ∙ append_assoc (take i steps) (t ∷ []) (drop (i + 1) steps))

pub match_fits_at : (source : List TableNames) (list : List Conversion) (steps : List Step) (i r : ℕ) (select : List Select) (sources : List Text) (equal : List Equal) (s : Step) → MatchesFit source list steps
    → i < length steps → s ≡ get_or steps i s → s ≡ MatchRows r select sources equal → MatchFits source list (take i steps) r select sources equal
match_fits_at source list steps i r select sources equal s fit h is variant = fit (take i steps) (drop (i + 1) steps) r select sources equal (split_at steps i s (MatchRows r select sources equal) h is variant)
