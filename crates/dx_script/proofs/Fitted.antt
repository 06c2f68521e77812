-- The scripts of rules fit.
use Rattle.std.proofs.Common.{◌≡◌, ℕ, zero, suc, ◌+◌, ◌-◌, ◌<◌, ◌≤◌, Bool, true, false, eqb, List, [], ◌∷◌, ◌++◌, length, get_or, refl, sym, ◌∙◌, ap, subst, inl, inr, arith, append_assoc}
use Rattle.std.specs.Prelude.{map, flat_map}
use Rattle.std.specs.List.{position_or_len}
use Rattle.std.proofs.lemmas.Bool.{cases_Bool, eqb-false}
use Rattle.std.proofs.lemmas.List.{append-nil, get_or-map, length-map, get_or_append_left}
use Rattle.std.proofs.Math.Seq.{get_or-append_seam}
use Rattle.std.proofs.lemmas.Grind.{flat_map-append}
use Rattle.std.proofs.lemmas.List.Concat.{flat_map_single}
use Rattle.dx_base.specs.Members.{◌∈◌, here, there, Each}
use Rattle.dx_base.proofs.Members.{in_at, in_map, from_map, in_left, in_right, in_flat_map, from_flat_map}
use Rattle.dx_model.specs.declared.rules.Cell.{Cell}
use Rattle.dx_model.specs.declared.rules.Cell.TheVariants.{Var, Ex, Lit}
use Rattle.dx_model.specs.declared.rules.Atom.{Atom}
use Rattle.dx_model.specs.declared.rules.Derived.{Derived}
use Rattle.dx_model.specs.declared.rules.Rule.{Rule}
use Rattle.dx_base.specs.Texts.{Text}
use Rattle.dx_model.specs.Rules.{cells_of, after_cells, exported}
use Rattle.dx_model.specs.Covers.{below, rule_at}
use Rattle.dx_model.proofs.Lists.{in_below, from_below, length_below}
use Rattle.dx_model.proofs.Canonical.{in_variables}
use Rattle.dx_schema.specs.Names.{TableNames}
use Rattle.dx_funcs.specs.declared.conversion.Conversion.{Conversion}
use Rattle.dx_script.specs.declared.form.Equal.{Equal}
use Rattle.dx_script.specs.declared.form.Test.{Test}
use Rattle.dx_script.specs.declared.form.Test.TheVariants.{Columns, Literal as Same}
use Rattle.dx_script.specs.declared.form.Unless.{Unless}
use Rattle.dx_script.specs.declared.form.Out.{Out}
use Rattle.dx_script.specs.declared.form.Step.{Step}
use Rattle.dx_script.specs.declared.form.Step.TheVariants.{Create, MatchRows, KeepRows, InsertRows}
use Rattle.dx_funcs.specs.Names.{conversion_name, TakesTexts}
use Rattle.dx_script.specs.Names.{table_numbered, table_names, table_named, column_at}
use Rattle.dx_script.specs.Meaning.{table_of_alias}
use Rattle.dx_script.specs.Fits.{created_in, created, width_in, match_widths, kept_in, rules_with_keep, HasColumn, CellFits, SelectFits, MatchFits, TestFits, OutFits, ReadsKept, StepFits, FitsScript}
use Rattle.dx_script.specs.Generated.{Spot, spots, first_spot, shows, equals, select_of, selects_of, sources_of, create_steps, match_step, match_steps, keep_step, keep_steps, has_parts, out_of, insert_step, inserts_of, insert_steps, script_with}
use Rattle.dx_script.proofs.NameFacts.{no_table, nat_lt_tells, takes_texts, table_number}
use Rattle.dx_script.proofs.RuleFacts.{NamesFit, premise_fits, conclusion_fits, stands, arguments_below, exported_known}
use Rattle.dx_script.proofs.Spots.{atom_at, from_spots, standing_spots, first_stands, from_equals}
use Rattle.dx_script.proofs.Parts.{from_inserts, from_keep_step, in_keep_step, kept_from}

-- ---- lists

below_at : (n r d : ℕ) → r < n → get_or (below n) r d ≡ r
below_at zero r d h = absurd (omega arith)
below_at (suc n) r d h = elim (nat_lt_tells r n) [
  | inl t ↦ get_or_append_left (below n) (n ∷ []) d r (rw (length_below n) t.1) ∙ below_at n r d t.1
  | inr f ↦
      let e : r ≡ n = let k = f.1 in omega arith in
      let q : get_or (below n ++ n ∷ []) (length (below n)) d ≡ n = get_or-append_seam (below n) n [] d in
      ap (λ z. get_or (below n ++ n ∷ []) z d) (e ∙ sym (length_below n)) ∙ (q ∙ sym e)
]

-- the member of a map at a number below n
pub at_below : {X : Type 0} (g : ℕ → X) (n r : ℕ) (d : X) → r < n → get_or (map g (below n)) r d ≡ g r
at_below g n r d h = get_or-map g (below n) r r d (rw (length_below n) h) ∙ ap g (below_at n r r h)

pub length_map_below : {X : Type 0} (g : ℕ → X) (n : ℕ) → length (map g (below n)) ≡ n
length_map_below g n = length-map (below n) g ∙ length_below n

pub position_below : (x : ℕ) (xs : List ℕ) → x ∈ xs → position_or_len (eqb x) xs < length xs
position_below x [] m = elim m [ ]
position_below x (y ∷ ys) m = elim (cases_Bool (eqb x y)) [
  | inl p ↦ rw p (omega arith)
  | inr f ↦ let h = position_below x ys (go f m) in rw f (omega (arith, h))
]
  where
    go : eqb x y ≡ false → x ∈ (y ∷ ys) → x ∈ ys
    go f (here e) = absurd (eqb-false x y f (sym e))
    go f (there k) = k

-- ---- what steps make

widths_append : (xs ys : List Step) → match_widths (xs ++ ys) ≡ match_widths xs ++ match_widths ys
widths_append xs ys = flat_map-append width_in xs ys

kept_append : (xs ys : List Step) → rules_with_keep (xs ++ ys) ≡ rules_with_keep xs ++ rules_with_keep ys
kept_append xs ys = flat_map-append kept_in xs ys

created_append : (xs ys : List Step) → created (xs ++ ys) ≡ created xs ++ created ys
created_append xs ys = flat_map-append created_in xs ys

module _ (source target : List TableNames) (list : List Conversion) (whole : List Step) where
  -- each of the steps fits after those before it
  abbrev pub AllFit : List Step → List Step → Type 0
  AllFit before [] = Unit {0}
  AllFit before (s ∷ ss) = StepFits source target list whole before s × AllFit (before ++ s ∷ []) ss

  pub fits_at : (first ss before after : List Step) (s : Step) → AllFit first ss → ss ≡ before ++ s ∷ after → StepFits source target list whole (first ++ before) s
  fits_at first [] [] after s a e = absurd (cc)
  fits_at first [] (b ∷ before) after s a e = absurd (cc)
  fits_at first (t ∷ ss) [] after s a e =
      let q : t ≡ s = cc in
      subst (λ z. StepFits source target list whole z s) (sym (append-nil first)) (subst (λ z. StepFits source target list whole first z) q a.0)
  fits_at first (t ∷ ss) (b ∷ before) after s a e =
      let q : t ≡ b = cc in
      let r : ss ≡ before ++ s ∷ after = cc in
      let h = fits_at (first ++ t ∷ []) ss before after s a.1 r in
      subst (λ z. StepFits source target list whole z s) (append_assoc first (t ∷ []) before ∙ ap (λ z. first ++ z ∷ before) q) h

  pub fit_append : (first xs ys : List Step) → AllFit first xs → AllFit (first ++ xs) ys → AllFit first (xs ++ ys)
  fit_append first [] ys a b = subst (λ z. AllFit z ys) (append-nil first) b
  fit_append first (x ∷ xs) ys a b = (a.0, fit_append (first ++ x ∷ []) xs ys a.1 (subst (λ z. AllFit z ys) (sym (append_assoc first (x ∷ []) xs)) b))

  pub fit_below : (f : ℕ → List Step) (first : List Step) (n : ℕ) → ((j : ℕ) → j < n → AllFit (first ++ flat_map f (below j)) (f j)) → AllFit first (flat_map f (below n))
  fit_below f first zero h = tt
  fit_below f first (suc n) h =
      subst (AllFit first) (sym (flat_map-append f (below n) (n ∷ []) ∙ ap (λ z. flat_map f (below n) ++ z) (append-nil (f n))))
      (fit_append first (flat_map f (below n)) (f n) (fit_below f first n (λ j k. h j (omega arith))) (h n (omega arith)))

  -- steps that fit where something holds that they keep
  pub fit_while : (P : List Step → Type 0) (xs first : List Step) → ((before : List Step) → P before → (s : Step) → s ∈ xs → StepFits source target list whole before s × P (before ++ s ∷ []))
      → P first → AllFit first xs
  fit_while P [] first h p = tt
  fit_while P (x ∷ xs) first h p = let w = h first p x (here refl) in (w.0, fit_while P xs (first ++ x ∷ []) (λ before q s m. h before q s (there m)) w.1)

-- ---- the parts of a match step

module _ (source target : List TableNames) (list : List Conversion) (R : List Rule) (d : Rule) (good : NamesFit source target list R) (member : d ∈ R) where
  all : List Spot
  all = spots source 0 d.premise

  table_at : (j : ℕ) → j < length d.premise → table_of_alias source (sources_of source d) j ≡ (atom_at d.premise j).table
  table_at j h =
      let a = premise_fits source target list R d good member (atom_at d.premise j) (in_at d.premise j (record { table = 0; cells = [] }) h) in
      ap (table_named source) (get_or-map (λ (a : Atom). (table_numbered source a.table).name) d.premise j (record { table = 0; cells = [] }) [] h)
      ∙ table_number source (atom_at d.premise j).table good.source_tables a.0

  spot_fits : (s : Spot) → s ∈ all → CellFits source (sources_of source d) (shows s)
  unfolding all
  spot_fits s m =
      let w = from_spots source 0 d.premise s m in
      let q : w.1 ≡ w.0 = omega (arith, w.3) in
      let a = premise_fits source target list R d good member (atom_at d.premise w.0) (in_at d.premise w.0 (record { table = 0; cells = [] }) w.4) in
      let t : table_of_alias source (sources_of source d) w.1 ≡ (atom_at d.premise w.0).table = rw q (table_at w.0 w.4) in
      let inside : w.1 < length (sources_of source d) = rw (length-map d.premise (λ (b : Atom). (table_numbered source b.table).name), q) w.4 in
      let c : column_at source (atom_at d.premise w.0).table w.2 ∈ (table_numbered source (atom_at d.premise w.0).table).columns =
      in_at (table_numbered source (atom_at d.premise w.0).table).columns w.2 [] (rw (← a.1) w.5) in
      subst (λ (z : Spot). CellFits source (sources_of source d) (shows z)) w.6
      (record { alias = inside; column = subst (λ z. column_at source (atom_at d.premise w.0).table w.2 ∈ (table_numbered source z).columns) (sym t) c })

  first_fits : (x : ℕ) → x < after_cells (cells_of d.premise) → CellFits source (sources_of source d) (shows (first_spot x all))
  unfolding all
  first_fits x h =
      let w = standing_spots source 0 d.premise x (stands source target list R d good member x h) in
      spot_fits (first_spot x all) (first_stands x all w.0 w.1 w.2).0

  select_fits : (x : ℕ) → x ∈ exported d → SelectFits source list (sources_of source d) (select_of list all d x)
  select_fits x m = elim (nat_lt_tells x (after_cells (cells_of d.premise))) [
    | inl t ↦ rw t.0 (first_fits x t.1)
    | inr f ↦
        let n : ℕ = after_cells (cells_of d.premise) in
        let l : x < n + length d.derived = exported_known source target list R d good member x m in
        let g : n ≤ x = f.1 in
        let e : Derived = get_or d.derived (x - n) (record { code = 0; args = [] }) in
        let i : e ∈ d.derived = in_at d.derived (x - n) (record { code = 0; args = [] }) (omega arith) in
        rw f.0 (
          subst (TakesTexts list (conversion_name list e.code)) (sym (length-map e.args (λ y. shows (first_spot y all)))) (takes_texts list e.code (length e.args) good.offer (good.listed d member e i)),
          (λ r k.
              let w = from_map (λ y. shows (first_spot y all)) e.args k in
              subst (CellFits source (sources_of source d)) w.2 (first_fits w.0 (arguments_below source target list R d good member e i w.0 w.1))),
        )
  ]

  pub match_fits : (before : List Step) (r : ℕ) → r ≡ length (match_widths before) → MatchFits source list before r (selects_of source list d) (sources_of source d) (equals (spots source 0 d.premise))
  unfolding all
  match_fits before r e = record {
    number = e;
    sources_named = λ name m.
        let w = from_map (λ (a : Atom). (table_numbered source a.table).name) d.premise m in
        let a = premise_fits source target list R d good member w.0 w.1 in
        subst (λ z. z ∈ table_names source) w.2 (in_map (λ (t : TableNames). t.name) (in_at source (w.0).table no_table a.0));
    selected = λ s m. let w = from_map (select_of list all d) (exported d) m in subst (SelectFits source list (sources_of source d)) w.2 (select_fits w.0 w.1);
    equal_cells = λ e m.
        let w = from_equals all e m in
        let f = first_stands w.1 all w.0 w.2 w.3 in
        subst (λ (z : Equal). CellFits source (sources_of source d) z.left × CellFits source (sources_of source d) z.right) w.4 (spot_fits (first_spot w.1 all) f.0, spot_fits w.0 w.2);
  }

-- ---- the script of rules

-- a test of rule r reads a column of rule j, and one of its own
abbrev pub TestIn : List Rule → ℕ → ℕ → Test → Type 0
TestIn R r j (Columns c own) = (c < length (exported (rule_at R j))) × (own < length (exported (rule_at R r)))
TestIn R r j (Same own text) = own < length (exported (rule_at R r))

-- the parts of rule r read match tables that are there
abbrev pub PartsFit : List Rule → (ℕ → List Unless) → Type 0
PartsFit R keeps = (r : ℕ) → r < length R → Each (keeps r) (λ u. (u.rule < length R) × Each u.tests (TestIn R r u.rule))

create_widths : (ts : List TableNames) → match_widths (create_steps ts) ≡ []
create_widths [] = refl
create_widths (t ∷ ts) = create_widths ts

create_kept : (ts : List TableNames) → rules_with_keep (create_steps ts) ≡ []
create_kept [] = refl
create_kept (t ∷ ts) = create_kept ts

create_created : (ts : List TableNames) → created (create_steps ts) ≡ map (λ (t : TableNames). (t.name, t.columns)) ts
create_created [] = refl
create_created (t ∷ ts) = ap (λ z. (t.name, t.columns) ∷ z) (create_created ts)

insert_created : (target : List TableNames) (kept : Bool) (r : ℕ) (d : Rule) (atoms : List Atom) → created (map (insert_step target kept r d) atoms) ≡ []
insert_created target kept r d [] = refl
insert_created target kept r d (a ∷ atoms) = insert_created target kept r d atoms

created_flat : (f : ℕ → List Step) (ns : List ℕ) → ((n : ℕ) → created (f n) ≡ []) → created (flat_map f ns) ≡ []
created_flat f [] h = refl
created_flat f (n ∷ ns) h = created_append (f n) (flat_map f ns) ∙ (ap (λ z. z ++ created (flat_map f ns)) (h n) ∙ created_flat f ns h)

keep_created : (r : ℕ) (us : List Unless) → created (keep_step r us) ≡ []
keep_created r [] = refl
keep_created r (u ∷ us) = refl

keep_widths : (keeps : ℕ → List Unless) (ns : List ℕ) → match_widths (flat_map (λ r. keep_step r (keeps r)) ns) ≡ []
keep_widths keeps [] = refl
keep_widths keeps (n ∷ ns) = widths_append (keep_step n (keeps n)) (flat_map (λ r. keep_step r (keeps r)) ns) ∙ (ap (λ z. z ++ match_widths (flat_map (λ r. keep_step r (keeps r)) ns)) (one n (keeps n)) ∙ keep_widths keeps ns)
  where
    one : (r : ℕ) (us : List Unless) → match_widths (keep_step r us) ≡ []
    one r [] = refl
    one r (u ∷ us) = refl

-- a rule among those with keep tables
from_kept : (steps : List Step) (r : ℕ) → r ∈ rules_with_keep steps → (unless : List Unless) × (KeepRows r unless ∈ steps)
from_kept [] r m = elim m [ ]
from_kept (Create t cs ∷ ss) r m = let w = from_kept ss r m in (w.0, there w.1)
from_kept (MatchRows q se so eq ∷ ss) r m = let w = from_kept ss r m in (w.0, there w.1)
from_kept (KeepRows q unless ∷ ss) r (here e) = (unless, here (ap (λ z. KeepRows z unless) e))
from_kept (KeepRows q unless ∷ ss) r (there m) = let w = from_kept ss r m in (w.0, there w.1)
from_kept (InsertRows t q k cs ∷ ss) r m = let w = from_kept ss r m in (w.0, there w.1)

in_kept : (steps : List Step) (r : ℕ) (unless : List Unless) → KeepRows r unless ∈ steps → r ∈ rules_with_keep steps
in_kept steps r unless m = in_flat_map kept_in m (here refl)

module _ (source target : List TableNames) (list : List Conversion) (keeps : ℕ → List Unless) (R : List Rule) (good : NamesFit source target list R) (parts : PartsFit R keeps) where
  abbrev whole : List Step
  whole = script_with source target list keeps R

  abbrev Fit : List Step → List Step → Type 0
  Fit = AllFit source target list whole

  abbrev wide : ℕ → ℕ
  wide r = length (exported (rule_at R r))

  abbrev matching : ℕ → Step
  matching r = match_step source list r (rule_at R r)

  rule_in : (j : ℕ) → j < length R → rule_at R j ∈ R
  rule_in j h = in_at R j _ h

  -- creates
  creates_fit : (ts : List TableNames) (before : List Step) → Fit before (create_steps ts)
  creates_fit [] before = tt
  creates_fit (t ∷ ts) before = (tt, creates_fit ts (before ++ Create t.name t.columns ∷ []))

  -- match steps
  widths_of_matches : (ns : List ℕ) → match_widths (map matching ns) ≡ map wide ns
  widths_of_matches [] = refl
  widths_of_matches (n ∷ ns) =
      let e : length (selects_of source list (rule_at R n)) ≡ wide n = length-map (exported (rule_at R n)) (select_of list (spots source 0 (rule_at R n).premise) (rule_at R n)) in
      ap (λ z. z ∷ match_widths (map matching ns)) e ∙ ap (λ z. wide n ∷ z) (widths_of_matches ns)

  matches_fit : Fit (create_steps target) (match_steps source list R)
  matches_fit =
      subst (Fit (create_steps target)) (flat_map_single matching (below (length R)))
      (fit_below source target list whole (λ r. matching r ∷ []) (create_steps target) (length R) (λ j h.
      let e : match_widths (create_steps target ++ flat_map (λ r. matching r ∷ []) (below j)) ≡ map wide (below j) =
      widths_append (create_steps target) (flat_map (λ r. matching r ∷ []) (below j))
      ∙ (ap (λ z. z ++ match_widths (flat_map (λ r. matching r ∷ []) (below j))) (create_widths target)
      ∙ (ap match_widths (flat_map_single matching (below j)) ∙ widths_of_matches (below j))) in
      let l : length (match_widths (create_steps target ++ flat_map (λ r. matching r ∷ []) (below j))) ≡ j = ap length e ∙ length_map_below wide j in
      (match_fits source target list R (rule_at R j) good (rule_in j h) (create_steps target ++ flat_map (λ r. matching r ∷ []) (below j)) j (sym l), tt)))

  -- the tables that are there after the match steps
  abbrev HasTables : List Step → Type 0
  HasTables before = match_widths before ≡ map wide (below (length R))

  has_rule : (before : List Step) → HasTables before → (r : ℕ) → r < length R → r < length (match_widths before)
  has_rule before e r h = rw (ap length e ∙ length_map_below wide (length R)) h

  has_column : (before : List Step) → HasTables before → (r c : ℕ) → r < length R → c < wide r → HasColumn before r c
  has_column before e r c h k =
      let w : get_or (match_widths before) r 0 ≡ wide r = ap (λ z. get_or z r 0) e ∙ at_below wide (length R) r 0 h in
      (has_rule before e r h, rw w k)

  -- keep steps
  abbrev keeping : ℕ → List Step
  keeping r = keep_step r (keeps r)

  abbrev matched : List Step
  matched = create_steps target ++ match_steps source list R

  matched_tables : HasTables matched
  matched_tables =
      widths_append (create_steps target) (match_steps source list R)
      ∙ (ap (λ z. z ++ match_widths (match_steps source list R)) (create_widths target) ∙ widths_of_matches (below (length R)))

  no_kept : (ns : List ℕ) → rules_with_keep (map matching ns) ≡ []
  no_kept [] = refl
  no_kept (n ∷ ns) = no_kept ns

  matched_kept : (xs : List Step) → rules_with_keep (matched ++ xs) ≡ rules_with_keep xs
  matched_kept xs =
      kept_append matched xs
      ∙ ap (λ z. z ++ rules_with_keep xs) (kept_append (create_steps target) (match_steps source list R)
      ∙ (ap (λ z. z ++ rules_with_keep (match_steps source list R)) (create_kept target) ∙ no_kept (below (length R))))

  not_yet : (j : ℕ) → ¬ (j ∈ rules_with_keep (matched ++ flat_map keeping (below j)))
  not_yet j m =
      let w = from_kept (flat_map keeping (below j)) j (subst (λ z. j ∈ z) (matched_kept (flat_map keeping (below j))) m) in
      let f = from_flat_map keeping (below j) w.1 in
      let k = from_keep_step j f.0 (keeps f.0) w.0 f.2 in
      let l : f.0 < j = from_below f.0 j f.1 in
      let e : f.0 ≡ j = k.0 in
      omega arith

  test_fits : (before : List Step) → HasTables before → (r other : ℕ) → r < length R → other < length R → (t : Test) → TestIn R r other t → TestFits before r other t
  test_fits before e r other h k (Columns c own) w = (has_column before e other c k w.0, has_column before e r own h w.1)
  test_fits before e r other h k (Same own text) w = has_column before e r own h w

  keep_fits : (before : List Step) → HasTables before → (r : ℕ) → r < length R → ¬ (r ∈ rules_with_keep before) → (us : List Unless) → keeps r ≡ us → Fit before (keep_step r us)
  keep_fits before e r h n [] q = tt
  keep_fits before e r h n (u ∷ us) q = (
    record {
      rule = has_rule before e r h;
      one = n;
      parts = λ v m.
          let p = parts r h v (subst (λ z. v ∈ z) (sym q) m) in
          record { rule = has_rule before e v.rule p.0; tests = λ t k. test_fits before e r v.rule h p.0 t (p.1 t k) };
    },
    tt,
  )

  keeps_fit : Fit matched (keep_steps keeps R)
  keeps_fit = fit_below source target list whole keeping matched (length R) (λ j h.
      let e : HasTables (matched ++ flat_map keeping (below j)) =
      widths_append matched (flat_map keeping (below j)) ∙ (ap (λ z. match_widths matched ++ z) (keep_widths keeps (below j)) ∙ (append-nil (match_widths matched) ∙ matched_tables)) in
      keep_fits (matched ++ flat_map keeping (below j)) e j h (not_yet j) (keeps j) refl)

  -- insert steps
  abbrev kept_too : List Step
  kept_too = matched ++ keep_steps keeps R

  record IsReady (before : List Step) : Type 0 where
    tables : HasTables before
    made : Each target (λ (t : TableNames). t.name ∈ map (λ (z : Text × List Text). z.0) (created before))
    keeps_made : (r : ℕ) → r < length R → has_parts (keeps r) ≡ true → r ∈ rules_with_keep before

  kept_too_tables : HasTables kept_too
  kept_too_tables = widths_append matched (keep_steps keeps R) ∙ (ap (λ z. match_widths matched ++ z) (keep_widths keeps (below (length R))) ∙ (append-nil (match_widths matched) ∙ matched_tables))

  ready : IsReady kept_too
  ready = record {
    tables = kept_too_tables;
    made = λ t m.
        let a : created kept_too ≡ created matched ++ created (keep_steps keeps R) = created_append matched (keep_steps keeps R) in
        let b : created matched ≡ created (create_steps target) ++ created (match_steps source list R) = created_append (create_steps target) (match_steps source list R) in
        let n : (t.name, t.columns) ∈ map (λ (u : TableNames). (u.name, u.columns)) target = in_map (λ (u : TableNames). (u.name, u.columns)) m in
        let c : (t.name, t.columns) ∈ created matched = subst (λ z. (t.name, t.columns) ∈ z) (sym b) (in_left (created (match_steps source list R)) (subst (λ z. (t.name, t.columns) ∈ z) (sym (create_created target)) n)) in
        in_map (λ (z : Text × List Text). z.0) (subst (λ z. (t.name, t.columns) ∈ z) (sym a) (in_left (created (keep_steps keeps R)) c));
    keeps_made = λ r h e. in_kept kept_too r (keeps r) (in_right matched (in_flat_map keeping (in_below r (length R) h) (in_keep_step r (keeps r) e)));
  }

  still_ready : (before : List Step) → IsReady before → (table : Text) (r : ℕ) (kept : Bool) (cells : List Out) → IsReady (before ++ InsertRows table r kept cells ∷ [])
  still_ready before b table r kept cells =
      let s : List Step = InsertRows table r kept cells ∷ [] in
      let e : match_widths (before ++ s) ≡ match_widths before = widths_append before s ∙ append-nil (match_widths before) in
      record {
        tables = e ∙ b.tables;
        made = λ t m.
            let c : created (before ++ s) ≡ created before = created_append before s ∙ append-nil (created before) in
            subst (λ z. t.name ∈ map (λ (u : Text × List Text). u.0) z) (sym c) (b.made t m);
        keeps_made = λ q h k. subst (λ z. q ∈ z) (sym (kept_append before s)) (in_left (rules_with_keep s) (b.keeps_made q h k));
      }

  reads_kept : (before : List Step) → IsReady before → (r : ℕ) → r < length R → (kept : Bool) → has_parts (keeps r) ≡ kept → ReadsKept whole before r kept
  reads_kept before b r h true e = b.keeps_made r h e
  reads_kept before b r h false e = λ m.
      let w = from_kept whole r m in
      none r (keeps r) w.0 (kept_from source target list keeps R r w.0 w.1) e
    where
      none : (r : ℕ) (us unless : List Unless) → KeepRows r unless ∈ keep_step r us → has_parts us ≡ false → ⊥
      none r [] unless m e = elim m [ ]
      none r (u ∷ us) unless m e = cc

  out_fits : (before : List Step) → IsReady before → (j : ℕ) → j < length R → (c : Cell) → c ∈ cells_of (rule_at R j).conclusion → OutFits before j (out_of (rule_at R j) c)
  out_fits before b j h (Var x) m = has_column before b.tables j _ h (position_below x (exported (rule_at R j)) (in_variables x (cells_of (rule_at R j).conclusion) m))
  out_fits before b j h (Ex v) m = tt
  out_fits before b j h (Lit t) m = tt

  insert_fits : (before : List Step) → IsReady before → (j : ℕ) → j < length R → (a : Atom) → a ∈ (rule_at R j).conclusion
      → StepFits source target list whole before (insert_step target (has_parts (keeps j)) j (rule_at R j) a)
  insert_fits before b j h a m =
      let d : Rule = rule_at R j in
      let c = conclusion_fits source target list R d good (rule_in j h) a m in
      let n : table_named target (table_numbered target a.table).name ≡ a.table = table_number target a.table good.target_tables c.0 in
      record {
        made = b.made (table_numbered target a.table) (in_at target a.table no_table c.0);
        width = length-map a.cells (out_of d) ∙ (c.1 ∙ ap (λ z. length (table_numbered target z).columns) (sym n));
        rule = has_rule before b.tables j h;
        reads = reads_kept before b j h (has_parts (keeps j)) refl;
        outs = λ o k.
            let w = from_map (out_of d) a.cells k in
            subst (OutFits before j) w.2 (out_fits before b j h w.0 (in_flat_map (λ (z : Atom). z.cells) m w.1));
      }

  inserts_fit : Fit kept_too (insert_steps target keeps R)
  inserts_fit = fit_while source target list whole IsReady (insert_steps target keeps R) kept_too (λ before b s m.
      let w = from_inserts target keeps R s m in
      let a : Atom = w.2 in (
        subst (StepFits source target list whole before) w.4 (insert_fits before b w.0 w.1 a w.3),
        subst (λ z. IsReady (before ++ z ∷ [])) w.4 (still_ready before b (table_numbered target a.table).name w.0 (has_parts (keeps w.0)) (map (out_of (rule_at R w.0)) a.cells)),
      )) ready

  all_fit : Fit [] whole
  all_fit =
      fit_append source target list whole [] (create_steps target) _ (creates_fit target [])
      (fit_append source target list whole (create_steps target) (match_steps source list R) _ matches_fit
      (fit_append source target list whole matched (keep_steps keeps R) (insert_steps target keeps R) keeps_fit inserts_fit))

  whole_creates : created whole ≡ map (λ (t : TableNames). (t.name, t.columns)) target
  whole_creates =
      created_append (create_steps target) (match_steps source list R ++ (keep_steps keeps R ++ insert_steps target keeps R))
      ∙ (ap (λ z. created (create_steps target) ++ z) rest ∙ (append-nil (created (create_steps target)) ∙ create_created target))
    where
      matches_create : (ns : List ℕ) → created (map matching ns) ≡ []
      matches_create [] = refl
      matches_create (n ∷ ns) = matches_create ns

      rest : created (match_steps source list R ++ (keep_steps keeps R ++ insert_steps target keeps R)) ≡ []
      rest =
          created_append (match_steps source list R) (keep_steps keeps R ++ insert_steps target keeps R)
          ∙ (ap (λ z. z ++ created (keep_steps keeps R ++ insert_steps target keeps R)) (matches_create (below (length R)))
          ∙ (created_append (keep_steps keeps R) (insert_steps target keeps R)
          ∙ (ap (λ z. z ++ created (insert_steps target keeps R)) (created_flat keeping (below (length R)) (λ n. keep_created n (keeps n)))
          ∙ created_flat (λ r. inserts_of target (has_parts (keeps r)) r (rule_at R r)) (below (length R)) (λ n. insert_created target (has_parts (keeps n)) n (rule_at R n) (rule_at R n).conclusion))))

  pub script_fits : FitsScript source target list (script_with source target list keeps R)
  script_fits = record { creates = whole_creates; each = λ before after s e. fits_at source target list whole [] whole before after s all_fit e }
