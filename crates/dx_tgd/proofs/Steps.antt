-- One place more, one rule more, and the whole.
use Rattle.std.proofs.Common.{◌≡◌, ◌∙◌, ℕ, zero, suc, ◌+◌, ◌-◌, ◌^◌, ◌<◌, ◌≤◌, List, [], ◌∷◌, Result, Ok, Err, refl, sym, ap, subst, arith, length, get_or, take, Some}
use Rattle.std.specs.Prelude.{map, slice_get, IfOk}
use Rattle.std.specs.List.{AllZip}
use Rattle.std.specs.declared.alloc.AllocError.{AllocError}
use Rattle.std.proofs.lemmas.List.{length-map, get_or-map, take_all}
use Rattle.dx_base.specs.Members.{◌≈◌, here, there, Each}
use Rattle.dx_base.proofs.Members.{in_at}
use Rattle.dx_base.proofs.Lists.{zip_long}
use Rattle.dx_model.specs.declared.values.Value.{Value}
use Rattle.dx_model.specs.declared.facts.Fact.{Fact}
use Rattle.dx_model.specs.declared.rules.Atom.{Atom}
use Rattle.dx_model.specs.declared.rules.Rule.{Rule}
use Rattle.dx_model.specs.Values.{Rows, Tuple}
use Rattle.dx_model.specs.Rules.{at_place, at_places, canonical, exported}
use Rattle.dx_instance.specs.Cells.{NumberTable, numbers_at}
use Rattle.dx_instance.specs.Numbers.{Extends}
use Rattle.dx_instance.specs.Stored.{IsSorting, TableRows, facts, rows_of, widths, without_rows}
use Rattle.dx_instance.proofs.StoredFacts.{widths_without, sorting_facts}
use Rattle.dx_tgd.specs.declared.planned.PlannedAtom.{PlannedAtom}
use Rattle.dx_tgd.specs.Counting.{canonical_cells}
use Rattle.dx_tgd.specs.Gained.{GainsFacts, HasRoomForRows}
use Rattle.dx_model.specs.Fitting.{AtomFitsWidths}
use Rattle.dx_tgd.specs.Placed.{FitsWidths}
use Rattle.dx_tgd.specs.Planned.{CanStand, IsPlannedAtom, planned_fact}
use Rattle.dx_joins.specs.Shown.{AllTexts, texts_of}
use Rattle.dx_joins.proofs.Growing.{texts_stay, texts_grow}
use Rattle.dx_tgd.specs.Texts.{FitRule, FitRules, tuples_in}
use Rattle.dx_tgd.proofs.Plans.{Stands, cells_stand, plan_says}
use Rattle.dx_tgd.proofs.CanonicalFacts.{few_facts, place_room, rule_room}
use Rattle.dx_tgd.proofs.Gaining.{atoms_have_cells, gains_place, gains_rule, only_gained, widths_gained}
use Rattle.dx_tgd.proofs.Tables.{no_rows}

-- ---- texts stay as symbols grow

pub tuples_grown : (S T : List Value) (rows : List (List ℕ)) → Extends S T → Each rows (AllTexts S) → map (texts_of T) rows ≡ map (texts_of S) rows
tuples_grown S T [] e h = refl
tuples_grown S T (r ∷ rows) e h =
    let first = texts_stay S T r e (h r (here refl)) in
    let rest = tuples_grown S T rows e (λ x m. h x (there m)) in
    cc (first, rest)

-- ---- one place

pub record RuleAt (S T L : List Value) (i : ℕ) (d : Rule) (t : NumberTable) (n k : ℕ) (row : List ℕ) (ps : List PlannedAtom) : Type 0 where
  pub grows : Extends S T
  pub same : L ≡ T
  pub texts : Each t.rows (AllTexts S)
  pub wide : length row ≡ length (exported d)
  pub count : n ≡ length t.rows
  pub place : k < length t.rows
  pub read : row ≡ numbers_at t.rows k
  pub plan : AllZip (IsPlannedAtom T i (exported d) n) ps d.conclusion

module _ (S T L : List Value) (i : ℕ) (d : Rule) (t : NumberTable) (n k : ℕ) (row : List ℕ) (ps : List PlannedAtom) (a : RuleAt S T L i d t n k row ps) where
  texts_at : AllTexts S row
  texts_at = rw a.read (a.texts (numbers_at t.rows k) (in_at t.rows k [] a.place))

  stands_at : Stands T d n row k
  stands_at = record { texts = texts_grow S T row a.grows texts_at; wide = a.wide; place = omega (arith, a.place, a.count) }

  pub tuple_at : texts_of S row ≡ get_or (map (texts_of S) t.rows) k (texts_of S row)
  tuple_at = ap (texts_of S) a.read ∙ sym (get_or-map (texts_of S) t.rows k [] (texts_of S row) a.place)

  -- what the plan says is what the conclusion says
  pub says_at : map (planned_fact L row k) ps ≡ at_place i d k (texts_of S row)
  says_at =
      ap (λ (U : List Value). map (planned_fact U row k) ps) a.same ∙ plan_says T i d n k row ps d.conclusion stands_at a.plan
      ∙ ap (λ (u : Tuple). at_place i d k u) (texts_stay S T row a.grows texts_at)

  one_stands : (ws : List ℕ) (p : PlannedAtom) (b : Atom) → IsPlannedAtom T i (exported d) n p b → AtomFitsWidths ws b → CanStand ws (length T) row k p
  one_stands ws p b z w =
      let c = cells_stand T i d n k row p.cells.items b.cells stands_at z.cells in
      record {
        wide = ap (λ (u : ℕ). slice_get ws u) z.table ∙ w ∙ ap Some (sym c.2);
        there = λ x m. (c.0 x m).0;
        below = λ x m. (c.0 x m).1;
      }

  all_stand : (ws : List ℕ) (qs : List PlannedAtom) (atoms : List Atom) → AllZip (IsPlannedAtom T i (exported d) n) qs atoms → Each atoms (AtomFitsWidths ws) → Each qs (CanStand ws (length T) row k)
  all_stand ws [] atoms z f p m = elim m [ ]
  all_stand ws (q ∷ qs) [] z f p m = absurd z
  all_stand ws (q ∷ qs) (b ∷ atoms) z f p (here e) = subst (CanStand ws (length T) row k) e (one_stands ws q b z.0 (f b (here refl)))
  all_stand ws (q ∷ qs) (b ∷ atoms) z f p (there m) = all_stand ws qs atoms z.1 (λ x l. f x (there l)) p m

  pub stand_at : (ws vs : List ℕ) → ws ≡ vs → FitsWidths vs d → Each ps (CanStand ws (length L) row k)
  stand_at ws vs e f = rw (e, a.same) (all_stand vs ps d.conclusion a.plan f)

  pub room_at : (I J : List TableRows) → GainsFacts I J (at_places i d 0 (take k (map (texts_of S) t.rows))) → HasRoomForRows I (length (at_places i d 0 (map (texts_of S) t.rows))) → HasRoomForRows J (length ps)
  room_at I J g r u =
      let long = length-map t.rows (texts_of S) in
      let b : k < length (map (texts_of S) t.rows) = omega (arith, long, a.place) in
      omega (arith, g.few u, r u, place_room i d (map (texts_of S) t.rows) k (texts_of S row) b tuple_at, zip_long (IsPlannedAtom T i (exported d) n) ps d.conclusion a.plan)

  pub more_at : (I J K : List TableRows) → GainsFacts I J (at_places i d 0 (take k (map (texts_of S) t.rows))) → GainsFacts J K (map (planned_fact L row k) ps) → GainsFacts I K (at_places i d 0 (take (k + 1) (map (texts_of S) t.rows)))
  more_at I J K g h =
      let long = length-map t.rows (texts_of S) in
      gains_place i d (map (texts_of S) t.rows) k (texts_of S row) (omega (arith, long, a.place)) tuple_at g (subst (λ (fs : List Fact). GainsFacts J K fs) says_at h)

-- ---- one rule

pub zip_at : {X Y : Type 0} (R : X → Y → Type 0) (xs : List X) (ys : List Y) (i : ℕ) (x : X) (y : Y) → AllZip R xs ys → i < length xs → x ≡ get_or xs i x → y ≡ get_or ys i y → R x y
zip_at R [] ys i x y z h e f = absurd (omega arith)
zip_at R (u ∷ xs) [] i x y z h e f = absurd z
zip_at R (u ∷ xs) (w ∷ ys) zero x y z h e f = rw (e, f) z.0
zip_at R (u ∷ xs) (w ∷ ys) (suc i) x y z h e f = zip_at R xs ys i x y z.1 (omega arith) e f

pub record RulesAt (S L : List Value) (R : List Rule) (ts : List NumberTable) (i : ℕ) (d : Rule) (t : NumberTable) : Type 0 where
  pub fit : FitRules S R ts
  pub grows : Extends S L
  pub within : i < length R
  pub rule : d ≡ get_or R i d
  pub table : t ≡ get_or ts i t

module _ (S L : List Value) (R : List Rule) (ts : List NumberTable) (i : ℕ) (d : Rule) (t : NumberTable) (a : RulesAt S L R ts i d t) where
  pub fit_at : FitRule S d t
  fit_at = zip_at (FitRule S) R ts i d t a.fit a.within a.rule a.table

  pub texts_of_rule : Each t.rows (AllTexts L)
  texts_of_rule row m = texts_grow S L row a.grows (fit_at.texts row m)

  abbrev tuples : List Tuple
  tuples = map (texts_of S) t.rows

  same_tuples : map (texts_of L) t.rows ≡ tuples
  same_tuples = tuples_grown S L t.rows a.grows fit_at.texts

  many : i < length ts
  many = omega (arith, a.within, zip_long (FitRule S) R ts a.fit)

  within_tuples : i < length (tuples_in S ts)
  within_tuples = omega (arith, many, length-map ts (λ (u : NumberTable). map (texts_of S) u.rows))

  read : tuples ≡ get_or (tuples_in S ts) i tuples
  read = ap (λ (u : NumberTable). map (texts_of S) u.rows) a.table ∙ sym (get_or-map (λ (u : NumberTable). map (texts_of S) u.rows) ts i t tuples many)

  pub room_of_rule : (I J : List TableRows) → GainsFacts I J (canonical 0 (take i R) (take i (tuples_in S ts))) → HasRoomForRows I (length (canonical 0 R (tuples_in S ts))) → HasRoomForRows J (length (at_places i d 0 (map (texts_of L) t.rows)))
  room_of_rule I J g r u = rw same_tuples (omega (arith, g.few u, r u, rule_room R (tuples_in S ts) i d tuples a.within within_tuples a.rule read))

  pub more_of_rule : (I J K : List TableRows) → GainsFacts I J (canonical 0 (take i R) (take i (tuples_in S ts))) → GainsFacts J K (at_places i d 0 (map (texts_of L) t.rows)) → GainsFacts I K (canonical 0 (take (i + 1) R) (take (i + 1) (tuples_in S ts)))
  more_of_rule I J K g h = gains_rule R (tuples_in S ts) i d tuples a.within within_tuples a.rule read g (subst (λ (us : List Tuple). GainsFacts J K (at_places i d 0 us)) same_tuples h)

pub all_rules : (S : List Value) (R : List Rule) (ts : List NumberTable) (i : ℕ) → FitRules S R ts → length R ≤ i → canonical 0 (take i R) (take i (tuples_in S ts)) ≡ canonical 0 R (tuples_in S ts)
all_rules S R ts i f h =
    let n = zip_long (FitRule S) R ts f in
    let l = length-map ts (λ (u : NumberTable). map (texts_of S) u.rows) in
    let one = take_all i R h in
    let two = take_all i (tuples_in S ts) (omega (arith, n, l, h)) in
    rw (one, two) refl

-- ---- the whole

pub fits_first : (ws : List ℕ) (I : List TableRows) (R : List Rule) → I ≡ without_rows ws → Each R (FitsWidths ws) → Each R (FitsWidths (widths I))
fits_first ws I R e f = subst (λ (z : List ℕ). Each R (FitsWidths z)) (sym (ap widths e ∙ widths_without ws)) f

pub room_first : (ws : List ℕ) (I : List TableRows) (R : List Rule) (rows : Rows) → I ≡ without_rows ws → Each ws (λ w. 1 ≤ w) → Each R (FitsWidths ws) → canonical_cells R rows < 2 ^ 32 - 1
    → HasRoomForRows I (length (canonical 0 R rows))
room_first ws I R rows e s f h t =
    let n : rows_of I t ≡ [] = ap (λ (z : List TableRows). rows_of z t) e ∙ no_rows ws t in
    let l : length (rows_of I t) ≡ 0 = ap length n in
    omega (arith, l, h, few_facts 0 R rows (atoms_have_cells ws R s f))

pub few_tables : (ws : List ℕ) (I J : List TableRows) (more : List Fact) → I ≡ without_rows ws → GainsFacts I J more → length ws < 2 ^ 32 - 1 → length J < 2 ^ 32 - 1
few_tables ws I J more e g h =
    let l = ap length (widths_gained ws I J more e g) in
    omega (arith, h, l, length-map J (λ (t : TableRows). t.width))

pub sorted_widths : (r : Result (List TableRows) AllocError) (ws : List ℕ) (I J : List TableRows) (more : List Fact) → I ≡ without_rows ws → GainsFacts I J more → IfOk r (IsSorting J) → IfOk r (λ K. widths K ≡ ws)
sorted_widths (Ok K) ws I J more e g s = s.widths_stay ∙ widths_gained ws I J more e g
sorted_widths (Err x) ws I J more e g s = tt

pub sorted_all : (r : Result (List TableRows) AllocError) (ws : List ℕ) (I J : List TableRows) (more : List Fact) → I ≡ without_rows ws → GainsFacts I J more → IfOk r (IsSorting J) → IfOk r (λ K. facts K ≈ more)
sorted_all (Ok K) ws I J more e g s =
    let same = sorting_facts J K s in
    ((λ f m. only_gained ws I J more e g f (same.0 f m)), (λ f m. same.1 f (g.there f m)))
sorted_all (Err x) ws I J more e g s = tt
