-- Steps that fit, from the first on.
use Rattle.std.proofs.Common.{◌≡◌, ℕ, zero, suc, ◌+◌, ◌<◌, ◌≤◌, List, [], ◌∷◌, ◌++◌, length, get_or, take, drop, refl, sym, ◌∙◌, ap, subst, arith, inl, inr}
use Rattle.std.specs.Prelude.{IsTrue, ◌↔◌, Bool, true, false, map, nat_eq}
use Rattle.std.proofs.lemmas.Bool.Decides.{Decides-eqb}
use Rattle.std.proofs.lemmas.List.{drop_all, get_or-map, get_or_default, length-map}
use Rattle.std.proofs.lemmas.Bool.{cases_lt}
use Rattle.dx_base.proofs.Loops.{not_so}
use Rattle.dx_base.specs.Texts.{Text}
use Rattle.dx_schema.specs.Names.{TableNames}
use Rattle.dx_funcs.specs.declared.conversion.Conversion.{Conversion}
use Rattle.dx_script.specs.declared.form.Step.{Step}
use Rattle.dx_script.specs.declared.form.Step.TheVariants.{Create, MatchRows, KeepRows, InsertRows}
use Rattle.dx_script.specs.Fits.{FitsScript, ReadsKept, StepFits, created, created_in, rules_with_keep}
use Rattle.dx_script.specs.Names.{table_numbered}
use Rattle.dx_script.proofs.NameFacts.{no_table}
use Rattle.dx_script.proofs.Made.{both_end, both_more, head_is, made_next}

-- a step that stands nowhere
abbrev pub no_step : Step
no_step = Create [] []

-- each of the first steps fits after those before it
abbrev pub FitBelow : List TableNames → List TableNames → List Conversion → List Step → List Step → ℕ → Type 0
FitBelow source target list keeps steps n =
    (k : ℕ) → k < n → k < length steps → StepFits source target list keeps (take k steps) (get_or steps k no_step)

-- ---- created tables

-- a table as a step creates it
abbrev pub shown : TableNames → Text × List Text
shown t = (t.name, t.columns)

-- the rest of the steps creates the rest of the tables exactly if all of the steps create all of them
pub record Created (next at : ℕ) (steps : List Step) (tables : List TableNames) : Type 0 where
  pub within : next ≤ length tables
  pub same : (created steps ≡ map shown tables) ↔ (created (drop at steps) ≡ drop next (map shown tables))

no_created : (s : Step) → ((t : _) (u : _) → ¬ (s ≡ Create t u)) → created_in s ≡ []
no_created (Create table columns) h = absurd (h table columns refl)
no_created (MatchRows r select sources equal) h = refl
no_created (KeepRows r unless) h = refl
no_created (InsertRows table r kept cells) h = refl

pub none_created : (next at : ℕ) (steps : List Step) (tables : List TableNames) (s : Step) → at < length steps → s ≡ get_or steps at s → ((t : _) (u : _) → ¬ (s ≡ Create t u))
    → Created next at steps tables → Created next (at + 1) steps tables
none_created next at steps tables s lt is h p =
    let e : created (drop at steps) ≡ created (drop (at + 1) steps) = made_next created_in steps at s lt is ∙ ap (λ z. z ++ created (drop (at + 1) steps)) (no_created s h) in
    record { within = p.within; same = ((λ q. sym e ∙ p.same.0 q), (λ q. p.same.1 (e ∙ q))) }

module _ (next at : ℕ) (steps : List Step) (tables : List TableNames) (s : Step) (t : Text) (u : List Text) (lt : at < length steps) (is : s ≡ get_or steps at s) (e : s ≡ Create t u) where
  opened : created (drop at steps) ≡ (t, u) ∷ created (drop (at + 1) steps)
  opened = made_next created_in steps at s lt is ∙ ap (λ z. created_in z ++ created (drop (at + 1) steps)) e

  pub one_created : (next < length tables) × (table_numbered tables next ≡ record { name = t; columns = u }) → Created next at steps tables → Created (next + 1) (at + 1) steps tables
  one_created h p =
      let k : next < length tables = h.0 in
      let l : next < length (map shown tables) = rw (length-map tables shown) k in
      let g : get_or (map shown tables) next (t, u) ≡ (t, u) = get_or-map shown tables next no_table (t, u) k ∙ ap shown h.1 in
      record {
        within = omega arith;
        same = both_more (map shown tables) (map shown tables) (created (drop (at + 1) steps)) next (t, u) l g ((λ q. sym opened ∙ p.same.0 q), (λ q. p.same.1 (opened ∙ q)));
      }

  pub other_created : (b : Bool) → b ≡ false → (IsTrue b ↔ ((next < length tables) × (table_numbered tables next ≡ record { name = t; columns = u }))) → Created next at steps tables → (IsTrue false ↔ (created steps ≡ map shown tables))
  other_created b f w p = not_so f w (λ q. found (head_is (map shown tables) next (t, u) (t, u) (created (drop (at + 1) steps)) (sym opened ∙ p.same.0 q)))
    where
      found : (next < length (map shown tables)) × (get_or (map shown tables) next (t, u) ≡ (t, u)) → (next < length tables) × (table_numbered tables next ≡ record { name = t; columns = u })
      found h =
          let k : next < length tables = rw (length-map tables shown) at h.0 in
          let g : shown (table_numbered tables next) ≡ (t, u) = sym (get_or-map shown tables next no_table (t, u) k) ∙ h.1 in
          (k, ap (λ (z : Text × List Text). record { name = z.0; columns = z.1 }) g)

pub all_created : (next at : ℕ) (steps : List Step) (tables : List TableNames) (b : Bool) → length steps ≤ at → (IsTrue b ↔ (next ≡ length tables)) → Created next at steps tables → (IsTrue b ↔ (created steps ≡ map shown tables))
all_created next at steps tables b past t p =
    let e : created (drop at steps) ≡ [] = ap created (drop_all at steps past) in
    both_end (map shown tables) next b (rw (length-map tables shown) t) (rw (length-map tables shown) p.within) ((λ q. sym e ∙ p.same.0 q), (λ q. p.same.1 (e ∙ q)))

-- ---- scripts

-- the keep tables of a script alone say what an insert has to read
reads_alike : (a b before : List Step) (r : ℕ) (kept : Bool) → rules_with_keep a ≡ rules_with_keep b → ReadsKept a before r kept → ReadsKept b before r kept
reads_alike a b before r true e h = h
reads_alike a b before r false e h = λ m. h (rw e m)

module _ (source target : List TableNames) (list : List Conversion) where
  steps_alike : (a b before : List Step) (s : Step) → rules_with_keep a ≡ rules_with_keep b → StepFits source target list a before s → StepFits source target list b before s
  steps_alike a b before (Create table columns) e h = h
  steps_alike a b before (MatchRows r select sources equal) e h = h
  steps_alike a b before (KeepRows r unless) e h = h
  steps_alike a b before (InsertRows table r kept cells) e h = record { made = h.made; width = h.width; rule = h.rule; reads = reads_alike a b before r kept e h.reads; outs = h.outs }

  split_at : (before after : List Step) (s : Step) → (take (length before) (before ++ s ∷ after) ≡ before) × (get_or (before ++ s ∷ after) (length before) no_step ≡ s) × (length before < length (before ++ s ∷ after))
  split_at [] after s = (refl, refl, omega arith)
  split_at (b ∷ before) after s = let w = split_at before after s in (ap (λ z. b ∷ z) w.0, w.1, omega (arith, w.2))

  rejoined : (steps : List Step) (k : ℕ) → k < length steps → steps ≡ take k steps ++ (get_or steps k no_step ∷ drop (suc k) steps)
  rejoined [] k h = absurd (omega arith)
  rejoined (s ∷ steps) zero h = refl
  rejoined (s ∷ steps) (suc k) h = ap (λ z. s ∷ z) (rejoined steps k (omega arith))

  -- a script whose steps all fit
  pub script_fits : (keeps steps : List Step) (n : ℕ) → created steps ≡ map shown target → rules_with_keep keeps ≡ rules_with_keep steps → length steps ≤ n → FitBelow source target list keeps steps n → FitsScript source target list steps
  script_fits keeps steps n c e past f = record {
    creates = c;
    each = λ before after s q.
        let w = split_at before after s in
        let l : length before < length steps = rw q w.2 in
        let h = f (length before) (omega arith) l in
        let a : take (length before) steps ≡ before = ap (take (length before)) q ∙ w.0 in
        let b : get_or steps (length before) no_step ≡ s = ap (λ z. get_or z (length before) no_step) q ∙ w.1 in
        steps_alike keeps steps before s e (subst (λ z. StepFits source target list keeps z s) a (subst (λ z. StepFits source target list keeps (take (length before) steps) z) b h));
  }

  -- each step of a script that fits
  pub step_of : (keeps steps : List Step) (k : ℕ) (s : Step) → rules_with_keep keeps ≡ rules_with_keep steps → k < length steps → s ≡ get_or steps k s → FitsScript source target list steps → StepFits source target list keeps (take k steps) s
  step_of keeps steps k s e l is f =
      let b : s ≡ get_or steps k no_step = is ∙ get_or_default steps k s no_step l in
      steps_alike steps keeps (take k steps) s (sym e) (f.each (take k steps) (drop (suc k) steps) s (rejoined steps k l ∙ ap (λ z. take k steps ++ (z ∷ drop (suc k) steps)) (sym b)))

  -- one step more
  pub one_fits : (keeps steps : List Step) (n : ℕ) (s : Step) → n < length steps → s ≡ get_or steps n s → StepFits source target list keeps (take n steps) s → FitBelow source target list keeps steps n → FitBelow source target list keeps steps (n + 1)
  one_fits keeps steps n s l is h f k m i = elim (cases_lt k n) [
    | inl t ↦ f k t i
    | inr g ↦
        let q : k ≡ n = omega arith in
        let b : s ≡ get_or steps n no_step = is ∙ get_or_default steps n s no_step l in
        rw q (subst (λ z. StepFits source target list keeps (take n steps) z) b h)
  ]

-- whether two numbers are one
pub same_number : (a b n : ℕ) → b ≡ n → (IsTrue (nat_eq a b) ↔ (a ≡ n))
same_number a b n e = ((λ t. (Decides-eqb a b).0 t ∙ e), (λ q. (Decides-eqb a b).1 (q ∙ sym e)))
