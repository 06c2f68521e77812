-- The frozen premise of a rule and what others make of it: they satisfy the others, and the rule exactly if it follows.
use Rattle.std.proofs.Common.{◌≡◌, ◌↔◌, ℕ, ◌<◌, ◌≤◌, Bool, true, false, List, [], ◌∷◌, refl, sym, ◌∙◌, ap, subst, arith}
use Rattle.std.specs.Prelude.{IsTrue}
use Rattle.std.proofs.lemmas.Bool.{false≢true}
use Rattle.dx_base.specs.declared.file.Count.TheVariants.{FrozenCells}
use Rattle.dx_base.specs.declared.file.Limit.{Limit as LimitOf}
use Rattle.dx_base.specs.Members.{◌∈◌, ◌≈◌, here, there, Each}
use Rattle.dx_base.proofs.Members.{in_map}
use Rattle.dx_model.specs.declared.values.Value.{Value}
use Rattle.dx_model.specs.declared.facts.Fact.{Fact}
use Rattle.dx_model.specs.declared.rules.Rule.{Rule}
use Rattle.dx_model.specs.Values.{Rows, Conversions}
use Rattle.dx_base.specs.Texts.{Text}
use Rattle.dx_model.specs.Rules.{AreRows, canonical, premise_fact, fact_of_atom}
use Rattle.dx_model.specs.Fitting.{AtomsFitWidths, IsRule, RuleFits}
use Rattle.dx_model.specs.Following.{Follows, IsClean, frozen, frozen_text}
use Rattle.dx_model.proofs.Frozen.{follows_by_prefix}
use Rattle.dx_model.proofs.RowsExist.{rows_of_all_by_members, rows_of_all_exist}
use Rattle.dx_model.proofs.Universal.{canonical_satisfies}
use Rattle.dx_schema.specs.Forest.{Forest}
use Rattle.dx_schema.specs.Tables.{model_tables, schema_widths}
use Rattle.dx_instance.specs.Stored.{TableRows, facts, widths}
use Rattle.dx_tgd.specs.Counting.{canonical_cells}
use Rattle.dx_tgd.specs.Found.{IsCanonicalRefusal as IsCanonRefusal}
use Rattle.dx_tgd.specs.declared.fault.CanonFault.{CanonFault}
use Rattle.dx_tgd.specs.declared.fault.CanonFault.TheVariants.{Memory, Limit}
use Rattle.dx_implies.specs.declared.refuting.Refutation.{Refutation}
use Rattle.dx_implies.specs.Frozen.{IsFrozenRefusal, PassesFrozen, frozen_premise, marks, told_frozen}
use Rattle.dx_implies.specs.Laws.{IsPlainRule}
use Rattle.dx_implies.specs.Refuting.{IsRefutation}
use Rattle.dx_implies.specs.Testing.{IsPlainTestable, PlainRuleFits}
use Rattle.dx_implies.specs.declared.between.Between.{Between}
use Rattle.dx_implies.proofs.Answered.{none_within}
use Rattle.dx_implies.proofs.Cells.{frozen_cells_are_one}
use Rattle.dx_implies.proofs.Plain.{IsPlain, all_rows_any, follows_any}
use Rattle.dx_implies.proofs.Premises.{fit_widths}

-- an instance of which an index was made has what it had
pub indexed : (I J : List TableRows) (C : List Fact) (ws : List ℕ) → J ≡ I → facts I ≈ C → widths I ≡ ws → (facts J ≈ C) × (widths J ≡ ws)
indexed I J C ws e f w = (subst (λ (K : List TableRows). facts K ≈ C) (sym e) f, ap widths e ∙ w)

-- ---- what the rules are given to

module _ (b : Between) (R : List Rule) (d : Rule) (I : List TableRows) (rules : Each (d ∷ R) (IsPlainTestable b)) (wide : widths I ≡ schema_widths b.source.now) where
  pub all_fit : Each R (PlainRuleFits (widths I) (schema_widths b.target.now))
  all_fit r m =
      let k = rules r (there m) in
      record {
        rule = k.fits.rule;
        underived = none_within r.derived k.plain;
        premise = subst (λ ws. AtomsFitWidths ws r.premise) (sym wide) (fit_widths b.source.now r.premise k.fits.premise);
        conclusion = fit_widths b.target.now r.conclusion k.fits.conclusion;
      }

  pub rule_concludes : (ws : List ℕ) → ws ≡ schema_widths b.target.now → AtomsFitWidths ws d.conclusion
  rule_concludes ws is = subst (λ vs. AtomsFitWidths vs d.conclusion) (sym is) (fit_widths b.target.now d.conclusion (rules d (here refl)).fits.conclusion)

-- what is known of testable rules, fact by fact
pub fits_of : {b : Between} {R : List Rule} → Each R (IsPlainTestable b) → Each R (RuleFits (model_tables b.source.now) (model_tables b.target.now))
fits_of rules r m = (rules r m).fits

pub plain_of : {b : Between} {R : List Rule} → Each R (IsPlainTestable b) → Each R IsPlain
plain_of rules r m = (rules r m).plain

pub clean_of : {b : Between} {R : List Rule} → Each R (IsPlainTestable b) → Each R (IsClean b.prefix.now)
clean_of rules r m = (rules r m).clean

-- ---- what is made of the frozen premise

module _ (apply : Conversions) (source target : Forest) (prefix : Text) (R : List Rule) (d : Rule) (I : List TableRows)
    (fits : Each (d ∷ R) (RuleFits (model_tables source) (model_tables target))) (plain : Each (d ∷ R) IsPlain) (clean : Each (d ∷ R) (IsClean prefix))
    (same : facts I ≈ frozen (frozen_text prefix) d) where
  each_clean : Each (d ∷ R) (λ r. IsRule r × (r.derived ≡ []) × IsClean prefix r)
  each_clean r m = ((fits r m).rule, plain r m, clean r m)

  each_plain : Each (d ∷ R) IsPlainRule
  each_plain r m = ((fits r m).rule, plain r m)

  on_frozen : (rows : Rows) → AreRows apply R (facts I) rows → AreRows apply R (frozen (frozen_text prefix) d) rows
  on_frozen rows are = rows_of_all_by_members apply R (facts I) (frozen (frozen_text prefix) d) rows same are

  cells_same : (rows others : Rows) → AreRows apply R (facts I) rows → AreRows apply R (frozen_premise d) others → canonical_cells R others ≡ canonical_cells R rows
  cells_same rows others are a = frozen_cells_are_one apply (marks 1) prefix R d others rows each_plain a (on_frozen rows are)

  pub made_within : (rows : Rows) (limit : ℕ) → AreRows apply R (facts I) rows → canonical_cells R rows ≤ limit → ¬ (PassesFrozen limit R d)
  made_within rows limit are few p = let e = cells_same rows p.rows are (p.are apply) in let m = p.more in absurd (omega (arith, e, m, few))

  made_passed : (rows : Rows) (limit : ℕ) → AreRows apply R (facts I) rows → limit < canonical_cells R rows → PassesFrozen limit R d
  made_passed rows limit are more =
      let w = rows_of_all_exist apply R (frozen_premise d) (λ r m. (fits r (there m)).rule) in
      let e = cells_same rows w.0 are w.1 in
      record {
        rows = w.0;
        are = λ convert. all_rows_any apply convert R (frozen_premise d) w.0 (λ r m. plain r (there m)) w.1;
        more = omega (arith, e, more);
      }

  pub made_refused : (limit : ℕ) (f e : CanonFault) → IsCanonRefusal apply R (facts I) limit f → e ≡ told_frozen f → IsFrozenRefusal limit (PassesFrozen limit R d) e
  made_refused limit f e h is = subst (IsFrozenRefusal limit (PassesFrozen limit R d)) (sym is) (of f h)
    where
      of : (f : CanonFault) → IsCanonRefusal apply R (facts I) limit f → IsFrozenRefusal limit (PassesFrozen limit R d) (told_frozen f)
      of Memory h = tt
      of (Limit l) h = (ap (λ (k : LimitOf). record { what = FrozenCells; number = k.number }) h.0, made_passed h.1.rows limit h.1.are h.1.more)

  -- if the conclusion stands in what is made, the rule follows
  pub made_follows : (rows : Rows) (K : List Fact) (b : Bool) → AreRows apply R (facts I) rows → K ≈ canonical 0 R rows
      → IsTrue b ↔ ((values : ℕ → Value) × Each d.conclusion (λ a. fact_of_atom (frozen_text prefix) values a ∈ K)) → b ≡ true
      → (convert : Conversions) → Follows convert R d
  made_follows rows K b are members h stands convert =
      let w = h.0 stands in
      let f : Follows apply R d = (follows_by_prefix apply prefix R d rows each_clean (on_frozen rows are)).1 (w.0, λ a m. members.0 (fact_of_atom (frozen_text prefix) w.0 a) (w.1 a m)) in
      follows_any apply convert R d (λ r m. plain r (there m)) (plain d (here refl)) f

  -- and if it does not, the two instances satisfy the others, and not the rule
  pub made_refutes : (rows : Rows) (r : Refutation) (b : Bool) → r.source ≡ I → AreRows apply R (facts I) rows → facts r.target ≈ canonical 0 R rows
      → widths I ≡ schema_widths source → widths r.target ≡ schema_widths target
      → IsTrue b ↔ ((values : ℕ → Value) × Each d.conclusion (λ a. fact_of_atom (frozen_text prefix) values a ∈ facts r.target)) → b ≡ false
      → IsRefutation prefix source target R d r
  made_refutes rows r b is are members wide wide_target h fails =
      let each : (convert : Conversions) → AreRows convert R (facts r.source) rows =
      (λ convert. subst (λ (J : List TableRows). AreRows convert R (facts J) rows) (sym is) (all_rows_any apply convert R (facts I) rows (λ c m. plain c (there m)) are)) in
      record {
        premise = subst (λ (J : List TableRows). facts J ≈ frozen (frozen_text prefix) d) (sym is) same;
        source_widths = ap widths is ∙ wide;
        rows = rows;
        are = each;
        made = members;
        target_widths = wide_target;
        satisfied = λ convert. canonical_satisfies convert (facts r.source) 0 R rows (facts r.target) (each convert) (λ f k. members.1 f k);
        refuted = λ convert s. contradiction b fails (h.1 (s (frozen_text prefix) (record {
          premise = λ a m. subst (λ (J : List TableRows). premise_fact (frozen_text prefix) a ∈ facts J) (sym is) (same.1 (premise_fact (frozen_text prefix) a) (in_map (premise_fact (frozen_text prefix)) m));
          derived = rw (plain d (here refl)) tt;
        })));
      }
    where
      contradiction : (b : Bool) → b ≡ false → ¬ (IsTrue b)
      contradiction b e t = cc

  -- so they do if the rule does not follow
  pub not_following : (rows : Rows) (r : Refutation) → r.source ≡ I → AreRows apply R (facts I) rows → facts r.target ≈ canonical 0 R rows
      → widths I ≡ schema_widths source → widths r.target ≡ schema_widths target → ¬ (Follows apply R d) → IsRefutation prefix source target R d r
  not_following rows r is are members wide wide_target fails =
      made_refutes rows r false is are members wide wide_target
      ((λ y. absurd (false≢true y)), (λ w. absurd (fails (made_follows rows (facts r.target) true are members ((λ y. w), (λ v. refl)) refl apply)))) refl
