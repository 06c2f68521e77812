-- The rules that were tested, and what is answered.
use Rattle.std.proofs.Common.{◌≡◌, ◌↔◌, ℕ, zero, suc, ◌+◌, ◌<◌, ◌≤◌, List, [], ◌∷◌, ◌++◌, length, get_or, take, refl, sym, ap, subst, arith, inl, inr, Some}
use Rattle.std.specs.Prelude.{IfNone, Option, None, slice_get}
use Rattle.std.proofs.lemmas.Bool.{cases_lt}
use Rattle.std.proofs.lemmas.List.{take_all}
use Rattle.dx_base.specs.Members.{◌∈◌, here, there, Each}
use Rattle.dx_base.proofs.Loops.{each_more}
use Rattle.dx_base.proofs.Members.{from_append, in_left, in_right, item_in}
use Rattle.dx_model.specs.declared.rules.Rule.{Rule}
use Rattle.dx_model.specs.Values.{Conversions}
use Rattle.dx_base.specs.Texts.{Text}
use Rattle.dx_base.proofs.Lists.{get_at, get_in}
use Rattle.dx_model.specs.Following.{Follows, Implies}
use Rattle.dx_schema.specs.Forest.{Forest}
use Rattle.dx_instance.specs.Stored.{facts}
use Rattle.dx_tgd.specs.declared.fault.CanonFault.{CanonFault}
use Rattle.dx_tgd.specs.declared.fault.CanonFault.TheVariants.{Memory, Limit}
use Rattle.dx_implies.specs.declared.refuting.Refutation.{Refutation}
use Rattle.dx_implies.specs.Frozen.{IsFrozenRefusal, PassesFrozen}
use Rattle.dx_implies.specs.Refuting.{IsRefutation}
use Rattle.dx_compare.specs.declared.comparing.Answer.{Answer}
use Rattle.dx_compare.specs.declared.comparing.Answer.TheVariants as answers
use Rattle.dx_compare.specs.Comparing.{IsDirectionAnswer, IsFirstRefuted, IsTestedRule, ComparisonPassesLimit, RulePassesLimit}

-- ---- rules by number

pub get_front : {X : Type 0} (xs : List X) (n i : ℕ) (x : X) → slice_get xs n ≡ Some x → n < i → x ∈ take i xs
get_front [] n i x e h = absurd (cc)
get_front (y ∷ ys) n zero x e h = absurd (omega (arith, h))
get_front (y ∷ ys) zero (suc i) x e h = let d : y ≡ x = cc in here d
get_front (y ∷ ys) (suc n) (suc i) x e h = there (get_front ys n i x e (omega (arith, h)))

get_one : {X : Type 0} (xs : List X) (n i : ℕ) (x y : X) → n ≡ i → slice_get xs n ≡ Some x → slice_get xs i ≡ Some y → x ≡ y
get_one xs n i x y s e f = let k = ap (slice_get xs) s in cc

-- ---- what is tested

pub beside : (F : Rule → Type 0) (P Q : List Rule) (i : ℕ) (d : Rule) → i < length Q → d ≡ get_or Q i d → Each (P ++ Q) F → Each (d ∷ P) F
beside F P Q i d lt is h r (here e) = subst F e (h d (in_right P (item_in Q i d lt is)))
beside F P Q i d lt is h r (there m) = h r (in_left Q m)

pub swapped : (F : Rule → Type 0) (P Q : List Rule) → Each (P ++ Q) F → Each (Q ++ P) F
swapped F P Q h r m = elim (from_append Q m) [ inl k ↦ h r (in_right P k) | inr k ↦ h r (in_left Q k) ]

-- the first i rules of Q follow from P, and none of their tests passes the limit
pub record Followed (limit : ℕ) (P Q : List Rule) (i : ℕ) : Type 0 where
  pub follow : (convert : Conversions) → Each (take i Q) (Follows convert P)
  pub within : Each (take i Q) (λ d. ¬ (PassesFrozen limit P d))

pub none_yet : (limit : ℕ) (P Q : List Rule) → Followed limit P Q 0
none_yet limit P Q = record { follow = λ convert d m. elim m [ ]; within = λ d m. elim m [ ] }

-- ---- at the end

module _ (limit : ℕ) (P Q : List Rule) (i : ℕ) (f : Followed limit P Q i) where
  pub all_follow : length Q ≤ i → (convert : Conversions) → Implies convert P Q
  all_follow h convert I K s d m = f.follow convert d (subst (λ (rs : List Rule). d ∈ rs) (sym (take_all i Q h)) m) I K s

  pub none_passes : length Q ≤ i → ¬ (RulePassesLimit limit P Q)
  none_passes h p = f.within p.rule (subst (λ (rs : List Rule). p.rule ∈ rs) (sym (take_all i Q h)) (get_in Q p.number p.rule p.tested.is)) p.passes

-- ---- at one rule

module _ (limit : ℕ) (P Q : List Rule) (i : ℕ) (f : Followed limit P Q i) (d : Rule) (lt : i < length Q) (is : d ≡ get_or Q i d) where
  pub one_followed : ((convert : Conversions) → Follows convert P d) → ¬ (PassesFrozen limit P d) → Followed limit P Q (i + 1)
  one_followed follows within = record {
    follow = λ convert. each_more (Follows convert P) Q i d lt is (f.follow convert) (follows convert);
    within = each_more (λ (r : Rule). ¬ (PassesFrozen limit P r)) Q i d lt is f.within within;
  }

  tested : IsTestedRule P Q i d
  tested = record { is = get_at Q i d lt is; before = f.follow }

  pub test_passes : PassesFrozen limit P d → RulePassesLimit limit P Q
  test_passes p = record { number = i; rule = d; tested = tested; passes = p }

  pub test_refused : (e : CanonFault) → IsFrozenRefusal limit (PassesFrozen limit P d) e → IsFrozenRefusal limit (RulePassesLimit limit P Q) e
  test_refused Memory h = tt
  test_refused (Limit l) h = (h.0, test_passes h.1)

  pub first_refuted : (prefix : Text) (source target : Forest) (r : Refutation) → IsRefutation prefix source target P d r → IsFirstRefuted prefix source target P Q i r
  first_refuted prefix source target r shown = record { rule = d; tested = tested; refutation = shown }

  pub refuted_within : (prefix : Text) (source target : Forest) (r : Refutation) → IsRefutation prefix source target P d r → ¬ (PassesFrozen limit P d)
      → ¬ (RulePassesLimit limit P Q)
  refuted_within prefix source target r shown within p = elim (cases_lt p.number i) [
    | inl h ↦ f.within p.rule (get_front Q p.number i p.rule p.tested.is h) p.passes
    | inr h ↦ elim (cases_lt i p.number) [
      | inl l ↦ shown.refuted none (p.tested.before none d (get_front Q i p.number d (get_at Q i d lt is) l) (facts r.source) (facts r.target) (shown.satisfied none))
      | inr l ↦ within (subst (PassesFrozen limit P) (get_one Q p.number i p.rule d (omega (arith, h, l)) p.tested.is (get_at Q i d lt is)) p.passes)
    ]
  ]
    where
      none : Conversions
      none code texts = []

-- ---- what is answered

pub answer_tells : (prefix : Text) (source target : Forest) (P Q : List Rule) (a : Answer) → IsDirectionAnswer prefix source target P Q a
    → (convert : Conversions) → (a ≡ answers.Implies) ↔ Implies convert P Q
answer_tells prefix source target P Q answers.Implies h convert = ((λ e. h convert), (λ e. refl))
answer_tells prefix source target P Q (answers.Refuted number I K) h convert = (
  (λ e. absurd (cc)),
  (λ s. absurd (h.refutation.refuted convert (s (facts I) (facts K) (h.refutation.satisfied convert) h.rule (get_in Q number h.rule h.tested.is)))),
)

pub refused_first : (limit : ℕ) (P Q : List Rule) (e : CanonFault) → IsFrozenRefusal limit (RulePassesLimit limit P Q) e → IsFrozenRefusal limit (ComparisonPassesLimit limit P Q) e
refused_first limit P Q Memory h = tt
refused_first limit P Q (Limit l) h = (h.0, inl h.1)

pub refused_second : (limit : ℕ) (P Q : List Rule) (e : CanonFault) → IsFrozenRefusal limit (RulePassesLimit limit Q P) e → IsFrozenRefusal limit (ComparisonPassesLimit limit P Q) e
refused_second limit P Q Memory h = tt
refused_second limit P Q (Limit l) h = (h.0, inr h.1)

pub none_passed : (limit : ℕ) (P Q : List Rule) → ¬ (RulePassesLimit limit P Q) → ¬ (RulePassesLimit limit Q P) → ¬ (ComparisonPassesLimit limit P Q)
none_passed limit P Q a b (inl p) = a p
none_passed limit P Q a b (inr p) = b p

-- ---- an option that is none

pub when_none : {X : Type 0} (o : Option X) (P : Type 0) → IfNone o P → ((x : X) → ¬ (o ≡ Some x)) → P
when_none None P h n = h
when_none (Some x) P h n = absurd (n x refl)
