-- From the parts of a rule to the rule, and from rules so far to all of them.
use Rattle.std.proofs.Common.{◌≡◌, ◌⊎◌, inl, inr, ℕ, ◌+◌, ◌<◌, List, [], ◌∷◌, ◌++◌, Option, Some, None, length, map, take, drop, get_or, refl, sym, ap, ◌∙◌, subst}
use Rattle.std.proofs.lemmas.List.{map-append}
use Rattle.dx_base.specs.Firsts.{first_of}
use Rattle.dx_base.proofs.Lists.{cut_at}
use Rattle.dx_model.specs.declared.rules.Atom.{Atom}
use Rattle.dx_model.specs.declared.rules.Derived.{Derived}
use Rattle.dx_schema.specs.Forest.{Forest}
use Rattle.dx_base.specs.Texts.{Text}
use Rattle.dx_schema.proofs.Loops.{taken}
use Rattle.dx_tokens.specs.declared.faults.TextFault.{TextFault}
use Rattle.dx_tokens.specs.declared.faults.TextFault.TheVariants.{Memory}
use Rattle.dx_schema_text.specs.declared.texts.RuleText.{RuleText}
use Rattle.dx_funcs.specs.declared.conversion.Conversion.{Conversion}
use Rattle.dx_tgd_text.specs.Numbering.{unknown_names}
use Rattle.dx_tgd_text.specs.Reading.{names_of_premise, known_of, fresh_of, derived_names, atoms_fault, derived_faults, rule_fault, atoms_of_texts, derived_of_text, rule_of_text}

-- ---- a rule

pub second_first : (a b c : Option TextFault) (e : TextFault) → a ≡ None → b ≡ Some e → first_of (a ∷ b ∷ c ∷ []) ≡ Some e
second_first None (Some d) c e p q = q
second_first None None c e p q = absurd cc
second_first (Some x) b c e p q = absurd cc

pub third_first : (a b c : Option TextFault) (e : TextFault) → a ≡ None → b ≡ None → c ≡ Some e → first_of (a ∷ b ∷ c ∷ []) ≡ Some e
third_first None None (Some d) e p q r = r
third_first None None None e p q r = absurd cc
third_first None (Some x) c e p q r = absurd cc
third_first (Some x) b c e p q r = absurd cc

pub none_first : (a b c : Option TextFault) → a ≡ None → b ≡ None → c ≡ None → first_of (a ∷ b ∷ c ∷ []) ≡ None
none_first None None None p q r = refl
none_first None None (Some x) p q r = absurd cc
none_first None (Some x) c p q r = absurd cc
none_first (Some x) b c p q r = absurd cc

module _ (source target : Forest) (list : List Conversion) (r : RuleText) where
  -- the derived variables have the first fault
  pub by_derived : (known : List Text) (e : TextFault) → known ≡ names_of_premise r → atoms_fault source r.premise ≡ None → (e ≡ Memory) ⊎ (derived_faults list known known r.derived ≡ Some e)
      → (e ≡ Memory) ⊎ (rule_fault source target list r ≡ Some e)
  by_derived known e is none (inl m) = inl m
  by_derived known e is none (inr h) =
      inr (second_first (atoms_fault source r.premise) (derived_faults list (names_of_premise r) (names_of_premise r) r.derived) (atoms_fault target r.conclusion) e none
      (subst (λ k. derived_faults list k k r.derived ≡ Some e) is h))

  -- the conclusion has it
  pub by_conclusion : (known : List Text) (e : TextFault) → known ≡ names_of_premise r → atoms_fault source r.premise ≡ None → derived_faults list known known r.derived ≡ None
      → (e ≡ Memory) ⊎ (atoms_fault target r.conclusion ≡ Some e) → (e ≡ Memory) ⊎ (rule_fault source target list r ≡ Some e)
  by_conclusion known e is none also (inl m) = inl m
  by_conclusion known e is none also (inr h) =
      inr (third_first (atoms_fault source r.premise) (derived_faults list (names_of_premise r) (names_of_premise r) r.derived) (atoms_fault target r.conclusion) e none
      (subst (λ k. derived_faults list k k r.derived ≡ None) is also) h)

  -- all is read
  pub rule_read : (empty known all fresh : List Text) (premise conclusion : List Atom) (derived : List Derived) → empty ≡ [] → known ≡ names_of_premise r
      → (premise ≡ atoms_of_texts source known empty r.premise) × (atoms_fault source r.premise ≡ None)
      → (derived ≡ map (derived_of_text list known) r.derived) × (derived_faults list known known r.derived ≡ None) × (all ≡ known ++ derived_names r.derived)
      → fresh ≡ unknown_names all r.conclusion → (conclusion ≡ atoms_of_texts target all fresh r.conclusion) × (atoms_fault target r.conclusion ≡ None)
      → (record { premise = premise; derived = derived; conclusion = conclusion } ≡ rule_of_text source target list r) × (rule_fault source target list r ≡ None)
  rule_read empty known all fresh premise conclusion derived none is p d f c =
      let a : all ≡ known_of r = d.2 ∙ ap (λ k. k ++ derived_names r.derived) is in
      let n : fresh ≡ fresh_of r = f ∙ ap (λ k. unknown_names k r.conclusion) a in
      let P : premise ≡ atoms_of_texts source (names_of_premise r) [] r.premise = p.0 ∙ ap (λ k. atoms_of_texts source k empty r.premise) is ∙ ap (λ k. atoms_of_texts source (names_of_premise r) k r.premise) none in
      let D : derived ≡ map (derived_of_text list (names_of_premise r)) r.derived = d.0 ∙ ap (λ k. map (derived_of_text list k) r.derived) is in
      let C : conclusion ≡ atoms_of_texts target (known_of r) (fresh_of r) r.conclusion = c.0 ∙ ap (λ k. atoms_of_texts target k fresh r.conclusion) a ∙ ap (λ k. atoms_of_texts target (known_of r) k r.conclusion) n in (
        (λ i. record { premise = P i; derived = D i; conclusion = C i }),
        none_first (atoms_fault source r.premise) (derived_faults list (names_of_premise r) (names_of_premise r) r.derived) (atoms_fault target r.conclusion) p.1 (subst (λ k. derived_faults list k k r.derived ≡ None) is d.1) c.1,
      )

-- ---- rules

pub loop_more : {X Y : Type 0} (f : X → Y) (fault : X → Option TextFault) (xs : List X) (i : ℕ) (x : X) (ys after : List Y) (y : Y) → i < length xs → x ≡ get_or xs i x
    → (ys ≡ map f (take i xs)) × (first_of (map fault xs) ≡ first_of (map fault (drop i xs))) → (y ≡ f x) × (fault x ≡ None) → after ≡ ys ++ y ∷ []
    → (after ≡ map f (take (i + 1) xs)) × (first_of (map fault xs) ≡ first_of (map fault (drop (i + 1) xs)))
loop_more f fault xs i x ys after y lt is (so_far, rest) (made, none) pushed = (
  rw (pushed, so_far, made) (sym (ap (map f) (taken xs i x lt is) ∙ map-append f (take i xs) (x ∷ []))),
  rest ∙ ap (λ zs. first_of (map fault zs)) (cut_at xs i x lt is) ∙ rw none refl,
)
