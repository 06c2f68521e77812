-- The prefix of a comparison: letters, as few as no literal begins with; and which rule it names.
use Rattle.std.proofs.Common.{◌≡◌, ◌≤◌, ℕ, zero, suc, List, [], ◌∷◌, ◌++◌, codes, refl, sym, ◌∙◌, ap, subst, get_or, arith}
use Rattle.dx_base.specs.Members.{◌∈◌, Each, here, there}
use Rattle.dx_base.specs.Texts.{Text}
use Rattle.dx_model.specs.declared.rules.Cell.TheVariants.{Lit}
use Rattle.dx_model.specs.declared.rules.Atom.{Atom}
use Rattle.dx_model.specs.declared.rules.Rule.{Rule}
use Rattle.dx_model.specs.Following.{Follows, IsClean}
use Rattle.dx_model.specs.Values.{Conversions}
use Rattle.dx_compare.specs.Comparing.{IsTestedRule}
use Rattle.dx_compare.specs.Letters.{IsLeastLetters, letters}

one_letter : letters 1 ≡ codes "v"
one_letter = refl

three_letters : letters 3 ≡ codes "vvv"
three_letters = refl

-- without a rule it is one letter, and never none
at_least_one : IsLeastLetters [] 1
at_least_one = record { some = omega arith; clean = λ d m. elim m [ ]; least = λ m h c. h }

never_none : (R : List Rule) → ¬ (IsLeastLetters R 0)
never_none R l = let h = l.some in absurd (omega (arith, h))

-- a rule with one literal in its conclusion
abbrev saying : Text → Rule
saying t = record { premise = []; derived = []; conclusion = record { table = 0; cells = Lit t ∷ [] } ∷ [] }

literal : (t u : Text) → Lit t ≡ Lit u → t ≡ u
literal t u e = cc e

clean_if : (t : Text) (n : ℕ) → ((rest : Text) → ¬ (t ≡ letters n ++ rest)) → IsClean (letters n) (saying t)
clean_if t n h a m u k rest f = elim m [
  | here e ↦ of (subst (λ (b : Atom). Lit u ∈ b.cells) (sym e) k)
  | there o ↦ elim o [ ]
]
  where
    of : Lit u ∈ (Lit t ∷ []) → ⊥
    of (here g) = h rest (literal t u g ∙ f)
    of (there o) = elim o [ ]

-- with a literal that begins with one letter it is two
abbrev vx : Text
vx = codes "vx"

two_for_one : IsLeastLetters (saying vx ∷ []) 2
two_for_one = record { some = omega arith; clean = clean; least = least }
  where
    clean : Each (saying vx ∷ []) (IsClean (letters 2))
    clean d (here e) = subst (IsClean (letters 2)) e (clean_if vx 2 (λ rest f. let h : 120 ≡ 118 = ap (λ (t : Text). get_or t 1 0) f in omega (arith, h)))
    clean d (there m) = elim m [ ]

    least : (m : ℕ) → 1 ≤ m → Each (saying vx ∷ []) (IsClean (letters m)) → 2 ≤ m
    least zero h c = absurd (omega (arith, h))
    least (suc zero) h c = absurd (c (saying vx) (here refl) _ (here refl) vx (here refl) (codes "x") refl)
    least (suc (suc m)) h c = omega arith

-- one that has the letter elsewhere needs no second
one_for_none : IsLeastLetters (saying (codes "xv") ∷ []) 1
one_for_none = record { some = omega arith; clean = clean; least = λ m h c. h }
  where
    clean : Each (saying (codes "xv") ∷ []) (IsClean (letters 1))
    clean d (here e) = subst (IsClean (letters 1)) e (clean_if (codes "xv") 1 (λ rest f. let h : 120 ≡ 118 = ap (λ (t : Text). get_or t 0 0) f in omega (arith, h)))
    clean d (there m) = elim m [ ]

-- ---- which rule is named

-- the rule with this number
by_its_number : (P Q : List Rule) (c d : Rule) → IsTestedRule P (c ∷ d ∷ Q) 0 c
by_its_number P Q c d = record { is = refl; before = λ convert e m. elim m [ ] }

-- those before it follow, those after it are not asked
those_before_follow : (P Q : List Rule) (c d : Rule) → IsTestedRule P (c ∷ d ∷ Q) 1 d → (convert : Conversions) → Follows convert P c
those_before_follow P Q c d t convert = t.before convert c (here refl)

no_other : (P Q : List Rule) (c d e : Rule) → IsTestedRule P (c ∷ d ∷ Q) 1 e → d ≡ e
no_other P Q c d e t = let i = t.is in cc i
