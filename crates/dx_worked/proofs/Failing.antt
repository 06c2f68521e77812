-- The first determination or link that does not hold, in a small table.
use Rattle.std.proofs.Common.{◌≡◌, ℕ, zero, suc, List, [], ◌∷◌, inl, inr, refl, ap, subst, arith}
use Rattle.dx_base.specs.Members.{◌∈◌, Each, here, there}
use Rattle.dx_model.specs.declared.values.Value.{Value}
use Rattle.dx_model.specs.declared.values.Value.TheVariants.{Const}
use Rattle.dx_model.specs.declared.facts.Fact.{Fact}
use Rattle.dx_model.specs.declared.tables.Link.{Link}
use Rattle.dx_model.specs.Tables.{Table}
use Rattle.dx_instance.specs.Stored.{TableRows}
use Rattle.dx_fails.specs.Firsts.{DeterminationHolds, HasDetermination, HasLinked, IsFirstFailing, IsPairBefore, LinkHolds}
use Rattle.dx_fails.specs.Shown.{IsFirstApart}

-- ---- the order of pairs

-- the first numbers tell
lesser_first : IsPairBefore 0 7 1 0
lesser_first = inl (omega arith)

-- if they are equal the second do
lesser_second : IsPairBefore 1 0 1 1
lesser_second = inr (refl, omega arith)

greater_first : ¬ (IsPairBefore 1 0 0 7)
greater_first (inl h) = absurd (omega (arith, h))
greater_first (inr h) = let e = h.0 in absurd (omega (arith, e))

none_before_itself : (i k : ℕ) → ¬ (IsPairBefore i k i k)
none_before_itself i k (inl h) = absurd (omega (arith, h))
none_before_itself i k (inr h) = let e = h.1 in absurd (omega (arith, e))

-- ---- determinations

abbrev word : ℕ → Value
word n = Const (n ∷ [])

abbrev row : ℕ → ℕ → Fact
row x y = record { table = 0; row = word x ∷ word y ∷ [] }

-- two rows that differ in the first column, and agree in the second
abbrev two : List Fact
two = row 1 5 ∷ row 2 5 ∷ []

-- the first column determines the second, and the second the first
abbrev both_ways : List Table
both_ways = record {
  width = 2;
  determinations = record { left = 0 ∷ []; right = 1 ∷ [] } ∷ record { left = 1 ∷ []; right = 0 ∷ [] } ∷ [];
  links = [];
  optional = [];
} ∷ []

pairs_of_two : (P : Fact → Fact → Type 0) → P (row 1 5) (row 1 5) → P (row 1 5) (row 2 5) → P (row 2 5) (row 1 5) → P (row 2 5) (row 2 5)
    → Each two (λ a. Each two (λ b. P a b))
pairs_of_two P p q r s a (here e) = subst (λ (x : Fact). Each two (λ b. P x b)) e of
  where
    of : Each two (λ b. P (row 1 5) b)
    of b (here f) = subst (P (row 1 5)) f p
    of b (there (here f)) = subst (P (row 1 5)) f q
    of b (there (there m)) = elim m [ ]
pairs_of_two P p q r s a (there (here e)) = subst (λ (x : Fact). Each two (λ b. P x b)) e of
  where
    of : Each two (λ b. P (row 2 5) b)
    of b (here f) = subst (P (row 2 5)) f r
    of b (there (here f)) = subst (P (row 2 5)) f s
    of b (there (there m)) = elim m [ ]
pairs_of_two P p q r s a (there (there m)) = elim m [ ]

the_first_holds : DeterminationHolds both_ways two 0 0
the_first_holds = pairs_of_two _ (λ t u e. refl) (λ t u e. refl) (λ t u e. refl) (λ t u e. refl)

the_second_fails : ¬ (DeterminationHolds both_ways two 0 1)
the_second_fails h = let e = h (row 1 5) (here refl) (row 2 5) (there (here refl)) refl refl refl in absurd (cc e)

first_failing : IsFirstFailing (HasDetermination both_ways) (DeterminationHolds both_ways two) 0 1
first_failing = record {
  is_there = omega arith;
  fails = the_second_fails;
  before = before;
}
  where
    before : (j l : ℕ) → HasDetermination both_ways j l → IsPairBefore j l 0 1 → DeterminationHolds both_ways two j l
    before j l d (inl h) = absurd (omega (arith, h))
    before zero zero d (inr h) = the_first_holds
    before zero (suc l) d (inr h) = let k = h.1 in absurd (omega (arith, k))
    before (suc j) l d (inr h) = let k = h.0 in absurd (omega (arith, k))

-- another table's facts are not asked
abbrev elsewhere : List Fact
elsewhere = record { table = 1; row = word 1 ∷ word 5 ∷ [] } ∷ record { table = 1; row = word 2 ∷ word 5 ∷ [] } ∷ []

others_are_not_asked : DeterminationHolds both_ways elsewhere 0 1
others_are_not_asked a m b n t u = absurd (of a m t)
  where
    of : (x : Fact) → x ∈ elsewhere → ¬ (x.table ≡ 0)
    of x (here e) t = let f = ap (λ (z : Fact). z.table) e in absurd (omega (arith, f, t))
    of x (there (here e)) t = let f = ap (λ (z : Fact). z.table) e in absurd (omega (arith, f, t))
    of x (there (there k)) t = elim k [ ]

-- ---- links

-- from the second column to the only one of table 1
abbrev link : Link
link = record { from = 1 ∷ []; table = 1; to = 0 ∷ [] }

abbrev linked : List Table
linked = record { width = 2; determinations = []; links = link ∷ []; optional = [] } ∷ []

abbrev five : Fact
five = record { table = 1; row = word 5 ∷ [] }

it_leads : HasLinked (row 1 5 ∷ five ∷ []) link (row 1 5)
it_leads = (five, there (here refl), refl, refl)

-- a row of the same table is none that the link names, whatever it has
it_leads_nowhere : ¬ (HasLinked (row 1 5 ∷ row 5 5 ∷ []) link (row 1 5))
it_leads_nowhere h = of h.1 h.2
  where
    of : h.0 ∈ (row 1 5 ∷ row 5 5 ∷ []) → ¬ (h.0.table ≡ 1)
    of (here e) t = let f = ap (λ (z : Fact). z.table) e in absurd (omega (arith, f, t))
    of (there (here e)) t = let f = ap (λ (z : Fact). z.table) e in absurd (omega (arith, f, t))
    of (there (there m)) t = elim m [ ]

it_does_not_hold : ¬ (LinkHolds linked (row 1 5 ∷ []) 0 0)
it_does_not_hold h = let l = h (row 1 5) (here refl) refl in none l.0 l.1 l.2
  where
    none : (b : Fact) → b ∈ (row 1 5 ∷ []) → ¬ (b.table ≡ 1)
    none b (here e) t = let f = ap (λ (z : Fact). z.table) e in absurd (omega (arith, f, t))
    none b (there m) t = elim m [ ]

-- ---- columns

abbrev three : List TableRows
three = record { width = 3; rows = (word 1 ∷ word 2 ∷ word 3 ∷ []) ∷ (word 1 ∷ word 7 ∷ word 8 ∷ []) ∷ [] } ∷ []

-- of the columns in which two rows differ the first in the order of the list
first_apart : IsFirstApart three 0 (0 ∷ 1 ∷ 2 ∷ []) 0 1 1
first_apart = record { place = 1; within = omega arith; column = refl; differ = λ e. absurd (cc e); before = refl }

first_of_the_list : IsFirstApart three 0 (2 ∷ 1 ∷ []) 0 1 2
first_of_the_list = record { place = 0; within = omega arith; column = refl; differ = λ e. absurd (cc e); before = refl }
