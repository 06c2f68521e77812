-- Queries on small instances: what is an answer, and what is none; which parts fit, and which don't.
use Rattle.std.proofs.Common.{◌≡◌, ◌<◌, ◌≤◌, ℕ, zero, suc, List, [], ◌∷◌, length, replicate, refl, ap, subst, arith}
use Rattle.std.specs.Prelude.{get_or}
use Rattle.std.proofs.lemmas.List.{length-replicate}
use Rattle.dx_base.specs.Members.{◌∈◌, Each, here, there}
use Rattle.dx_base.specs.declared.limits.TheConstants.{QUERY_ATOMS}
use Rattle.dx_model.specs.declared.values.Value.{Value}
use Rattle.dx_model.specs.declared.values.Value.TheVariants.{Const, Null}
use Rattle.dx_model.specs.declared.facts.Fact.{Fact}
use Rattle.dx_model.specs.declared.rules.Cell.{Cell}
use Rattle.dx_model.specs.declared.rules.Cell.TheVariants.{Var, Ex, Lit}
use Rattle.dx_model.specs.declared.rules.Atom.{Atom}
use Rattle.dx_base.specs.Texts.{Text}
use Rattle.dx_model.specs.Rules.{cells_of}
use Rattle.dx_model.specs.Fitting.{AtomsFitWidths}
use Rattle.dx_queries.specs.declared.query.Part.{Part}
use Rattle.dx_queries.specs.Queries.{IsAnswer, IsAnswerOf, fact_said}
use Rattle.dx_queries.specs.Results.{FitsPart, FitsQuery, IsQueryCell}

abbrev fact : ℕ → List Value → Fact
fact t row = record { table = t; row = row }

abbrev atom : ℕ → List Cell → Atom
atom t cells = record { table = t; cells = cells }

abbrev word : Text → Value
word t = Const t

-- texts, of one byte each
abbrev ann : Text
ann = 1 ∷ []

abbrev bob : Text
bob = 2 ∷ []

abbrev eve : Text
eve = 3 ∷ []

abbrev number : Text
number = 5 ∷ []

abbrev x : Text
x = 6 ∷ []

abbrev unknown : Value
unknown = Null (record { rule = 0; var = 0; row = 1 })

-- persons with their numbers: that of bob is not known, and it stands in a list of phones
abbrev known : List Fact
known = fact 0 (word ann ∷ word number ∷ []) ∷ fact 0 (word bob ∷ unknown ∷ []) ∷ fact 1 (unknown ∷ []) ∷ []

-- these values, one after the other
abbrev these : List Value → ℕ → Value
these vs n = get_or vs n (Const [])

only : (P : Atom → Type 0) (b : Atom) → P b → Each (b ∷ []) P
only P b p a (here e) = subst P e p
only P b p a (there m) = elim m [ ]

rows_of_fact : (a b : Fact) → a ≡ b → a.row ≡ b.row
rows_of_fact a b e = ap (λ (f : Fact). f.row) e

-- answer(n) from person(n, t): each name, a number or none
abbrev names : Part
names = record { answer = Var 0 ∷ []; atoms = atom 0 (Var 0 ∷ Var 1 ∷ []) ∷ [] }

ann_is_named : IsAnswerOf known names (word ann ∷ [])
ann_is_named = (these (word ann ∷ word number ∷ []), only _ _ (here refl), refl)

bob_is_named : IsAnswerOf known names (word bob ∷ [])
bob_is_named = (these (word bob ∷ unknown ∷ []), only _ _ (there (here refl)), refl)

nobody_else : ¬ (IsAnswerOf known names (word eve ∷ []))
nobody_else w = of (w.1 _ (here refl))
  where
    of : ¬ (fact 0 (w.0 0 ∷ w.0 1 ∷ []) ∈ known)
    of (here e) = let r = rows_of_fact _ _ e in let s = w.2 in absurd (cc (r, s))
    of (there (here e)) = let r = rows_of_fact _ _ e in let s = w.2 in absurd (cc (r, s))
    of (there (there (here e))) = let r = rows_of_fact _ _ e in absurd (cc r)
    of (there (there (there m))) = elim m [ ]

-- answer(n, t) from person(n, t): bob has no number that is a text
abbrev numbered : Part
numbered = record { answer = Var 0 ∷ Var 1 ∷ []; atoms = atom 0 (Var 0 ∷ Var 1 ∷ []) ∷ [] }

no_number_of_bob : (t : Text) → ¬ (IsAnswerOf known numbered (word bob ∷ word t ∷ []))
no_number_of_bob t w = of (w.1 _ (here refl))
  where
    of : ¬ (fact 0 (w.0 0 ∷ w.0 1 ∷ []) ∈ known)
    of (here e) = let r = rows_of_fact _ _ e in let s = w.2 in absurd (cc (r, s))
    of (there (here e)) = let r = rows_of_fact _ _ e in let s = w.2 in absurd (cc (r, s))
    of (there (there (here e))) = let r = rows_of_fact _ _ e in absurd (cc r)
    of (there (there (there m))) = elim m [ ]

-- answer(n) from person(n, number): a null is no literal
abbrev of_the_number : Part
of_the_number = record { answer = Var 0 ∷ []; atoms = atom 0 (Var 0 ∷ Lit number ∷ []) ∷ [] }

ann_has_it : IsAnswerOf known of_the_number (word ann ∷ [])
ann_has_it = (these (word ann ∷ []), only _ _ (here refl), refl)

bob_has_not : ¬ (IsAnswerOf known of_the_number (word bob ∷ []))
bob_has_not w = of (w.1 _ (here refl))
  where
    of : ¬ (fact 0 (w.0 0 ∷ word number ∷ []) ∈ known)
    of (here e) = let r = rows_of_fact _ _ e in let s = w.2 in absurd (cc (r, s))
    of (there (here e)) = let r = rows_of_fact _ _ e in absurd (cc r)
    of (there (there (here e))) = let r = rows_of_fact _ _ e in absurd (cc r)
    of (there (there (there m))) = elim m [ ]

-- answer(n) from person(n, t), phone(t): an unknown number is the same in both places
abbrev listed : Part
listed = record { answer = Var 0 ∷ []; atoms = atom 0 (Var 0 ∷ Var 1 ∷ []) ∷ atom 1 (Var 1 ∷ []) ∷ [] }

bob_is_listed : IsAnswerOf known listed (word bob ∷ [])
bob_is_listed = (values, of, refl)
  where
    values : ℕ → Value
    values = these (word bob ∷ unknown ∷ [])

    of : Each listed.atoms (λ a. fact_said values a ∈ known)
    of a (here e) = subst (λ (b : Atom). fact_said values b ∈ known) e (there (here refl))
    of a (there (here e)) = subst (λ (b : Atom). fact_said values b ∈ known) e (there (there (here refl)))
    of a (there (there m)) = elim m [ ]

-- answer("x") from person(n, n): nobody's name is their number
abbrev alike : Part
alike = record { answer = Lit x ∷ []; atoms = atom 0 (Var 0 ∷ Var 0 ∷ []) ∷ [] }

nobody_is_alike : (row : List Value) → ¬ (IsAnswerOf known alike row)
nobody_is_alike row w = of (w.1 _ (here refl))
  where
    of : ¬ (fact 0 (w.0 0 ∷ w.0 0 ∷ []) ∈ known)
    of (here e) = let r = rows_of_fact _ _ e in absurd (cc r)
    of (there (here e)) = let r = rows_of_fact _ _ e in absurd (cc r)
    of (there (there (here e))) = let r = rows_of_fact _ _ e in absurd (cc r)
    of (there (there (there m))) = elim m [ ]

-- a union: each part's answers, and a literal of an answer stands for itself
said_of_the_union : IsAnswer known (record { width = 1; parts = alike ∷ record { answer = Lit x ∷ []; atoms = atom 1 (Var 0 ∷ []) ∷ [] } ∷ [] }) (word x ∷ [])
said_of_the_union = (_, there (here refl), (these (unknown ∷ []), only _ _ (there (there (here refl))), refl))

-- ---- what fits tables of two columns and of one

abbrev wide : List ℕ
wide = 2 ∷ 1 ∷ []

-- answer("x", n) from person(n, number)
abbrev literals : Part
literals = record { answer = Lit x ∷ Var 0 ∷ []; atoms = atom 0 (Var 0 ∷ Lit number ∷ []) ∷ [] }

literals_fit : FitsPart wide 2 literals
literals_fit = record {
  part = record { few = omega arith; cells = cells; answer = answer; width = refl; safe = safe };
  wide = only _ _ refl;
}
  where
    cells : Each (cells_of literals.atoms) IsQueryCell
    cells c (here e) = subst IsQueryCell e tt
    cells c (there (here e)) = subst IsQueryCell e tt
    cells c (there (there m)) = elim m [ ]

    answer : Each literals.answer IsQueryCell
    answer c (here e) = subst IsQueryCell e tt
    answer c (there (here e)) = subst IsQueryCell e tt
    answer c (there (there m)) = elim m [ ]

    safe : (v : ℕ) → Var v ∈ literals.answer → Var v ∈ cells_of literals.atoms
    safe v (here e) = absurd cc
    safe v (there (here e)) = here e
    safe v (there (there m)) = elim m [ ]

no_other_width : ¬ (FitsPart wide 2 names)
no_other_width f = let w = f.part.width in absurd cc

-- the parts of a query have one width
no_union_of_widths : ¬ (FitsQuery wide (record { width = 1; parts = names ∷ numbered ∷ [] }))
no_union_of_widths f = let w = (f numbered (there (here refl))).part.width in absurd cc

-- no cell of a query is an existential variable
no_existential_atom : ¬ (FitsPart wide 1 (record { answer = Var 0 ∷ []; atoms = atom 0 (Var 0 ∷ Ex 0 ∷ []) ∷ [] }))
no_existential_atom f = f.part.cells (Ex 0) (there (here refl))

no_existential_answer : ¬ (FitsPart wide 1 (record { answer = Ex 0 ∷ []; atoms = atom 1 (Var 0 ∷ []) ∷ [] }))
no_existential_answer f = f.part.answer (Ex 0) (here refl)

-- a variable of the answer stands in an atom
no_unsafe_variable : ¬ (FitsPart wide 1 (record { answer = Var 1 ∷ []; atoms = atom 1 (Var 0 ∷ []) ∷ [] }))
no_unsafe_variable f = of (f.part.safe 1 (here refl))
  where
    of : ¬ (Var 1 ∈ (Var 0 ∷ []))
    of (here e) = absurd cc
    of (there m) = elim m [ ]

-- an atom has a table, and as many cells as it has columns
no_third_table : ¬ (AtomsFitWidths wide (atom 2 (Var 0 ∷ []) ∷ []))
no_third_table f = let w = f _ (here refl) in absurd cc

no_second_cell : ¬ (FitsPart wide 0 (record { answer = []; atoms = atom 1 (Var 0 ∷ Var 1 ∷ []) ∷ [] }))
no_second_cell f = let w = f.wide _ (here refl) in absurd cc

-- so many times one atom
abbrev times : ℕ → Part
times n = record { answer = []; atoms = replicate n (atom 1 (Var 0 ∷ [])) }

as_many_as_the_limit : FitsPart wide 0 (times QUERY_ATOMS)
as_many_as_the_limit = record {
  part = record {
    few = few;
    cells = cells QUERY_ATOMS;
    answer = λ c m. elim m [ ];
    width = refl;
    safe = λ v m. elim m [ ];
  };
  wide = fit QUERY_ATOMS;
}
  where
    few : length (times QUERY_ATOMS).atoms ≤ QUERY_ATOMS
    few = let e = length-replicate QUERY_ATOMS (atom 1 (Var 0 ∷ [])) in omega (arith, e)

    cells : (n : ℕ) → Each (cells_of (times n).atoms) IsQueryCell
    cells zero c m = elim m [ ]
    cells (suc n) c (here e) = subst IsQueryCell e tt
    cells (suc n) c (there m) = cells n c m

    fit : (n : ℕ) → AtomsFitWidths wide (times n).atoms
    fit zero a m = elim m [ ]
    fit (suc n) a (here e) = rw (← e) refl
    fit (suc n) a (there m) = fit n a m

no_more_than_the_limit : (n : ℕ) → QUERY_ATOMS < n → ¬ (FitsPart wide 0 (times n))
no_more_than_the_limit n more f =
    let e = length-replicate n (atom 1 (Var 0 ∷ [])) in
    let few = f.part.few in
    absurd (omega (arith, e, few, more))
