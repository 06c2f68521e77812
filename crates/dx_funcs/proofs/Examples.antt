-- What the shipped conversions give of some texts, and what lists of conversions and of row tests are not.
use Rattle.std.proofs.Common.{◌≡◌, ◌∙◌, ℕ, true, false, List, [], ◌∷◌, Some, refl, ap, codes, arith}
use Rattle.std.specs.Prelude.{◌≤◌, map}
use Rattle.dx_base.specs.Members.{Each, here, there}
use Rattle.dx_funcs.specs.declared.conversion.Conversion.{Conversion}
use Rattle.dx_funcs.specs.declared.row_test.RowTest.{RowTest}
use Rattle.dx_funcs.specs.Names.{TakesTexts, call_named, conversion_name, first_named}
use Rattle.dx_funcs.specs.Offers.{IsListed, IsOffer}
use Rattle.dx_funcs.specs.RowTests.{AreTests}
use Rattle.dx_funcs.specs.Shipped.{trimmed, digits_of, is_numeric, paired, shipped_apply, shipped_conversions, shipped_passes, shipped_row_tests}

trimmed-between : trimmed (codes " a b ") ≡ codes "a b"
trimmed-between = refl

trimmed-spaces : trimmed (codes "   ") ≡ []
trimmed-spaces = refl

-- a tab is no space
trimmed-tab : trimmed (32 ∷ 9 ∷ 97 ∷ 32 ∷ []) ≡ 9 ∷ 97 ∷ []
trimmed-tab = refl

digits_of-phone : digits_of (codes "+39 (02) 7") ≡ codes "39027"
digits_of-phone = refl

paired-empty : paired (codes "a") [] ≡ codes "a "
paired-empty = refl

shipped_apply-trim : shipped_apply 0 (codes " a b " ∷ []) ≡ codes "a b"
shipped_apply-trim = refl

shipped_apply-unknown : shipped_apply 99 (codes "a" ∷ []) ≡ []
shipped_apply-unknown = refl

shipped_apply-two_for_one : shipped_apply 0 (codes "a" ∷ codes "b" ∷ []) ≡ []
shipped_apply-two_for_one = refl

is_numeric-empty : is_numeric [] ≡ false
is_numeric-empty = refl

is_numeric-number : is_numeric (codes "0123456789") ≡ true
is_numeric-number = refl

is_numeric-phone : is_numeric (codes "+39") ≡ false
is_numeric-phone = refl

shipped_passes-space : shipped_passes 0 (codes " ") ≡ true
shipped_passes-space = refl

shipped_passes-unknown : shipped_passes 99 (codes "1") ≡ false
shipped_passes-unknown = refl

-- ---- conversions by their names

-- each shipped conversion does what its name says
by_name-trim : call_named shipped_apply shipped_conversions (codes "trim") (codes " a1 " ∷ []) ≡ codes "a1"
by_name-trim = refl

by_name-digits : call_named shipped_apply shipped_conversions (codes "digits") (codes " a1 " ∷ []) ≡ codes "1"
by_name-digits = refl

by_name-pair : call_named shipped_apply shipped_conversions (codes "pair") (codes "a" ∷ codes "b" ∷ []) ≡ codes "a b"
by_name-pair = refl

-- of the shipped row tests a space passes `filled` alone
row_tests-names : map (λ (t : RowTest). t.name) shipped_row_tests ≡ codes "filled" ∷ codes "numeric" ∷ []
row_tests-names = refl

row_tests-space : map (λ (t : RowTest). shipped_passes t.code (codes " ")) shipped_row_tests ≡ true ∷ false ∷ []
row_tests-space = refl

abbrev conversion : List ℕ → ℕ → ℕ → Conversion
conversion name code arity = record { name = name; code = code; arity = arity }

-- of two of one name the first is meant, and of two of one code the first tells the name
abbrev twice : List Conversion
twice = conversion (codes "f") 7 1 ∷ conversion (codes "f") 8 2 ∷ conversion (codes "g") 7 1 ∷ []

first_named-twice : first_named twice (codes "f") ≡ Some (conversion (codes "f") 7 1)
first_named-twice = refl

conversion_name-twice : conversion_name twice 7 ≡ codes "f"
conversion_name-twice = refl

-- a conversion takes as many texts as its arity says, no fewer and no more; one that is not listed takes none
takes_two : TakesTexts shipped_conversions (codes "pair") 2
takes_two = refl

not_one : ¬ TakesTexts shipped_conversions (codes "pair") 1
not_one h = omega (arith, h)

not_three : ¬ TakesTexts shipped_conversions (codes "pair") 3
not_three h = omega (arith, h)

not_there : (count : ℕ) → ¬ TakesTexts shipped_conversions (codes "upper") count
not_there count h = h

-- ---- lists

-- a conversion takes one to four texts
no_texts : ¬ IsOffer (conversion (codes "f") 0 0 ∷ [])
no_texts h = let a = (h.arities (conversion (codes "f") 0 0) (here refl)).0 in omega (arith, a)

four_texts : IsOffer (conversion (codes "f") 0 4 ∷ [])
four_texts = record { names = ((λ m. elim m [ ]), tt); codes = ((λ m. elim m [ ]), tt); arities = λ c m. few c m }
  where
    few : Each (conversion (codes "f") 0 4 ∷ []) (λ c. (1 ≤ c.arity) × (c.arity ≤ 4))
    few c (here e) = let a = ap (λ (d : Conversion). d.arity) e in (omega (arith, a), omega (arith, a))
    few c (there m) = elim m [ ]

five_texts : ¬ IsOffer (conversion (codes "f") 0 5 ∷ [])
five_texts h = let a = (h.arities (conversion (codes "f") 0 5) (here refl)).1 in omega (arith, a)

-- no two conversions have one name, or one code
one_name : ¬ IsOffer (conversion (codes "f") 0 1 ∷ conversion (codes "f") 1 1 ∷ [])
one_name h = h.names.0 (here refl)

one_code : ¬ IsOffer (conversion (codes "f") 0 1 ∷ conversion (codes "g") 0 1 ∷ [])
one_code h = h.codes.0 (here refl)

-- what is listed has this code, and takes so many texts
one_listed : IsListed (conversion (codes "f") 7 1 ∷ []) 7 1
one_listed = (conversion (codes "f") 7 1, here refl, refl, refl)

of_one_text : ¬ IsListed (conversion (codes "f") 7 1 ∷ []) 7 2
of_one_text h = elim h.1 [
  | here e ↦ let a = ap (λ (c : Conversion). c.arity) e ∙ h.3 in omega (arith, a)
  | there m ↦ elim m [ ]
]

another_code : ¬ IsListed (conversion (codes "f") 7 1 ∷ []) 8 1
another_code h = elim h.1 [
  | here e ↦ let a = ap (λ (c : Conversion). c.code) e ∙ h.2 in omega (arith, a)
  | there m ↦ elim m [ ]
]

-- no two row tests have one name, or one code
abbrev row_test : List ℕ → ℕ → RowTest
row_test name code = record { name = name; code = code }

one_test_name : ¬ AreTests (row_test (codes "f") 0 ∷ row_test (codes "f") 1 ∷ [])
one_test_name h = h.names.0 (here refl)

one_test_code : ¬ AreTests (row_test (codes "f") 0 ∷ row_test (codes "g") 0 ∷ [])
one_test_code h = h.codes.0 (here refl)
