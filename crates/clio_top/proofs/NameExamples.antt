-- Names of files that a run may ask for or put, and names that it never does.
use Rattle.std.proofs.Common.{◌≡◌, ◌++◌, ℕ, List, drop, get_or, refl, subst, inl, inr, ap, arith}
use Rattle.std.specs.Prelude.{codes}
use Rattle.dx_base.specs.Members.{◌∈◌, here, there}
use Rattle.dx_base.proofs.Members.{from_append}
use Rattle.dx_schema_text.proofs.PrintScans.{a_word}
use Rattle.clio_steps.proofs.Words.{not_in_word}
use Rattle.clio_top.specs.Names.{IsDataName, IsGivenName, IsPutName, IsReadName}

-- ---- names of the folder

table_is_read : IsReadName (codes "emp.csv")
table_is_read = inr (inr (inr (inl (codes "emp", a_word (codes "emp") refl, inl refl))))

document_is_read : IsReadName (codes "dept_2.json")
document_is_read = inr (inr (inr (inl (codes "dept_2", a_word (codes "dept_2") refl, inr refl))))

given_is_read : IsReadName (codes "given/person.csv")
given_is_read = inr (inr (inr (inr (codes "person", a_word (codes "person") refl, refl))))

table_is_put : IsPutName (codes "person.csv")
table_is_put = inr (inr (codes "person", a_word (codes "person") refl, inl refl))

script_is_put : IsPutName (codes "script.sql")
script_is_put = inr (inl refl)

-- ---- names outside: no file of data has a slash in its name

no_slash_in_csv : ¬ (47 ∈ codes ".csv")
no_slash_in_csv (here e) = omega (arith, e)
no_slash_in_csv (there (here e)) = omega (arith, e)
no_slash_in_csv (there (there (here e))) = omega (arith, e)
no_slash_in_csv (there (there (there (here e)))) = omega (arith, e)
no_slash_in_csv (there (there (there (there m)))) = elim m [ ]

no_slash_in_json : ¬ (47 ∈ codes ".json")
no_slash_in_json (here e) = omega (arith, e)
no_slash_in_json (there (here e)) = omega (arith, e)
no_slash_in_json (there (there (here e))) = omega (arith, e)
no_slash_in_json (there (there (there (here e)))) = omega (arith, e)
no_slash_in_json (there (there (there (there (here e))))) = omega (arith, e)
no_slash_in_json (there (there (there (there (there m))))) = elim m [ ]

no_slash : (n : List ℕ) → IsDataName n → ¬ (47 ∈ n)
no_slash n (word, h, inl is) m = elim (from_append word (subst (λ (k : List ℕ). 47 ∈ k) is m)) [
  | inl k ↦ not_in_word 47 word refl h k
  | inr k ↦ no_slash_in_csv k
]
no_slash n (word, h, inr is) m = elim (from_append word (subst (λ (k : List ℕ). 47 ∈ k) is m)) [
  | inl k ↦ not_in_word 47 word refl h k
  | inr k ↦ no_slash_in_json k
]

first_of : {a b : List ℕ} → a ≡ b → get_or a 0 0 ≡ get_or b 0 0
first_of is = ap (λ (n : List ℕ). get_or n 0 0) is

-- the folder above is neither read nor written
none_above_is_read : ¬ (IsReadName (codes "../x.csv"))
none_above_is_read (inl is) = let e : 46 ≡ 109 = first_of is in omega (arith, e)
none_above_is_read (inr (inl is)) = let e : 46 ≡ 113 = first_of is in omega (arith, e)
none_above_is_read (inr (inr (inl is))) = let e : 46 ≡ 111 = first_of is in omega (arith, e)
none_above_is_read (inr (inr (inr (inl h)))) = no_slash (codes "../x.csv") h (there (there (here refl)))
none_above_is_read (inr (inr (inr (inr (word, h, is))))) = let e : 46 ≡ 103 = first_of is in omega (arith, e)

none_above_is_put : ¬ (IsPutName (codes "../x.csv"))
none_above_is_put (inl is) = let e : 46 ≡ 114 = first_of is in omega (arith, e)
none_above_is_put (inr (inl is)) = let e : 46 ≡ 115 = first_of is in omega (arith, e)
none_above_is_put (inr (inr h)) = no_slash (codes "../x.csv") h (there (there (here refl)))

-- nor is a file of another folder put, be it that of given files
none_inside_is_put : ¬ (IsPutName (codes "given/person.csv"))
none_inside_is_put (inl is) = let e : 103 ≡ 114 = first_of is in omega (arith, e)
none_inside_is_put (inr (inl is)) = let e : 103 ≡ 115 = first_of is in omega (arith, e)
none_inside_is_put (inr (inr h)) = no_slash (codes "given/person.csv") h (there (there (there (there (there (here refl))))))

-- a given name leads to no folder but `given`
no_path_is_given : ¬ (IsGivenName (codes "given/../x.csv"))
no_path_is_given (word, h, is) =
    let same : codes "../x.csv" ≡ (word ++ codes ".csv") = ap (λ (n : List ℕ). drop 6 n) is in
    no_slash (codes "../x.csv") (word, h, inl same) (there (there (here refl)))
