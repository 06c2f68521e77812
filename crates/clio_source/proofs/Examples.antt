-- Departments with their employees, and cities: the files of their roots, their bytes, and the cells of their facts.
use Rattle.std.proofs.Common.{◌≡◌, ℕ, List, [], ◌∷◌, true, false, codes, refl, sym, subst, ap, arith, inr, Some}
use Rattle.std.specs.Prelude.{Ok, Err}
use Rattle.dx_base.specs.Members.{here, there}
use Rattle.dx_model.specs.declared.values.Value.TheVariants.{Const}
use Rattle.dx_model.specs.declared.facts.Fact.{Fact}
use Rattle.dx_schema.specs.Forest.{Forest, none, set, bare_set}
use Rattle.dx_used.specs.Used.{Marks, fact_blanked}
use Rattle.clio_source.specs.Agreeing.{AllBlanked, IsFlatRoot}
use Rattle.dx_stages.specs.Worlds.{World}
use Rattle.clio_source.specs.Source.{ReadState, SaysSourceFacts, as_facts, fact_cells, fetching, file_at, flat, roots, too_many_bytes, too_many_cells, with_facts}

abbrev depts : Forest
depts =
    set (bare_set (codes "dept") (codes "name" ∷ []))
    (set (bare_set (codes "emp") (codes "name" ∷ codes "phone" ∷ [])) none none)
    (set (bare_set (codes "city") (codes "name" ∷ [])) none none)

-- an inner set is no root
the_roots : roots depts ≡ 0 ∷ 2 ∷ []
the_roots = refl

-- a root with inner sets is a document, one without is a table
first_file : file_at depts 0 ≡ codes "dept.json"
first_file = refl

second_file : file_at depts 2 ≡ codes "city.csv"
second_file = refl

-- so the cities are those of a flat root, and the departments are not
flat_cities : IsFlatRoot depts 2
flat_cities = (there (here refl), refl)

nested_departments : ¬ (IsFlatRoot depts 0)
nested_departments h = absurd (cc h.1)

-- cs with two employees
abbrev said : List Fact
said =
    record { table = 0; row = Const (codes "0") ∷ Const (codes "cs") ∷ [] }
    ∷ record { table = 1; row = Const (codes "0") ∷ Const (codes "ann") ∷ Const (codes "1") ∷ [] }
    ∷ record { table = 1; row = Const (codes "0") ∷ Const (codes "bob") ∷ Const (codes "2") ∷ [] }
    ∷ []

-- `#id` and a name, and twice `#up`, a name and a phone
eight_cells : fact_cells depts said ≡ 8
eight_cells = refl

one_cell : fact_cells depts (record { table = 2; row = Const (codes "rome") ∷ [] } ∷ []) ≡ 1
one_cell = refl

abbrev before : ℕ → ReadState
before cells = record { facts = record { table = 2; row = [] } ∷ []; bytes_left = 5; cells_left = cells }

-- as many as are left may come, and one more may not
they_fit : with_facts depts (before 8, said) ≡ Ok (record { facts = record { table = 2; row = [] } ∷ said; bytes_left = 5; cells_left = 0 })
they_fit = refl

one_too_many : with_facts depts (before 7, said) ≡ Err too_many_cells
one_too_many = refl

-- rows are facts of their own table
of_the_third_table : as_facts 2 ((Const (codes "rome") ∷ []) ∷ []) ≡ record { table = 2; row = Const (codes "rome") ∷ [] } ∷ []
of_the_third_table = refl

-- ---- bytes: five are left

abbrev all_are : List ℕ → World
all_are bytes name = Some bytes

abbrev city : List ℕ
city = codes "city.csv"

-- a file may have as many as are left, and not one more
five_come : (fetching city).passes (all_are (codes "name\n")) (before 8) (before 8, codes "name\n")
five_come = (codes "name\n", (refl, omega arith), refl)

six_do_not : (fetching city).refuses (all_are (codes "names\n")) (before 8) too_many_bytes
six_do_not = inr (codes "names\n", refl, omega arith, refl)

-- and then so many fewer are left
none_is_left : (q : ReadState × List Fact) → SaysSourceFacts flat depts 2 (before 8, codes "name\n") q → q.0.bytes_left ≡ 0
none_is_left q x = ap (λ (r : ReadState × List Fact). r.0.bytes_left) x.2

-- ---- columns that no rule uses: those of the departments' and the cities' names

abbrev unused : Marks
unused = (true ∷ false ∷ []) ∷ (true ∷ true ∷ true ∷ []) ∷ (false ∷ []) ∷ []

-- nothing stands there in the cities, which come of a flat root; the departments come of a document and stay
blank_cities : AllBlanked unused depts
    (record { table = 2; row = Const [] ∷ [] }
    ∷ record { table = 0; row = Const (codes "0") ∷ Const (codes "cs") ∷ [] } ∷ [])
blank_cities f (here e) h = subst (λ (x : Fact). fact_blanked unused x ≡ x) e refl
blank_cities f (there (here e)) h =
    absurd (nested_departments (subst (λ (x : Fact). IsFlatRoot depts x.table) (sym e) h))
blank_cities f (there (there m)) h = elim m [ ]

no_rome : ¬ (AllBlanked unused depts (record { table = 2; row = Const (codes "rome") ∷ [] } ∷ []))
no_rome h =
    let e : Const [] ∷ []
    ≡ Const (codes "rome")
    ∷ [] = ap (λ (f : Fact). f.row)
    (h (record { table = 2; row = Const (codes "rome") ∷ [] }) (here refl) flat_cities) in
    absurd (cc e)
