-- Employees that were given: the name of their file, the values of its fields, the first record without values, and
-- what is left of bytes and cells.
use Rattle.std.proofs.Common.{◌≡◌, ◌-◌, ℕ, List, [], ◌∷◌, ◌++◌, codes, get_or, length, refl, ap, sym, arith, inl, subst}
use Rattle.std.specs.Prelude.{Err, Ok}
use Rattle.std.specs.Fmt.{digits}
use Rattle.dx_base.specs.Members.{◌∈◌, here, there}
use Rattle.dx_model.specs.declared.facts.Fact.{Fact}
use Rattle.dx_model.specs.declared.values.NullId.{NullId}
use Rattle.dx_model.specs.declared.values.Value.{Value}
use Rattle.dx_model.specs.declared.values.Value.TheVariants.{Const, Null}
use Rattle.dx_schema.specs.Forest.{Forest, bare_set, none, set}
use Rattle.dx_instance.specs.ValueText.{ThreeNumerals, IsNoValueText, value_text_of}
use Rattle.dx_instance.proofs.NoTexts.{no_value_texts}
use Rattle.dx_csv.specs.declared.fault.RowKind.TheVariants as kinds
use Rattle.dx_csv.specs.Table.{AreTableRecords, table_records}
use Rattle.clio_source.specs.declared.fault.RowsFault.TheVariants.{Csv}
use Rattle.clio_source.specs.declared.fault.SourceRefusal.TheVariants as refusals
use Rattle.clio_source.specs.Source.{ReadState}
use Rattle.clio_given.specs.Given.{ValuesOfFields, IsFirstNoRow, IsGivenFault, IsNoRow, IsValueOf, SayRows, SaysGivenRows, given_name, none_read, too_many_given_cells, with_given_facts}
use Rattle.clio_given.proofs.Parsed.{no_row}

-- departments with their employees, and cities
abbrev depts : Forest
depts =
    set (bare_set (codes "dept") (codes "name" ∷ []))
    (set (bare_set (codes "emp") (codes "name" ∷ codes "phone" ∷ [])) none none)
    (set (bare_set (codes "city") (codes "name" ∷ [])) none none)

its_file : given_name (codes "emp") ≡ codes "given/emp.csv"
its_file = refl

-- ---- values of fields

null : NullId
null = record { rule = 1; var = 0; row = 2 }

-- a null is read, and of a text that begins with `?` one such is taken off; an empty field is the empty text
values_are : ValuesOfFields
    ((Const (codes "?1.0.2") ∷ Const (codes "??x") ∷ []) ∷ (Const (codes "x?") ∷ Const [] ∷ []) ∷ [])
    ((Null null ∷ Const (codes "?x") ∷ []) ∷ (Const (codes "x?") ∷ Const [] ∷ []) ∷ [])
unfolding null digits
values_are = (
  ((record { rule = omega arith; var = omega arith; row = omega arith }, refl), ((tt, refl), tt)),
  (((tt, refl), ((tt, refl), tt)), tt),
)

-- `?x` is no value's text
no_numerals : ¬ (ThreeNumerals (codes "x"))
no_numerals n = of n.first (n.second ++ 46 ∷ n.third) n.are
  where
    of : (first rest : List ℕ) → codes "x" ≡ first ++ 46 ∷ rest → ⊥
    of [] rest e = let b : 120 ≡ 46 = ap (λ (t : List ℕ). get_or t 0 0) e in absurd (omega (arith, b))
    of (b ∷ []) rest e = absurd (cc e)
    of (b ∷ c ∷ bs) rest e = absurd (cc e)

no_text : IsNoValueText (codes "?x")
no_text = record { rest = codes "x"; marked = refl; once = λ e. absurd (cc e); no_null = no_numerals }

no_value : (v : Value) → ¬ (IsValueOf (Const (codes "?x")) v)
no_value v w =
    let said : codes "?x" ≡ value_text_of v = cc w.1 in
    (no_value_texts (codes "?x")).1 no_text v w.0 (sym said)

abbrev bob : List Value
bob = Const (codes "bob") ∷ Const (codes "?x") ∷ []

bob_is_none : IsNoRow bob
bob_is_none = no_row bob (Const (codes "?x")) (there (here refl)) no_value

abbrev ann : List Value
ann = Const (codes "ann") ∷ Const [] ∷ []

ann_is_one : ¬ (IsNoRow ann)
ann_is_one n = n ann ((tt, refl), ((tt, refl), tt))

-- one field is enough, the first such record counts, and the header is record 0
second_record : IsFirstNoRow (ann ∷ bob ∷ bob ∷ []) 2
second_record = record {
  place = 1;
  number = refl;
  row = bob;
  is = refl;
  no_row = bob_is_none;
  before = λ fields m n. of fields m n;
}
  where
    of : (fields : List Value) → fields ∈ (ann ∷ []) → IsNoRow fields → ⊥
    of fields (here e) n = ann_is_one (subst IsNoRow (sym e) n)
    of fields (there m) n = elim m [ ]

-- ---- the table of the employees

abbrev columns : List (List ℕ)
columns = codes "#up" ∷ codes "name" ∷ codes "phone" ∷ []

abbrev emp_fields : List (List Value)
emp_fields = (Const (codes "?1.0.2") ∷ Const (codes "??x") ∷ Const [] ∷ []) ∷ []

abbrev emp_rows : List (List Value)
emp_rows = (Null null ∷ Const (codes "?x") ∷ Const [] ∷ []) ∷ []

-- its rows are those of the values
emps_say : (bytes : List ℕ) → AreTableRecords (table_records bytes) columns emp_fields → SayRows depts 1 bytes emp_rows
unfolding null digits
emps_say bytes t = (
  emp_fields,
  t,
  (((record { rule = omega arith; var = omega arith; row = omega arith }, refl), ((tt, refl), ((tt, refl), tt))), tt),
)

-- a file at fault is told of by its name in its folder
without_header : (bytes : List ℕ) → table_records bytes ≡ []
    → IsGivenFault depts 1 (none_read 0, bytes) (refusals.Rows (codes "given/emp.csv") (Csv kinds.NoHeader))
without_header bytes empty = (Csv kinds.NoHeader, inl (kinds.NoHeader, empty, refl), refl)

-- ---- bytes and cells

abbrev before : ℕ → ℕ → ReadState
before bytes cells = record { facts = record { table = 0; row = [] } ∷ []; bytes_left = bytes; cells_left = cells }

abbrev said : List Fact
said = record { table = 1; row = Null null ∷ Const (codes "?x") ∷ Const [] ∷ [] } ∷ []

-- nothing was read at first, and there may be a million cells
at_first : none_read 7 ≡ record { facts = []; bytes_left = 7; cells_left = 1000000 }
at_first = refl

-- a file takes its bytes from those that are left, and its rows become facts of its table
bytes_are_taken : (bytes : List ℕ) → AreTableRecords (table_records bytes) columns emp_fields → length bytes ≡ 27
    → SaysGivenRows depts 1 (before 30 3, bytes) (before 3 3, said)
bytes_are_taken bytes t long = (emp_rows, emps_say bytes t, ap (λ (n : ℕ). (before (30 - n) 3, said)) (sym long))

-- as many cells as are left may come, and one more may not
they_fit : with_given_facts depts (before 7 3, said)
    ≡ Ok (record { facts = record { table = 0; row = [] } ∷ said; bytes_left = 7; cells_left = 0 })
unfolding null
they_fit = refl

one_too_many : with_given_facts depts (before 7 2, said) ≡ Err too_many_given_cells
unfolding null
one_too_many = refl
