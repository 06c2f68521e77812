-- Row tests by their names, and conditions without a fault.
use Rattle.std.proofs.Common.{◌≡◌, ℕ, List, [], ◌∷◌, Some, None, Bool, true, false, cond, map, refl, sym, ap, ◌∙◌, subst, nat_eq}
use Rattle.std.specs.Cmp.Lexicographic.{pointwise, same_text, other_text}
use Rattle.dx_base.specs.Members.{◌∈◌, here, there, Distinct, Each}
use Rattle.dx_base.proofs.Members.{in_map, from_map}
use Rattle.dx_base.proofs.Firsts.{two_none, each_none}
use Rattle.dx_schema.specs.Forest.{Forest}
use Rattle.dx_schema.specs.Tables.{model_tables}
use Rattle.dx_base.specs.Texts.{Text}
use Rattle.dx_schema.specs.Faults.{is_among}
use Rattle.dx_schema.proofs.Valid.{among_in, in_among}
use Rattle.dx_tokens.specs.declared.faults.TextFault.TheVariants.{At}
use Rattle.dx_tokens.specs.declared.faults.TextKind.TheVariants.{UnknownName}
use Rattle.dx_schema_text.specs.declared.texts.OnlyText.{OnlyText}
use Rattle.dx_funcs.specs.declared.row_test.RowTest.{RowTest}
use Rattle.dx_lines.specs.declared.line.Condition.{Condition}
use Rattle.dx_lines.specs.Limits.{IsSchemaColumn}
use Rattle.dx_line_text.specs.Naming.{name_fault, place_fault}
use Rattle.dx_line_text.specs.Conditions.{test_names, test_code, condition_fault, conditions_fault, condition_of, conditions_of, ConditionIsListed}
use Rattle.dx_line_text.proofs.Found.{not_found}
use Rattle.dx_line_text.proofs.Fits.{place_fits}

-- ---- a row test by its name

-- among distinct names the code of a listed row test is that of its name
code_is : (list : List RowTest) (t : RowTest) (name : Text) → Distinct (map (λ (t : RowTest). t.name) list) → t ∈ list → t.name ≡ name → t.code ≡ test_code list name
code_is [] t name d m is = elim m [ ]
code_is (k ∷ ks) t name d (here e) is = go (pointwise nat_eq k.name name) refl
  where
    go : (b : Bool) → pointwise nat_eq k.name name ≡ b → t.code ≡ cond b k.code (test_code ks name)
    go true s = ap (λ (y : RowTest). y.code) (sym e)
    go false s = absurd (other_text k.name name (sym s) (ap (λ (y : RowTest). y.name) e ∙ is))
code_is (k ∷ ks) t name d (there m) is = go (pointwise nat_eq k.name name) refl (code_is ks t name d.1 m is)
  where
    go : (b : Bool) → pointwise nat_eq k.name name ≡ b → t.code ≡ test_code ks name → t.code ≡ cond b k.code (test_code ks name)
    go true s h = absurd (d.0 (rw (same_text k.name name (sym s), ← is) (in_map (λ (y : RowTest). y.name) m)))
    go false s h = h

-- a row test that is found is what its name says, and the name has no fault
pub test_found : (list : List RowTest) (t : RowTest) (name : Text) (place : ℕ) → Distinct (map (λ (t : RowTest). t.name) list) → t ∈ list → t.name ≡ name
    → (t.code ≡ test_code list name) × (name_fault (test_names list) name place ≡ None)
test_found list t name place d m is =
    let among : is_among name (test_names list) ≡ true = in_among name (test_names list) (rw (← is) (in_map (λ (y : RowTest). y.name) m)) in
    (code_is list t name d m is, rw among refl)

-- a name that isn't listed is at fault
pub test_unknown : (list : List RowTest) (name : Text) (place : ℕ) → ¬ (name ∈ test_names list) → name_fault (test_names list) name place ≡ Some (At place UnknownName)
test_unknown list name place no_member = rw (not_found name (test_names list) no_member) refl

-- ---- conditions without a fault

listed_code : (list : List RowTest) (name : Text) → name ∈ test_names list → test_code list name ∈ map (λ (t : RowTest). t.code) list
listed_code [] name m = elim m [ ]
listed_code (t ∷ ts) name (here e) = go (pointwise nat_eq t.name name) refl
  where
    go : (b : Bool) → pointwise nat_eq t.name name ≡ b → cond b t.code (test_code ts name) ∈ map (λ (t : RowTest). t.code) (t ∷ ts)
    go true s = here refl
    go false s = absurd (other_text t.name name (sym s) e)
listed_code (t ∷ ts) name (there m) = go (pointwise nat_eq t.name name) (listed_code ts name m)
  where
    go : (b : Bool) → test_code ts name ∈ map (λ (t : RowTest). t.code) ts → cond b t.code (test_code ts name) ∈ map (λ (t : RowTest). t.code) (t ∷ ts)
    go true h = here refl
    go false h = there h

name_there : (names : List Text) (name : Text) (place : ℕ) → name_fault names name place ≡ None → name ∈ names
name_there names name place h = go (is_among name names) refl h
  where
    go : (b : Bool) → is_among name names ≡ b → cond b None (Some (At place UnknownName)) ≡ None → name ∈ names
    go true e k = among_in name names e
    go false e k = absurd cc

-- each of them comes from one that has no fault
from_text : (f : Forest) (list : List RowTest) (os : List OnlyText) (read : List Condition) → read ≡ conditions_of f list os → conditions_fault f list os ≡ None
    → (c : Condition) → c ∈ read → (o : OnlyText) × (condition_of f list o ≡ c) × (place_fault f o.place ≡ None) × (name_fault (test_names list) o.test o.test_place ≡ None)
from_text f list os read is h c m =
    let o = from_map (condition_of f list) os (rw is at m) in
    let both = two_none (place_fault f o.0.place) (name_fault (test_names list) o.0.test o.0.test_place) (each_none (condition_fault f list) os h o.0 o.1) in
    (o.0, o.2, both.0, both.1)

-- they are about columns of the source
pub conditions_fit : (f : Forest) (list : List RowTest) (os : List OnlyText) (read : List Condition) → read ≡ conditions_of f list os → conditions_fault f list os ≡ None → Each read (λ c. IsSchemaColumn (model_tables f) c.place)
conditions_fit f list os read is h c m =
    let o = from_text f list os read is h c m in
    subst (λ (c : Condition). IsSchemaColumn (model_tables f) c.place) o.1 (place_fits f o.0.place o.2)

-- and their row tests are listed
pub conditions_tested : (f : Forest) (list : List RowTest) (os : List OnlyText) (read : List Condition) → read ≡ conditions_of f list os → conditions_fault f list os ≡ None → Each read (ConditionIsListed list)
conditions_tested f list os read is h c m =
    let o = from_text f list os read is h c m in
    subst (ConditionIsListed list) o.1 (listed_code list o.0.test (name_there (test_names list) o.0.test o.0.test_place o.3))
