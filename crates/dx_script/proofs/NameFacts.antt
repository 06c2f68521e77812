-- Names tell numbers.
use Rattle.std.proofs.Common.{◌≡◌, ℕ, zero, suc, ◌<◌, ◌≤◌, ◌⊎◌, true, false, List, [], ◌∷◌, length, get_or, refl, sym, ◌∙◌, ap, subst, inl, inr, arith}
use Rattle.std.specs.Prelude.{map, nat_lt, nat_eq, Some, MatchOption}
use Rattle.std.specs.Cmp.Lexicographic.{pointwise}
use Rattle.std.proofs.lemmas.Bool.{cases_Bool}
use Rattle.std.proofs.lemmas.Bool.Decides.{leb_tells}
use Rattle.std.proofs.lemmas.Slice.Eq.{bytes_eq-Decides}
use Rattle.std.proofs.lemmas.List.{get_or-map, length-map}
use Rattle.dx_base.specs.Members.{◌∈◌, Distinct}
use Rattle.dx_base.proofs.Members.{in_at, in_map}
use Rattle.dx_model.specs.Values.{Tuple, Conversions}
use Rattle.dx_base.specs.Texts.{Text}
use Rattle.dx_schema.specs.Tables.{number_of_name}
use Rattle.dx_schema.specs.Names.{TableNames, HaveDistinctNames}
use Rattle.dx_funcs.specs.declared.conversion.Conversion.{Conversion}
use Rattle.dx_funcs.specs.Offers.{IsListed, IsOffer}
use Rattle.dx_funcs.proofs.Named.{calls_by_name_are_by_code, each_is_told}
use Rattle.dx_funcs.specs.Names.{TakesTexts, call_named, conversion_name, first_named}
use Rattle.dx_script.specs.Names.{table_numbered, table_names, table_named, column_named, column_at}

-- ---- numbers of names

-- a text is itself, and no other one
pub same_text : (x : Text) → pointwise nat_eq x x ≡ true
same_text x = (bytes_eq-Decides x x).1 refl

pub other_text : (x y : Text) → ¬ (x ≡ y) → pointwise nat_eq x y ≡ false
other_text x y n = elim (cases_Bool (pointwise nat_eq x y)) [ inl t ↦ absurd (n ((bytes_eq-Decides x y).0 t)) | inr f ↦ f ]

-- the number of the name at a place is the place, where no name stands twice
pub number_is : (xs : List Text) (n : ℕ) → Distinct xs → n < length xs → number_of_name (get_or xs n []) xs ≡ n
number_is [] n d h = absurd (omega arith)
number_is (y ∷ ys) zero d h = rw (same_text y) refl
number_is (y ∷ ys) (suc n) d h =
    let m : get_or ys n [] ∈ ys = in_at ys n [] (omega arith) in
    let f : pointwise nat_eq y (get_or ys n []) ≡ false = other_text y (get_or ys n []) (λ e. d.0 (rw e m)) in
    rw f (ap suc (number_is ys n d.1 (omega arith)))

-- ---- tables and columns

abbrev pub no_table : TableNames
no_table = record { name = []; columns = [] }

pub table_number : (tables : List TableNames) (t : ℕ) → HaveDistinctNames tables → t < length tables → table_named tables (table_numbered tables t).name ≡ t
table_number tables t a h =
    let e : get_or (table_names tables) t [] ≡ (table_numbered tables t).name = get_or-map (λ (n : TableNames). n.name) tables t no_table [] h in
    ap (λ n. number_of_name n (table_names tables)) (sym e) ∙ number_is (table_names tables) t a.apart (rw (length-map tables (λ (n : TableNames). n.name)) h)

pub column_number : (tables : List TableNames) (t c : ℕ) → HaveDistinctNames tables → t < length tables → c < length (table_numbered tables t).columns
    → column_named tables t (column_at tables t c) ≡ c
column_number tables t c a h k =
    number_is (table_numbered tables t).columns c (a.columns_apart (table_numbered tables t) (in_at tables t no_table h)) k

-- ---- conversions

-- a conversion that is called by its name is that of its code
pub calls_by_name : (convert : Conversions) (list : List Conversion) (code arity : ℕ) (texts : Tuple) → IsOffer list → IsListed list code arity
    → call_named convert list (conversion_name list code) texts ≡ convert code texts
calls_by_name convert list code arity texts o l = calls_by_name_are_by_code convert list code texts o (subst (λ z. z ∈ map (λ (c : Conversion). c.code) list) l.2 (in_map (λ (c : Conversion). c.code) l.1))

-- the name of a listed code takes as many texts as the conversion
pub takes_texts : (list : List Conversion) (code arity : ℕ) → IsOffer list → IsListed list code arity → TakesTexts list (conversion_name list code) arity
takes_texts list code arity o l =
    let t = each_is_told list l.0 o l.1 in
    let n : conversion_name list code ≡ (l.0).name = ap (conversion_name list) (sym l.2) ∙ t.name in
    let f : first_named list (conversion_name list code) ≡ Some l.0 = ap (first_named list) n ∙ t.found in
    subst (λ z. MatchOption z ⊥ (λ (c : Conversion). c.arity ≡ arity)) (sym f) l.3

-- ---- numbers

pub nat_lt_tells : (a b : ℕ) → ((nat_lt a b ≡ true) × (a < b)) ⊎ ((nat_lt a b ≡ false) × (b ≤ a))
nat_lt_tells a b = elim (leb_tells (suc a) b) [ inl t ↦ inl (t.0, omega (arith, t.1)) | inr f ↦ inr (f.0, omega (arith, f.1)) ]
