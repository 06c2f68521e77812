-- Tuples that are lent as rows of numbers.
use Rattle.std.proofs.Common.{◌≡◌, ◌∙◌, ℕ, zero, suc, ◌<◌, List, [], ◌∷◌, true, refl, sym, ap, subst, arith, length, get_or}
use Rattle.std.specs.Prelude.{map}
use Rattle.std.proofs.lemmas.List.{length-map}
use Rattle.dx_base.specs.Members.{◌∈◌}
use Rattle.dx_base.proofs.Members.{in_at}
use Rattle.dx_model.specs.declared.values.NullId.{NullId}
use Rattle.dx_model.specs.declared.values.Value.{Value}
use Rattle.dx_model.specs.declared.values.Value.TheVariants.{Null}
use Rattle.dx_model.specs.Values.{Rows, Tuple}
use Rattle.dx_instance.specs.Cells.{NumberTable, numbers_at}
use Rattle.dx_instance.specs.Numbers.{value_of}
use Rattle.dx_joins.specs.Shown.{AllTexts, is_text, texts_of}
use Rattle.dx_instance.specs.Ranks.{text_of_value}
use Rattle.dx_tgd.specs.Texts.{tuples_in}

-- an element of a mapped list
pub get_map : {X Y : Type 0} (f : X → Y) (xs : List X) (i : ℕ) (d : Y) (e : X) → i < length xs → get_or (map f xs) i d ≡ f (get_or xs i e)
get_map f [] i d e h = absurd (omega (arith, h))
get_map f (x ∷ xs) zero d e h = refl
get_map f (x ∷ xs) (suc i) d e h = get_map f xs i d e (omega (arith, h))

-- ---- a text of a tuple

pub text_within : (S : List Value) (row : List ℕ) (t : Tuple) (i : ℕ) → texts_of S row ≡ t → i < length t → i < length row
text_within S row t i e h = let n = ap length e in let m = length-map row (λ n. text_of_value (value_of S n)) in omega (arith, h, n, m)

pub text_number : (S : List Value) (row : List ℕ) (i n : ℕ) → AllTexts S row → i < length row → n ≡ get_or row i 0
    → (n < length S) × (is_text (value_of S n) ≡ true)
text_number S row i n a h e = a n (subst (λ m. m ∈ row) (sym e) (in_at row i 0 h))

pub no_null : (v w : Value) (n : NullId) → v ≡ w → v ≡ Null n → is_text w ≡ true → ⊥
no_null v w n e f h = let k = subst (λ x. is_text x ≡ true) (sym e ∙ f) h in absurd (cc k)

pub text_read : (S : List Value) (row : List ℕ) (t : Tuple) (i n : ℕ) → texts_of S row ≡ t → i < length row → n ≡ get_or row i 0
    → text_of_value (value_of S n) ≡ get_or t i []
text_read S row t i n e h k =
    ap (λ m. text_of_value (value_of S m)) k
    ∙ (sym (get_map (λ m. text_of_value (value_of S m)) row i [] 0 h) ∙ ap (λ u. get_or u i []) e)

-- ---- a tuple of a rule

pub rule_within : (S : List Value) (tables : List NumberTable) (rows : Rows) (i : ℕ) → tuples_in S tables ≡ rows → i < length rows
    → i < length tables
rule_within S tables rows i e h =
    let n = ap length e in
    let m = length-map tables (λ (t : NumberTable). map (texts_of S) t.rows) in
    omega (arith, h, n, m)

pub rules_counted : (S : List Value) (tables : List NumberTable) (rows : Rows) → tuples_in S tables ≡ rows → length tables ≡ length rows
rules_counted S tables rows e =
    sym (length-map tables (λ (t : NumberTable). map (texts_of S) t.rows)) ∙ ap length e

-- the tuples of a rule are those of its table
tuples_at : (S : List Value) (tables : List NumberTable) (rows : Rows) (i : ℕ) (t : NumberTable) → tuples_in S tables ≡ rows
    → i < length tables → t ≡ get_or tables i t → get_or rows i [] ≡ map (texts_of S) t.rows
tuples_at S tables rows i t e h k =
    ap (λ r. get_or r i []) (sym e)
    ∙ (get_map (λ (u : NumberTable). map (texts_of S) u.rows) tables i [] t h
    ∙ ap (λ (u : NumberTable). map (texts_of S) u.rows) (sym k))

pub places_counted : (S : List Value) (tables : List NumberTable) (rows : Rows) (i : ℕ) (t : NumberTable) → tuples_in S tables ≡ rows
    → i < length tables → t ≡ get_or tables i t → length t.rows ≡ length (get_or rows i [])
places_counted S tables rows i t e h k =
    sym (length-map t.rows (texts_of S)) ∙ ap length (sym (tuples_at S tables rows i t e h k))

pub place_within : (S : List Value) (tables : List NumberTable) (rows : Rows) (i p : ℕ) (t : NumberTable) → tuples_in S tables ≡ rows
    → i < length tables → t ≡ get_or tables i t → p < length (get_or rows i []) → p < length t.rows
place_within S tables rows i p t e h k b =
    let n = ap length (tuples_at S tables rows i t e h k) in
    let m = length-map t.rows (texts_of S) in
    omega (arith, b, n, m)

pub tuple_read : (S : List Value) (tables : List NumberTable) (rows : Rows) (i p : ℕ) (t : NumberTable) (row : List ℕ)
    → tuples_in S tables ≡ rows → i < length tables → t ≡ get_or tables i t → p < length t.rows → row ≡ numbers_at t.rows p
    → texts_of S row ≡ get_or (get_or rows i []) p []
tuple_read S tables rows i p t row e h k b r =
    ap (texts_of S) r
    ∙ (sym (get_map (texts_of S) t.rows p [] [] b) ∙ ap (λ ts. get_or ts p []) (sym (tuples_at S tables rows i t e h k)))
