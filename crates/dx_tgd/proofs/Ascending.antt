-- Tuples ascend if their rows and the symbols do.
use Rattle.std.proofs.Common.{◌≡◌, ◌∙◌, ℕ, suc, ◌<◌, List, [], ◌∷◌, true, refl, subst, arith, length, get_or}
use Rattle.std.specs.Prelude.{map}
use Rattle.std.specs.Cmp.Lexicographic.{slice_cmp}
use Rattle.std.specs.Ordering.{nat_cmp, ordering_then}
use Rattle.std.specs.declared.cmp.Ordering.TheVariants.{Less}
use Rattle.dx_base.specs.Members.{◌∈◌, here, there, Each}
use Rattle.dx_base.proofs.Members.{contains_from_in, from_map, in_at}
use Rattle.dx_model.specs.declared.values.Value.{Value}
use Rattle.dx_model.specs.declared.values.Value.TheVariants.{Const, Null}
use Rattle.dx_model.specs.Values.{Tuple, tuple_cmp, value_cmp}
use Rattle.dx_model.specs.Rules.{TuplesAscend}
use Rattle.dx_instance.specs.Cells.{NumbersAscend, numbers_at}
use Rattle.dx_instance.specs.Numbers.{ValuesAscend, value_of}
use Rattle.dx_instance.proofs.ShownFacts.{number_less}
use Rattle.dx_joins.specs.Shown.{AllTexts, is_text, texts_of}
use Rattle.dx_instance.specs.Ranks.{text_of_value}

texts_compare : (v w : Value) → is_text v ≡ true → is_text w ≡ true → slice_cmp nat_cmp (text_of_value v) (text_of_value w) ≡ value_cmp v w
texts_compare (Const t) (Const u) e f = refl
texts_compare (Const t) (Null n) e f = absurd (cc f)
texts_compare (Null m) w e f = absurd (cc e)

-- tuples compare as their rows of numbers
tuple_less : (S : List Value) (a b : List ℕ) → ValuesAscend S → AllTexts S a → AllTexts S b → tuple_cmp (texts_of S a) (texts_of S b) ≡ slice_cmp nat_cmp a b
tuple_less S [] [] up h k = refl
tuple_less S [] (y ∷ b) up h k = refl
tuple_less S (x ∷ a) [] up h k = refl
tuple_less S (x ∷ a) (y ∷ b) up h k =
    let p = h x (here refl) in
    let q = k y (here refl) in
    let first = texts_compare (value_of S x) (value_of S y) p.1 q.1 ∙ number_less S x y up p.0 q.0 in
    let rest = tuple_less S a b up (λ z m. h z (there m)) (λ z m. k z (there m)) in
    (λ i. ordering_then (first i) (rest i))

pub tuples_ascend : (S : List Value) (rows : List (List ℕ)) → ValuesAscend S → Each rows (AllTexts S) → NumbersAscend rows → TuplesAscend (map (texts_of S) rows)
tuples_ascend S [] up h n = tt
tuples_ascend S (r ∷ rows) up h n = (
  (λ t m. let q = from_map (texts_of S) rows m in below q.0 q.1 t q.2),
  tuples_ascend S rows up (λ x m. h x (there m)) (λ i j d a b. n (suc i) (suc j) d (omega arith) (omega (arith, b))),
)
  where
    below : (s : List ℕ) → s ∈ rows → (t : Tuple) → texts_of S s ≡ t → tuple_cmp (texts_of S r) t ≡ Less
    below s m t e =
        let at = contains_from_in m in
        let one : slice_cmp nat_cmp r (get_or rows at.0 s) ≡ Less = n 0 (suc at.0) s (omega arith) (omega (arith, at.1)) in
        let two : slice_cmp nat_cmp r s ≡ Less = subst (λ (x : List ℕ). slice_cmp nat_cmp r x ≡ Less) at.2 one in
        subst (λ (u : Tuple). tuple_cmp (texts_of S r) u ≡ Less) e (tuple_less S r s up (h r (here refl)) (h s (there m)) ∙ two)

-- a text of a row that is read
pub number_there : (S : List Value) (row : List ℕ) (i : ℕ) → AllTexts S row → i < length row → get_or row i 0 < length S
number_there S row i h b = (h (get_or row i 0) (in_at row i 0 b)).0

pub row_there : (S : List Value) (rows : List (List ℕ)) (k : ℕ) (row : List ℕ) → Each rows (AllTexts S) → k < length rows → row ≡ numbers_at rows k → AllTexts S row
row_there S rows k row h b e = rw e (h (numbers_at rows k) (in_at rows k [] b))
