-- Tables with the same text have the same rows.
use Rattle.std.proofs.Common.{◌≡◌, ℕ, List, [], ◌∷◌, refl, sym, ◌∙◌, subst}
use Rattle.std.specs.Prelude.{map}
use Rattle.dx_base.specs.Members.{◌∈◌, ◌⊆◌, here, there, Each}
use Rattle.dx_model.specs.declared.values.Value.{Value}
use Rattle.dx_instance.specs.ValueText.{ValueFits, value_text_of}
use Rattle.dx_instance.proofs.TextFacts.{texts_differ}
use Rattle.dx_csv.specs.Print.{IsTableText, records_of_table}
use Rattle.dx_csv.specs.Laws.{TableTextsDiffer}

row_same : (r s : List Value) → Each r ValueFits → Each s ValueFits → map value_text_of r ≡ map value_text_of s → r ≡ s
row_same [] [] f g e = refl
row_same [] (w ∷ s) f g e = absurd (cc)
row_same (v ∷ r) [] f g e = absurd (cc)
row_same (v ∷ r) (w ∷ s) f g e =
    let a : value_text_of v ≡ value_text_of w = cc e in
    let b : map value_text_of r ≡ map value_text_of s = cc e in
    let c = texts_differ v w (f v (here refl)) (g w (here refl)) a in
    let d = row_same r s (λ x m. f x (there m)) (λ x m. g x (there m)) b in
    cc (c, d)

rows_same : (A B : List (List Value)) → Each A (λ (r : List Value). Each r ValueFits) → Each B (λ (r : List Value). Each r ValueFits) → map (map value_text_of) A ≡ map (map value_text_of) B → A ≡ B
rows_same [] [] f g e = refl
rows_same [] (s ∷ B) f g e = absurd (cc)
rows_same (r ∷ A) [] f g e = absurd (cc)
rows_same (r ∷ A) (s ∷ B) f g e =
    let a : map value_text_of r ≡ map value_text_of s = cc e in
    let b : map (map value_text_of) A ≡ map (map value_text_of) B = cc e in
    let c = row_same r s (f r (here refl)) (g s (here refl)) a in
    let d = rows_same A B (λ x m. f x (there m)) (λ x m. g x (there m)) b in
    cc (c, d)

-- the rows of the one are rows of the other
one_way : (columns : List (List ℕ)) (rows others : List (List Value)) (text : List ℕ) → Each rows (λ (r : List Value). Each r ValueFits) → Each others (λ (r : List Value). Each r ValueFits)
    → IsTableText columns rows text → IsTableText columns others text → rows ⊆ others
one_way columns rows others text f g p q r m =
    let e : records_of_table columns p.sorted ≡ records_of_table columns q.sorted = sym p.reads ∙ q.reads in
    let b : map (map value_text_of) p.sorted ≡ map (map value_text_of) q.sorted = cc e in
    let s = rows_same p.sorted q.sorted (λ x n. f x (p.only x n)) (λ x n. g x (q.only x n)) b in
    q.only r (subst (λ (A : List (List Value)). r ∈ A) s (p.kept r m))

pub table_texts_differ : TableTextsDiffer
table_texts_differ columns rows others text f g p q = (one_way columns rows others text f g p q, one_way columns others rows text g f q p)
