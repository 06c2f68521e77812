-- The header and the records of answers, one by one.
use Rattle.std.proofs.Common.{◌≡◌, ℕ, zero, suc, ◌+◌, ◌<◌, List, [], ◌∷◌, ◌++◌, sym, ◌∙◌, ap, arith, get_or, length, map, take}
use Rattle.std.proofs.lemmas.List.{map-append, take_more}
use Rattle.dx_instance.specs.ValueText.{const_text}
use Rattle.clio_files.specs.Answers.{answers_sheet, column_name, column_names}
use Rattle.clio_files.proofs.SheetLists.{lines_of}

names_from : (n k : ℕ) → column_names n k ++ column_name (n + k) ∷ [] ≡ column_names n (suc k)
names_from n zero = ap (λ m. column_name m ∷ []) (omega arith)
names_from n (suc k) =
    let next : n + suc k ≡ suc n + k = omega arith in
    ap (λ (l : List (List ℕ)). column_name n ∷ l) (ap (λ m. column_names (suc n) k ++ column_name m ∷ []) next ∙ names_from (suc n) k)

-- the name of one column more
pub names_more : (k : ℕ) → column_names 0 k ++ column_name k ∷ [] ≡ column_names 0 (k + 1)
names_more k =
    let first : k ≡ 0 + k = omega arith in
    let next : suc k ≡ k + 1 = omega arith in
    ap (λ m. column_names 0 k ++ column_name m ∷ []) first ∙ names_from 0 k ∙ ap (column_names 0) next

-- the texts of one value more
pub texts_more : (ts : List (List ℕ)) (i : ℕ) (t : List ℕ) → i < length ts → t ≡ get_or ts i t
    → map const_text (take i ts) ++ const_text t ∷ [] ≡ map const_text (take (i + 1) ts)
texts_more ts i t h is =
    sym (ap (map const_text) (take_more ts i t h ∙ ap (λ u. take i ts ++ u ∷ []) (sym is)) ∙ map-append const_text (take i ts) (t ∷ []))

-- the record of one answer more
pub answers_more : (width : ℕ) (rows : List (List (List ℕ))) (i : ℕ) (t : List (List ℕ)) → i < length rows → t ≡ get_or rows i []
    → lines_of (answers_sheet width (take i rows)) ++ map const_text t ∷ [] ≡ lines_of (answers_sheet width (take (i + 1) rows))
answers_more width rows i t h is =
    let f = map const_text in
    let e : map f (take (i + 1) rows) ≡ map f (take i rows) ++ f t ∷ [] =
    ap (map f) (take_more rows i [] h ∙ ap (λ u. take i rows ++ u ∷ []) (sym is)) ∙ map-append f (take i rows) (t ∷ []) in
    ap (λ rs. (answers_sheet width []).header ∷ rs) (sym e)
