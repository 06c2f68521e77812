-- Marks of the facts of an instance.
use Rattle.std.proofs.Common.{◌≡◌, ◌∙◌, ℕ, ◌+◌, ◌<◌, Bool, false, List, [], ◌∷◌, ◌++◌, sym}
use Rattle.std.proofs.Common.{length, get_or, take, Vec, Global}
use Rattle.std.specs.Prelude.{map, replicate}
use Rattle.std.proofs.lemmas.List.{length-map, map-append, take_more, get_or-map}
use Rattle.dx_instance.specs.Stored.{TableRows, rows_of}
use Rattle.dx_hom.specs.View.{all_there}

-- the marks of one more table
abbrev pub marks_in : List (Vec Bool Global) → List (List Bool)
marks_in tables = map (λ (v : Vec Bool Global). v.items) tables

pub marks_more : (I : List TableRows) (t : ℕ) (old : List (Vec Bool Global)) (marks : Vec Bool Global) → t < length I
    → marks.items ≡ replicate (length (rows_of I t)) false → marks_in old ≡ take t (all_there I)
    → marks_in (old ++ marks ∷ []) ≡ take (t + 1) (all_there I)
marks_more I t old marks h e d =
    let k : t < length (all_there I) = rw (length-map I (λ (u : TableRows). replicate (length u.rows) false)) h in
    let m : get_or (all_there I) t [] ≡ replicate (length (rows_of I t)) false =
    get_or-map (λ (u : TableRows). replicate (length u.rows) false) I t (record { width = 0; rows = [] }) [] h in
    let both : marks_in old ++ marks.items ∷ [] ≡ take t (all_there I) ++ get_or (all_there I) t [] ∷ [] = cc in
    map-append (λ (v : Vec Bool Global). v.items) old (marks ∷ []) ∙ (both ∙ sym (take_more (all_there I) t [] k))
