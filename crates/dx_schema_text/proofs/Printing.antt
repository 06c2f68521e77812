-- Printing the sets of one level, one after the other.
use Rattle.std.proofs.Common.{◌≡◌, ℕ, ◌+◌, ◌<◌, List, [], ◌∷◌, ◌++◌, length, take, get_or, sym, ap, ◌∙◌, append_assoc}
use Rattle.std.proofs.lemmas.List.{append-nil, take_more}
use Rattle.dx_schema.specs.Forest.{Forest, Tree, forest_of}
use Rattle.dx_schema_text.specs.Print.{wider, front_lines, last_line, printed}

printed-push : (margin : List ℕ) (ts : List Tree) (t : Tree) → printed margin (forest_of (ts ++ t ∷ [])) ≡ printed margin (forest_of ts) ++ (front_lines margin t.label ++ (printed (wider margin) t.inner ++ last_line margin))
printed-push margin [] t = ap (λ xs. front_lines margin t.label ++ (printed (wider margin) t.inner ++ xs)) (append-nil (last_line margin))
printed-push margin (u ∷ ts) t =
    ap (λ xs. front_lines margin u.label ++ (printed (wider margin) u.inner ++ (last_line margin ++ xs))) (printed-push margin ts t)
    ∙ sym (append_assoc (front_lines margin u.label) (printed (wider margin) u.inner ++ (last_line margin ++ printed margin (forest_of ts))) _
    ∙ ap (λ xs. front_lines margin u.label ++ xs) (append_assoc (printed (wider margin) u.inner) (last_line margin ++ printed margin (forest_of ts)) _ ∙ ap (λ xs. printed (wider margin) u.inner ++ xs) (append_assoc (last_line margin) (printed margin (forest_of ts)) _)))

-- one more set
pub one_printed : (margin wide : List ℕ) (ts : List Tree) (k : ℕ) (t : Tree) (inner : Forest) (before now front middle after : List ℕ) → k < length ts → t ≡ get_or ts k t → inner ≡ t.inner → wide ≡ wider margin
    → now ≡ before ++ printed margin (forest_of (take k ts)) → front ≡ now ++ front_lines margin t.label → middle ≡ front ++ printed wide inner → after ≡ middle ++ last_line margin
    → after ≡ before ++ printed margin (forest_of (take (k + 1) ts))
one_printed margin wide ts k t inner before now front middle after lt is same wide_is e f m a =
    a ∙ ap (λ xs. xs ++ last_line margin) (m ∙ ap (λ xs. xs ++ printed wide inner) (f ∙ ap (λ xs. xs ++ front_lines margin t.label) e))
    ∙ rw (same, wide_is, take_more ts k t lt, ← is, printed-push margin (take k ts) t) (simp append_assoc)
