-- Marks of the facts of an instance.
use Rattle.std.proofs.Common.{◌≡◌, ◌∙◌, ℕ, zero, suc, Bool, false, List, [], ◌∷◌, refl, sym, ap}
use Rattle.std.proofs.Common.{length, get_or}
use Rattle.std.specs.Prelude.{map, replicate}
use Rattle.std.proofs.lemmas.List.{length-map, length-replicate}
use Rattle.dx_base.proofs.Lists.{none_in}
use Rattle.dx_instance.specs.Stored.{TableRows, rows_of}
use Rattle.dx_model.specs.declared.values.Value.{Value}
use Rattle.dx_instance.specs.Cells.{NumberTable}
use Rattle.dx_instance.specs.Shown.{shown, shown_row, shown_tables}
use Rattle.dx_solver.specs.Marks.{is_out, none_out}

-- a mark for each fact of an instance, none of them taken out
abbrev pub all_there : List TableRows → List (List Bool)
all_there I = map (λ (t : TableRows). replicate (length t.rows) false) I

-- the marks for rows of numbers are those for what they show
pub none_there : (S : List Value) (ts : List NumberTable) → none_out ts ≡ all_there (shown_tables S ts)
none_there S [] = refl
none_there S (t ∷ ts) =
    let first : length t.rows ≡ length (shown S t).rows = sym (length-map t.rows (shown_row S)) in
    let rest = none_there S ts in
    ap (λ n. replicate n false ∷ none_out ts) first ∙ ap (λ xs. replicate (length (shown S t).rows) false ∷ xs) rest

-- nothing is taken out at first
pub none_gone : (I : List TableRows) (t p : ℕ) → is_out (all_there I) t p ≡ false
none_gone [] t p = refl
none_gone (x ∷ I) zero p = none_in (length x.rows) p
none_gone (x ∷ I) (suc t) p = none_gone I t p

-- there is a mark for each fact
pub tables_marked : (I : List TableRows) → length (all_there I) ≡ length I
tables_marked I = length-map I (λ (t : TableRows). replicate (length t.rows) false)

pub places_marked : (I : List TableRows) (t : ℕ) → length (get_or (all_there I) t []) ≡ length (rows_of I t)
places_marked [] t = refl
places_marked (x ∷ I) zero = length-replicate (length x.rows) false
places_marked (x ∷ I) (suc t) = places_marked I t
