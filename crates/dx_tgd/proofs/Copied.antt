-- The tuples for which rows stand, their texts one after the other.
use Rattle.std.proofs.Common.{◌≡◌, ◌∙◌, ℕ, ◌+◌, ◌*◌, ◌<◌, ◌≤◌, List, [], ◌∷◌, ◌++◌, refl, sym, ap, arith, length, take}
use Rattle.std.specs.Prelude.{map}
use Rattle.std.proofs.lemmas.List.{length-append, length-map, map-append, take_all, take_more}
use Rattle.dx_model.specs.declared.values.Value.{Value}
use Rattle.dx_model.specs.Values.{Tuple}
use Rattle.dx_base.specs.Texts.{Text}
use Rattle.dx_model.specs.Tuples.{in_tuples}
use Rattle.dx_model.proofs.TupleFacts.{tuples_push}
use Rattle.dx_instance.specs.Cells.{NumberTable, numbers_at}
use Rattle.dx_joins.specs.Shown.{texts_of}

-- the texts of the tuples for which the first k rows stand
pub record AreCopied (S : List Value) (t : NumberTable) (k : ℕ) (texts : List Text) : Type 0 where
  pub within : k ≤ length t.rows
  pub long : length texts ≡ k * t.width
  pub are : in_tuples k t.width texts ≡ map (texts_of S) (take k t.rows)

-- no row
pub copied_none : (S : List Value) (t : NumberTable) (texts : List Text) → texts ≡ [] → AreCopied S t 0 texts
copied_none S t texts e = record { within = omega arith; long = rw e (omega arith); are = refl }

-- one row more
pub copied_more : (S : List Value) (t : NumberTable) (k : ℕ) (row : List ℕ) (texts new : List Text) → k < length t.rows → row ≡ numbers_at t.rows k → length row ≡ t.width → AreCopied S t k texts
    → new ≡ texts ++ texts_of S row → AreCopied S t (k + 1) new
copied_more S t k row texts new h e w c n = record { within = omega (arith, h); long = long; are = are }
  where
    more : length (texts_of S row) ≡ t.width
    more = length-map row _ ∙ w

    long : length new ≡ (k + 1) * t.width
    long = rw n (omega (arith, length-append texts (texts_of S row), more, c.long))

    all : map (texts_of S) (take (k + 1) t.rows) ≡ map (texts_of S) (take k t.rows) ++ texts_of S (numbers_at t.rows k) ∷ []
    all = ap (map (texts_of S)) (take_more t.rows k [] h) ∙ map-append (texts_of S) (take k t.rows) (numbers_at t.rows k ∷ [])

    are : in_tuples (k + 1) t.width new ≡ map (texts_of S) (take (k + 1) t.rows)
    are =
        ap (λ (l : List Text). in_tuples (k + 1) t.width l) n ∙ (tuples_push k t.width texts (texts_of S row) c.long more
        ∙ (ap (λ (ts : List Tuple). ts ++ texts_of S row ∷ []) c.are ∙ (ap (λ (r : List ℕ). map (texts_of S) (take k t.rows) ++ texts_of S r ∷ []) e ∙ sym all)))

-- all rows
pub copied_all : (S : List Value) (t : NumberTable) (k n w : ℕ) (texts : List Text) → n ≡ length t.rows → w ≡ t.width → length t.rows ≤ k → AreCopied S t k texts
    → (length texts ≡ n * w) × (in_tuples n w texts ≡ map (texts_of S) t.rows)
copied_all S t k n w texts e v h c =
    let same : n ≡ k = omega (arith, e, h, c.within) in
    rw (same, v) (c.long, c.are ∙ ap (map (texts_of S)) (take_all k t.rows h))
