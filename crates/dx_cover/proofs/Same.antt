-- Two rows are the same, if each cell is the same as the one at its place.
use Rattle.std.proofs.Common.{◌≡◌, ℕ, ◌<◌, List, [], ◌∷◌, length, refl, subst, arith, Bool, true, false, MatchBool, IsTrue}
use Rattle.std.specs.Prelude.{◌&&◌}
use Rattle.std.specs.List.{AllWithin, HoldsAt, zip}
use Rattle.std.proofs.lemmas.Bool.{and_parts, false≢true}
use Rattle.dx_base.specs.Members.{Each, here, there}
use Rattle.dx_base.proofs.Asked.{all_tells}
use Rattle.dx_model.specs.declared.rules.Cell.{Cell}
use Rattle.dx_model.specs.declared.covers.Meeting.{Meeting}
use Rattle.dx_model.specs.Covers.{same_cell, same_cells}
use Rattle.dx_cover.specs.States.{same_meetings}

both_ways : (r s : Bool) → (IsTrue r → IsTrue s) → (IsTrue s → IsTrue r) → r ≡ s
both_ways true true f g = refl
both_ways true false f g = absurd (false≢true (f refl))
both_ways false true f g = absurd (false≢true (g refl))
both_ways false false f g = refl

cells_from : (a b : List Cell) → length a ≡ length b → Each (zip a b) (λ (p : Cell × Cell). same_cell p.0 p.1 ≡ true) → IsTrue (same_cells a b)
cells_from [] [] l e = refl
cells_from [] (d ∷ ds) l e = absurd (omega (arith, l))
cells_from (c ∷ cs) [] l e = absurd (omega (arith, l))
cells_from (c ∷ cs) (d ∷ ds) l e = rw (e (c, d) (here refl)) (cells_from cs ds (omega (arith, l)) (λ p m. e p (there m)))

to_cells : (a b : List Cell) → IsTrue (same_cells a b) → Each (zip a b) (λ (p : Cell × Cell). same_cell p.0 p.1 ≡ true)
to_cells [] b t p m = elim m [ ]
to_cells (c ∷ cs) [] t p m = elim m [ ]
to_cells (c ∷ cs) (d ∷ ds) t p (here e) = subst (λ (q : Cell × Cell). same_cell q.0 q.1 ≡ true) e (and_parts (same_cell c d) (same_cells cs ds) t).0
to_cells (c ∷ cs) (d ∷ ds) t p (there m) = to_cells cs ds (and_parts (same_cell c d) (same_cells cs ds) t).1 p m

-- what `all` answers over two rows of cells at once
pub same_by_cells : (r : Bool) (a b : List Cell) → length a ≡ length b
    → MatchBool r (AllWithin (λ (p : Cell × Cell). same_cell p.0 p.1 ≡ true) (zip a b) 0 (length (zip a b))) ((k : ℕ) × (k < length (zip a b)) × HoldsAt (λ (p : Cell × Cell). ¬ (same_cell p.0 p.1 ≡ true)) (zip a b) k)
    → r ≡ same_cells a b
same_by_cells r a b l h =
    let t = all_tells (λ (p : Cell × Cell). same_cell p.0 p.1 ≡ true) (λ p. ¬ (same_cell p.0 p.1 ≡ true)) r (zip a b) (λ p e n. n e) h in
    both_ways r (same_cells a b) (λ e. cells_from a b l (t.0 e)) (λ e. t.1 (to_cells a b e))

meetings_from : (a b : List Meeting) → length a ≡ length b → Each (zip a b) (λ (p : Meeting × Meeting). (same_cell p.0.cell p.1.cell && same_cell p.0.met p.1.met) ≡ true) → IsTrue (same_meetings a b)
meetings_from [] [] l e = refl
meetings_from [] (n ∷ ns) l e = absurd (omega (arith, l))
meetings_from (m ∷ ms) [] l e = absurd (omega (arith, l))
meetings_from (m ∷ ms) (n ∷ ns) l e = rw (e (m, n) (here refl)) (meetings_from ms ns (omega (arith, l)) (λ p k. e p (there k)))

to_meetings : (a b : List Meeting) → IsTrue (same_meetings a b) → Each (zip a b) (λ (p : Meeting × Meeting). (same_cell p.0.cell p.1.cell && same_cell p.0.met p.1.met) ≡ true)
to_meetings [] b t p m = elim m [ ]
to_meetings (m ∷ ms) [] t p k = elim k [ ]
to_meetings (m ∷ ms) (n ∷ ns) t p (here e) = subst (λ (q : Meeting × Meeting). (same_cell q.0.cell q.1.cell && same_cell q.0.met q.1.met) ≡ true) e (and_parts (same_cell m.cell n.cell && same_cell m.met n.met) (same_meetings ms ns) t).0
to_meetings (m ∷ ms) (n ∷ ns) t p (there k) = to_meetings ms ns (and_parts (same_cell m.cell n.cell && same_cell m.met n.met) (same_meetings ms ns) t).1 p k

-- and over two rows of meetings
pub same_by_meetings : (r : Bool) (a b : List Meeting) → length a ≡ length b
    → MatchBool r (AllWithin (λ (p : Meeting × Meeting). (same_cell p.0.cell p.1.cell && same_cell p.0.met p.1.met) ≡ true) (zip a b) 0 (length (zip a b))) ((k : ℕ) × (k < length (zip a b)) × HoldsAt (λ (p : Meeting × Meeting). ¬ ((same_cell p.0.cell p.1.cell && same_cell p.0.met p.1.met) ≡ true)) (zip a b) k)
    → r ≡ same_meetings a b
same_by_meetings r a b l h =
    let t = all_tells (λ (p : Meeting × Meeting). (same_cell p.0.cell p.1.cell && same_cell p.0.met p.1.met) ≡ true) (λ p. ¬ ((same_cell p.0.cell p.1.cell && same_cell p.0.met p.1.met) ≡ true)) r (zip a b) (λ p e n. n e) h in
    both_ways r (same_meetings a b) (λ e. meetings_from a b l (t.0 e)) (λ e. t.1 (to_meetings a b e))
