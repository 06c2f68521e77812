-- Atoms for which none of the others can be chosen.
use Rattle.std.proofs.Common.{◌≡◌, ◌<◌, ℕ, zero, suc, Bool, true, false, List, [], ◌∷◌, ◌++◌, inl, inr, refl, sym, ◌∙◌, ap, subst, arith, length, get_or}
use Rattle.std.specs.Prelude.{◌&&◌, eqb, map, not}
use Rattle.std.specs.List.{filter, zip}
use Rattle.std.proofs.lemmas.Bool.{and_parts, cases_Bool, eqb-true}
use Rattle.dx_base.specs.Members.{◌∈◌, ◌⊆◌, here, there}
use Rattle.dx_base.proofs.Members.{from_flat_map, from_map, in_left, in_right}
use Rattle.dx_base.proofs.Tests.{from_all, from_filter}
use Rattle.dx_model.specs.declared.rules.Cell.{Cell}
use Rattle.dx_model.specs.declared.rules.Atom.{Atom}
use Rattle.dx_model.specs.declared.rules.Rule.{Rule}
use Rattle.dx_model.specs.declared.covers.Meeting.{Meeting}
use Rattle.dx_model.specs.Covers.{choices, first_met, is_cell_map, map_of, may_meet, meet, meetings, same_cell}
use Rattle.dx_cover.specs.Partners.{HasNoChoice, IsExcluded, NeverMeet}
use Rattle.dx_cover.specs.Search.{branch, has_met_in, maps_under}
use Rattle.dx_cover.proofs.Extending.{chosen, met_one}
use Rattle.dx_cover.proofs.Searching.{filter_none, first_kept, no_map_no_more}

-- ---- a cell

-- a meeting of a cell map passes both tests
pub both_pass : (ms : List Meeting) (m : Meeting) → m ∈ ms → is_cell_map ms ≡ true → (same_cell (first_met m.cell ms) m.met ≡ true) × (may_meet m.cell m.met ≡ true)
both_pass ms m k t =
    and_parts (same_cell (first_met m.cell ms) m.met) (may_meet m.cell m.met) (from_all (λ (m : Meeting). same_cell (first_met m.cell ms) m.met && may_meet m.cell m.met) ms t k)

pub not_allowed : (bound : List Meeting) (cell met : Cell) → may_meet cell met ≡ false → NeverMeet bound cell met
not_allowed bound cell met n more m k c d = elim (cases_Bool (is_cell_map (bound ++ more))) [
  | inl t ↦ let p = (both_pass (bound ++ more) m (in_right bound k) t).1 in let q = rw (c, d) at p in absurd (cc (q, n))
  | inr f ↦ f
]

pub met_another : (bound : List Meeting) (cell met : Cell) → has_met_in bound cell ≡ true → same_cell (first_met cell bound) met ≡ false → NeverMeet bound cell met
met_another bound cell met h n more m k c d = elim (cases_Bool (is_cell_map (bound ++ more))) [
  | inl t ↦
      let o = met_one cell bound h in
      let e = first_kept cell bound more o.0 o.1 o.2 in
      let p = (both_pass (bound ++ more) m (in_right bound k) t).0 in
      let q = rw (c, d, e) at p in
      absurd (cc (q, n))
  | inr f ↦ f
]

pub turned : (b : Bool) → not b ≡ true → b ≡ false
turned true h = absurd (cc h)
turned false h = refl

-- ---- an atom

pub meets_at : (cs es : List Cell) (i : ℕ) (c d : Cell) → i < length cs → length cs ≡ length es → c ≡ get_or cs i c → d ≡ get_or es i d → (m : Meeting) × (m ∈ meet cs es) × (m.cell ≡ c) × (m.met ≡ d)
meets_at [] es i c d h l e f = absurd (omega (arith, h))
meets_at (x ∷ cs) [] i c d h l e f = absurd (omega (arith, l))
meets_at (x ∷ cs) (y ∷ es) zero c d h l e f = (record { cell = x; met = y }, here refl, sym e, sym f)
meets_at (x ∷ cs) (y ∷ es) (suc i) c d h l e f = let w = meets_at cs es i c d (omega (arith, h)) (omega (arith, l)) e f in (w.0, there w.1, w.2, w.3)

pub excluded_at : (bound : List Meeting) (a b : Atom) (i : ℕ) (c d : Cell) → i < length a.cells → length a.cells ≡ length b.cells → c ≡ get_or a.cells i c → d ≡ get_or b.cells i d
    → NeverMeet bound c d → IsExcluded bound a b
excluded_at bound a b i c d h l e f n more s = let w = meets_at a.cells b.cells i c d h l e f in n more w.0 (s w.0 w.1) w.2 w.3

meets_in_zip : (cs es : List Cell) (p : Cell × Cell) → p ∈ zip cs es → (m : Meeting) × (m ∈ meet cs es) × (m.cell ≡ p.0) × (m.met ≡ p.1)
meets_in_zip [] es p m = elim m [ ]
meets_in_zip (c ∷ cs) [] p m = elim m [ ]
meets_in_zip (c ∷ cs) (e ∷ es) p (here q) = (record { cell = c; met = e }, here refl, ap (λ (z : Cell × Cell). z.0) q, ap (λ (z : Cell × Cell). z.1) q)
meets_in_zip (c ∷ cs) (e ∷ es) p (there k) = let w = meets_in_zip cs es p k in (w.0, there w.1, w.2, w.3)

pub excluded_by : (bound : List Meeting) (a b : Atom) (p : Cell × Cell) → p ∈ zip a.cells b.cells → NeverMeet bound p.0 p.1 → IsExcluded bound a b
excluded_by bound a b p k n more s = let w = meets_in_zip a.cells b.cells p k in n more w.0 (s w.0 w.1) w.2 w.3

-- ---- the rest

-- what is chosen for an atom is one of the others, and their meetings are among those of all
pub chosen_one : (rest others bs : List Atom) (a : Atom) → a ∈ rest → bs ∈ choices rest others → (b : Atom) × (b ∈ others) × (a.table ≡ b.table) × (meet a.cells b.cells ⊆ meetings rest bs)
chosen_one [] others bs a m k = elim m [ ]
chosen_one (x ∷ rest) others bs a m k =
    let w = from_flat_map (λ (b : Atom). map (λ bs. b ∷ bs) (choices rest others)) (filter (λ (b : Atom). eqb x.table b.table) others) k in
    let f = from_filter (λ (b : Atom). eqb x.table b.table) others w.1 in
    let c = from_map (λ bs. w.0 ∷ bs) (choices rest others) w.2 in
    subst (λ bs. (b : Atom) × (b ∈ others) × (a.table ≡ b.table) × (meet a.cells b.cells ⊆ meetings (x ∷ rest) bs)) c.2 (by w.0 c.0 f.0 (eqb-true x.table w.0.table f.1) c.1 (λ l. chosen_one rest others c.0 a l c.1) m)
  where
    by : (first : Atom) (cs : List Atom) → first ∈ others → x.table ≡ first.table → cs ∈ choices rest others
        → (a ∈ rest → (b : Atom) × (b ∈ others) × (a.table ≡ b.table) × (meet a.cells b.cells ⊆ meetings rest cs)) → a ∈ (x ∷ rest)
        → (b : Atom) × (b ∈ others) × (a.table ≡ b.table) × (meet a.cells b.cells ⊆ meetings (x ∷ rest) (first ∷ cs))
    by first cs n t q later (here e) = subst (λ z. (b : Atom) × (b ∈ others) × (z.table ≡ b.table) × (meet z.cells b.cells ⊆ meetings (x ∷ rest) (first ∷ cs))) e (first, n, t, λ y p. in_left (meetings rest cs) p)
    by first cs n t q later (there l) = let r = later l in (r.0, r.1, r.2, λ y p. in_right (meet x.cells first.cells) (r.3 y p))

pub no_partner : (i : Rule) (bound : List Meeting) (rest others : List Atom) (a : Atom) → a ∈ rest → HasNoChoice bound others a → maps_under i bound rest others ≡ []
no_partner i bound rest others a m none =
    ap (map (map_of i)) (filter_none is_cell_map (map (λ bs. bound ++ meetings rest bs) (choices rest others)) (λ ms k.
    let w = from_map (λ bs. bound ++ meetings rest bs) (choices rest others) k in
    let b = chosen_one rest others w.0 a m w.1 in
    subst (λ z. is_cell_map z ≡ false) w.2 (none b.0 b.1 b.2 (meetings rest w.0) b.3)))

-- what the meetings exclude gives no cell map
pub excluded_branch : (i : Rule) (bound : List Meeting) (a : Atom) (rest others : List Atom) (b : Atom) → a.table ≡ b.table → IsExcluded bound a b → branch i bound a rest others b ≡ []
excluded_branch i bound a rest others b e x =
    sym (chosen i bound a rest others b e) ∙ no_map_no_more i (bound ++ meet a.cells b.cells) rest others (x (meet a.cells b.cells) (λ m k. k))
