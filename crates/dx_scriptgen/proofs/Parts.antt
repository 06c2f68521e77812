-- The tests of used cell maps.
use Rattle.std.proofs.Common.{◌≡◌, ℕ, zero, suc, ◌<◌, true, false, cond, eqb, List, [], ◌∷◌, refl, sym, ◌∙◌, ap, subst, length, get_or, arith, inl, inr}
use Rattle.std.specs.Prelude.{map}
use Rattle.std.specs.List.{position_or_len}
use Rattle.std.proofs.lemmas.Bool.{cases_Bool, eq-eqb, eqb-true, ne_eqb}
use Rattle.std.proofs.lemmas.List.{get_or-map, length-map}
use Rattle.dx_base.specs.Members.{◌∈◌, here, there, Each}
use Rattle.dx_base.proofs.Members.{in_at, from_map, in_flat_map}
use Rattle.dx_base.proofs.Tests.{map_same}
use Rattle.dx_model.specs.declared.rules.Cell.{Cell}
use Rattle.dx_model.specs.declared.rules.Cell.TheVariants.{Var, Ex, Lit}
use Rattle.dx_model.specs.declared.rules.Atom.{Atom}
use Rattle.dx_model.specs.declared.rules.Rule.{Rule}
use Rattle.dx_model.specs.declared.covers.CellMap.{CellMap}
use Rattle.dx_model.specs.Rules.{Increase, exported}
use Rattle.dx_model.specs.Covers.{HasWidths, IsNoExistential, below, cell_under, first_met, image_of, map_of, used_maps}
use Rattle.dx_model.proofs.Lists.{from_below}
use Rattle.dx_model.proofs.Canonical.{exported_exactly}
use Rattle.dx_model.proofs.Before.{from_used}
use Rattle.dx_model.proofs.Carrying.{maps_carry}
use Rattle.dx_model.specs.Fitting.{AgreeInWidths, conclusions_of}
use Rattle.dx_script.proofs.MatchTables.{index_of}
use Rattle.dx_script.specs.Rewritten.{test_of, tests_of}
use Rattle.dx_script.proofs.Fitted.{at_below, length_map_below}
use Rattle.dx_scriptgen.specs.Parts.{test_for, tests_for}

-- a used cell map has an image for each exported variable
pub as_long : (i j : Rule) (m : CellMap) → m ∈ used_maps i j → length m.exported ≡ length (exported i)
as_long i j m u =
    let w = from_map (map_of i) _ (from_used i j m u) in
    subst (λ (z : CellMap). length z.exported ≡ length (exported i)) w.2 (length-map (exported i) (λ x. first_met (Var x) w.0))

-- ---- places of increasing numbers

position_is : (xs : List ℕ) (p : ℕ) → Increase xs → p < length xs → position_or_len (eqb (get_or xs p 0)) xs ≡ p
position_is [] p i h = absurd (omega arith)
position_is (x ∷ xs) zero i h = rw (eq-eqb x x refl) refl
position_is (x ∷ xs) (suc p) i h =
    let l : x < get_or xs p 0 = i.0 (get_or xs p 0) (in_at xs p 0 (omega arith)) in
    let f : eqb (get_or xs p 0) x ≡ false = ne_eqb (get_or xs p 0) x (λ e. omega (arith, e, l)) in
    let r = position_is xs p i.1 (omega arith) in
    rw (f, r) (omega arith)

image_is : (xs : List ℕ) (cs : List Cell) (p : ℕ) → Increase xs → p < length xs → length cs ≡ length xs → image_of xs cs (get_or xs p 0) ≡ get_or cs p (Ex 0)
image_is [] cs p i h l = absurd (omega arith)
image_is (x ∷ xs) [] p i h l = absurd (omega (arith, l))
image_is (x ∷ xs) (c ∷ cs) zero i h l = rw (eq-eqb x x refl) refl
image_is (x ∷ xs) (c ∷ cs) (suc p) i h l =
    let k : x < get_or xs p 0 = i.0 (get_or xs p 0) (in_at xs p 0 (omega arith)) in
    let f : eqb (get_or xs p 0) x ≡ false = ne_eqb (get_or xs p 0) x (λ e. omega (arith, e, k)) in
    rw f (image_is xs cs p i.1 (omega arith) (omega (arith, l)))

-- a map over a list is one over its places
by_places : {Y : Type 0} (f : ℕ → Y) (xs : List ℕ) → map f xs ≡ map (λ p. f (get_or xs p 0)) (below (length xs))
by_places f xs = same_lists (map f xs) (map (λ p. f (get_or xs p 0)) (below (length xs))) (length-map xs f ∙ sym (length_map_below (λ p. f (get_or xs p 0)) (length xs)))
    (λ p d h.
    let l : p < length xs = rw (length-map xs f) at h in
    get_or-map f xs p 0 d l ∙ sym (at_below (λ q. f (get_or xs q 0)) (length xs) p d l))
  where
    same_lists : {Y : Type 0} (ys zs : List Y) → length ys ≡ length zs → ((p : ℕ) (d : Y) → p < length ys → get_or ys p d ≡ get_or zs p d) → ys ≡ zs
    same_lists [] [] l h = refl
    same_lists [] (b ∷ zs) l h = absurd (omega (arith, l))
    same_lists (a ∷ ys) [] l h = absurd (omega (arith, l))
    same_lists (a ∷ ys) (b ∷ zs) l h =
        let e : a ≡ b = h 0 a (omega arith) in
        let r : ys ≡ zs = same_lists ys zs (omega (arith, l)) (λ p d k. h (suc p) d (omega (arith, k))) in
        cc

same_test : (i j : Rule) (x : ℕ) (c : Cell) → test_of i j x c ≡ test_for (exported j) (position_or_len (eqb x) (exported i)) c
same_test i j x (Var y) = refl
same_test i j x (Lit t) = refl
same_test i j x (Ex v) = refl

-- the tests by places are those of the cell map
pub tests_are : (i j : Rule) (m : CellMap) → m ∈ used_maps i j → tests_for (exported j) m.exported ≡ tests_of i j m
tests_are i j m u =
    let l = as_long i j m u in
    let up : Increase (exported i) = (exported_exactly i).0 in
    ap (λ n. map (λ own. test_for (exported j) own (get_or m.exported own (Ex 0))) (below n)) l
    ∙ (map_same (λ own. test_for (exported j) own (get_or m.exported own (Ex 0))) (λ p. test_of i j (get_or (exported i) p 0) (cell_under i m (Var (get_or (exported i) p 0)))) (below (length (exported i))) (λ p n.
    let h : p < length (exported i) = from_below p (length (exported i)) n in
    ap (λ c. test_for (exported j) p c) (sym (image_is (exported i) m.exported p up h l))
    ∙ (ap (λ q. test_for (exported j) q (image_of (exported i) m.exported (get_or (exported i) p 0))) (sym (position_is (exported i) p up h))
    ∙ sym (same_test i j (get_or (exported i) p 0) (cell_under i m (Var (get_or (exported i) p 0))))))
    ∙ sym (by_places (λ x. test_of i j x (cell_under i m (Var x))) (exported i)))

-- the images of exported variables are known
pub images_known : (width : ℕ → ℕ) (i j : Rule) (m : CellMap) → HasWidths width i → HasWidths width j → m ∈ used_maps i j → Each m.exported IsNoExistential
images_known width i j m a b u c n =
    let l = as_long i j m u in
    let up : Increase (exported i) = (exported_exactly i).0 in
    let q = index_of m.exported c (Ex 0) n in
    let h : q.0 < length (exported i) = rw (← l) q.1 in
    let x : ℕ = get_or (exported i) q.0 0 in
    let carried = maps_carry width i j m a b (from_used i j m u) in
    let known : IsNoExistential (cell_under i m (Var x)) = carried.known x (((exported_exactly i).1 x).0 (in_at (exported i) q.0 0 h)) in
    subst IsNoExistential (image_is (exported i) m.exported q.0 up h l ∙ q.2) known

-- atoms of one table that have one width have the widths of some function
abbrev width_in : List Atom → ℕ → ℕ
width_in [] t = 0
width_in (a ∷ atoms) t = cond (eqb a.table t) (length a.cells) (width_in atoms t)

width_found : (atoms : List Atom) → AgreeInWidths atoms → (a : Atom) → a ∈ atoms → length a.cells ≡ width_in atoms a.table
width_found atoms w a m = go atoms (λ b n. w.one a m b n) m
  where
    go : (bs : List Atom) → ((b : Atom) → b ∈ bs → a.table ≡ b.table → length a.cells ≡ length b.cells) → a ∈ bs → length a.cells ≡ width_in bs a.table
    go [] h n = elim n [ ]
    go (b ∷ bs) h n = elim (cases_Bool (eqb b.table a.table)) [
      | inl t ↦ rw t (h b (here refl) (sym (eqb-true b.table a.table t)))
      | inr f ↦ rw f (go bs (λ d k. h d (there k)) (later f n))
    ]
      where
        later : eqb b.table a.table ≡ false → a ∈ (b ∷ bs) → a ∈ bs
        later f (here e) = let t : eqb b.table a.table ≡ true = eq-eqb b.table a.table (ap (λ (z : Atom). z.table) e) in cc
        later f (there k) = k

-- the images of exported variables, among rules whose conclusions agree in their widths
pub known_among : (R : List Rule) (i j : Rule) (m : CellMap) → AgreeInWidths (conclusions_of R) → i ∈ R → j ∈ R → m ∈ used_maps i j → Each m.exported IsNoExistential
known_among R i j m w a b u =
    images_known (width_in (conclusions_of R)) i j m
    (λ c n. width_found (conclusions_of R) w c (in_flat_map (λ (d : Rule). d.conclusion) a n))
    (λ c n. width_found (conclusions_of R) w c (in_flat_map (λ (d : Rule). d.conclusion) b n)) u
