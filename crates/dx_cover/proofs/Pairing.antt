-- Choices for the atoms of the rest, looked at two by two.
use Rattle.std.proofs.Common.{◌≡◌, ℕ, ◌+◌, ◌<◌, true, false, List, [], ◌∷◌, ◌++◌, inl, inr, refl, sym, ◌∙◌, ap, subst, length, get_or, take, Bor, arith}
use Rattle.std.specs.Prelude.{map, ◌⊎◌, ◌==◌}
use Rattle.std.proofs.lemmas.Bool.{cases_Bool, eqb-true}
use Rattle.std.proofs.lemmas.List.{get_or_default, map-append}
use Rattle.dx_base.specs.Members.{◌∈◌, Each, behind, here, there}
use Rattle.dx_base.proofs.Members.{from_append, from_map, in_left, in_right, in_map, item_in}
use Rattle.dx_base.proofs.Loops.{each_more}
use Rattle.dx_model.specs.declared.rules.Cell.{Cell}
use Rattle.dx_model.specs.declared.rules.Cell.TheVariants.{Ex}
use Rattle.dx_model.specs.declared.rules.Atom.{Atom}
use Rattle.dx_model.specs.declared.rules.Rule.{Rule}
use Rattle.dx_model.specs.declared.covers.Meeting.{Meeting}
use Rattle.dx_model.specs.Covers.{choices, first_met, is_cell_map, map_of, meet, meetings, same_cell}
use Rattle.dx_model.proofs.Carrying.{same_cell-refl, same_cell-true}
use Rattle.dx_cover.specs.declared.pairs.Place.{Place}
use Rattle.dx_cover.specs.Pairs.{Disagree, ExcludeEachOther, HasLeft, IsNeverChosen, IsSameAt, IsShared, IsWithin}
use Rattle.dx_cover.specs.Partners.{IsExcluded}
use Rattle.dx_cover.specs.Search.{maps_under}
use Rattle.dx_cover.proofs.Choosing.{both_pass, chosen_one, meets_at}
use Rattle.dx_cover.proofs.Searching.{filter_none}

-- ---- two atoms

-- in a cell map a cell meets what it meets first
first_is_met : (ms : List Meeting) (m : Meeting) → m ∈ ms → is_cell_map ms ≡ true → first_met m.cell ms ≡ m.met
first_is_met ms m k t = same_cell-true (first_met m.cell ms) m.met (both_pass ms m k t).0

-- what has different cells in a place that is shared excludes each other
pub disagree_excludes : (places : List Place) (a b c d : Atom) → Each places (IsShared a c) → length a.cells ≡ length b.cells → length c.cells ≡ length d.cells
    → Disagree places b d → ExcludeEachOther a b c d
disagree_excludes places a b c d s k l w more x y = elim (cases_Bool (is_cell_map more)) [
  | inl t ↦
      let p = w.0 in
      let q = s p w.1 in
      let u = at a.cells b.cells p.own q.0.0 k in
      let v = at c.cells d.cells p.its q.0.1 l in
      let own = first_is_met more u.0 (x u.0 u.1) t in
      let its = first_is_met more v.0 (y v.0 v.1) t in
      let same : u.0.cell ≡ v.0.cell = u.2 ∙ (q.1 ∙ sym v.2) in
      absurd (w.2 (sym u.3 ∙ (sym own ∙ (ap (λ z. first_met z more) same ∙ (its ∙ v.3)))))
  | inr f ↦ f
]
  where
    at : (cs es : List Cell) (i : ℕ) → i < length cs → length cs ≡ length es
        → (m : Meeting) × (m ∈ meet cs es) × (m.cell ≡ get_or cs i (Ex 0)) × (m.met ≡ get_or es i (Ex 0))
    at cs es i h e =
        meets_at cs es i (get_or cs i (Ex 0)) (get_or es i (Ex 0)) h e (sym (get_or_default cs i (get_or cs i (Ex 0)) (Ex 0) h))
        (sym (get_or_default es i (get_or es i (Ex 0)) (Ex 0) (subst (λ z. i < z) e h)))

-- ---- what is left

-- what the meetings exclude is never chosen
pub excluded_never : (bound : List Meeting) (rest others : List Atom) (a b : Atom) → IsExcluded bound a b → IsNeverChosen bound rest others a b
excluded_never bound rest others a b x bs k s = x (meetings rest bs) s

-- nor is what excludes all that is left for another atom
pub unsupported : (bound : List Meeting) (rest others : List Atom) (a b c : Atom) (left : List Atom) → HasLeft bound rest others c left → Each left (ExcludeEachOther a b c) → IsNeverChosen bound rest others a b
unsupported bound rest others a b c left h e bs k s =
    let w = chosen_one rest others bs c h.own k in
    elim (h.all w.0 w.1 w.2) [
      | inl m ↦ e w.0 m (bound ++ meetings rest bs) (λ x p. in_right bound (s x p)) (λ x p. in_right bound (w.3 x p))
      | inr n ↦ n bs k w.3
    ]

-- with nothing left for an atom there is no cell map
pub none_left : (i : Rule) (bound : List Meeting) (rest others : List Atom) (a : Atom) (left : List Atom) → left ≡ [] → HasLeft bound rest others a left → maps_under i bound rest others ≡ []
none_left i bound rest others a left e h =
    ap (map (map_of i)) (filter_none is_cell_map (map (λ bs. bound ++ meetings rest bs) (choices rest others)) (λ ms k.
    let w = from_map (λ bs. bound ++ meetings rest bs) (choices rest others) k in
    let b = chosen_one rest others w.0 a h.own w.1 in
    subst (λ z. is_cell_map z ≡ false) w.2 (elim (h.all b.0 b.1 b.2) [ inl m ↦ elim (subst (λ z. b.0 ∈ z) e m) [ ] | inr n ↦ n w.0 w.1 b.3 ])))

-- ---- one item after the other

-- what is behind one reference more
pub behind_push : (rs new : List (Bor Atom)) (r : Bor Atom) → new ≡ rs ++ r ∷ [] → behind new ≡ behind rs ++ r.now ∷ []
behind_push rs new r e = ap behind e ∙ map-append (λ (r : Bor Atom). r.now) rs (r ∷ [])

-- what each item has, and one more
pub each_pushed : {X : Type 0} (P : X → Type 0) (xs new : List X) (x : X) → new ≡ xs ++ x ∷ [] → Each xs P → P x → Each new P
each_pushed {X} P xs new x e h p y m = elim (from_append xs (subst (λ z. y ∈ z) e m)) [ inl l ↦ h y l | inr r ↦ last r ]
  where
    last : y ∈ (x ∷ []) → P y
    last (here d) = subst P d p
    last (there n) = elim n [ ]

-- each of the first items is left or never chosen, with one more that is left
pub one_left : {X : Type 0} (f : X → Atom) (N T : Atom → Type 0) (xs : List X) (i : ℕ) (x : X) (left new : List Atom) → i < length xs → x ≡ get_or xs i x → new ≡ left ++ f x ∷ []
    → Each (take i xs) (λ b. T (f b) → (f b ∈ left) ⊎ N (f b)) → Each (take (i + 1) xs) (λ b. T (f b) → (f b ∈ new) ⊎ N (f b))
one_left f N T xs i x left new h e n old =
    each_more (λ b. T (f b) → (f b ∈ new) ⊎ N (f b)) xs i x h e
    (λ b m t. elim (old b m t) [ inl l ↦ inl (subst (λ z. f b ∈ z) (sym n) (in_left (f x ∷ []) l)) | inr r ↦ inr r ])
    (λ t. inl (subst (λ z. f x ∈ z) (sym n) (in_right left (here refl))))

-- or with one more that is never chosen
pub one_out : {X : Type 0} (f : X → Atom) (N T : Atom → Type 0) (xs : List X) (i : ℕ) (x : X) (left : List Atom) → i < length xs → x ≡ get_or xs i x → (T (f x) → N (f x))
    → Each (take i xs) (λ b. T (f b) → (f b ∈ left) ⊎ N (f b)) → Each (take (i + 1) xs) (λ b. T (f b) → (f b ∈ left) ⊎ N (f b))
one_out f N T xs i x left h e n old = each_more (λ b. T (f b) → (f b ∈ left) ⊎ N (f b)) xs i x h e old (λ t. inr (n t))

-- ---- cells in places

-- two cells that are not the same, in these places
pub not_same_at : (b d : Atom) (p : Place) (x y : Cell) → IsWithin b d p → x ≡ get_or b.cells p.own x → y ≡ get_or d.cells p.its y → same_cell x y ≡ false → ¬ (IsSameAt b d p)
not_same_at b d p x y w e f n same =
    let own : x ≡ get_or b.cells p.own (Ex 0) = e ∙ get_or_default b.cells p.own x (Ex 0) w.0 in
    let its : y ≡ get_or d.cells p.its (Ex 0) = f ∙ get_or_default d.cells p.its y (Ex 0) w.1 in
    let z : x ≡ y = own ∙ (same ∙ sym its) in
    let t : same_cell x y ≡ true = ap (same_cell x) (sym z) ∙ same_cell-refl x in
    absurd (cc)

-- two cells that are the same, in these places
pub same_at : (a c : Atom) (i j : ℕ) (x y : Cell) → i < length a.cells → j < length c.cells → x ≡ get_or a.cells i x → y ≡ get_or c.cells j y → same_cell x y ≡ true → IsShared a c (record { own = i; its = j })
same_at a c i j x y h k e f t =
    ((h, k), sym (e ∙ get_or_default a.cells i x (Ex 0) h) ∙ (same_cell-true x y t ∙ (f ∙ get_or_default c.cells j y (Ex 0) k)))

-- ---- behind references

-- what is behind the reference in a place
pub behind_item : (rs : List (Bor Atom)) (i : ℕ) (r : Bor Atom) → i < length rs → r ≡ get_or rs i r → r.now ∈ behind rs
behind_item rs i r h e = in_map (λ (r : Bor Atom). r.now) (item_in rs i r h e)

-- what each of the references has, each atom behind them has
pub each_behind : (P : Atom → Type 0) (rs : List (Bor Atom)) → Each rs (λ r. P r.now) → Each (behind rs) P
each_behind P rs h x m = let w = from_map (λ (r : Bor Atom). r.now) rs m in subst P w.2 (h w.0 w.1)

-- behind no references there is nothing
pub none_behind : (rs : List (Bor Atom)) (n : ℕ) → n ≡ length rs → (n == 0) ≡ true → behind rs ≡ []
none_behind [] n h e = refl
none_behind (r ∷ rs) n h e = absurd (omega (arith, eqb-true n 0 e, h))
