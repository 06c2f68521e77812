-- The used cell maps between the rules of a list.
use Rattle.std.proofs.Common.{◌≡◌, ℕ, suc, ◌+◌, ◌<◌, ◌≤◌, Bool, true, false, List, [], ◌∷◌, ◌++◌, inl, inr, refl, sym, ◌∙◌, ap, length, take, get_or, arith, subst}
use Rattle.std.specs.Prelude.{map, not, nat_lt, ◌==◌}
use Rattle.std.proofs.lemmas.List.{get_or-map, length-map, map-append, take_more, take_all, get_or_default}
use Rattle.std.proofs.lemmas.Bool.{ne_eqb}
use Rattle.dx_base.specs.Members.{◌∈◌, here, there, Each}
use Rattle.dx_base.proofs.Members.{in_at, from_append, in_flat_map, from_map}
use Rattle.dx_model.specs.declared.rules.Cell.TheVariants.{Ex}
use Rattle.dx_model.specs.declared.rules.Atom.{Atom}
use Rattle.dx_model.specs.declared.rules.Rule.{Rule}
use Rattle.dx_model.specs.declared.covers.CellMap.{CellMap}
use Rattle.dx_model.specs.Rules.{cells_of, existential_in, existentials}
use Rattle.dx_model.specs.Covers.{apart, before, cell_maps, has_map, is_some, rule_at, used_maps}
use Rattle.dx_model.specs.Fitting.{AgreeInWidths, IsRule, ByFirstAppearance, conclusions_of}
use Rattle.dx_model.proofs.Frozen.{few_numbered}
use Rattle.dx_model.proofs.Cells.{few_existentials}
use Rattle.dx_cover.specs.Covering.{covers_of, maps_in}

-- ---- existential variables

numbered_below : (n : ℕ) (xs : List ℕ) (m v : ℕ) → ByFirstAppearance n xs m → v ∈ xs → v < m
numbered_below n [] m v h k = elim k [ ]
numbered_below n (x ∷ xs) m v (inl h) (here e) = let g = least n xs m h.1 in omega (arith, h.0, g)
  where
    least : (n : ℕ) (xs : List ℕ) (m : ℕ) → ByFirstAppearance n xs m → n ≤ m
    least n [] m h = omega (arith, h)
    least n (x ∷ xs) m (inl h) = least n xs m h.1
    least n (x ∷ xs) m (inr h) = let g = least (suc n) xs m h.1 in omega arith
numbered_below n (x ∷ xs) m v (inr h) (here e) = let g = least (suc n) xs m h.1 in omega (arith, h.0, g)
  where
    least : (n : ℕ) (xs : List ℕ) (m : ℕ) → ByFirstAppearance n xs m → n ≤ m
    least n [] m h = omega (arith, h)
    least n (x ∷ xs) m (inl h) = least n xs m h.1
    least n (x ∷ xs) m (inr h) = let g = least (suc n) xs m h.1 in omega arith
numbered_below n (x ∷ xs) m v (inl h) (there k) = numbered_below n xs m v h.1 k
numbered_below n (x ∷ xs) m v (inr h) (there k) = numbered_below (suc n) xs m v h.1 k

-- the existential variables of a rule have few numbers
pub existential_few : (d : Rule) → IsRule d → (v : ℕ) → Ex v ∈ cells_of d.conclusion → v < 4294967295
existential_few d r v m =
    let k : v ∈ existentials d.conclusion = in_flat_map existential_in m (here refl) in
    let a = numbered_below 0 (existentials d.conclusion) r.existentials.0 v r.existentials.1 k in
    let b = few_numbered 0 r.existentials.0 (existentials d.conclusion) r.existentials.1 in
    let c = few_existentials (cells_of d.conclusion) in
    let f = r.few_cells in
    omega arith

-- ---- widths

-- the conclusions of two rules of a list agree in their widths
pub two_agree : (R : List Rule) (i j : Rule) → AgreeInWidths (conclusions_of R) → i ∈ R → j ∈ R → AgreeInWidths (i.conclusion ++ j.conclusion)
two_agree R i j w m n = record {
  some = λ a k. w.some a (from a k);
  one = λ a k b l. w.one a (from a k) b (from b l);
}
  where
    from : (a : Atom) → a ∈ (i.conclusion ++ j.conclusion) → a ∈ conclusions_of R
    from a k = elim (from_append i.conclusion k) [ inl l ↦ in_flat_map (λ (d : Rule). d.conclusion) m l | inr l ↦ in_flat_map (λ (d : Rule). d.conclusion) n l ]

-- ---- look-ups

pub maps_at : (R : List Rule) (i j : ℕ) → i < length R → j < length R → maps_in (covers_of R) i j ≡ used_maps (rule_at R i) (rule_at R j)
maps_at R i j h k =
    ap (λ z. get_or z j []) (get_or-map (λ a. map (λ b. used_maps a b) R) R i (record { premise = []; derived = []; conclusion = [] }) [] h)
    ∙ get_or-map (λ b. used_maps (rule_at R i) b) R j (record { premise = []; derived = []; conclusion = [] }) [] k

-- there is a used cell map exactly if there is a cell map
pub used_some : (i j : Rule) → is_some (used_maps i j) ≡ has_map i j
used_some i j = go (cell_maps i j)
  where
    go : (ms : List CellMap) → is_some (take 16 (apart ms)) ≡ is_some ms
    go [] = refl
    go (m ∷ ms) = refl

-- one item more of a map
pub one_more : {X Y : Type 0} (f : X → Y) (xs : List X) (i : ℕ) (x : X) (ys zs : List Y) → i < length xs → x ≡ get_or xs i x → ys ≡ map f (take i xs) → zs ≡ ys ++ f x ∷ []
    → zs ≡ map f (take (i + 1) xs)
one_more f xs i x ys zs h e p q =
    q ∙ (ap (λ z. z ++ f x ∷ []) p ∙ (ap (λ z. map f (take i xs) ++ f z ∷ []) e ∙ (sym (map-append f (take i xs) (get_or xs i x ∷ [])) ∙ ap (map f) (sym (take_more xs i x h)))))

-- each row has as many lists as there are rows
pub is_square : (R : List Rule) (i : ℕ) (maps : List (List (List CellMap))) → length R ≤ i → maps ≡ map (λ a. map (λ b. used_maps a b) R) (take i R) → Each maps (λ row. length row ≡ length maps)
is_square R i maps h e row m =
    let q : maps ≡ covers_of R = e ∙ ap (map (λ a. map (λ b. used_maps a b) R)) (take_all i R h) in
    let w = from_map (λ a. map (λ b. used_maps a b) R) R (subst (λ z. row ∈ z) q m) in
    sym (ap length w.2) ∙ (length-map R (λ b. used_maps w.0 b) ∙ (sym (length-map R (λ a. map (λ b. used_maps a b) R)) ∙ ap length (sym q)))

-- the rows of a square are as long as it
pub row_wide : (maps : List (List (List CellMap))) (i : ℕ) (row : List (List CellMap)) → Each maps (λ r. length r ≡ length maps) → i < length maps → row ≡ get_or maps i row → length row ≡ length maps
row_wide maps i row s h e = s row (subst (λ z. z ∈ maps) (sym e) (in_at maps i row h))

pub found_maps : (maps : List (List (List CellMap))) (i j : ℕ) (row : List (List CellMap)) (ms : List CellMap) → i < length maps → j < length row → row ≡ get_or maps i row → ms ≡ get_or row j ms → ms ≡ maps_in maps i j
found_maps maps i j row ms h k e f =
    f ∙ (get_or_default row j ms [] k ∙ ap (λ z. get_or z j []) (e ∙ get_or_default maps i row [] h))

-- the same of lists that are the covers of rules
pub used_at : (R : List Rule) (covers : List (List (List CellMap))) (i j : ℕ) → covers ≡ covers_of R → i < length covers → j < length covers → maps_in covers i j ≡ used_maps (rule_at R i) (rule_at R j)
used_at R covers i j e h k =
    let l : length covers ≡ length R = ap length e ∙ length-map R (λ a. map (λ b. used_maps a b) R) in
    ap (λ z. maps_in z i j) e ∙ maps_at R i j (rw (← l) h) (rw (← l) k)

-- ---- the order of rules

-- whether there is a cell map
some_is : (ms : List CellMap) (b : Bool) → b ≡ (length ms == 0) → is_some ms ≡ not b
some_is [] b e = rw e refl
some_is (m ∷ ms) b e = let f : (length (m ∷ ms) == 0) ≡ false = ne_eqb (length (m ∷ ms)) 0 (λ q. omega (arith, q)) in rw (e, f) refl

module _ (R : List Rule) (i j : ℕ) (there back : List CellMap) (a b : Bool) (p : there ≡ used_maps (rule_at R i) (rule_at R j)) (e : a ≡ (length there == 0)) where
  leads : has_map (rule_at R i) (rule_at R j) ≡ not a
  leads = sym (used_some (rule_at R i) (rule_at R j)) ∙ (ap is_some (sym p) ∙ some_is there a e)

  leads_back : back ≡ used_maps (rule_at R j) (rule_at R i) → b ≡ (length back == 0) → has_map (rule_at R j) (rule_at R i) ≡ not b
  leads_back q f = sym (used_some (rule_at R j) (rule_at R i)) ∙ (ap is_some (sym q) ∙ some_is back b f)

  pub not_before : a ≡ true → not a ≡ before R j i
  not_before t = rw (leads, t) refl

  pub before_alone : a ≡ false → back ≡ used_maps (rule_at R j) (rule_at R i) → b ≡ (length back == 0) → b ≡ true → b ≡ before R j i
  before_alone f q g t = rw (leads, leads_back q g, f, t) refl

  pub before_tie : a ≡ false → back ≡ used_maps (rule_at R j) (rule_at R i) → b ≡ (length back == 0) → b ≡ false → nat_lt j i ≡ before R j i
  before_tie f q g t = rw (leads, leads_back q g, f, t) refl
