-- A pruned list is its own pruned list, and no test of it passes a limit that no test of the list passes.
use Rattle.std.proofs.Common.{◌≡◌, ℕ, ◌≤◌, inl, inr, Bool, true, false, cond, List, [], ◌∷◌, ◌++◌, refl, sym, ◌∙◌, ap, subst, arith, append_assoc}
use Rattle.std.specs.List.{filter}
use Rattle.std.proofs.lemmas.List.{append-nil}
use Rattle.dx_base.specs.Members.{◌∈◌, ◌⊆◌, here, there, Each}
use Rattle.dx_base.proofs.Members.{from_append, in_left, in_right}
use Rattle.dx_base.proofs.Tests.{from_filter}
use Rattle.dx_model.specs.declared.facts.Fact.{Fact}
use Rattle.dx_model.specs.declared.rules.Rule.{Rule}
use Rattle.dx_model.specs.Values.{Conversions, Rows}
use Rattle.dx_model.specs.Rules.{AreRows}
use Rattle.dx_model.specs.Fitting.{IsRule}
use Rattle.dx_model.specs.Following.{CanGo, PrunedAfter, are_none, underived}
use Rattle.dx_model.proofs.Lists.{in_filter}
use Rattle.dx_model.proofs.Pruning.{part_after, one_after}
use Rattle.dx_model.proofs.RowsExist.{rows_of_all, rows_of_all_exist}
use Rattle.dx_tgd.specs.Counting.{canonical_cells}
use Rattle.dx_implies.specs.Frozen.{PassesFrozen, frozen_premise}
use Rattle.dx_implies.specs.Pruning.{IsPrunedAlways, PruningPassesLimit}
use Rattle.dx_implies.proofs.Plain.{all_rows_any, go_any, underived_plain}

-- some conversions: on rules without derived variables nothing depends on them
abbrev none : Conversions
none code texts = []

-- ---- the pruned list again

underived_more : (others more : List Rule) → others ⊆ more → underived others ⊆ underived more
underived_more others more s d m = let f = from_filter (λ (r : Rule). are_none r.derived) others m in in_filter (λ (r : Rule). are_none r.derived) more f.1 (s d f.0)

-- what can go beside some can go beside more
go_more : (convert : Conversions) (others more : List Rule) (d : Rule) → others ⊆ more → CanGo convert others d → CanGo convert more d
go_more convert others more d s g = (g.0, λ I K all. g.1 I K (λ r m. all r (underived_more others more s r m)))

both_within : (xs ys us vs : List Rule) → xs ⊆ ys → us ⊆ vs → (xs ++ us) ⊆ (ys ++ vs)
both_within xs ys us vs s t d m = elim (from_append xs m) [ inl k ↦ in_left vs (s d k) | inr k ↦ in_right ys (t d k) ]

-- beside fewer rules in front, nothing of what was left is dropped
left_again : (convert : Conversions) (front fewer R P : List Rule) → fewer ⊆ front → PrunedAfter convert front R P → PrunedAfter convert fewer P P
left_again convert front fewer [] P s p = subst (λ (Q : List Rule). PrunedAfter convert fewer Q Q) (sym p) refl
left_again convert front fewer (d ∷ R) P s (kept, behind, inl (g, is)) =
    subst (λ (Q : List Rule). PrunedAfter convert fewer Q Q) (sym is) (left_again convert (front ++ d ∷ []) fewer R kept (λ e m. in_left (d ∷ []) (s e m)) behind)
left_again convert front fewer (d ∷ R) P s (kept, behind, inr (n, is)) =
    let rest = left_again convert (front ++ d ∷ []) (fewer ++ d ∷ []) R kept (both_within fewer front (d ∷ []) (d ∷ []) s (λ e m. m)) behind in
    subst (λ (Q : List Rule). PrunedAfter convert fewer Q Q) (sym is)
    (kept, rest, inr ((λ g. n (go_more convert (fewer ++ kept) (front ++ kept) d (both_within fewer front kept kept s (λ e m. m)) g)), refl))

pub pruned_again : (R P : List Rule) → IsPrunedAlways R P → IsPrunedAlways P P
pruned_again R P left convert = left_again convert [] [] R P (λ d m. m) (left convert)

-- ---- one list is left, whatever conversions do

left_any : (convert other : Conversions) (front R P : List Rule) → PrunedAfter convert front R P → PrunedAfter other front R P
left_any convert other front [] P p = p
left_any convert other front (d ∷ R) P (kept, behind, inl (g, is)) = (kept, left_any convert other (front ++ d ∷ []) R kept behind, inl (go_any convert other (front ++ kept) d g, is))
left_any convert other front (d ∷ R) P (kept, behind, inr (n, is)) = (kept, left_any convert other (front ++ d ∷ []) R kept behind, inr ((λ g. n (go_any other convert (front ++ kept) d g)), is))

-- ---- a part of a list, in its order

data Part : List Rule → List Rule → Type 0 where
  no_rule : Part [] []
  left_out : {xs ys : List Rule} (d : Rule) → Part xs ys → Part xs (d ∷ ys)
  taken_in : {xs ys : List Rule} (d : Rule) → Part xs ys → Part (d ∷ xs) (d ∷ ys)

whole : (xs : List Rule) → Part xs xs
whole [] = no_rule
whole (d ∷ xs) = taken_in d (whole xs)

parts_joined : (xs ys us vs : List Rule) → Part xs ys → Part us vs → Part (xs ++ us) (ys ++ vs)
parts_joined _ _ us vs no_rule q = q
parts_joined xs _ us vs (left_out {ys = ys} d p) q = left_out d (parts_joined xs ys us vs p q)
parts_joined _ _ us vs (taken_in {xs = xs} {ys = ys} d p) q = taken_in d (parts_joined xs ys us vs p q)

part_members : (xs ys : List Rule) → Part xs ys → xs ⊆ ys
part_members _ _ no_rule d m = m
part_members xs _ (left_out {ys = ys} e p) d m = there (part_members xs ys p d m)
part_members _ _ (taken_in e p) d (here is) = here is
part_members _ _ (taken_in {xs = xs} {ys = ys} e p) d (there m) = there (part_members xs ys p d m)

part_filtered : (p : Rule → Bool) (xs ys : List Rule) → Part xs ys → Part (filter p xs) (filter p ys)
part_filtered p _ _ no_rule = no_rule
part_filtered p xs _ (left_out {ys = ys} d q) = go (p d) (part_filtered p xs ys q)
  where
    go : (b : Bool) → Part (filter p xs) (filter p ys) → Part (filter p xs) (cond b (d ∷ filter p ys) (filter p ys))
    go true r = left_out d r
    go false r = r
part_filtered p _ _ (taken_in {xs = xs} {ys = ys} d q) = go (p d) (part_filtered p xs ys q)
  where
    go : (b : Bool) → Part (filter p xs) (filter p ys) → Part (cond b (d ∷ filter p xs) (filter p xs)) (cond b (d ∷ filter p ys) (filter p ys))
    go true r = taken_in d r
    go false r = r

-- ---- cells

-- the rows of a part of the rules, which make no more cells
record HasFewerCells (convert : Conversions) (U : List Rule) (I : List Fact) (most : ℕ) : Type 0 where
  rows : Rows
  are : AreRows convert U I rows
  few : canonical_cells U rows ≤ most

part_rows : (convert : Conversions) (U V : List Rule) (I : List Fact) (rows : Rows) → Part U V → AreRows convert V I rows → HasFewerCells convert U I (canonical_cells V rows)
part_rows convert _ _ I rows no_rule are = record { rows = []; are = tt; few = omega arith }
part_rows convert U _ I [] (left_out d p) are = absurd are
part_rows convert U _ I (ts ∷ rows) (left_out {ys = V} d p) are = let r = part_rows convert U V I rows p are.1 in let few = r.few in record { rows = r.rows; are = r.are; few = omega (arith, few) }
part_rows convert _ _ I [] (taken_in d p) are = absurd are
part_rows convert _ _ I (ts ∷ rows) (taken_in {xs = U} {ys = V} d p) are =
    let r = part_rows convert U V I rows p are.1 in
    let few = r.few in
    record { rows = ts ∷ r.rows; are = (are.0, r.are); few = omega (arith, few) }

frozen_more : (limit : ℕ) (xs ys : List Rule) (d : Rule) → Part xs ys → Each (underived ys) IsRule → PassesFrozen limit (underived xs) d → PassesFrozen limit (underived ys) d
frozen_more limit xs ys d part rules p =
    let U = underived xs in
    let V = underived ys in
    let w = rows_of_all_exist none V (frozen_premise d) rules in
    let s = part_rows none U V (frozen_premise d) w.0 (part_filtered (λ (r : Rule). are_none r.derived) xs ys part) w.1 in
    let same : canonical_cells U p.rows ≡ canonical_cells U s.rows = ap (canonical_cells U) (rows_of_all none U (frozen_premise d) p.rows s.rows (p.are none) s.are).0 in
    let more = p.more in
    let few = s.few in
    record { rows = w.0; are = λ convert. all_rows_any none convert V (frozen_premise d) w.0 (underived_plain ys) w.1; more = omega (arith, same, more, few) }

-- ---- tests

-- where a rule of what is left stood
record Stood (outer R f : List Rule) (r : Rule) (b : List Rule) : Type 0 where
  front : List Rule
  back : List Rule
  is : R ≡ front ++ r ∷ back
  part : Part f front
  behind : PrunedAfter none ((outer ++ front) ++ r ∷ []) back b

first_is : (x y : Rule) (xs ys : List Rule) → x ∷ xs ≡ y ∷ ys → (x ≡ y) × (xs ≡ ys)
first_is x y xs ys e = (cc, cc)

stood_later : (outer R f : List Rule) (r : Rule) (b : List Rule) (d : Rule) (g : List Rule) → Stood (outer ++ d ∷ []) R f r b → ((front : List Rule) → Part f front → Part g (d ∷ front)) → Stood outer (d ∷ R) g r b
stood_later outer R f r b d g s more = record {
  front = d ∷ s.front;
  back = s.back;
  is = ap (λ (xs : List Rule). d ∷ xs) s.is;
  part = more s.front s.part;
  behind = subst (λ (xs : List Rule). PrunedAfter none (xs ++ r ∷ []) s.back b) (append_assoc outer (d ∷ []) s.front) s.behind;
}

stood : (outer R P f : List Rule) (r : Rule) (b : List Rule) → PrunedAfter none outer R P → P ≡ f ++ r ∷ b → Stood outer R f r b
stood outer [] P [] r b p e = absurd cc
stood outer [] P (x ∷ f) r b p e = absurd cc
stood outer (d ∷ R) P f r b (kept, behind, inl (g, is)) e = stood_later outer R f r b d f (stood (outer ++ d ∷ []) R kept f r b behind (sym is ∙ e)) (λ front p. left_out d p)
stood outer (d ∷ R) P [] r b (kept, behind, inr (n, is)) e =
    let s = first_is d r kept b (sym is ∙ e) in
    record {
      front = [];
      back = R;
      is = ap (λ (x : Rule). x ∷ R) s.0;
      part = no_rule;
      behind = subst (λ (xs : List Rule). PrunedAfter none (xs ++ r ∷ []) R b) (sym (append-nil outer)) (subst (λ (x : Rule). PrunedAfter none (outer ++ x ∷ []) R b) s.0 (subst (PrunedAfter none (outer ++ d ∷ []) R) s.1 behind));
    }
stood outer (d ∷ R) P (x ∷ f) r b (kept, behind, inr (n, is)) e =
    let s = first_is d x kept (f ++ r ∷ b) (sym is ∙ e) in
    stood_later outer R f r b d (x ∷ f) (stood (outer ++ d ∷ []) R kept f r b behind s.1) (λ front p. subst (λ (y : Rule). Part (y ∷ f) (d ∷ front)) s.0 (taken_in d p))

pub no_test_passes : (limit : ℕ) (R P : List Rule) → Each R IsRule → IsPrunedAlways R P → ¬ (PruningPassesLimit limit R) → ¬ (PruningPassesLimit limit P)
no_test_passes limit R P rules left none_passes t =
    let s = stood [] R P t.front t.rule t.back (left none) t.is in
    let within : (t.front ++ t.rule ∷ []) ⊆ (s.front ++ t.rule ∷ []) = both_within t.front s.front (t.rule ∷ []) (t.rule ∷ []) (part_members t.front s.front s.part) (λ d m. m) in
    let same : t.kept ≡ t.back = one_after none (t.front ++ t.rule ∷ []) t.back t.kept t.back (t.behind none) (left_again none (s.front ++ t.rule ∷ []) (t.front ++ t.rule ∷ []) s.back t.back within s.behind) in
    let of_list : (s.front ++ t.back) ⊆ R =
    λ d m. subst (λ (xs : List Rule). d ∈ xs) (sym s.is) (elim (from_append s.front m) [
      | inl k ↦ in_left (t.rule ∷ s.back) k
      | inr k ↦ in_right s.front (there (part_after none (s.front ++ t.rule ∷ []) s.back t.back s.behind d k))
    ]) in
    none_passes (record {
      front = s.front;
      rule = t.rule;
      back = s.back;
      is = s.is;
      kept = t.back;
      behind = λ convert. left_any none convert (s.front ++ t.rule ∷ []) s.back t.back s.behind;
      passes = (t.passes.0, frozen_more limit (t.front ++ t.back) (s.front ++ t.back) t.rule (parts_joined t.front s.front t.back t.back s.part (whole t.back)) (λ d m. rules d (of_list d (from_filter (λ (x : Rule). are_none x.derived) (s.front ++ t.back) m).0)) (subst (λ ks. PassesFrozen limit (underived (t.front ++ ks)) t.rule) same t.passes.1));
    })
