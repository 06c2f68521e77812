-- Null maps as they are stored: in ascending pairs, or in a tree.
use Rattle.std.proofs.Common.{◌≡◌, ◌∙◌, ◌+◌, ◌<◌, ◌++◌, ◌∷◌, ℕ, T, ◌&&◌, Bool, Result, Ok, Err, Vec, Global, List, [], true, false, None, cond, refl, sym, ap, subst, length, get_or, map, drop, inl, inr, append-nil}
use Rattle.std.specs.FinMap as finite
use Rattle.std.specs.FinMap.Entries.{below_all}
use Rattle.std.specs.Prelude.{IfOk, OnErr, OnOk}
use Rattle.std.specs.Bool.{OnTrue}
use Rattle.std.specs.List.{AllByRecursion}
use Rattle.std.specs.List.Sorted.{IsStrictlySortedBy}
use Rattle.std.specs.Map.{keys_of, lookup}
use Rattle.std.specs.BTreeMap.{is_at}
use Rattle.std.specs.Ordering.{is_eq, is_lt}
use Rattle.std.specs.declared.cmp.Ordering.{Ordering}
use Rattle.std.specs.declared.cmp.Ordering.TheVariants.{Less, Equal, Greater}
use Rattle.std.proofs.lemmas.Bool.{cases_Bool}
use Rattle.std.proofs.lemmas.List.{drop_more, map-append, nil_from_length}
use Rattle.dx_model.specs.declared.values.NullId.{NullId}
use Rattle.dx_model.specs.declared.values.Value.{Value}
use Rattle.dx_model.specs.declared.values.Value.TheVariants.{Null}
use Rattle.dx_model.specs.declared.facts.NullPair.{NullPair}
use Rattle.dx_model.specs.Instances.{IsNullMap}
use Rattle.dx_model.specs.Values.{null_cmp}
use Rattle.dx_model.proofs.Orders.{null_total, null_exact}
use Rattle.dx_base.specs.Members.{Each, here, there}
use Rattle.dx_base.proofs.Members.{from_map, item_in}
use Rattle.dx_instance.specs.NullMaps.{StoresNulls, ByNull, NoPairIsItself, NoneIsItself, PairsAscend, entries_in, is_itself, map_of_entries, pair_after, pairs_of, with_proper, with_value}
use Rattle.dx_instance.proofs.NullFacts.{as_pairs, get_null, null_map_of, pair_of, pairs_stored}
use Rattle.dx_instance.proofs.AfterFacts.{itself, tie}
use Rattle.dx_instance.proofs.MergeFacts.{above, pairs_push, proper_push}

-- only the pairs, if the tree is empty
pub no_tree : (ps : List NullPair) (tree : List (NullId × Value)) → length tree ≡ 0 → map_of_entries (tree ++ entries_in ps) ≡ map_of_entries (entries_in ps)
no_tree ps tree e = ap (λ (l : List (NullId × Value)). map_of_entries (l ++ entries_in ps)) (nil_from_length tree e)

-- only the tree, if it isn't empty
pub tree_alone : (ps : List NullPair) (tree : List (NullId × Value)) → StoresNulls ps tree → ¬ (length tree ≡ 0) → map_of_entries (tree ++ entries_in ps) ≡ map_of_entries tree
tree_alone ps tree s n = elim s.one [
  | inl e ↦ absurd (n (ap length e))
  | inr e ↦ ap (λ (l : List NullPair). map_of_entries (tree ++ entries_in l)) e ∙ ap map_of_entries (append-nil tree)
]

pub get_listed : (ps : List NullPair) (tree : List (NullId × Value)) (m : ByNull) (q : NullId) → map_of_entries (tree ++ entries_in ps) ≡ m → length tree ≡ 0 → finite.find null_cmp q (entries_in ps) ≡ finite.get m q
get_listed ps tree m q v e = sym (finite.get-from_entries null_total (entries_in ps) q) ∙ ap (λ (k : ByNull). finite.get k q) (sym (no_tree ps tree e) ∙ v)

pub get_in_tree : (ps : List NullPair) (tree : List (NullId × Value)) (m : ByNull) (q : NullId) → map_of_entries (tree ++ entries_in ps) ≡ m → StoresNulls ps tree → ¬ (length tree ≡ 0) → lookup (is_at (null_cmp q)) tree ≡ finite.get m q
get_in_tree ps tree m q v s n = sym (get_null tree q) ∙ ap (λ (k : ByNull). finite.get k q) (sym (tree_alone ps tree s n) ∙ v)

-- a null above all others is not listed
absent : (ps : List NullPair) (n : NullId) → Each ps (λ (p : NullPair). null_cmp p.null n ≡ Less) → finite.find null_cmp n (entries_in ps) ≡ None
absent [] n all = refl
absent (p ∷ ps) n all = let g = above p.null n (all p (here refl)) in rw g (absent ps n (λ q i. all q (there i)))

removed_absent : (m : ByNull) (n : NullId) → finite.get m n ≡ None → m ≡ finite.remove m n
removed_absent m n none = finite.same_map null_total null_exact m (finite.remove m n) (λ q. same q ∙ sym (finite.get-remove null_total m n q))
  where
    same : (q : NullId) → finite.get m q ≡ cond (is_eq (null_cmp q n)) None (finite.get m q)
    same q = elim (cases_Bool (is_eq (null_cmp q n))) [
      | inl t ↦ rw t (ap (λ (k : NullId). finite.get m k) (null_exact q n (tie (null_cmp q n) t)) ∙ none)
      | inr f ↦ rw f refl
    ]

listed_last : (ps : List NullPair) (n : NullId) (v : Value) → Each ps (λ (p : NullPair). null_cmp p.null n ≡ Less) → map_of_entries (entries_in (with_proper ps n v)) ≡ with_value (map_of_entries (entries_in ps)) n v
listed_last ps n v all = elim (cases_Bool (is_itself n v)) [
  | inl t ↦ rw t (removed_absent (map_of_entries (entries_in ps)) n (finite.get-from_entries null_total (entries_in ps) n ∙ absent ps n all))
  | inr f ↦ rw f (ap map_of_entries (map-append (λ (p : NullPair). (p.null, p.value)) ps (record { null = n; value = v } ∷ [])) ∙ finite.from_entries_push null_total null_exact (entries_in ps) n v (absent ps n all))
]

-- a null above all others that was set
pub set_last : (ps new : List NullPair) (tree : List (NullId × Value)) (m : ByNull) (n : NullId) (v : Value) → map_of_entries (tree ++ entries_in ps) ≡ m → length tree ≡ 0
    → Each ps (λ (p : NullPair). null_cmp p.null n ≡ Less) → new ≡ with_proper ps n v → map_of_entries (tree ++ entries_in new) ≡ with_value m n v
set_last ps new tree m n v view e all put =
    no_tree new tree e ∙ ap (λ (l : List NullPair). map_of_entries (entries_in l)) put ∙ listed_last ps n v all ∙ ap (λ (k : ByNull). with_value k n v) (sym (no_tree ps tree e) ∙ view)

proper_last : (ps : List NullPair) (tree : List (NullId × Value)) (n : NullId) (v : Value) → StoresNulls ps tree → length tree ≡ 0 → Each ps (λ (p : NullPair). null_cmp p.null n ≡ Less) → StoresNulls (with_proper ps n v) tree
proper_last ps tree n v s e all = elim (cases_Bool (is_itself n v)) [
  | inl t ↦ rw t s
  | inr f ↦ rw f (record {
    ascend = pairs_push ps (record { null = n; value = v }) s.ascend all;
    proper = proper_push ps n v s.proper f;
    others = s.others;
    one = inl (nil_from_length tree e);
  })
]

pub stored_last : (ps new : List NullPair) (tree : List (NullId × Value)) (n : NullId) (v : Value) → StoresNulls ps tree → length tree ≡ 0
    → Each ps (λ (p : NullPair). null_cmp p.null n ≡ Less) → new ≡ with_proper ps n v → StoresNulls new tree
stored_last ps new tree n v s e all put = subst (λ (l : List NullPair). StoresNulls l tree) (sym put) (proper_last ps tree n v s e all)

-- the same of a call that may fail
pub on_set_last : {A E : Type 0} (ps lent new : List NullPair) (tree : List (NullId × Value)) (m : ByNull) (n : NullId) (v : Value) (r : Result A E) (b : Bool) → lent ≡ ps → map_of_entries (tree ++ entries_in ps) ≡ m → length tree ≡ 0
    → OnTrue b (Each lent (λ (p : NullPair). null_cmp p.null n ≡ Less)) → b ≡ true → OnOk r (new ≡ with_proper ps n v) → OnOk r (map_of_entries (tree ++ entries_in new) ≡ with_value m n v)
on_set_last ps lent new tree m n v (Ok x) b e view z all t put =
    set_last ps new tree m n v view z (subst (λ (l : List NullPair). Each l (λ (p : NullPair). null_cmp p.null n ≡ Less)) e (rw t at all)) put
on_set_last ps lent new tree m n v (Err x) b e view z all t put = tt

pub stored_last_by : {A E : Type 0} (ps lent new : List NullPair) (tree : List (NullId × Value)) (n : NullId) (v : Value) (r : Result A E) (b : Bool) → lent ≡ ps → StoresNulls ps tree → length tree ≡ 0
    → OnTrue b (Each lent (λ (p : NullPair). null_cmp p.null n ≡ Less)) → b ≡ true → OnOk r (new ≡ with_proper ps n v) → OnErr r (new ≡ ps) → StoresNulls new tree
stored_last_by ps lent new tree n v (Ok x) b e s z all t put stay =
    stored_last ps new tree n v s z (subst (λ (l : List NullPair). Each l (λ (p : NullPair). null_cmp p.null n ≡ Less)) e (rw t at all)) put
stored_last_by ps lent new tree n v (Err x) b e s z all t put stay = subst (λ (l : List NullPair). StoresNulls l tree) (sym stay) s

-- one pair more in a tree
pub tree_more : (ps : List NullPair) (k l : ℕ) (d : NullPair) (v : Value) (tree new : List (NullId × Value)) → k < length ps → l ≡ k + 1 → NoPairIsItself ps → d ≡ get_or ps k d → v ≡ d.value → map_of_entries tree ≡ map_of_entries (entries_in (drop l ps))
    → map_of_entries new ≡ with_value (map_of_entries tree) d.null v → map_of_entries new ≡ map_of_entries (entries_in (drop k ps))
tree_more ps k l d v tree new h n proper i e same put =
    put ∙ (rw (e, same, differs) (ap (λ (j : ℕ). map_of_entries (entries_in (d ∷ drop j ps))) n)) ∙ ap (λ (x : List NullPair). map_of_entries (entries_in x)) (ap (λ (x : NullPair). x ∷ drop (k + 1) ps) i ∙ sym (drop_more ps k d h))
  where
    differs : is_itself d.null d.value ≡ false
    differs = elim (cases_Bool (is_itself d.null d.value)) [
      | inl t ↦ absurd (proper d (item_in ps k d h i) (itself d.null d.value t))
      | inr f ↦ f
    ]

above_all : (n : NullId) (ps : List NullPair) → Each ps (λ (p : NullPair). null_cmp n p.null ≡ Less) → AllByRecursion (λ (k : NullId). null_cmp n k ≡ Less) (keys_of (entries_in ps))
above_all n [] all = tt
above_all n (p ∷ ps) all = (all p (here refl), above_all n ps (λ q i. all q (there i)))

keys_ascend : (ps : List NullPair) → PairsAscend ps → IsStrictlySortedBy null_cmp (keys_of (entries_in ps))
unfolding IsStrictlySortedBy
keys_ascend [] up = tt
keys_ascend (p ∷ ps) up = (above_all p.null ps up.0, keys_ascend ps up.1)

none_itself : (ps : List NullPair) → NoPairIsItself ps → NoneIsItself (entries_in ps)
none_itself ps h e i = let k = from_map (λ (p : NullPair). (p.null, p.value)) ps i in subst (λ (x : NullId × Value). ¬ (x.1 ≡ Null x.0)) k.2 (h k.0 k.1)

-- the pairs are those of the map, if there is no tree
pub pairs_listed : (ps : List NullPair) (tree : List (NullId × Value)) (m : ByNull) → map_of_entries (tree ++ entries_in ps) ≡ m → StoresNulls ps tree → length tree ≡ 0 → ps ≡ pairs_of m
pairs_listed ps tree m view s e = sym (as_pairs ps) ∙ pairs_stored (entries_in ps) m (keys_ascend ps s.ascend) (sym (no_tree ps tree e) ∙ view)

pub null_map_listed : (ps : List NullPair) (tree : List (NullId × Value)) (m : ByNull) → map_of_entries (tree ++ entries_in ps) ≡ m → StoresNulls ps tree → length tree ≡ 0 → IsNullMap (pairs_of m)
null_map_listed ps tree m view s e =
    subst IsNullMap (pairs_stored (entries_in ps) m (keys_ascend ps s.ascend) (sym (no_tree ps tree e) ∙ view)) (null_map_of (entries_in ps) (keys_ascend ps s.ascend) (none_itself ps s.proper))

pub copies_listed : {E : Type 0} (ps lent : List NullPair) (tree : List (NullId × Value)) (m : ByNull) (r : Result (Vec NullPair Global) E) → lent ≡ ps → map_of_entries (tree ++ entries_in ps) ≡ m → StoresNulls ps tree → length tree ≡ 0
    → IfOk r (λ v. v.items ≡ lent) → IfOk r (λ v. v.items ≡ pairs_of m)
copies_listed ps lent tree m (Ok x) e view s z copied = copied ∙ e ∙ pairs_listed ps tree m view s z
copies_listed ps lent tree m (Err x) e view s z copied = tt

-- the pairs of a null map ascend
both : (a b : Bool) → T (a && b) → T a × T b
both true b h = (tt, h)
both false b h = absurd h

pub less : (o : Ordering) → T (is_lt o) → o ≡ Less
less Less h = refl
less Equal h = absurd h
less Greater h = absurd h

below_pairs : (n : NullId) (es : List (NullId × Value)) → T (below_all null_cmp n es) → Each (map pair_of es) (λ (p : NullPair). null_cmp n p.null ≡ Less)
below_pairs n [] h p i = elim i [ ]
below_pairs n (e ∷ es) h p (here q) = subst (λ (x : NullPair). null_cmp n x.null ≡ Less) q (less (null_cmp n e.0) (both _ _ h).0)
below_pairs n (e ∷ es) h p (there i) = below_pairs n es (both _ _ h).1 p i

sorted_pairs : (es : List (NullId × Value)) → T (finite.is_sorted null_cmp es) → PairsAscend (map pair_of es)
sorted_pairs [] h = tt
sorted_pairs (e ∷ es) h = (below_pairs e.0 es (both _ _ h).0, sorted_pairs es (both _ _ h).1)

pub pairs_ascend : (ps : List NullPair) (m : ByNull) → ps ≡ pairs_of m → PairsAscend ps
pairs_ascend ps m e = subst PairsAscend (sym e) (sorted_pairs (finite.entries m) (finite.entries_sorted m))

images_above : (m : ByNull) (n : NullId) (ps : List NullPair) → Each ps (λ (p : NullPair). null_cmp n p.null ≡ Less) → Each (map (pair_after m) ps) (λ (p : NullPair). null_cmp n p.null ≡ Less)
images_above m n ps all p i = let k = from_map (pair_after m) ps i in subst (λ (x : NullPair). null_cmp n x.null ≡ Less) k.2 (all k.0 k.1)

images_rise : (m : ByNull) (ps : List NullPair) → PairsAscend ps → PairsAscend (map (pair_after m) ps)
images_rise m [] up = tt
images_rise m (p ∷ ps) up = (images_above m p.null ps up.0, images_rise m ps up.1)

pub images_ascend : (m : ByNull) (ps images : List NullPair) → images ≡ map (pair_after m) ps → PairsAscend ps → PairsAscend images
images_ascend m ps images e up = subst PairsAscend (sym e) (images_rise m ps up)
