-- Bounds on keys, dependencies and refs, set by set.
use Rattle.std.proofs.Common.{◌≡◌, ℕ, zero, suc, ◌+◌, ◌-◌, ◌^◌, ◌<◌, ◌≤◌, Bool, true, not, cond, refl, List, [], ◌∷◌, ◌++◌, Option, Some, None, length, map, get_or, take, sym, ap, ◌∙◌, subst, arith, inl, inr, length-append, codes}
use Rattle.std.specs.Prelude.{IsTrue, ◌↔◌, false}
use Rattle.std.specs.List.{filter}
use Rattle.std.proofs.lemmas.Bool.{false≢true}
use Rattle.std.proofs.lemmas.List.{take_more, take_all, length-map}
use Rattle.dx_base.specs.Members.{◌∈◌, here, there, Each}
use Rattle.dx_base.proofs.Members.{from_append, from_map}
use Rattle.dx_schema.specs.declared.sets.KeyDecl.{KeyDecl}
use Rattle.dx_schema.specs.declared.sets.RefDecl.{RefDecl}
use Rattle.dx_schema.specs.Forest.{Forest, none, set, Tree, forest_of}
use Rattle.dx_schema.specs.Tables.{NumberedSet, numbered_sets, sets_of, count, where_has_inner, where_inner, key_named, keys_in, dep_named, deps_in, link_up, links_in, optional_in, firm_refs, optional_refs, link_of, table_in, tables_of}
use Rattle.dx_schema.specs.Bounds.{RulesBelow, HasFewRules, HasSmallNumbers}

-- what is below n is below what is greater
pub rules_raised : (n m : ℕ) (f : Forest) → n ≤ m → RulesBelow n f → RulesBelow m f
rules_raised n m none le h = tt
rules_raised n m (set l i r) le h = (omega (arith, h.0), omega (arith, h.1), rules_raised n m i le h.2, rules_raised n m r le h.3)

-- the bound holds of one set of a level
pub rules_at : (n : ℕ) (ts : List Tree) (k : ℕ) (t : Tree) → k < length ts → t ≡ get_or ts k t → RulesBelow n (forest_of ts) → (length t.label.keys + length t.label.deps < n) × (length t.label.refs < n) × RulesBelow n t.inner
rules_at n [] k t lt is h = absurd (omega arith)
rules_at n (u ∷ ts) zero t lt is h = rw is (h.0, h.1, h.2)
rules_at n (u ∷ ts) (suc k) t lt is h = rules_at n ts k t (omega arith) is h.3

rules-push : (n : ℕ) (ts : List Tree) (t : Tree) → RulesBelow n (forest_of ts) → length t.label.keys + length t.label.deps < n → length t.label.refs < n → RulesBelow n t.inner → RulesBelow n (forest_of (ts ++ t ∷ []))
rules-push n [] t h keys refs inner = (keys, refs, inner, tt)
rules-push n (u ∷ ts) t h keys refs inner = (h.0, h.1, h.2, rules-push n ts t h.3 keys refs inner)

-- the bound holds of one set more
pub rules_more : (n : ℕ) (ts : List Tree) (k : ℕ) (t : Tree) → k < length ts → t ≡ get_or ts k t → RulesBelow n (forest_of (take k ts))
    → length t.label.keys + length t.label.deps < n → length t.label.refs < n → RulesBelow n t.inner → RulesBelow n (forest_of (take (k + 1) ts))
rules_more n ts k t lt is h keys refs inner =
    let e : take (k + 1) ts ≡ take k ts ++ t ∷ [] = take_more ts k t lt ∙ ap (λ x. take k ts ++ x ∷ []) (sym is) in
    subst (λ xs. RulesBelow n (forest_of xs)) (sym e) (rules-push n (take k ts) t h keys refs inner)

-- and of all sets
pub rules_whole : (n : ℕ) (ts : List Tree) (k : ℕ) (f : Forest) → length ts ≤ k → forest_of ts ≡ f → RulesBelow n (forest_of (take k ts)) → RulesBelow n f
rules_whole n ts k f past whole h = subst (RulesBelow n) (ap forest_of (take_all k ts past) ∙ whole) h

-- a set that passes the bound tells that not all stay below it
pub not_few : (n : ℕ) (ts : List Tree) (k : ℕ) (t : Tree) (f : Forest) → forest_of ts ≡ f → k < length ts → t ≡ get_or ts k t
    → ((length t.label.keys + length t.label.deps < n) × (length t.label.refs < n) × RulesBelow n t.inner → ⊥) → (IsTrue false ↔ RulesBelow n f)
not_few n ts k t f whole lt is refuted = ((λ e. absurd (false≢true e)), (λ h. absurd (refuted (rules_at n ts k t lt is (subst (RulesBelow n) (sym whole) h)))))

-- ---- tables

rules_placed : (n : ℕ) (p : Option ℕ) (m : ℕ) (f : Forest) (s : NumberedSet) → RulesBelow n f → s ∈ numbered_sets p m f → (length s.label.keys + length s.label.deps < n) × (length s.label.refs < n)
rules_placed n p m none s h mem = elim mem [ ]
rules_placed n p m (set l i r) s h (here e) = rw (← e) (h.0, h.1)
rules_placed n p m (set l i r) s h (there mem) =
    elim (from_append (numbered_sets (Some m) (suc m) i) mem) [
      | inl a ↦ rules_placed n (Some m) (suc m) i s h.2 a
      | inr b ↦ rules_placed n p (suc (m + count i)) r s h.3 b
    ]

one_in_front : {X : Type 0} (f : Forest) (x : X) → length (where_has_inner f x) ≤ 1
one_in_front none x = omega arith
one_in_front (set l i r) x = omega arith

one_up : (sets : List NumberedSet) (s : NumberedSet) (p : Option ℕ) → length (link_up sets s p) ≤ 1
one_up sets s None = omega arith
one_up sets s (Some p) = omega arith

few_determinations : (s : NumberedSet) → length s.label.keys + length s.label.deps < 2 ^ 32 - 2 → length (keys_in s) + length (deps_in s) < 2 ^ 32 - 1
few_determinations s h =
    let front : List (List (List ℕ)) = where_has_inner s.inner (codes "#id" ∷ []) in
    let own : List (List (List ℕ)) = map (λ (k : KeyDecl). where_inner s.parent (codes "#up") ++ k.columns) s.label.keys in
    omega (arith, h, length-map (front ++ own) (key_named s), length-append front own, length-map s.label.keys (λ (k : KeyDecl). where_inner s.parent (codes "#up") ++ k.columns), one_in_front s.inner (codes "#id" ∷ []), length-map s.label.deps (dep_named s))

-- the refs that pass a test, and those that don't, are all of them
both_kept : {X : Type 0} (p : X → Bool) (xs : List X) → length (filter (λ x. not (p x)) xs) + length (filter p xs) ≡ length xs
both_kept p [] = refl
both_kept {X} p (x ∷ xs) =
    let e = both_kept p xs in
    by_test (p x) e
  where
    by_test : (b : Bool) → length (filter (λ x. not (p x)) xs) + length (filter p xs) ≡ length xs
        → length (cond (not b) (x ∷ filter (λ x. not (p x)) xs) (filter (λ x. not (p x)) xs)) + length (cond b (x ∷ filter p xs) (filter p xs)) ≡ suc (length xs)
    by_test true e = omega (arith, e)
    by_test false e = omega (arith, e)

few_links : (sets : List NumberedSet) (s : NumberedSet) → length s.label.refs < 2 ^ 32 - 2 → length (links_in sets s) + length (optional_in sets s) < 2 ^ 32 - 1
few_links sets s h =
    let all = both_kept (λ (r : RefDecl). r.optional) s.label.refs in
    let a = length-append (link_up sets s s.parent) (map (link_of sets s) (firm_refs s.label.refs)) in
    let b = length-map (firm_refs s.label.refs) (link_of sets s) in
    let c = length-map (optional_refs s.label.refs) (link_of sets s) in
    let d = one_up sets s s.parent in
    omega (arith, h, all, a, b, c, d)

numbers_in_table : (sets : List NumberedSet) (s : NumberedSet) → (length s.label.keys + length s.label.deps < 2 ^ 32 - 2) × (length s.label.refs < 2 ^ 32 - 2) → HasSmallNumbers (table_in sets s)
numbers_in_table sets s h = record { determinations = few_determinations s h.0; links = few_links sets s h.1 }

-- the determinations and links of each table have numbers
pub tables_numbered : (f g : Forest) → HasFewRules f → f ≡ g → Each (tables_of g) HasSmallNumbers
tables_numbered f g h e = subst (λ x. Each (tables_of x) HasSmallNumbers) e all
  where
    all : Each (tables_of f) HasSmallNumbers
    all t m =
        let s = from_map (table_in (sets_of f)) (sets_of f) {y = t} m in
        subst HasSmallNumbers s.2 (numbers_in_table (sets_of f) s.0 (rules_placed (2 ^ 32 - 2) None 0 f s.0 h s.1))
