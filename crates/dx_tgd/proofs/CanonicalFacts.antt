-- The facts of the canonical instance, rule by rule and place by place.
use Rattle.std.proofs.Common.{◌≡◌, ℕ, zero, suc, ◌+◌, ◌*◌, ◌<◌, ◌≤◌, List, [], ◌∷◌, ◌++◌, inl, inr, refl, sym, ◌∙◌, ap, arith, length, get_or, take, slice_index_or, append_assoc, length-append}
use Rattle.std.specs.Prelude.{map}
use Rattle.std.proofs.lemmas.List.{append-nil, length-map}
use Rattle.dx_model.specs.declared.values.NullId.{NullId}
use Rattle.dx_model.specs.declared.values.Value.TheVariants.{Null}
use Rattle.dx_model.specs.declared.rules.Cell.{Cell}
use Rattle.dx_model.specs.declared.rules.Cell.TheVariants.{Var, Ex, Lit}
use Rattle.dx_base.proofs.Members.{from_append, from_map}
use Rattle.dx_model.specs.declared.facts.Fact.{Fact}
use Rattle.dx_model.specs.declared.rules.Atom.{Atom}
use Rattle.dx_model.specs.declared.rules.Rule.{Rule}
use Rattle.dx_base.specs.Members.{◌∈◌, here, there, Each}
use Rattle.dx_model.specs.Values.{Tuple, Rows}
use Rattle.dx_model.specs.Rules.{fact_of_atom, text_of, exported, cell_value, at_place, at_places, canonical, cells_of}
use Rattle.dx_tgd.specs.Counting.{canonical_cells}
use Rattle.dx_tgd.specs.Placed.{NullsHavePlaces, place_null}

-- one place more
pub places_more : (i k : ℕ) (d : Rule) (ts : List Tuple) (n : ℕ) (t : Tuple) → n < length ts → t ≡ get_or ts n t → at_places i d k (take (n + 1) ts) ≡ at_places i d k (take n ts) ++ at_place i d (k + n) t
places_more i k d [] n t h e = absurd (omega arith)
places_more i k d (u ∷ ts) zero t h e =
    let z : k + 0 ≡ k = omega arith in
    rw (z, e) (append-nil (at_place i d k u))
places_more i k d (u ∷ ts) (suc n) t h e =
    let m : suc n + 1 ≡ suc (n + 1) = omega arith in
    let s : k + suc n ≡ suc k + n = omega arith in
    rw (m, s) (ap (λ (z : List Fact). at_place i d k u ++ z) (places_more i (suc k) d ts n t (omega arith) e) ∙ sym (append_assoc (at_place i d k u) (at_places i d (suc k) (take n ts)) (at_place i d (suc k + n) t)))

places_whole : (i k : ℕ) (d : Rule) (ts : List Tuple) (n : ℕ) → length (at_places i d k (take n ts)) ≤ length (at_places i d k ts)
places_whole i k d [] zero = omega arith
places_whole i k d [] (suc n) = omega arith
places_whole i k d (t ∷ ts) zero = omega arith
places_whole i k d (t ∷ ts) (suc n) =
    omega (arith, places_whole i (suc k) d ts n, length-append (at_place i d k t) (at_places i d (suc k) (take n ts)), length-append (at_place i d k t) (at_places i d (suc k) ts))

-- one rule more
pub rules_more : (k : ℕ) (R : List Rule) (rows : Rows) (n : ℕ) (d : Rule) (ts : List Tuple) → n < length R → n < length rows → d ≡ get_or R n d → ts ≡ get_or rows n ts
    → canonical k (take (n + 1) R) (take (n + 1) rows) ≡ canonical k (take n R) (take n rows) ++ at_places (k + n) d 0 ts
rules_more k [] rows n d ts h l e f = absurd (omega arith)
rules_more k (r ∷ R) [] n d ts h l e f = absurd (omega arith)
rules_more k (r ∷ R) (us ∷ rows) zero d ts h l e f =
    let z : k + 0 ≡ k = omega arith in
    rw (z, e, f) (append-nil (at_places k r 0 us))
rules_more k (r ∷ R) (us ∷ rows) (suc n) d ts h l e f =
    let m : suc n + 1 ≡ suc (n + 1) = omega arith in
    let s : k + suc n ≡ suc k + n = omega arith in
    rw (m, s) (ap (λ (z : List Fact). at_places k r 0 us ++ z) (rules_more (suc k) R rows n d ts (omega arith) (omega arith) e f) ∙ sym (append_assoc (at_places k r 0 us) (canonical (suc k) (take n R) (take n rows)) (at_places (suc k + n) d 0 ts)))

rules_whole : (k : ℕ) (R : List Rule) (rows : Rows) (n : ℕ) → length (canonical k (take n R) (take n rows)) ≤ length (canonical k R rows)
rules_whole k [] rows zero = omega arith
rules_whole k [] rows (suc n) = omega arith
rules_whole k (r ∷ R) [] zero = omega arith
rules_whole k (r ∷ R) [] (suc n) = omega arith
rules_whole k (r ∷ R) (us ∷ rows) zero = omega arith
rules_whole k (r ∷ R) (us ∷ rows) (suc n) =
    omega (arith, rules_whole (suc k) R rows n, length-append (at_places k r 0 us) (canonical (suc k) (take n R) (take n rows)), length-append (at_places k r 0 us) (canonical (suc k) R rows))

-- the facts of the first places and the next are no more than those of all
pub place_room : (i : ℕ) (d : Rule) (ts : List Tuple) (n : ℕ) (t : Tuple) → n < length ts → t ≡ get_or ts n t
    → length (at_places i d 0 (take n ts)) + length d.conclusion ≤ length (at_places i d 0 ts)
place_room i d ts n t h e =
    let m : length (at_places i d 0 (take (n + 1) ts)) ≡ length (at_places i d 0 (take n ts)) + length (at_place i d (0 + n) t) = ap length (places_more i 0 d ts n t h e) ∙ length-append (at_places i d 0 (take n ts)) (at_place i d (0 + n) t) in
    let l : length (at_place i d (0 + n) t) ≡ length d.conclusion = length-map d.conclusion (fact_of_atom (text_of (exported d) t) (place_null i (0 + n))) in
    omega (arith, m, l, places_whole i 0 d ts (n + 1))

-- the facts of the first rules and the next are no more than those of all
pub rule_room : (R : List Rule) (rows : Rows) (n : ℕ) (d : Rule) (ts : List Tuple) → n < length R → n < length rows → d ≡ get_or R n d → ts ≡ get_or rows n ts
    → length (canonical 0 (take n R) (take n rows)) + length (at_places n d 0 ts) ≤ length (canonical 0 R rows)
rule_room R rows n d ts h k e f =
    let z : 0 + n ≡ n = omega arith in
    let m = rw z at (ap length (rules_more 0 R rows n d ts h k e f) ∙ length-append (canonical 0 (take n R) (take n rows)) (at_places (0 + n) d 0 ts)) in
    omega (arith, m, rules_whole 0 R rows (n + 1))

-- atoms with cells are no more than the cells
few_atoms : (atoms : List Atom) → Each atoms (λ a. 1 ≤ length a.cells) → length atoms ≤ length (cells_of atoms)
few_atoms [] e = omega arith
few_atoms (a ∷ atoms) e = omega (arith, e a (here refl), few_atoms atoms (λ b m. e b (there m)), length-append a.cells (cells_of atoms))

few_at_places : (i k : ℕ) (d : Rule) (ts : List Tuple) → Each d.conclusion (λ a. 1 ≤ length a.cells) → length (at_places i d k ts) ≤ length ts * length (cells_of d.conclusion)
few_at_places i k d [] e = omega arith
few_at_places i k d (t ∷ ts) e =
    let m : length (at_place i d k t) ≡ length d.conclusion = length-map d.conclusion (fact_of_atom (text_of (exported d) t) (place_null i k)) in
    omega (arith, m, few_atoms d.conclusion e, few_at_places i (suc k) d ts e, length-append (at_place i d k t) (at_places i d (suc k) ts))

-- the canonical facts are no more than the canonical cells, where each atom has a cell
pub few_facts : (k : ℕ) (R : List Rule) (rows : Rows) → Each R (λ d. Each d.conclusion (λ a. 1 ≤ length a.cells)) → length (canonical k R rows) ≤ canonical_cells R rows
few_facts k [] rows e = omega arith
few_facts k (d ∷ R) [] e = omega arith
few_facts k (d ∷ R) (ts ∷ rows) e =
    omega (arith, few_at_places k 0 d ts (e d (here refl)), few_facts (suc k) R rows (λ r m. e r (there m)), length-append (at_places k d 0 ts) (canonical (suc k) R rows))

-- ---- nulls

-- a null in a row that cells say is one of the place
null_of_cells : (texts : ℕ → List ℕ) (i k : ℕ) (cells : List Cell) (n : NullId) → Null n ∈ map (cell_value texts (place_null i k)) cells → (n.rule ≡ i) × (n.row ≡ k)
null_of_cells texts i k [] n m = elim m [ ]
null_of_cells texts i k (Var x ∷ cells) n (here e) = absurd (cc)
null_of_cells texts i k (Lit t ∷ cells) n (here e) = absurd (cc)
null_of_cells texts i k (Ex v ∷ cells) n (here e) =
    let d : n ≡ record { rule = i; var = v; row = k } = cc in
    (ap (λ (z : NullId). z.rule) d, ap (λ (z : NullId). z.row) d)
null_of_cells texts i k (c ∷ cells) n (there m) = null_of_cells texts i k cells n m

null_of_place : (i k : ℕ) (d : Rule) (t : Tuple) (f : Fact) (n : NullId) → f ∈ at_place i d k t → Null n ∈ f.row → (n.rule ≡ i) × (n.row ≡ k)
null_of_place i k d t f n m h =
    let a = from_map (fact_of_atom (text_of (exported d) t) (place_null i k)) d.conclusion m in
    null_of_cells (text_of (exported d) t) i k a.0.cells n (rw (← a.2) at h)

null_of_places : (i k : ℕ) (d : Rule) (ts : List Tuple) (f : Fact) (n : NullId) → f ∈ at_places i d k ts → Null n ∈ f.row → (n.rule ≡ i) × (n.row < k + length ts)
null_of_places i k d [] f n m h = elim m [ ]
null_of_places i k d (t ∷ ts) f n m h = elim (from_append (at_place i d k t) m) [
  | inl l ↦ let w = null_of_place i k d t f n l h in (w.0, omega (arith, w.1))
  | inr r ↦ let w = null_of_places i (suc k) d ts f n r h in (w.0, omega (arith, w.1))
]

-- the rule of a null counts from the number of the first rule
null_has_place : (i : ℕ) (R : List Rule) (rows : Rows) (f : Fact) (n : NullId) → f ∈ canonical i R rows → Null n ∈ f.row
    → (j : ℕ) × (n.rule ≡ i + j) × (j < length R) × (n.row < length (slice_index_or rows j []))
null_has_place i [] rows f n m h = elim m [ ]
null_has_place i (d ∷ R) [] f n m h = elim m [ ]
null_has_place i (d ∷ R) (ts ∷ rows) f n m h = elim (from_append (at_places i d 0 ts) m) [
  | inl l ↦ let w = null_of_places i 0 d ts f n l h in (0, omega (arith, w.0), omega arith, omega (arith, w.1))
  | inr r ↦ let w = null_has_place (suc i) R rows f n r h in (suc w.0, omega (arith, w.1), omega (arith, w.2), w.3)
]

pub nulls_have_places : NullsHavePlaces
nulls_have_places R rows f n m h =
    let w = null_has_place 0 R rows f n m h in
    let e : n.rule ≡ w.0 = omega (arith, w.1) in
    record { rule = omega (arith, w.2, e); place = rw e w.3 }
