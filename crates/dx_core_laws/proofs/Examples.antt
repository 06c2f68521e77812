-- What is isomorphic, and what has more facts, of small instances.
use Rattle.std.proofs.Common.{◌≡◌, ℕ, List, [], ◌∷◌, codes, refl, sym, ap, arith, length, ◌≤◌}
use Rattle.dx_base.specs.Members.{◌∈◌, Each, here, there}
use Rattle.dx_base.proofs.Members.{in_map, no_longer}
use Rattle.dx_model.specs.declared.values.NullId.{NullId}
use Rattle.dx_model.specs.declared.values.Value.{Value}
use Rattle.dx_model.specs.declared.values.Value.TheVariants.{Const, Null}
use Rattle.dx_model.specs.declared.facts.Fact.{Fact}
use Rattle.dx_model.specs.Instances.{fact_moved, given, values}
use Rattle.dx_instance.specs.Stored.{rows_of}
use Rattle.dx_exchange.specs.declared.result.Exchange.{Exchange}
use Rattle.dx_core_laws.specs.Isomorphic.{AreAlike, AreIsomorphic, NoMoreFacts}
use Rattle.dx_core_laws.proofs.Backs.{isomorphism_by, null_same}

-- ann has this phone
abbrev person : Value → Fact
person phone = record { table = 0; row = Const (codes "ann") ∷ phone ∷ [] }

abbrev null : ℕ → NullId
null k = record { rule = 0; var = 0; row = k }

abbrev first : List Fact
first = person (Null (null 0)) ∷ []

abbrev second : List Fact
second = person (Null (null 1)) ∷ []

abbrev told : List Fact
told = person (Const (codes "1")) ∷ []

abbrev both_of : List Fact
both_of = person (Null (null 0)) ∷ person (Null (null 1)) ∷ []

only_null : (n : NullId) → Null n ∈ values first → n ≡ null 0
only_null n (here e) = absurd (cc e)
only_null n (there (here e)) = sym (null_same (null 0) n e)
only_null n (there (there m)) = elim m [ ]

-- another name of the null is all the difference
names_differ : AreIsomorphic first second
names_differ =
    isomorphism_by (λ n. Null (null 1)) (λ n. Null (null 0)) first second (λ n i. ap Null (sym (only_null n i)))
    ((λ f m. m), (λ f m. m))

-- a null never becomes a constant, though it maps to one
told_is_other : ¬ (AreIsomorphic first told)
told_is_other p =
    let i : person (Null (null 0)) ∈ first = here refl in
    at (p.1.to_nulls (null 0) (there (here refl)))
    (p.1.onto.0 (fact_moved (given p.0) (person (Null (null 0)))) (in_map (fact_moved (given p.0)) {x = person (Null (null 0))} {xs = first} i))
  where
    at : (k : NullId) × (given p.0 (null 0) ≡ Null k) → person (given p.0 (null 0)) ∈ told → ⊥
    at k (here e) =
        let row = ap (λ (f : Fact). f.row) e in
        let f = k.1 in absurd (cc (row, f))
    at k (there m) = elim m [ ]

-- two facts are more than one
two_are_more : ¬ (NoMoreFacts both_of first)
two_are_more few =
    let k = few 0 both_of (apart, ((λ m. elim m [ ]), tt)) each in
    let a = no_longer k.0 first k.1 (λ f m. (k.2 f m).0) in
    let b = k.3 in
    let c : length k.0 ≡ 2 = b in
    let d : length k.0 ≤ 1 = a in absurd (omega (arith, c, d))
  where
    apart : person (Null (null 0)) ∈ (person (Null (null 1)) ∷ []) → ⊥
    apart (here e) =
        let row = ap (λ (f : Fact). f.row) e in
        let same : null 1 ≡ null 0 = null_same (null 1) (null 0) (cc row) in
        let k : 1 ≡ 0 = ap (λ (n : NullId). n.row) same in absurd (omega (arith, k))
    apart (there m) = elim m [ ]

    each : Each both_of (λ f. (f ∈ both_of) × (f.table ≡ 0))
    each f m = (m, of m)
      where
        of : f ∈ both_of → f.table ≡ 0
        of (here e) = sym (ap (λ (x : Fact). x.table) e)
        of (there (here e)) = sym (ap (λ (x : Fact). x.table) e)
        of (there (there k)) = elim k [ ]

-- exchanges that are alike have as many rows in each table
alike_are_as_many : (e d : Exchange) → AreAlike e d → (t : ℕ) → length (rows_of e.target t) ≡ length (rows_of d.target t)
alike_are_as_many e d alike t = alike.many t
