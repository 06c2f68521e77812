-- What the stages of the source have passed.
use Rattle.std.proofs.Common.{◌≡◌, ℕ, ◌-◌, ◌<◌, List, [], ◌∷◌, ◌++◌, length, refl, sym, ◌∙◌, ap, subst, Ok, Err, inl, inr, arith, true, false}
use Rattle.std.specs.Prelude.{nat_lt, Bool, if◌then◌else◌}
use Rattle.std.specs.List.{list_all}
use Rattle.std.proofs.lemmas.List.{length-map}
use Rattle.dx_base.specs.Members.{◌∈◌, here, there, Each}
use Rattle.dx_base.proofs.Members.{from_append, from_map}
use Rattle.dx_base.proofs.Tests.{from_filter}
use Rattle.dx_model.specs.declared.values.Value.{Value}
use Rattle.dx_model.specs.declared.facts.Fact.{Fact}
use Rattle.dx_schema.specs.Forest.{Forest}
use Rattle.dx_schema.specs.Tables.{as_numbers, tables_of}
use Rattle.dx_json.proofs.Fitting.{facts_fit}
use Rattle.dx_stages.specs.Worlds.{World}
use Rattle.dx_stages.specs.Stages.{each}
use Rattle.dx_lines.specs.declared.line.Condition.{Condition}
use Rattle.dx_used.specs.Passing.{Passes, fact_passes, passing}
use Rattle.clio_source.specs.Source.{IsRoot, RootShape, ReadState, SayFacts, at_start, fact_cells, files_stages, flat, shape_at, nested, reading, roots, too_many_cells, with_facts}
use Rattle.clio_source.proofs.Roots.{is_root}

-- each fact is of a table of the schema
abbrev pub AreOf : Forest → List Fact → Type 0
AreOf f said = Each said (λ fact. fact.table < length (tables_of f))

said_of : (form : RootShape) (f : Forest) (root : ℕ) (bytes : List ℕ) (said : List Fact) → IsRoot f root → SayFacts form f root bytes said → AreOf f said
said_of flat f root bytes said r s x m =
    let k = from_map (λ (row : List Value). record { table = root; row = row }) s.0 (subst (λ fs. x ∈ fs) s.2 m) in
    subst (λ n. n < length (tables_of f)) (ap (λ (y : Fact). y.table) k.2) r.within
said_of nested f root bytes said r s x m =
    let k = (facts_fit bytes f root said r.within r.parent s x m).table in
    omega (arith, k, length-map (tables_of f) as_numbers)

counted : (f : Forest) (q : ReadState × List Fact) (s : ReadState) → with_facts f q ≡ Ok s → s.facts ≡ q.0.facts ++ q.1
counted f q s is = of (nat_lt q.0.cells_left (fact_cells f q.1)) is
  where
    of : (b : Bool) → (if b then Err too_many_cells else Ok (record { facts = q.0.facts ++ q.1; bytes_left = q.0.bytes_left; cells_left = q.0.cells_left - fact_cells f q.1 })) ≡ Ok s → s.facts ≡ q.0.facts ++ q.1
    of true e = cc
    of false e =
        let same : record { facts = q.0.facts ++ q.1; bytes_left = q.0.bytes_left; cells_left = q.0.cells_left - fact_cells f q.1 } ≡ s = cc in
        sym (ap (λ (v : ReadState). v.facts) same)

one_read : (f : Forest) (root : ℕ) (c : World) (r s : ReadState) → IsRoot f root → AreOf f r.facts → (reading f root).passes c r s → AreOf f s.facts
one_read f root c r s is of (p, (bytes, found, p_is), (q, (said, says, q_is), s_is)) =
    let added = said_of (shape_at f root) f root p.1 said is says in
    let before : q.0.facts ≡ r.facts = ap (λ (v : ReadState × List Fact). v.0.facts) q_is ∙ ap (λ (v : ReadState × List ℕ). v.0.facts) p_is in
    let after : s.facts ≡ r.facts ++ said = counted f q s s_is ∙ ap (λ fs. fs ++ q.1) before ∙ ap (λ (v : ReadState × List Fact). r.facts ++ v.1) q_is in
    λ x m. elim (from_append r.facts (subst (λ fs. x ∈ fs) after m)) [ inl old ↦ of x old | inr new ↦ added x new ]

all_read : (f : Forest) (us : List ℕ) (c : World) (r s : ReadState) → Each us (IsRoot f) → AreOf f r.facts → (each (reading f) us).passes c r s → AreOf f s.facts
all_read f [] c r s are of p = subst (AreOf f) (sym (ap (λ (v : ReadState). v.facts) p)) of
all_read f (u ∷ us) c r s are of (b, one, rest) = all_read f us c b s (λ v m. are v (there m)) (one_read f u c r b (are u (here refl)) of one) rest

-- what was read is of the schema's tables
pub passed_of : (f : Forest) (c : World) (r : ReadState) → (files_stages f).passes c at_start r → AreOf f r.facts
passed_of f c r p = all_read f (roots f) c at_start r (is_root f) (λ x m. elim m [ ]) p

-- what passes of it too
pub passing_of : (passes : Passes) (conditions : List Condition) (f : Forest) (said : List Fact) → AreOf f said → AreOf f (passing passes conditions said)
passing_of passes conditions f said of x m = of x (from_filter (λ (g : Fact). list_all (fact_passes passes g) conditions) said m).0
