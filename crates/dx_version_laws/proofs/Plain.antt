-- No set that a text of version 1 says has an optional ref, so that no table has an optional link; and none that a text of version 1 or 2 says has a dependency.
use Rattle.std.proofs.Common.{◌≡◌, ℕ, zero, suc, ◌+◌, ◌<◌, Bool, true, false, refl, List, [], ◌∷◌, Option, Some, None, subst, sym, ◌∙◌, arith, inl, inr}
use Rattle.std.specs.Prelude.{slice_index_or}
use Rattle.std.proofs.lemmas.Bool.{false≢true}
use Rattle.dx_base.specs.Members.{◌∈◌, here, there, Each}
use Rattle.dx_base.proofs.Members.{from_append, from_map}
use Rattle.dx_model.specs.Tables.{Table}
use Rattle.dx_schema.specs.declared.sets.DepDecl.{DepDecl}
use Rattle.dx_schema.specs.declared.sets.RefDecl.{RefDecl}
use Rattle.dx_schema.specs.Forest.{Forest, none, set}
use Rattle.dx_schema.specs.Tables.{NumberedSet, numbered_sets, sets_of, count, optional_refs, table_in, tables_of, as_numbers, model_tables}
use Rattle.dx_logical.specs.Laws.{HasNoOptional}
use Rattle.dx_schema_text.specs.declared.texts.MappingText.{MappingText}
use Rattle.dx_schema_text.specs.Grammar.{since_three}
use Rattle.dx_schema_text.specs.Texts.{IsMappingText}
use Rattle.dx_schema_text.specs.Print.{IsKnownVersion, the_first, the_second, the_third, FitsVersion}
use Rattle.dx_schema_text.proofs.SpelledWords.{said_is_writable}
use Rattle.dx_schema_text.proofs.Versions.{said_is_of_version}
use Rattle.dx_version_laws.specs.Laws.{HasNoDependency, HasKeysAlone, FirstVersionIsPlain, EarlierHaveKeysAlone}

-- a ref that can't be optional isn't among those that are
not_optional : (b : Bool) → (b ≡ true → false ≡ true) → b ≡ false
not_optional true h = absurd (false≢true (h refl))
not_optional false h = refl

none_optional : (refs : List RefDecl) → Each refs (λ r. r.optional ≡ true → false ≡ true) → optional_refs refs ≡ []
none_optional [] h = refl
none_optional (r ∷ refs) h = rw (not_optional r.optional (h r (here refl))) (none_optional refs (λ x m. h x (there m)))

-- so no set of a forest that a text of version 1 can say has an optional ref
placed_plain : (p : Option ℕ) (n : ℕ) (f : Forest) (s : NumberedSet) → FitsVersion 1 f → s ∈ numbered_sets p n f → optional_refs s.label.refs ≡ []
placed_plain p n none s h mem = elim mem [ ]
placed_plain p n (set l i r) s h (here e) = subst (λ (x : NumberedSet). optional_refs x.label.refs ≡ []) e (none_optional l.refs h.0.refs)
placed_plain p n (set l i r) s h (there mem) =
    elim (from_append (numbered_sets (Some n) (suc n) i) mem) [
      | inl a ↦ placed_plain (Some n) (suc n) i s h.1 a
      | inr b ↦ placed_plain p (suc (n + count i)) r s h.2 b
    ]

-- what the default has and each item has, the item at a place has
at_place : {X : Type 0} (P : X → Type 0) (xs : List X) (d : X) (k : ℕ) → P d → Each xs P → P (slice_index_or xs k d)
at_place P [] d k p h = p
at_place P (x ∷ xs) d zero p h = h x (here refl)
at_place P (x ∷ xs) d (suc k) p h = at_place P xs d k p (λ y m. h y (there m))

pub no_optional : (f : Forest) → FitsVersion 1 f → HasNoOptional (model_tables f)
no_optional f h t = at_place (λ (x : Table). x.optional ≡ []) (model_tables f) _ t refl (λ x m.
    let a = from_map as_numbers (tables_of f) m in
    let b = from_map (table_in (sets_of f)) (sets_of f) a.1 in
    subst (λ (y : Table). y.optional ≡ []) a.2 (rw (← b.2) (rw (placed_plain None 0 f b.0 h b.1) refl)))

-- ---- dependencies

none_said : (version : ℕ) (deps : List DepDecl) → since_three version ≡ false → Each deps (λ d. since_three version ≡ true) → deps ≡ []
none_said version [] earlier h = refl
none_said version (d ∷ ds) earlier h = absurd (false≢true (sym earlier ∙ h d (here refl)))

-- so no set of a forest that a text of an earlier version can say has a dependency
placed_keyed : (version : ℕ) (p : Option ℕ) (n : ℕ) (f : Forest) (s : NumberedSet) → since_three version ≡ false → FitsVersion version f → s ∈ numbered_sets p n f → s.label.deps ≡ []
placed_keyed version p n none s earlier h mem = elim mem [ ]
placed_keyed version p n (set l i r) s earlier h (here e) = subst (λ (x : NumberedSet). x.label.deps ≡ []) e (none_said version l.deps earlier h.0.deps)
placed_keyed version p n (set l i r) s earlier h (there mem) =
    elim (from_append (numbered_sets (Some n) (suc n) i) mem) [
      | inl a ↦ placed_keyed version (Some n) (suc n) i s earlier h.1 a
      | inr b ↦ placed_keyed version p (suc (n + count i)) r s earlier h.2 b
    ]

no_dependency : (version : ℕ) (f : Forest) → since_three version ≡ false → FitsVersion version f → HasNoDependency f
no_dependency version f earlier h t m =
    let b = from_map (table_in (sets_of f)) (sets_of f) m in
    rw (← b.2) (rw (placed_keyed version None 0 f b.0 earlier h b.1) refl)

keys_alone : (text : List ℕ) (m : MappingText) → IsMappingText text m → since_three m.version ≡ false → HasKeysAlone m
keys_alone text m is earlier =
    let w = said_is_writable text m is in
    record { source = no_dependency m.version m.source earlier w.0.sayable; target = no_dependency m.version m.target earlier w.1.sayable }

before_three : (version : ℕ) → IsKnownVersion version → version < 3 → since_three version ≡ false
before_three _ the_first less = refl
before_three _ the_second less = refl
before_three _ the_third less = absurd (omega arith)

pub earlier_have_keys_alone : EarlierHaveKeysAlone
earlier_have_keys_alone text m is less = keys_alone text m is (before_three m.version (said_is_of_version text m is).0 less)

pub first_version_is_plain : FirstVersionIsPlain
first_version_is_plain text m is one =
    let w = said_is_writable text m is in
    record {
      source = no_optional m.source (subst (λ v. FitsVersion v m.source) one w.0.sayable);
      target = no_optional m.target (subst (λ v. FitsVersion v m.target) one w.1.sayable);
      conditions = (said_is_of_version text m is).1 (rw one refl);
      keys = keys_alone text m is (rw one refl);
    }
