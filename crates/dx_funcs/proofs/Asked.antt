-- What `find` answers, as a fact of the members of a list.
use Rattle.std.proofs.Common.{◌≡◌, ℕ, ◌<◌, List, length, map, refl, sym, subst, arith, Option, None, Some, Bor, true, false, IsTrue, ◌↔◌}
use Rattle.std.specs.Prelude.{MatchOption, IfSome, IsSome}
use Rattle.std.specs.List.{AllWithin, HoldsAt}
use Rattle.std.proofs.lemmas.Bool.{false≢true}
use Rattle.dx_base.specs.Members.{◌∈◌, Each}
use Rattle.dx_base.specs.Texts.{Text}
use Rattle.dx_base.proofs.Members.{contains_from_in, from_map, in_map, item_in}
use Rattle.dx_funcs.specs.declared.conversion.Conversion.{Conversion}
use Rattle.dx_funcs.specs.declared.row_test.RowTest.{RowTest}
use Rattle.dx_funcs.specs.Names.{first_named}
use Rattle.dx_funcs.specs.Offers.{IsOffer}
use Rattle.dx_funcs.proofs.Named.{conversion_found, conversion_nowhere}

-- what `first_from_find` gives: nothing was found and each member has Q, or a member with P
abbrev pub Answer : {X : Type 0} → (X → Type 0) → (X → Type 0) → List X → Option (Bor X) → Type 0
Answer P Q xs o = MatchOption o (AllWithin Q xs 0 (length xs)) (λ x. P x.now × (i : ℕ) × (i < length xs) × HoldsAt (λ y. y ≡ x.now) xs i × AllWithin Q xs 0 i)

pub found_or_none : {X : Type 0} (P Q : X → Type 0) (xs ys : List X) (o : Option (Bor X)) → xs ≡ ys → Answer P Q xs o → MatchOption o (Each ys Q) (λ x. (x.now ∈ ys) × P x.now)
found_or_none {X} P Q xs ys None e h = λ x m. let c = contains_from_in (subst (λ (zs : List X). x ∈ zs) (sym e) m) in subst Q c.2 (h c.0 x (omega arith) c.1)
found_or_none {X} P Q xs ys (Some x) e h = (subst (λ (zs : List X). x.now ∈ zs) e (item_in xs h.1 x.now h.2 (sym (h.3 x.now))), h.0)

-- the conversion that was found by its name is the first of this name
pub first_conversion : (list : List Conversion) (name : Text) (o : Option (Bor Conversion)) → IsOffer list
    → MatchOption o (Each list (λ c. ¬ (c.name ≡ name))) (λ c. (c.now ∈ list) × (c.now.name ≡ name))
    → MatchOption o (first_named list name ≡ None) (λ c. first_named list name ≡ Some c.now)
first_conversion list name None offer h =
    conversion_nowhere list name (λ m. let f = from_map (λ (c : Conversion). c.name) list m in h f.0 f.1 f.2)
first_conversion list name (Some c) offer h = conversion_found list c.now name offer.names h.0 h.1

pub found_alone : {X : Type 0} (N : Type 0) (Q : X → Type 0) (o : Option X) → MatchOption o N Q → IfSome o Q
found_alone N Q None h = tt
found_alone N Q (Some x) h = h

-- a row test is found exactly if its name is listed
pub test_found : (list : List RowTest) (name : Text) (o : Option (Bor RowTest))
    → MatchOption o (Each list (λ t. ¬ (t.name ≡ name))) (λ t. (t.now ∈ list) × (t.now.name ≡ name))
    → IsSome o ↔ (name ∈ map (λ (t : RowTest). t.name) list)
test_found list name None h =
    ((λ t. absurd (false≢true t)), (λ m. let f = from_map (λ (t : RowTest). t.name) list m in absurd (h f.0 f.1 f.2)))
test_found list name (Some t) h = ((λ s. rw (← h.1) (in_map (λ (t : RowTest). t.name) h.0)), (λ m. refl))
