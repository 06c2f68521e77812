use Rattle.std.proofs.Common.{◌≡◌, ◌∙◌, ◌++◌, ap, arith, ℕ, List, length}
use Rattle.std.specs.Prelude.{map}
use Rattle.dx_joins.specs.Planning.{first_place}
use Rattle.dx_joins.proofs.Places.{places_within}
use Rattle.dx_joins.proofs.Products.{both_known, left_known, none_known, right_known}
use Rattle.dx_joins.proofs.parts.product.Goals as goal

pub cross-requires-clause-within : goal.cross-requires-clause-within
cross-requires-clause-within c =
    let left = c.args.left.now.variables.items in
    let right = c.args.right.now.variables.items in
    let names : c.deref-3.result.now ≡ left ++ right = c.deref-3.ensures.value ∙ c.in_ok-names.ensures ∙ ap (λ (l : List ℕ). l ++ c.deref-2.result.now) c.deref.ensures.value ∙ ap (λ (l : List ℕ). left ++ l) c.deref-2.ensures.value in
    let at : c.deref-in-Some-rows.result.now ≡ map (first_place (left ++ right)) c.args.kept.now = c.deref-in-Some-rows.ensures.value ∙ c.in_ok-places.ensures ∙ ap (λ (l : List ℕ). map (first_place l) c.args.kept.now) names in
    let l : c.in-Some.lefts.width ≡ length left = rw c.in-Some.is at c.requires.left in
    let r : c.in-Some-rows.rights.width ≡ length right = rw c.in-Some-rows.is at c.requires.right in
    λ i m. let h = places_within left right c.args.kept.now c.deref-in-Some-rows.result.now c.requires.kept.known at i m in omega (arith, h, l, r)

pub returns-in-Some-rows-clause-rows : goal.returns-in-Some-rows-clause-rows
returns-in-Some-rows-clause-rows c =
    let left = c.args.left.now.variables.items in
    let right = c.args.right.now.variables.items in
    let names : c.deref-3.result.now ≡ left ++ right = c.deref-3.ensures.value ∙ c.in_ok-names.ensures ∙ ap (λ (l : List ℕ). l ++ c.deref-2.result.now) c.deref.ensures.value ∙ ap (λ (l : List ℕ). left ++ l) c.deref-2.ensures.value in
    let at : c.deref-in-Some-rows.result.now ≡ map (first_place (left ++ right)) c.args.kept.now = c.deref-in-Some-rows.ensures.value ∙ c.in_ok-places.ensures ∙ ap (λ (l : List ℕ). map (first_place l) c.args.kept.now) names in
    both_known c.args.most c.args.left.now c.args.right.now c.args.kept.now c.deref-in-Some-rows.result.now c.requires.kept.known at c.in-Some.lefts c.in-Some-rows.rights c.cross.result c.in-Some.is c.in-Some-rows.is c.cross.ensures.rows

pub returns-in-Some-clause-rows : goal.returns-in-Some-clause-rows
returns-in-Some-clause-rows c =
    let left = c.args.left.now.variables.items in
    let right = c.args.right.now.variables.items in
    let names : c.deref-3.result.now ≡ left ++ right = c.deref-3.ensures.value ∙ c.in_ok-names.ensures ∙ ap (λ (l : List ℕ). l ++ c.deref-2.result.now) c.deref.ensures.value ∙ ap (λ (l : List ℕ). left ++ l) c.deref-2.ensures.value in
    let at : c.in_ok-places.places.items ≡ map (first_place (left ++ right)) c.args.kept.now = c.in_ok-places.ensures ∙ ap (λ (l : List ℕ). map (first_place l) c.args.kept.now) names in
    left_known c.args.most c.args.left.now c.args.right.now c.args.kept.now c.in_ok-places.places.items c.requires.kept.known at c.in-Some.lefts c.beside_many.result c.in-Some.is c.in-None-rows.is c.beside_many.ensures

pub returns-in-Some-rows-2-clause-rows : goal.returns-in-Some-rows-2-clause-rows
returns-in-Some-rows-2-clause-rows c =
    let left = c.args.left.now.variables.items in
    let right = c.args.right.now.variables.items in
    let names : c.deref-3.result.now ≡ left ++ right = c.deref-3.ensures.value ∙ c.in_ok-names.ensures ∙ ap (λ (l : List ℕ). l ++ c.deref-2.result.now) c.deref.ensures.value ∙ ap (λ (l : List ℕ). left ++ l) c.deref-2.ensures.value in
    let at : c.in_ok-places.places.items ≡ map (first_place (left ++ right)) c.args.kept.now = c.in_ok-places.ensures ∙ ap (λ (l : List ℕ). map (first_place l) c.args.kept.now) names in
    right_known c.args.most c.args.left.now c.args.right.now c.args.kept.now c.in_ok-places.places.items c.requires.kept.known at c.in-Some-rows-2.rights c.beside_many-in-Some-rows-2.result c.in-None.is c.in-Some-rows-2.is c.beside_many-in-Some-rows-2.ensures

pub returns-clause-rows : goal.returns-clause-rows
returns-clause-rows c =
    let left = c.args.left.now.variables.items in
    let right = c.args.right.now.variables.items in
    let names : c.deref-3.result.now ≡ left ++ right = c.deref-3.ensures.value ∙ c.in_ok-names.ensures ∙ ap (λ (l : List ℕ). l ++ c.deref-2.result.now) c.deref.ensures.value ∙ ap (λ (l : List ℕ). left ++ l) c.deref-2.ensures.value in
    let at : c.in_ok-places.places.items ≡ map (first_place (left ++ right)) c.args.kept.now = c.in_ok-places.ensures ∙ ap (λ (l : List ℕ). map (first_place l) c.args.kept.now) names in
    none_known c.args.most c.args.left.now c.args.right.now c.args.kept.now c.in_ok-places.places.items c.requires.kept.known at c.in-None.is c.in-None-rows-2.is
