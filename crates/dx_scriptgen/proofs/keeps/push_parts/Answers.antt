use Rattle.std.proofs.Common.{◌≡◌, ◌<◌, ◌∙◌, ◌++◌, ◌∷◌, [], ap, sym, subst, length, get_or, arith}
use Rattle.std.proofs.lemmas.List.{get_or_default}
use Rattle.dx_base.specs.Members.{◌∈◌}
use Rattle.dx_base.proofs.Members.{in_at, item_in}
use Rattle.dx_model.specs.Rules.{exported}
use Rattle.dx_model.specs.Covers.{rule_at, used_maps}
use Rattle.dx_script.specs.Rewritten.{tests_of, unless_of}
use Rattle.dx_scriptgen.specs.Parts.{tests_for}
use Rattle.dx_scriptgen.proofs.Lists.{pushed}
use Rattle.dx_scriptgen.proofs.Parts.{as_long, known_among, tests_are}
use Rattle.dx_scriptgen.proofs.Tables.{exported_few}
use Rattle.dx_scriptgen.proofs.keeps.push_parts.Goals as goal
use Rattle.dx_scriptgen.proofs.keeps.push_parts.Goals.{After-deref}

first : (c : After-deref) → rule_at c.args.rules.now c.args.i ∈ c.args.rules.now
first c = in_at c.args.rules.now c.args.i _ c.requires.first

second : (c : After-deref) → rule_at c.args.rules.now c.args.j ∈ c.args.rules.now
second c = in_at c.args.rules.now c.args.j _ c.requires.second

maps : (c : After-deref) → c.maps-map-items.result.now ≡ used_maps (rule_at c.args.rules.now c.args.i) (rule_at c.args.rules.now c.args.j)
maps c = c.maps-map-items.ensures.used c.args.rules.now c.requires.known.covers

used : (c : After-deref) → c.map-item.result ∈ used_maps (rule_at c.args.rules.now c.args.i) (rule_at c.args.rules.now c.args.j)
used c = subst (λ z. c.map-item.result ∈ z) (maps c) (subst (λ z. z ∈ c.maps-map-items.result.now) (sym c.map-item.is) (in_at c.maps-map-items.result.now c.loop-map.map-index c.map-item.result c.loop-map-test.true))

others : (c : After-deref) → c.deref.result.now ≡ exported (rule_at c.args.rules.now c.args.j)
others c = c.deref.ensures.value ∙ (c.in_ok-others.ensures ∙ ap exported (c.index-rules-j.is ∙ get_or_default c.args.rules.now c.args.j c.index-rules-j.result _ c.requires.second))

pub tests_of-requires-clause-known : goal.tests_of-requires-clause-known
tests_of-requires-clause-known c = λ x m.
    known_among c.args.rules.now (rule_at c.args.rules.now c.args.i) (rule_at c.args.rules.now c.args.j) c.map-item.result c.requires.known.widths (first c) (second c) (used c) x
    (rw c.items.ensures at m)

pub tests_of-requires-clause-own : goal.tests_of-requires-clause-own
tests_of-requires-clause-own c =
    let l = as_long (rule_at c.args.rules.now c.args.i) (rule_at c.args.rules.now c.args.j) c.map-item.result (used c) in
    let f = exported_few (rule_at c.args.rules.now c.args.i) (c.requires.known.rules (rule_at c.args.rules.now c.args.i) (first c)) in
    let e = ap length c.items.ensures in
    omega (arith, l, f, e)

pub tests_of-requires-clause-few : goal.tests_of-requires-clause-few
tests_of-requires-clause-few c =
    let f = exported_few (rule_at c.args.rules.now c.args.j) (c.requires.known.rules (rule_at c.args.rules.now c.args.j) (second c)) in
    let e = ap length (others c) in
    omega (arith, f, e)

pub loop-map-preserved : goal.loop-map-preserved
loop-map-preserved c =
    let R = c.args.rules.now in
    let i = rule_at R c.args.i in
    let j = rule_at R c.args.j in
    let m = c.map-item.result in
    let all : c.maps-map-items.result.now ≡ used_maps i j = c.maps-map-items.ensures.used R c.requires.known.covers in
    let within : c.loop-map.map-index < length (used_maps i j) = rw (← all) c.loop-map-test.true in
    let is : m ≡ get_or (used_maps i j) c.loop-map.map-index m = subst (λ z. m ≡ get_or z c.loop-map.map-index m) all c.map-item.is in
    let u : m ∈ used_maps i j = item_in (used_maps i j) c.loop-map.map-index m within is in
    let o : c.deref.result.now ≡ exported j = c.deref.ensures.value ∙ (c.in_ok-others.ensures ∙ ap exported (c.index-rules-j.is ∙ get_or_default R c.args.j c.index-rules-j.result _ c.requires.second)) in
    let t : c.in_ok-tests_of.field-0 ≡ tests_of i j m = c.in_ok-tests_of.ensures ∙ (ap (λ z. tests_for z c.items.result.now) o ∙ (ap (tests_for (exported j)) c.items.ensures ∙ tests_are i j m u)) in
    pushed (unless_of R c.args.i c.args.j) (used_maps i j) c.loop-map.map-index m c.args.parts.now c.loop-map.parts c.push.new.self within is c.loop-map.invariant
    (c.in_ok-push.ensures.ok ∙ ap (λ z. c.loop-map.parts ++ record { rule = c.args.j; tests = z } ∷ []) t)
