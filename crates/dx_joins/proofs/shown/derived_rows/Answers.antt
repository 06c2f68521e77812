use Rattle.std.proofs.Common.{◌≡◌, ◌∙◌, ◌++◌, ◌<◌, sym, ap, subst, arith, ℕ, List, [], length}
use Rattle.std.specs.Prelude.{map}
use Rattle.std.specs.List.{range_with_len}
use Rattle.std.proofs.lemmas.List.{length-map}
use Rattle.std.specs.Prelude.{Bool}
use Rattle.std.proofs.lemmas.List.FromFn.{length-range_with_len}
use Rattle.dx_base.specs.Members.{◌∈◌, ◌⊆◌, Each}
use Rattle.dx_base.proofs.Members.{in_at}
use Rattle.dx_instance.specs.Cells.{numbers_at}
use Rattle.dx_instance.proofs.NumberFacts.{stays}
use Rattle.dx_instance.proofs.ShownFacts.{extends_both}
use Rattle.dx_joins.specs.Collecting.{RowsExactly, Collection, MoreThan}
use Rattle.dx_joins.specs.Planning.{first_place}
use Rattle.dx_joins.specs.Shown.{AllTexts}
use Rattle.dx_joins.specs.Derivations.{DerivesTo}
use Rattle.dx_joins.proofs.Carrying.{few_rows}
use Rattle.dx_joins.proofs.Growing.{texts_grow, upto_none, upto_more, upto_full, upto_all}
use Rattle.dx_joins.proofs.Places.{places_within}
use Rattle.dx_joins.proofs.shown.derived_rows.Goals as goal

pub loop-place-init : goal.loop-place-init
loop-place-init g c = record {
  grows = stays c.args.symbols.now;
  apart = c.requires.rows.apart;
  width = ap (λ (x : Collection). x.width) c.new-out.ensures;
  most = ap (λ (x : Collection). x.most) c.new-out.ensures;
  standing =
      let wanted = c.args.derivation.now.wanted.now in
      let derived = c.args.derivation.now.derived.now in
      let rows = c.args.rows.now.rows in
      let S0 = c.args.symbols.now in
      let names = c.deref.ensures.value ∙ c.in_ok-names.ensures in
      let at : c.in_ok-places.places.items ≡ map (first_place (wanted ++ range_with_len c.args.derivation.now.first (length derived))) c.args.shown.now = c.in_ok-places.ensures ∙ ap (λ (l : List ℕ). map (first_place l) c.args.shown.now) names in
      let wide : Each rows (λ (r : List ℕ). length r ≡ length wanted) = λ r m. c.count-place-end.ensures.wide r m ∙ c.requires.rows.width in
      upto_none g.M.Meaning.apply wanted derived c.args.derivation.now.first c.args.shown.now c.in_ok-places.places.items S0 rows c.requires.rows.texts wide at c.requires.shown.known (length-range_with_len c.args.derivation.now.first (length derived))
      (length c.args.shown.now) c.args.most c.new-out.result (ap (λ (x : Collection). x.rows) c.new-out.ensures);
}

pub places-requires : goal.places-requires
places-requires g c = subst (λ (l : List ℕ). c.args.shown.now ⊆ l) (sym (c.deref.ensures.value ∙ c.in_ok-names.ensures)) c.requires.shown.known

pub derive_row-requires-clause-computed : goal.derive_row-requires-clause-computed
derive_row-requires-clause-computed g c = c.requires.computed

pub derive_row-requires-clause-row : goal.derive_row-requires-clause-row
derive_row-requires-clause-row g c =
    let rows = c.args.rows.now.rows in
    let row = numbers_at rows c.loop-place.place in
    let there = in_at rows c.loop-place.place [] (omega (arith, c.loop-place-test.true, c.count-place-end.ensures.count)) in
    record {
      apart = c.loop-place.invariant.apart;
      many = ap length c.row-row.ensures.row ∙ c.count-place-end.ensures.wide row there ∙ c.requires.rows.width;
      texts = subst (λ (r : List ℕ). AllTexts c.loop-place.symbols r) (sym c.row-row.ensures.row) (texts_grow c.args.symbols.now c.loop-place.symbols row c.loop-place.invariant.grows (c.requires.rows.texts row there));
    }

pub derive_row-requires-clause-places : goal.derive_row-requires-clause-places
derive_row-requires-clause-places g c =
    let wanted = c.args.derivation.now.wanted.now in
    let derived = c.args.derivation.now.derived.now in
    let numbers = wanted ++ range_with_len c.args.derivation.now.first (length derived) in
    let names = c.deref.ensures.value ∙ c.in_ok-names.ensures in
    let at : c.deref-in-loop-place.result.now ≡ map (first_place numbers) c.args.shown.now = c.deref-in-loop-place.ensures.value ∙ c.in_ok-places.ensures ∙ ap (λ (l : List ℕ). map (first_place l) c.args.shown.now) names in
    let within = places_within wanted (range_with_len c.args.derivation.now.first (length derived)) c.args.shown.now c.deref-in-loop-place.result.now c.requires.shown.known at in
    record {
      within = λ i m. let h = within i m in omega (arith, h, length-range_with_len c.args.derivation.now.first (length derived));
      width = c.loop-place.invariant.width ∙ sym (ap length at ∙ length-map c.args.shown.now (first_place numbers));
    }

pub returns-in_err-derive_row-clause-grows : goal.returns-in_err-derive_row-clause-grows
returns-in_err-derive_row-clause-grows g c = extends_both c.args.symbols.now c.loop-place.symbols c.derive_row.new.symbols c.loop-place.invariant.grows c.derive_row.ensures.grows

pub returns-then-branch-clause-grows : goal.returns-then-branch-clause-grows
returns-then-branch-clause-grows g c = extends_both c.args.symbols.now c.loop-place.symbols c.derive_row.new.symbols c.loop-place.invariant.grows c.derive_row.ensures.grows

pub returns-then-branch-clause-rows : goal.returns-then-branch-clause-rows
returns-then-branch-clause-rows g c =
    let wanted = c.args.derivation.now.wanted.now in
    let derived = c.args.derivation.now.derived.now in
    let rows = c.args.rows.now.rows in
    let S0 = c.args.symbols.now in
    let names = c.deref.ensures.value ∙ c.in_ok-names.ensures in
    let at : c.deref-in-loop-place.result.now ≡ map (first_place (wanted ++ range_with_len c.args.derivation.now.first (length derived))) c.args.shown.now = c.deref-in-loop-place.ensures.value ∙ c.in_ok-places.ensures ∙ ap (λ (l : List ℕ). map (first_place l) c.args.shown.now) names in
    let wide : Each rows (λ (r : List ℕ). length r ≡ length wanted) = λ r m. c.count-place-end.ensures.wide r m ∙ c.requires.rows.width in
    let d = subst (λ (r : List ℕ). DerivesTo g.M.Meaning.apply wanted derived c.deref-in-loop-place.result.now c.loop-place.symbols c.derive_row.new.symbols r c.in_ok-derive_row.field-0 c.loop-place.out c.derive_row.new.out) c.row-row.ensures.row c.in_ok-derive_row.ensures.derives in
    let inside : c.loop-place.place < length rows = omega (arith, c.loop-place-test.true, c.count-place-end.ensures.count) in
    upto_full g.M.Meaning.apply wanted derived c.args.derivation.now.first c.args.shown.now c.deref-in-loop-place.result.now S0 rows c.requires.rows.texts wide at c.requires.shown.known (length-range_with_len c.args.derivation.now.first (length derived))
    c.loop-place.symbols c.derive_row.new.symbols c.loop-place.out c.derive_row.new.out c.loop-place.place c.args.most inside c.loop-place.invariant.most c.derive_row.ensures.apart c.loop-place.invariant.grows c.derive_row.ensures.grows
    (subst (λ (b : Bool). DerivesTo g.M.Meaning.apply wanted derived c.deref-in-loop-place.result.now c.loop-place.symbols c.derive_row.new.symbols (numbers_at rows c.loop-place.place) b c.loop-place.out c.derive_row.new.out) c.if-branch.true d)
    c.loop-place.invariant.standing

pub loop-place-preserved : goal.loop-place-preserved
loop-place-preserved g c =
    let wanted = c.args.derivation.now.wanted.now in
    let derived = c.args.derivation.now.derived.now in
    let rows = c.args.rows.now.rows in
    let S0 = c.args.symbols.now in
    let names = c.deref.ensures.value ∙ c.in_ok-names.ensures in
    let at : c.deref-in-loop-place.result.now ≡ map (first_place (wanted ++ range_with_len c.args.derivation.now.first (length derived))) c.args.shown.now = c.deref-in-loop-place.ensures.value ∙ c.in_ok-places.ensures ∙ ap (λ (l : List ℕ). map (first_place l) c.args.shown.now) names in
    let wide : Each rows (λ (r : List ℕ). length r ≡ length wanted) = λ r m. c.count-place-end.ensures.wide r m ∙ c.requires.rows.width in
    let d = subst (λ (r : List ℕ). DerivesTo g.M.Meaning.apply wanted derived c.deref-in-loop-place.result.now c.loop-place.symbols c.derive_row.new.symbols r c.in_ok-derive_row.field-0 c.loop-place.out c.derive_row.new.out) c.row-row.ensures.row c.in_ok-derive_row.ensures.derives in
    let inside : c.loop-place.place < length rows = omega (arith, c.loop-place-test.true, c.count-place-end.ensures.count) in
    let more = subst (λ (b : Bool). DerivesTo g.M.Meaning.apply wanted derived c.deref-in-loop-place.result.now c.loop-place.symbols c.derive_row.new.symbols (numbers_at rows c.loop-place.place) b c.loop-place.out c.derive_row.new.out) c.if-branch.false d in
    record {
      grows = extends_both c.args.symbols.now c.loop-place.symbols c.derive_row.new.symbols c.loop-place.invariant.grows c.derive_row.ensures.grows;
      apart = c.derive_row.ensures.apart;
      width = more.collects.width ∙ c.loop-place.invariant.width;
      most = more.collects.most ∙ c.loop-place.invariant.most;
      standing = upto_more g.M.Meaning.apply wanted derived c.args.derivation.now.first c.args.shown.now c.deref-in-loop-place.result.now S0 rows c.requires.rows.texts wide at c.requires.shown.known (length-range_with_len c.args.derivation.now.first (length derived))
          c.loop-place.symbols c.derive_row.new.symbols c.loop-place.out c.derive_row.new.out c.loop-place.place inside c.loop-place.invariant.grows c.derive_row.ensures.grows more c.loop-place.invariant.standing;
    }

pub returns-clause-grows : goal.returns-clause-grows
returns-clause-grows g c = c.loop-place.invariant.grows

pub returns-clause-apart : goal.returns-clause-apart
returns-clause-apart g c = c.loop-place.invariant.apart

pub returns-clause-rows : goal.returns-clause-rows
returns-clause-rows g c =
    let wanted = c.args.derivation.now.wanted.now in
    let derived = c.args.derivation.now.derived.now in
    let rows = c.args.rows.now.rows in
    let S0 = c.args.symbols.now in
    let names = c.deref.ensures.value ∙ c.in_ok-names.ensures in
    let at : c.in_ok-places.places.items ≡ map (first_place (wanted ++ range_with_len c.args.derivation.now.first (length derived))) c.args.shown.now = c.in_ok-places.ensures ∙ ap (λ (l : List ℕ). map (first_place l) c.args.shown.now) names in
    let wide : Each rows (λ (r : List ℕ). length r ≡ length wanted) = λ r m. c.count-place-end.ensures.wide r m ∙ c.requires.rows.width in
    upto_all g.M.Meaning.apply wanted derived c.args.derivation.now.first c.args.shown.now c.in_ok-places.places.items S0 rows c.requires.rows.texts wide at c.requires.shown.known (length-range_with_len c.args.derivation.now.first (length derived))
    c.finish.result c.loop-place.symbols c.loop-place.out c.loop-place.place c.args.most (omega (arith, c.loop-place-test.false, c.count-place-end.ensures.count, c.loop-place.auto.place-end)) c.loop-place.invariant.most c.loop-place.invariant.width
    c.loop-place.invariant.apart c.loop-place.invariant.standing c.finish.ensures

pub returns-clause-within : goal.returns-clause-within
returns-clause-within g c =
    few_rows c.finish.result c.loop-place.out.most c.args.most (MoreThan c.loop-place.out.most (λ t. t ∈ c.loop-place.out.rows)) (RowsExactly c.loop-place.out.width (λ t. t ∈ c.loop-place.out.rows))
    c.loop-place.invariant.most c.finish.ensures
