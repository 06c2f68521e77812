use Rattle.std.proofs.Common.{◌≡◌, ◌∙◌, ◌++◌, [], ◌<◌, sym, ap, subst, arith, ℕ, List, length}
use Rattle.std.specs.Prelude.{map, slice_index, slice_index_or}
use Rattle.std.proofs.lemmas.List.{append-nil, length-map}
use Rattle.dx_base.specs.Members.{Each}
use Rattle.dx_joins.specs.Looking.{numbers_at_places}
use Rattle.dx_joins.specs.Shown.{AllTexts, texts_of}
use Rattle.dx_joins.proofs.Growing.{derive_length, derives_result, picked}
use Rattle.dx_joins.proofs.shown.derive_row.Goals as goal

pub gather-requires : goal.gather-requires
gather-requires g c = record {
  within = λ i m.
      let b = c.requires.places.within i m in
      let l = derive_length g.M.Meaning.apply c.args.derivation.now.wanted.now c.args.derivation.now.derived.now c.args.row.now c.derive.new.buffer.items c.args.symbols.now c.derive.new.symbols c.in_ok-derive.ensures.shown in
      omega (arith, b, l, ap length c.deref.ensures.value, c.requires.row.many);
}

pub push-requires : goal.push-requires
push-requires g c = record { width = ap length (c.deref-2.ensures.value ∙ c.in_ok-gather.ensures) ∙ length-map c.args.places.now (slice_index (c.deref.result.now ++ [])) ∙ sym c.requires.places.width }

pub returns-clause-derives : goal.returns-clause-derives
returns-clause-derives g c =
    let row = c.derive.new.buffer.items in
    let S = c.derive.new.symbols in
    let l = derive_length g.M.Meaning.apply c.args.derivation.now.wanted.now c.args.derivation.now.derived.now c.args.row.now row c.args.symbols.now S c.in_ok-derive.ensures.shown in
    let within : Each c.args.places.now (λ i. i < length row) = λ i m. let b = c.requires.places.within i m in omega (arith, b, l, c.requires.row.many) in
    let got : c.deref-2.result.now ≡ numbers_at_places row c.args.places.now = c.deref-2.ensures.value ∙ c.in_ok-gather.ensures ∙ ap (λ (r : List ℕ). numbers_at_places r c.args.places.now) (append-nil c.deref.result.now ∙ c.deref.ensures.value) in
    let p = picked S row c.args.places.now within c.in_ok-derive.ensures.texts in
    let texts : AllTexts S c.deref-2.result.now = subst (λ (r : List ℕ). AllTexts S r) (sym got) p.0 in
    let shown = ap (texts_of S) got ∙ p.1 ∙ ap (λ (u : List (List ℕ)). map (λ (i : ℕ). slice_index_or u i []) c.args.places.now) c.in_ok-derive.ensures.shown in
    derives_result c.push.result g.M.Meaning.apply c.args.derivation.now.wanted.now c.args.derivation.now.derived.now c.args.places.now c.args.symbols.now S c.args.row.now c.deref-2.result.now c.args.out.now c.push.new.self texts shown c.push.ensures
