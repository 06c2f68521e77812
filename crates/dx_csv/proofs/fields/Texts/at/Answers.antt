use Rattle.std.proofs.Common.{◌≡◌, ◌∙◌, ◌-◌, arith, drop, ap, List, ℕ, string_bytes, take}
use Rattle.csv.specs.Records.{prev}
use Rattle.dx_instance.proofs.SortFacts.{if_ok}
use Rattle.dx_csv.proofs.FieldFacts.{text-in, place-within}
use Rattle.dx_csv.proofs.fields.Texts.at.Goals as goal

pub index-end-requires : goal.index-end-requires
index-end-requires c =
    let left = place-within c.self.inside.ends.items c.args.place (string_bytes c.self.inside.buffer.value) _ c.self.view_is c.requires in
    omega (arith, left, c.self.inside.ends.ok.0)

pub start_of-requires : goal.start_of-requires
start_of-requires c =
    let left = place-within c.self.inside.ends.items c.args.place (string_bytes c.self.inside.buffer.value) _ c.self.view_is c.requires in
    rw c.deref.ensures.value left

pub part-requires-clause-order : goal.part-requires-clause-order
part-requires-clause-order c =
    let start = c.start_of.ensures ∙ ap (λ (l : List ℕ). prev 0 l c.args.place) c.deref.ensures.value in
    (text-in c.self.inside.ends.items c.args.place c.start_of.result c.index-end.result.now (string_bytes c.self.inside.buffer.value) _ c.self.view_is c.requires start c.index-end.ensures c.self.invariant).order

pub part-requires-clause-within : goal.part-requires-clause-within
part-requires-clause-within c =
    let start = c.start_of.ensures ∙ ap (λ (l : List ℕ). prev 0 l c.args.place) c.deref.ensures.value in
    (text-in c.self.inside.ends.items c.args.place c.start_of.result c.index-end.result.now (string_bytes c.self.inside.buffer.value) _ c.self.view_is c.requires start c.index-end.ensures c.self.invariant).within

pub part-requires-clause-text : goal.part-requires-clause-text
part-requires-clause-text c =
    let start = c.start_of.ensures ∙ ap (λ (l : List ℕ). prev 0 l c.args.place) c.deref.ensures.value in
    (text-in c.self.inside.ends.items c.args.place c.start_of.result c.index-end.result.now (string_bytes c.self.inside.buffer.value) _ c.self.view_is c.requires start c.index-end.ensures c.self.invariant).utf8

pub returns : goal.returns
returns c =
    let start = c.start_of.ensures ∙ ap (λ (l : List ℕ). prev 0 l c.args.place) c.deref.ensures.value in
    let t = text-in c.self.inside.ends.items c.args.place c.start_of.result c.index-end.result.now (string_bytes c.self.inside.buffer.value) _ c.self.view_is c.requires start c.index-end.ensures c.self.invariant in
    if_ok c.part.result (λ (v : List ℕ) (e : v ≡ take (c.index-end.result.now - c.start_of.result) (drop c.start_of.result (string_bytes c.self.inside.buffer.value))). e ∙ t.is) c.part.ensures
