use Rattle.std.proofs.Common.{◌≡◌, ◌∙◌, ◌++◌, ◌∷◌, [], sym, ap, arith, ℕ, List, get_or, take}
use Rattle.std.specs.Prelude.{map, slice_index_or}
use Rattle.std.proofs.lemmas.List.{map_more, length-map, get_or-map}
use Rattle.dx_base.proofs.Members.{in_at}
use Rattle.dx_model.specs.Rules.{text_of}
use Rattle.dx_instance.specs.Numbers.{value_of}
use Rattle.dx_joins.specs.Shown.{texts_of}
use Rattle.dx_instance.specs.Ranks.{text_of_value}
use Rattle.dx_joins.proofs.Growing.{text_at, one_text}
use Rattle.dx_joins.proofs.computed.texts_for.Goals as goal

pub place-requires : goal.place-requires
place-requires c = c.requires.known _ (in_at c.args.variables.now c.loop-x.x-index 0 c.loop-x-test.true)

pub text_at-requires : goal.text_at-requires
text_at-requires c = one_text c.args.symbols.now c.args.row.now c.place.result (omega (arith, c.place.ensures.within, c.requires.many)) c.requires.texts

pub loop-x-preserved : goal.loop-x-preserved
loop-x-preserved c =
    let x = get_or c.args.variables.now c.loop-x.x-index 0 in
    let ts = texts_of c.args.symbols.now c.args.row.now in
    let known = c.requires.known x (in_at c.args.variables.now c.loop-x.x-index 0 c.loop-x-test.true) in
    let long = length-map c.args.row.now (λ (n : ℕ). text_of_value (value_of c.args.symbols.now n)) in
    let at = text_at c.args.names.now ts x (omega (arith, long, c.requires.many)) known in
    let got : text_of_value (value_of c.args.symbols.now (get_or c.args.row.now c.place.result 0)) ≡ text_of c.args.names.now ts x =
    sym (get_or-map (λ (n : ℕ). text_of_value (value_of c.args.symbols.now n)) c.args.row.now c.place.result 0 [] (omega (arith, c.place.ensures.within, c.requires.many))) ∙ ap (λ (k : ℕ). slice_index_or ts k []) c.place.ensures.place ∙ sym at in
    c.in_ok-push.ensures.ok ∙ ap (λ (l : List (List ℕ)). l ++ c.in_ok-text_at.field-0 ∷ []) c.loop-x.invariant
    ∙ ap (λ (t : List ℕ). map (text_of c.args.names.now ts) (take c.loop-x.x-index c.args.variables.now) ++ t ∷ []) (c.in_ok-text_at.ensures ∙ got)
    ∙ sym (map_more (text_of c.args.names.now ts) c.args.variables.now c.loop-x.x-index 0 c.loop-x-test.true)
