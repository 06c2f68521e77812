use Rattle.std.proofs.Common.{ℕ, List, map, subst, take}
use Rattle.std.proofs.lemmas.List.{take_all}
use Rattle.dx_instance.specs.ValueText.{const_text}
use Rattle.clio_files.specs.Printing.{HasFields}
use Rattle.clio_files.proofs.AnswerLists.{texts_more}
use Rattle.clio_files.proofs.answers.push_answer.Goals as goal

pub loop-text-init : goal.loop-text-init
loop-text-init c = λ rs h. h

pub loop-text-preserved : goal.loop-text-preserved
loop-text-preserved c = λ rs h.
    let i = c.loop-text.text-index in
    let ts = c.args.texts.now in
    subst (HasFields c.constant.new.self rs) (texts_more ts i c.text-item.result c.loop-text-test.true c.text-item.is)
    (c.in_ok-constant.ensures rs (map const_text (take i ts)) (c.loop-text.invariant rs h))

pub returns : goal.returns
returns c = λ rs h.
    let all = take_all c.loop-text.text-index c.args.texts.now c.loop-text-test.false in
    c.end.ensures rs (map const_text c.args.texts.now)
    (subst (λ (ts : List (List ℕ)). HasFields c.loop-text.records rs (map const_text ts)) all (c.loop-text.invariant rs h))
