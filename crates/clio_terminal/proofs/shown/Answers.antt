use Rattle.std.proofs.Common.{encode_utf8_all, string_bytes, sym, ap, ◌∙◌}
use Rattle.std.proofs.lemmas.Iterator.{YieldsList-from_chars}
use Rattle.std.proofs.lemmas.Iterator.Consumers.{YieldsList-end}
use Rattle.std.proofs.lemmas.List.{map-id}
use Rattle.clio_terminal.specs.Shown.{shown}
use Rattle.clio_terminal.proofs.Pushes.{one_shown_more}
use Rattle.clio_terminal.proofs.shown.Goals as goal

pub text-preserved : goal.text-preserved
text-preserved c =
    one_shown_more (string_bytes c.text.out) (string_bytes c.push_shown.new.out) c.text.yielded c.in-Some.character c.text.invariant c.in_ok-push_shown.ensures

pub returns : goal.returns
returns c =
    let ended = YieldsList-end (YieldsList-from_chars c.args.text.now c.utf8.text cc) c.text.yielded _ c.text.yielded_by _ _ c.in-None.is c.next.ensures.steps in
    c.text.invariant ∙ ap (λ cs. encode_utf8_all (shown cs)) (sym (map-id c.text.yielded) ∙ ended.0)
