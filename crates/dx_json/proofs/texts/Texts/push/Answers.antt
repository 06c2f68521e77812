use Rattle.std.proofs.Common.{◌∙◌, string_bytes}
use Rattle.dx_json.proofs.Parts.{any_err, spans_pushed, texts_kept, texts_pushed}
use Rattle.dx_json.proofs.texts.Texts.push.Goals as goal

pub returns-in_err-end-clause-err : goal.returns-in_err-end-clause-err
returns-in_err-end-clause-err c = any_err c.from_residual-in_err-end.result
    (texts_kept (string_bytes c.self.inside.buffer) (string_bytes c.push_str.new.self) c.args.text.now c.self.inside.spans.items c.args.self.now c.self.invariant c.in_ok-push_str.ensures.bytes c.self.view_is)

pub returns-in_err-push-clause-err : goal.returns-in_err-push-clause-err
returns-in_err-push-clause-err c = any_err c.from_residual-in_err-push.result (rw c.in_err-push.ensures.items
    (texts_kept (string_bytes c.self.inside.buffer) (string_bytes c.push_str.new.self) c.args.text.now c.self.inside.spans.items c.args.self.now c.self.invariant c.in_ok-push_str.ensures.bytes c.self.view_is))

pub invariant_of-self-2 : goal.invariant_of-self-2
invariant_of-self-2 c =
    spans_pushed (string_bytes c.self.inside.buffer) (string_bytes c.push_str.new.self) c.args.text.now c.self.inside.spans.items c.push.new.self.items c.in_ok-start.start c.in_ok-end.end c.self.invariant
    c.in_ok-push_str.ensures.bytes c.in_ok-push.ensures.items (c.in_ok-start.ensures ∙ c.len.ensures ∙ c.self.inside.buffer.bytes.ok.0) (c.in_ok-end.ensures ∙ c.len-2.ensures ∙ c.push_str.new.self.bytes.ok.0) c.utf8.text

pub returns-clause-ok : goal.returns-clause-ok
returns-clause-ok c =
    texts_pushed (string_bytes c.self.inside.buffer) (string_bytes c.push_str.new.self) c.args.text.now c.self.inside.spans.items c.push.new.self.items c.in_ok-start.start c.in_ok-end.end c.args.self.now c.self.invariant
    c.in_ok-push_str.ensures.bytes c.in_ok-push.ensures.items (c.in_ok-start.ensures ∙ c.len.ensures ∙ c.self.inside.buffer.bytes.ok.0) (c.in_ok-end.ensures ∙ c.len-2.ensures ∙ c.push_str.new.self.bytes.ok.0) c.self.view_is
