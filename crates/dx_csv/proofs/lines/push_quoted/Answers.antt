use Rattle.std.proofs.Common.{◌++◌, ◌∙◌, List, ℕ, sym, ap}
use Rattle.csv.specs.Writing.{default_writer, escaped}
use Rattle.dx_csv.proofs.LinesFacts.{marked-quoted, between-quotes}
use Rattle.dx_csv.proofs.lines.push_quoted.Goals as goal

pub returns : goal.returns
returns c =
    let start = c.args.bytes.now.items in
    between-quotes start c.args.mark.now (escaped default_writer c.args.field.now) _ _ _ _
    c.in_ok-push.ensures.items c.in_ok-push_mark.ensures c.in_ok-push_escaped.ensures c.in_ok-push-2.ensures.items
    ∙ ap (λ (t : List ℕ). start ++ t) (sym (marked-quoted c.args.mark.now c.args.field.now c.requires.mark c.requires.field))
