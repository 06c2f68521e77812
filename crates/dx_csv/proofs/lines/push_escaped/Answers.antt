use Rattle.std.proofs.Common.{◌≡◌, ◌++◌, ◌∷◌, [], ◌∙◌, List, ℕ, get_or, take, sym, ap, append-nil, append_assoc}
use Rattle.std.proofs.lemmas.List.{get_or_default}
use Rattle.csv.specs.Writing.{default_writer, escaped}
use Rattle.dx_csv.proofs.LinesFacts.{escaped-more, escaped-none, twice, twice-quote, twice-other}
use Rattle.dx_csv.proofs.lines.push_escaped.Goals as goal
use Rattle.dx_csv.proofs.lines.push_escaped.Goals.{then-byte-eq34+in_ok-push, else-byte-eq34}

pub loop-byte-init : goal.loop-byte-init
loop-byte-init c = sym (ap (λ (t : List ℕ). c.args.bytes.now.items ++ t) escaped-none ∙ append-nil c.args.bytes.now.items)

pub loop-byte-preserved : goal.loop-byte-preserved
loop-byte-preserved c =
    let field = c.args.field.now in
    let i = c.loop-byte.byte-index in
    let b = get_or field i 0 in
    let start = c.loop-byte.bytes.items in
    let new = c.push-in-loop-byte.new.self.items in
    let both : new ≡ start ++ twice b = elim c.if-byte-eq34.branch [
      | then-byte-eq34+in_ok-push w ↦
          twice-quote b start w.push.new.self.items new w.if-byte-eq34.true w.in_ok-push.ensures.items (c.in_ok-push-2.ensures.items ∙ ap (λ v. v.items ++ b ∷ []) w.bytes-is)
      | else-byte-eq34 w ↦ twice-other b start new w.if-byte-eq34.false (c.in_ok-push-2.ensures.items ∙ ap (λ v. v.items ++ b ∷ []) w.bytes-is)
    ] in
    both
    ∙ ap (λ (t : List ℕ). t ++ twice b) c.loop-byte.invariant
    ∙ append_assoc c.args.bytes.now.items (escaped default_writer (take i field)) (twice b)
    ∙ ap (λ (t : List ℕ). c.args.bytes.now.items ++ t) (sym (escaped-more field i b c.loop-byte-test.true (get_or_default field i 0 b c.loop-byte-test.true)))
