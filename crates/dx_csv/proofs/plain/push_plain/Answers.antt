use Rattle.std.proofs.Common.{◌≡◌, ◌<◌, ◌∙◌, ◌⊎◌, ℕ, List, false, get_or, length, arith, ap, subst, sym}
use Rattle.dx_csv.specs.Plain.{ends_line}
use Rattle.dx_csv.proofs.PlainFacts.{begun-more, begun-start, whole-end, whole-line}
use Rattle.dx_csv.proofs.plain.push_plain.Goals as goal

pub loop-number-init : goal.loop-number-init
loop-number-init c =
    let v = c.as_bytes-bytes.ensures.value in
    begun-start c.args.text.now c.args.from c.args.fields.now (omega (arith, ap length v, c.requires, c.if-from-bytes.false))
    (subst (λ (t : List ℕ). ends_line (get_or t c.args.from 0) ≡ false) v (sym c.ends_line.ensures ∙ c.if-ends_line.false))

pub returns-then-is_last : goal.returns-then-is_last
returns-then-is_last c before h =
    let v = c.as_bytes-bytes.ensures.value in
    let g = rw c.in-Some.is at c.in_ok-end.ensures in
    let w = whole-end c.args.text.now c.args.from c.loop-number.start c.in-Some.end c.loop-number.number c.args.width c.args.fields.now c.loop-number.fields c.push_field.new.fields g.0
    c.loop-number.invariant g.1 g.2 (c.if-end-bytes.true ∙ ap length v) c.if-is_last.true before h in
    (w.found, w.stands, w.wide, w.have)

pub returns-in-10 : goal.returns-in-10
returns-in-10 c before h =
    let v = c.as_bytes-bytes.ensures.value in
    let end = c.in-Some.end in
    let g = rw c.in-Some.is at c.in_ok-end.ensures in
    let within : end < length c.args.text.now = omega (arith, ap length v, g.1.within, c.if-end-bytes.false) in
    let w = whole-line c.args.text.now c.args.from c.loop-number.start end c.loop-number.number c.args.width c.args.fields.now c.loop-number.fields c.push_field.new.fields g.0
    c.loop-number.invariant g.1 g.2 within (subst (λ (t : List ℕ). (get_or t end 0 ≡ 10) ⊎ (get_or t end 0 ≡ 13)) v c.in-10.is) c.if-is_last-2.true before h in
    (w.found, w.stands, w.wide, w.have)

pub loop-number-preserved : goal.loop-number-preserved
loop-number-preserved c =
    let v = c.as_bytes-bytes.ensures.value in
    let end = c.in-Some.end in
    let g = rw c.in-Some.is at c.in_ok-end.ensures in
    let within : end < length c.args.text.now = omega (arith, ap length v, g.1.within, c.if-end-bytes.false) in
    begun-more c.args.text.now c.args.from c.loop-number.start end c.loop-number.number c.args.fields.now c.loop-number.fields c.push_field.new.fields g.0
    c.loop-number.invariant g.1 g.2 within (subst (λ (t : List ℕ). get_or t end 0 ≡ 44) v c.in-44.is)
