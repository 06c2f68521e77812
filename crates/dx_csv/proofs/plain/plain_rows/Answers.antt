use Rattle.std.proofs.Common.{◌≡◌, ◌<◌, ◌∙◌, ℕ, List, true, get_or, length, arith, ap, subst, sym}
use Rattle.dx_csv.specs.Fields.{flat}
use Rattle.dx_csv.specs.Plain.{ends_line}
use Rattle.dx_csv.proofs.PlainFacts.{rows-all, rows-line, rows-more}
use Rattle.dx_csv.proofs.plain.plain_rows.Goals.{then-ends_line, else-ends_line+in_ok-after+in-Some}
use Rattle.dx_csv.proofs.plain.plain_rows.Goals as goal

pub returns-then-at-bytes : goal.returns-then-at-bytes
returns-then-at-bytes c =
    let w = rows-all c.args.text.now c.args.from c.loop-turn.at c.args.width c.loop-turn.count c.loop-turn.turn c.loop-turn.fields c.loop-turn.invariant
    (omega (arith, ap length c.as_bytes-bytes.ensures.value, c.if-at-bytes.true)) in
    (w.rows, w.has, w.have, w.many)

pub loop-turn-preserved : goal.loop-turn-preserved
loop-turn-preserved c =
    let v = c.as_bytes-bytes.ensures.value in
    let r = c.loop-turn.invariant in
    let within : c.loop-turn.at < length c.args.text.now = omega (arith, ap length v, r.within, c.if-at-bytes.false) in
    elim c.if-ends_line.branch [
      | then-ends_line w ↦ rw (w.fields-is, w.at-is, w.count-is)
          (rows-line c.args.text.now c.args.from c.loop-turn.at c.args.width c.loop-turn.count c.loop-turn.turn c.loop-turn.fields r within
          (subst (λ (t : List ℕ). ends_line (get_or t c.loop-turn.at 0) ≡ true) v (sym c.ends_line.ensures ∙ w.if-ends_line.true)))
      | else-ends_line+in_ok-after+in-Some w ↦
          let g = w.in_ok-after.ensures (flat r.rows) r.have in
          let e = rw w.in-Some.is at g in
          rw (w.fields-is, w.at-is, w.count-is)
          (rows-more c.args.text.now c.args.from c.loop-turn.at w.in-Some.after c.args.width c.loop-turn.count c.loop-turn.turn c.loop-turn.fields w.push_plain.new.fields r
          (record { found = e.0; stands = e.1; wide = e.2; have = e.3 }))
    ]
