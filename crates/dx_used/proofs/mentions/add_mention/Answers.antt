use Rattle.std.proofs.Common.{arith}
use Rattle.dx_used.proofs.MarkFacts.{counted_full, counted_out, counted_set}
use Rattle.dx_used.proofs.mentions.add_mention.Goals.{else-place-counts-via-then-place-counts+else-counts-place-lt2, else-place-counts-via-else-place-counts}
use Rattle.dx_used.proofs.mentions.add_mention.Goals as goal

pub returns-then-counts-place-lt2 : goal.returns-then-counts-place-lt2
returns-then-counts-place-lt2 c = record {
  counts = λ cells h.
      counted_set cells c.args.counts.now c.args.variable h (omega (arith, c.if-place-counts.true)) c.if-counts-place-lt2.true;
}

pub returns-else-place-counts : goal.returns-else-place-counts
returns-else-place-counts c = record {
  counts = λ cells h. elim c.else-place-counts.branch [
    | else-place-counts-via-then-place-counts+else-counts-place-lt2 w ↦ counted_full cells c.args.counts.now c.args.variable h w.if-counts-place-lt2.false
    | else-place-counts-via-else-place-counts w ↦
        counted_out cells c.args.counts.now c.args.variable h (omega (arith, w.if-place-counts.false))
  ];
}
