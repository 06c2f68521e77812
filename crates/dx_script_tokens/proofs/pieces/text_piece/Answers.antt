use Rattle.std.proofs.Common.{arith}
use Rattle.dx_script_tokens.proofs.Passing.{text_reads, text_goes_on, text_ends}
use Rattle.dx_script_tokens.proofs.pieces.text_piece.Goals as goal

pub returns-in-Quote-clause-value : goal.returns-in-Quote-clause-value
returns-in-Quote-clause-value c = text_reads c.bytes.n c.in-Some.b.now c.in-Some.others.now c.bytes.rest.now _ _ c.in-Some.ensures.cases.0 c.in-Quote.ensures.value c.bytes.invariant.reads

pub returns-in-Bad-clause-value : goal.returns-in-Bad-clause-value
returns-in-Bad-clause-value c = text_reads c.bytes.n c.in-Some.b.now c.in-Some.others.now c.bytes.rest.now _ _ c.in-Some.ensures.cases.0 c.in-Bad.ensures.value c.bytes.invariant.reads

pub returns-in-Cut-clause-value : goal.returns-in-Cut-clause-value
returns-in-Cut-clause-value c = text_reads c.bytes.n c.in-Some.b.now c.in-Some.others.now c.bytes.rest.now _ _ c.in-Some.ensures.cases.0 c.in-Cut.ensures.value c.bytes.invariant.reads

pub returns-clause-value : goal.returns-clause-value
returns-clause-value c = text_ends c.bytes.n c.bytes.rest.now _ c.in_default.ensures.cases c.bytes.invariant.reads

pub bytes-preserved : goal.bytes-preserved
bytes-preserved c = record {
  reads = text_goes_on c.bytes.n c.in-Some.b.now c.in-Whole.len c.in-Some.others.now c.bytes.rest.now c.split_at.result.1.now _ c.in-Some.ensures.cases.0 c.in-Whole.ensures.value c.in-Whole.ensures.within.0 c.in-Whole.ensures.within.1 c.split_at.ensures.back c.bytes.invariant.reads;
  adds_up = omega (arith, c.split_at.ensures.back_len, c.bytes.invariant.adds_up);
}
