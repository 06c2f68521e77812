use Rattle.std.proofs.Common.{◌∙◌}
use Rattle.dx_base.proofs.Buffers.{whole_text}
use Rattle.dx_base.proofs.text.Text.from_string.Goals as goal

pub invariant_of-result : goal.invariant_of-result
invariant_of-result c = whole_text c.args.string c.in_ok-buffer.buffer.value c.in-Ok.end c.in_ok-buffer.ensures.ok (c.in-Ok.ensures.1 ∙ c.len.ensures)
