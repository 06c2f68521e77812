use Rattle.dx_json.proofs.Parts.{span_within}
use Rattle.std.proofs.Common.{string_bytes}
use Rattle.dx_json.proofs.texts.SharedTexts.text.Goals as goal

pub part-requires-clause-order : goal.part-requires-clause-order
part-requires-clause-order c = (span_within (string_bytes c.self.inside.buffer.value) c.self.inside.spans.items c.args.self.now c.args.place c.index.result.now c.self.view_is c.requires c.self.invariant c.index.ensures).order

pub part-requires-clause-within : goal.part-requires-clause-within
part-requires-clause-within c = (span_within (string_bytes c.self.inside.buffer.value) c.self.inside.spans.items c.args.self.now c.args.place c.index.result.now c.self.view_is c.requires c.self.invariant c.index.ensures).within

pub part-requires-clause-text : goal.part-requires-clause-text
part-requires-clause-text c = (span_within (string_bytes c.self.inside.buffer.value) c.self.inside.spans.items c.args.self.now c.args.place c.index.result.now c.self.view_is c.requires c.self.invariant c.index.ensures).utf8
