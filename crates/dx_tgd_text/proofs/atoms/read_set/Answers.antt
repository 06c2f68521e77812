use Rattle.std.proofs.Common.{◌∙◌, sym}
use Rattle.std.proofs.lemmas.Bool.{false≢true}
use Rattle.dx_tgd_text.proofs.Found.{unknown_set, other_width, set_found}
use Rattle.dx_tgd_text.proofs.atoms.read_set.Goals as goal

pub returns-in_default : goal.returns-in_default
returns-in_default c = unknown_set c.args.schema.now c.args.atom.now (λ m. false≢true (c.in_default.ensures.none.1 m))

pub returns-then-len-from : goal.returns-then-len-from
returns-then-len-from c =
    other_width c.args.schema.now c.args.atom.now c.in-Some.table c.tables-tables.ensures.facts c.in-Some.ensures.some.0 c.in-Some.ensures.some.1
    (λ e. c.if-len-from.true (c.len.ensures ∙ e ∙ sym c.width.ensures.number ∙ sym c.from.ensures))

pub returns : goal.returns
returns c =
    set_found c.args.schema.now c.args.atom.now c.in-Some.table c.tables-tables.ensures.facts c.in-Some.ensures.some.0 c.in-Some.ensures.some.1
    (sym c.len.ensures ∙ c.if-len-from.false ∙ c.from.ensures ∙ c.width.ensures.number)
