use Rattle.std.proofs.Common.{◌<◌, length, get_or, sym, ◌∙◌, ap, map, subst, arith}
use Rattle.std.specs.List.{AllZip}
use Rattle.dx_model.specs.declared.rules.Rule.{Rule}
use Rattle.dx_model.specs.Rules.{exported}
use Rattle.dx_model.specs.Covers.{rule_at}
use Rattle.dx_instance.specs.Cells.{NumberTable}
use Rattle.dx_joins.specs.Shown.{texts_of}
use Rattle.dx_cover_fold.specs.Codes.{IsPlanned}
use Rattle.dx_cover_fold.specs.Found.{IndexesCells, images_by, variable_cells}
use Rattle.dx_cover_fold.specs.Matched.{matched_tuples}
use Rattle.dx_cover_fold.proofs.CodeFacts.{plan_columns}
use Rattle.dx_cover_fold.proofs.CoverFacts.{map_more, places_are, rule_is, tuples_are}
use Rattle.dx_cover_fold.proofs.covering.Covering.by_map.Goals as goal

pub or_firsts-requires : goal.or_firsts-requires
or_firsts-requires c =
    let m = c.args.self.now.matches.now in
    let first : c.args.self.now.rule < length m.tables = omega (arith, c.args.self.now.one, c.args.self.now.from) in
    let here = sym c.rows-here.ensures.rows in
    let own = subst (λ (t : NumberTable). AllZip (IsPlanned m.symbols (exported (rule_at c.args.self.now.rules.now c.args.self.now.rule)) t.width) (variable_cells (rule_at c.args.self.now.rules.now c.args.self.now.rule)) c.args.self.now.own.items) here c.requires.begun.own in
    record {
      columns = rw c.deref.ensures.value (plan_columns m.symbols (exported (rule_at c.args.self.now.rules.now c.args.self.now.rule)) c.rows-here.result.now.width (variable_cells (rule_at c.args.self.now.rules.now c.args.self.now.rule)) c.args.self.now.own.items own);
      many = c.requires.begun.many ∙ places_are m c.args.self.now.rule first ∙ ap (λ (t : NumberTable). length t.rows) here;
    }

pub returns-clause-many : goal.returns-clause-many
returns-clause-many c =
    let m = c.args.self.now.matches.now in
    let first : c.args.self.now.rule < length m.tables = omega (arith, c.args.self.now.one, c.args.self.now.from) in
    c.in_ok-or_firsts.ensures.many ∙ sym (c.requires.begun.many ∙ places_are m c.args.self.now.rule first ∙ ap (λ (t : NumberTable). length t.rows) (sym c.rows-here.ensures.rows))

pub returns-clause-finds : goal.returns-clause-finds
returns-clause-finds c = λ C h.
    let R = c.args.self.now.rules.now in
    let m = c.args.self.now.matches.now in
    let first : c.args.self.now.rule < length m.tables = omega (arith, c.args.self.now.one, c.args.self.now.from) in
    let second : c.args.other < length m.tables = omega (arith, c.args.self.now.one, c.requires.to) in
    let here = sym c.rows-here.ensures.rows in
    let there = sym c.rows-there.ensures.rows in
    let from = rule_is R c.args.self.now.rule c.index-self-self.result c.args.self.now.from c.index-self-self.is in
    let to = rule_is R c.args.other c.index-self-other.result c.requires.to c.index-self-other.is in
    let own = subst (λ (t : NumberTable). AllZip (IsPlanned m.symbols (exported (rule_at R c.args.self.now.rule)) t.width) (variable_cells (rule_at R c.args.self.now.rule)) c.args.self.now.own.items) here c.requires.begun.own in
    let index = subst (λ (d : Rule). IndexesCells m.symbols c.rows-there.result.now (exported (rule_at R c.args.other)) (images_by d c.args.map.now) c.in_ok-index_by.field-0) (sym c.index-self-self.is ∙ sym from)
    (subst (λ (d : Rule). IndexesCells m.symbols c.rows-there.result.now (exported d) (images_by (get_or R c.args.self.now.rule c.index-self-self.result) c.args.map.now) c.in_ok-index_by.field-0) (sym c.index-self-other.is ∙ sym to) c.in_ok-index_by.ensures) in
    map_more R (matched_tuples m) c.args.self.now.rule c.args.other c.args.map.now m.symbols c.rows-here.result.now c.rows-there.result.now c.args.self.now.own.items c.args.number c.in_ok-index_by.field-0 c.args.known.now c.in_ok-or_firsts.field-0.items C
    (tuples_are m c.args.self.now.rule first ∙ ap (λ (t : NumberTable). map (texts_of m.symbols) t.rows) here)
    (tuples_are m c.args.other second ∙ ap (λ (t : NumberTable). map (texts_of m.symbols) t.rows) there)
    c.rows-here.ensures.apart (record { texts = c.rows-here.ensures.texts; wide = c.rows-here.ensures.wide }) (record { texts = c.rows-there.ensures.texts; wide = c.rows-there.ensures.wide })
    c.requires.number (c.requires.begun.many ∙ places_are m c.args.self.now.rule first ∙ ap (λ (t : NumberTable). length t.rows) here) own index (rw c.deref.ensures.value at c.in_ok-or_firsts.ensures) h
