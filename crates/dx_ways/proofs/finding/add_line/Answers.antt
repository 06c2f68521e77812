use Rattle.std.proofs.Common.{rules, refl, sym, ◌∙◌}
use Rattle.std.specs.Prelude.{map, []}
use Rattle.dx_ways.proofs.Tries.{line_same, literal_none, no_variables, no_tables}
use Rattle.std.proofs.lemmas.List.{nil_from_length}
use Rattle.dx_ways.proofs.finding.add_line.Goals as goal

pub returns-in-Literal-clause-all : goal.returns-in-Literal-clause-all
returns-in-Literal-clause-all c = literal_none c.args.from.now c.args.to.now c.args.line.now c.in-Literal.field-0 c.args.found.now.items c.requires.ascends c.in-Literal.is

pub returns-then-is_empty : goal.returns-then-is_empty
returns-then-is_empty c = record {
  all = no_variables c.args.from.now c.args.to.now c.args.line.now c.args.found.now.items c.in_ok-variables.variables.items c.requires.ascends c.in_ok-variables.ensures (nil_from_length c.in_ok-variables.variables.items (search rules));
  few = c.requires.few;
  many = tt;
}

pub returns-then-not-has_tables : goal.returns-then-not-has_tables
returns-then-not-has_tables c = record {
  all = no_tables c.args.from.now c.args.to.now c.args.line.now c.args.found.now.items c.named-places.result.now (map (λ r. r.now) c.deref.result.now) c.requires.ascends c.named-places.ensures
      (rw (c.deref.ensures.value) c.in_ok-among.ensures) (sym c.has_tables.ensures ∙ c.if-not-has_tables.true);
  few = c.requires.few;
  many = tt;
}

pub returns : goal.returns
returns c =
    let e = line_same c.args.from.now c.args.to.now c.args.line.now c.args.found.now.items c.named-places.result.now c.deref-2.result.now (map (λ r. r.now) c.deref-3.result.now) [] c.requires.ascends c.named-places.ensures
    (c.deref-2.ensures.value ∙ c.in_ok-variables.ensures) (rw (c.deref-3.ensures.value) c.in_ok-among.ensures) refl in
    record {
      all = rw (← e) c.add_tried.ensures.all;
      few = c.add_tried.ensures.few;
      many = rw (← e) c.add_tried.ensures.many;
    }
