use Rattle.std.proofs.Common.{◌≡◌, ◌↔◌}
use Rattle.dx_model.specs.declared.facts.Fact.{Fact}
use Rattle.dx_base.specs.Members.{◌∈◌}
use Rattle.dx_instance.specs.Numbers.{Extends}
use Rattle.dx_instance.specs.Stored.{facts, widths}
use Rattle.dx_schema.specs.Names.{table_names_of}
use Rattle.dx_schema.specs.Tables.{schema_widths}
use Rattle.dx_tgd.specs.Planned.{built}
use Rattle.dx_tgd.specs.Texts.{tuples_in}
use Rattle.dx_eval.specs.Inserting.{IsInsertedBelow}
use Rattle.dx_eval.proofs.inserting.insert_all.Given as goal

abbrev pub invariant-loop-rule : goal.invariant-loop-rule
invariant-loop-rule l = record {
  grows : Extends l.fn.target.symbols l.target.symbols;
  wide : widths (built l.target) ≡ schema_widths l.schema;
  made : (f : Fact) → (f ∈ facts (built l.target)) ↔ IsInsertedBelow (table_names_of l.schema) l.steps (tuples_in l.fn.target.symbols l.tables) l.rule f;
}
