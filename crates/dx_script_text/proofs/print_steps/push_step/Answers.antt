use Rattle.dx_script_text.proofs.print_steps.push_step.Goals as goal

pub returns-in-InsertRows : goal.returns-in-InsertRows
returns-in-InsertRows c = rw (c.in-InsertRows.is, ← c.items-in-InsertRows.ensures) c.push_insert.ensures
