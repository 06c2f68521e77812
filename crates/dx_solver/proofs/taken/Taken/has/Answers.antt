use Rattle.std.proofs.Common.{◌≡◌, ◌∙◌, [], ap, sym, arith, length}
use Rattle.std.proofs.lemmas.List.{get_or_past, length-map}
use Rattle.dx_solver.proofs.taken.Taken.has.Goals as goal

pub returns-in-None : goal.returns-in-None
returns-in-None c =
    let tables = c.args.self.now in
    let long : length c.deref.result.now ≡ length tables =
    ap length c.deref.ensures.value ∙ (sym (length-map c.self.inside.tables.items _) ∙ ap length c.self.view_is) in
    rw (get_or_past tables c.args.table [] (omega (arith, c.in-None.ensures.lookup.3, long)))
