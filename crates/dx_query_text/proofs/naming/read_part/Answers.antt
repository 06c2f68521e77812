use Rattle.std.proofs.Common.{◌∙◌, ◌≡◌, ap}
use Rattle.std.proofs.lemmas.Result.{err_from_is_err_and}
use Rattle.dx_tgd_text.specs.Numbering.{unknown_names}
use Rattle.dx_query_text.specs.Naming.{part_variables}
use Rattle.dx_query_text.proofs.Steps.{by_answer, by_width, part_read}
use Rattle.dx_query_text.proofs.naming.read_part.Goals as goal

pub returns-in_err-check_width : goal.returns-in_err-check_width
returns-in_err-check_width c =
    let p = err_from_is_err_and c.from_residual-in_err-check_width.result c.from_residual-in_err-check_width.ensures.1 in
    let none = (rw c.items-2.ensures at c.in_ok-atoms.ensures).1 in
    rw (p.1, p.2) (by_width c.args.target.now c.args.width c.args.part.now _ none c.in_err-check_width.ensures.fault)

pub returns-in_err-check_answer : goal.returns-in_err-check_answer
returns-in_err-check_answer c =
    let known : c.in_ok-known.known ≡ part_variables c.args.part.now = (rw c.items.ensures at c.in_ok-known.ensures) ∙ ap (λ k. unknown_names k c.args.part.now.atoms) c.new-none.ensures in
    let p = err_from_is_err_and c.from_residual-in_err-check_answer.result c.from_residual-in_err-check_answer.ensures.1 in
    let none = (rw c.items-2.ensures at c.in_ok-atoms.ensures).1 in
    rw (p.1, p.2) (by_answer c.args.target.now c.args.width c.args.part.now c.in_ok-known.known _ known none c.in_ok-check_width.ensures.none (rw c.items-3.ensures at c.in_err-check_answer.ensures.fault))

pub returns : goal.returns
returns c =
    let known : c.in_ok-known.known ≡ part_variables c.args.part.now = (rw c.items.ensures at c.in_ok-known.ensures) ∙ ap (λ k. unknown_names k c.args.part.now.atoms) c.new-none.ensures in
    part_read c.args.target.now c.args.width c.args.part.now c.new-none.result c.in_ok-known.known c.in_ok-atoms.atoms c.in_ok-answer.answer c.new-none.ensures known
    (rw c.items-2.ensures at c.in_ok-atoms.ensures) c.in_ok-check_width.ensures.none (rw c.items-3.ensures at c.in_ok-check_answer.ensures.none) (rw c.items-4.ensures at c.in_ok-answer.ensures)
