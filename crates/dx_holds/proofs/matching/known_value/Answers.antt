use Rattle.std.proofs.Common.{◌≡◌, ◌∙◌, ℕ, List, ap, sym}
use Rattle.dx_model.specs.declared.values.Value.{Value}
use Rattle.dx_model.specs.declared.values.Value.TheVariants.{Const}
use Rattle.dx_model.specs.Rules.{cell_value}
use Rattle.dx_holds.specs.Searching.{ExtendsFound, texts}
use Rattle.dx_holds.proofs.Narrowing.{known_value, some_known}
use Rattle.dx_holds.proofs.matching.known_value.Goals as goal

pub returns-in-Some : goal.returns-in-Some
returns-in-Some c =
    let q = c.args.question.now in
    let m = rw c.in-Some.is at c.found_at.ensures in
    some_known c.shared.result c.cell.result.now (λ (v : Value). (values : ℕ → Value) → ExtendsFound q.target.now c.args.found.now values → cell_value (texts q.atoms.now q.tuple.now) values c.args.cell.now ≡ v) c.shared.ensures
    (λ values w. known_value (texts q.atoms.now q.tuple.now) q.target.now c.args.found.now c.args.cell.now c.in-Ex.variable c.in-Some.entry c.in-Ex.is m.0 m.1 values w ∙ sym c.cell.ensures)

pub returns-in-Var : goal.returns-in-Var
returns-in-Var c =
    let q = c.args.question.now in
    some_known c.shared_text.result (Const c.text_for.result.now) (λ (v : Value). (values : ℕ → Value) → ExtendsFound q.target.now c.args.found.now values → cell_value (texts q.atoms.now q.tuple.now) values c.args.cell.now ≡ v) c.shared_text.ensures
    (λ values w. ap (cell_value (texts q.atoms.now q.tuple.now) values) c.in-Var.is ∙ ap (λ (t : List ℕ). Const t) (sym c.text_for.ensures))

pub returns-in-Lit : goal.returns-in-Lit
returns-in-Lit c =
    let q = c.args.question.now in
    some_known c.shared_text-in-Lit.result (Const c.in-Lit.text) (λ (v : Value). (values : ℕ → Value) → ExtendsFound q.target.now c.args.found.now values → cell_value (texts q.atoms.now q.tuple.now) values c.args.cell.now ≡ v) c.shared_text-in-Lit.ensures
    (λ values w. ap (cell_value (texts q.atoms.now q.tuple.now) values) c.in-Lit.is)
