use Rattle.std.proofs.Common.{◌≡◌, ◌∙◌, ◌<◌, List, ℕ, ap, arith, length, subst, sym}
use Rattle.std.specs.Prelude.{IfOk, IsUtf8}
use Rattle.dx_model.specs.declared.values.Value.{Value}
use Rattle.dx_model.specs.declared.values.Value.TheVariants.{Const}
use Rattle.dx_instance.specs.Ranks.{text_of_value}
use Rattle.dx_instance.specs.Numbers.{value_of}
use Rattle.dx_instance.proofs.JoinFacts.{constant_is, has_bytes}
use Rattle.dx_instance.proofs.ordering.value_in.Goals as goal

pub constant_in-requires-clause-utf8 : goal.constant_in-requires-clause-utf8
constant_in-requires-clause-utf8 c = subst IsUtf8 (sym c.requires.lies.is) c.requires.lies.utf8

pub returns-then-start-end : goal.returns-then-start-end
returns-then-start-end c =
    let l = c.requires.lies in
    let m = l.many in
    let some : 0 < length (text_of_value (value_of c.args.symbols.now c.args.number)) = omega (arith, m, c.if-start-end.true) in
    subst (λ (w : Value). IfOk c.constant_in.result (λ v. v ≡ w)) (ap (λ (t : List ℕ). Const t) l.is ∙ sym (has_bytes (value_of c.args.symbols.now c.args.number) some)) c.constant_in.ensures

pub returns-in-Const : goal.returns-in-Const
returns-in-Const c =
    let l = c.requires.lies in
    let is = constant_is (value_of c.args.symbols.now c.args.number) _ (sym c.value.ensures ∙ c.in-Const.is) in
    subst (λ (w : Value). IfOk c.constant_in-in-Const.result (λ v. v ≡ w)) (ap (λ (t : List ℕ). Const t) l.is ∙ sym is) c.constant_in-in-Const.ensures
