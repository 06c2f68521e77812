use Rattle.std.proofs.Common.{◌≡◌, ◌++◌, ap, sym, subst, arith, length, List}
use Rattle.std.specs.declared.cmp.Ordering.TheVariants.{Less}
use Rattle.dx_base.specs.Members.{Each}
use Rattle.dx_model.specs.declared.values.Value.{Value}
use Rattle.dx_model.specs.Values.{value_cmp}
use Rattle.dx_instance.specs.Numbers.{ValuesAscend}
use Rattle.dx_instance.proofs.LayerFacts.{in_parts, second_more}
use Rattle.dx_instance.proofs.NumberFacts.{pushed_first, pushed_later}
use Rattle.dx_instance.proofs.symbols.Symbols.push_greater.Goals as goal

pub invariant_of-self : goal.invariant_of-self
invariant_of-self c =
    let above = subst (λ (l : List Value). Each l (λ x. value_cmp x c.args.value ≡ Less)) (sym c.self.view_is) c.requires in
    let p = pushed_first (c.self.inside.ordered ++ c.self.inside.greater.items) c.self.inside.later.keys (c.self.inside.ordered ++ c.push.new.self.items) c.args.value (c.is_empty.ensures.0 c.if-is_empty.true) (second_more c.self.inside.ordered c.self.inside.greater.items c.push.new.self.items c.args.value c.in_ok-push.ensures.items) above in
    let few = p.1.few in
    (p.0.ascend c.self.invariant.0, p.1.apart c.self.invariant.1, omega (arith, few, c.if-number-ge4294967295.false, ap length c.values.ensures.values, c.len.ensures, c.self.inside.greater.ok.0, c.len-2.ensures.len, in_parts c.self.inside.ordered c.self.inside.greater.items c.self.inside.later.keys))

pub invariant_of-self-in_ok-insert_full : goal.invariant_of-self-in_ok-insert_full
invariant_of-self-in_ok-insert_full c =
    let above = subst (λ (l : List Value). Each l (λ x. value_cmp x c.args.value ≡ Less)) (sym c.self.view_is) c.requires in
    let p = pushed_later (c.self.inside.ordered ++ c.self.inside.greater.items) c.self.inside.later.keys c.insert_full.new.self.keys c.args.value c.in_ok-insert_full.ensures.keys above in
    let few = p.few in
    (c.self.invariant.0, p.apart c.self.invariant.1, omega (arith, few, c.if-number-ge4294967295.false, ap length c.values.ensures.values, c.len.ensures, c.self.inside.greater.ok.0, c.len-2.ensures.len, in_parts c.self.inside.ordered c.self.inside.greater.items c.self.inside.later.keys))

pub returns-in_ok-push-clause-ascend : goal.returns-in_ok-push-clause-ascend
returns-in_ok-push-clause-ascend c up =
    let above = subst (λ (l : List Value). Each l (λ x. value_cmp x c.args.value ≡ Less)) (sym c.self.view_is) c.requires in
    let p = pushed_first (c.self.inside.ordered ++ c.self.inside.greater.items) c.self.inside.later.keys (c.self.inside.ordered ++ c.push.new.self.items) c.args.value (c.is_empty.ensures.0 c.if-is_empty.true) (second_more c.self.inside.ordered c.self.inside.greater.items c.push.new.self.items c.args.value c.in_ok-push.ensures.items) above in
    p.1.ascend (subst ValuesAscend (sym c.self.view_is) up)

pub returns-in_ok-insert_full-clause-pushed : goal.returns-in_ok-insert_full-clause-pushed
returns-in_ok-insert_full-clause-pushed c =
    let above = subst (λ (l : List Value). Each l (λ x. value_cmp x c.args.value ≡ Less)) (sym c.self.view_is) c.requires in
    let p = pushed_later (c.self.inside.ordered ++ c.self.inside.greater.items) c.self.inside.later.keys c.insert_full.new.self.keys c.args.value c.in_ok-insert_full.ensures.keys above in
    rw (← c.self.view_is) p.is

pub returns-in_ok-insert_full-clause-ascend : goal.returns-in_ok-insert_full-clause-ascend
returns-in_ok-insert_full-clause-ascend c up =
    let above = subst (λ (l : List Value). Each l (λ x. value_cmp x c.args.value ≡ Less)) (sym c.self.view_is) c.requires in
    let p = pushed_later (c.self.inside.ordered ++ c.self.inside.greater.items) c.self.inside.later.keys c.insert_full.new.self.keys c.args.value c.in_ok-insert_full.ensures.keys above in
    p.ascend (subst ValuesAscend (sym c.self.view_is) up)
