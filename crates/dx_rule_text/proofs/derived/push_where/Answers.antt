use Rattle.std.proofs.Common.{arith}
use Rattle.std.specs.Prelude.{map}
use Rattle.dx_base.specs.Members.{◌∈◌}
use Rattle.dx_base.proofs.Loops.{each_item}
use Rattle.dx_model.specs.declared.rules.Derived.{Derived}
use Rattle.dx_funcs.specs.declared.conversion.Conversion.{Conversion}
use Rattle.dx_funcs.specs.Serving.{offered}
use Rattle.dx_funcs.specs.Names.{conversion_name}
use Rattle.dx_rule_text.proofs.Printing.{each_first, each_other, one_derived}
use Rattle.dx_rule_text.proofs.derived.push_where.Goals as goal

pub push_derived-requires : goal.push_derived-requires
push_derived-requires g c =
    each_first (λ (d : Derived). d.code ∈ map (λ (v : Conversion). v.code) (offered c.args.host.now)) c.args.derived.now c.in-Some.variable.now c.in-Some.others.now c.in-Some.ensures.cases.0 c.requires.listed

pub push_derived-requires-in-loop-other : goal.push_derived-requires-in-loop-other
push_derived-requires-in-loop-other g c =
    let all = each_other (λ (d : Derived). d.code ∈ map (λ (v : Conversion). v.code) (offered c.args.host.now)) c.args.derived.now c.in-Some.variable.now c.in-Some.others.now c.in-Some.ensures.cases.0 c.requires.listed in
    each_item (λ (d : Derived). d.code ∈ map (λ (v : Conversion). v.code) (offered c.args.host.now)) c.in-Some.others.now c.loop-other.other-index c.other-item.result c.loop-other-test.true c.other-item.is all

pub loop-other-preserved : goal.loop-other-preserved
loop-other-preserved g c =
    let held = c.loop-other.invariant in (
      omega (arith, held.0),
      one_derived (conversion_name (offered c.args.host.now)) c.args.first c.loop-other.number c.loop-other.other-index c.in-Some.others.now c.other-item.result _ _ _ _ c.loop-other-test.true c.other-item.is held.0 held.1 c.in_ok-push_str-2.ensures.bytes c.in_ok-push_derived-2.ensures,
    )
