use Rattle.std.proofs.Common.{◌≡◌}
use Rattle.dx_base.proofs.Loops.{each_more}
use Rattle.dx_funcs.specs.declared.conversion.Conversion.{Conversion}
use Rattle.dx_funcs.specs.Serving.{offered}
use Rattle.dx_funcs.proofs.Named.{conversion_named}
use Rattle.dx_funcs.proofs.Offered.{listed_here, shown_nowhere}
use Rattle.dx_funcs.proofs.host.Host.by_code.Goals as goal

pub returns-then-conversion-code-clause-listed : goal.returns-then-conversion-code-clause-listed
returns-then-conversion-code-clause-listed g c =
    listed_here c.items-conversion-items.result.now (offered c.args.self.now) c.loop-conversion.conversion-index c.conversion-item.result c.items-conversion-items.ensures c.loop-conversion-test.true c.conversion-item.is

pub loop-conversion-preserved : goal.loop-conversion-preserved
loop-conversion-preserved g c =
    each_more (λ (x : Conversion). ¬ (x.code ≡ c.args.code)) c.items-conversion-items.result.now c.loop-conversion.conversion-index c.conversion-item.result c.loop-conversion-test.true c.conversion-item.is c.loop-conversion.invariant c.if-conversion-code.false

pub unreachable-requires : goal.unreachable-requires
unreachable-requires g c =
    shown_nowhere (λ (x : Conversion). x.code) c.items-conversion-items.result.now (offered c.args.self.now) c.loop-conversion.conversion-index c.args.code c.items-conversion-items.ensures c.loop-conversion-test.false c.loop-conversion.invariant c.requires

pub loop-conversion-init : goal.loop-conversion-init
loop-conversion-init g c = (λ x m. elim m [ ])

pub returns-then-conversion-code-clause-name : goal.returns-then-conversion-code-clause-name
returns-then-conversion-code-clause-name g c =
    let listed = listed_here c.items-conversion-items.result.now (offered c.args.self.now) c.loop-conversion.conversion-index c.conversion-item.result c.items-conversion-items.ensures c.loop-conversion-test.true c.conversion-item.is in
    conversion_named (offered c.args.self.now) c.conversion-item.result c.args.code c.args.self.now.offer.codes listed c.if-conversion-code.true
