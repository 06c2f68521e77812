use Rattle.dx_instance.specs.Shown.{shown_tables}
use Rattle.dx_instance.specs.Stored.{facts}
use Rattle.dx_model.specs.declared.values.Value.TheVariants.{Null}
use Rattle.dx_rigid.specs.Rigid.{IsRigidValue}
use Rattle.dx_rigid.proofs.Rows.{each_value}
use Rattle.dx_rigid.proofs.rigid.rigid_part.Goals as goal

pub returns-then-hold_marked : goal.returns-then-hold_marked
returns-then-hold_marked c = λ n m.
    let s = c.args.numbers.now in
    each_value s c.len.ensures.fit (IsRigidValue (facts (shown_tables s.symbols s.tables)))
    (λ t p h k j l. c.requires _ (c.if-hold_marked.ensures t p h k j l)) (Null n) m
