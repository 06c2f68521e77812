use Rattle.std.proofs.Common.{sym, subst}
use Rattle.std.proofs.lemmas.List.{take_all}
use Rattle.dx_base.specs.Members.{◌∈◌}
use Rattle.dx_model.specs.declared.values.NullId.{NullId}
use Rattle.dx_model.specs.declared.values.Value.TheVariants.{Null}
use Rattle.dx_blocks.proofs.NullLists.{none_more, value_in}
use Rattle.dx_blocks.proofs.nulls.first_place.Goals as goal

pub place_of-requires-clause-known : goal.place_of-requires-clause-known
place_of-requires-clause-known c =
    c.requires.known c.in-Null.null
    (value_in c.args.row.now c.loop-value.value-index c.value-item.result c.in-Null.null
    c.loop-value-test.true c.value-item.is c.in-Null.is)

pub returns-in-Null-clause-some : goal.returns-in-Null-clause-some
returns-in-Null-clause-some c = record {
  within = c.place_of.ensures.within;
  there = subst (λ (n : NullId). Null n ∈ c.args.row.now) (sym c.place_of.ensures.is)
      (value_in c.args.row.now c.loop-value.value-index c.value-item.result c.in-Null.null
      c.loop-value-test.true c.value-item.is c.in-Null.is);
}

pub loop-value-preserved : goal.loop-value-preserved
loop-value-preserved c =
    none_more c.args.row.now c.loop-value.value-index c.value-item.result c.loop-value-test.true c.value-item.is c.in_default.not-Null
    c.loop-value.invariant

pub returns-clause-none : goal.returns-clause-none
returns-clause-none c n m = c.loop-value.invariant n (rw (take_all c.loop-value.value-index c.args.row.now c.loop-value-test.false) m)
