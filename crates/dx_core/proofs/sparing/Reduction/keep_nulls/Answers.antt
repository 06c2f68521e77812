use Rattle.std.proofs.Common.{◌≡◌, ◌∙◌, Some, get_or}
use Rattle.std.proofs.Math.ListN.{length-set}
use Rattle.dx_base.proofs.Members.{in_at}
use Rattle.dx_core.proofs.Spared.{is_at, known_more}
use Rattle.dx_core.proofs.sparing.Reduction.keep_nulls.Goals as goal
use Rattle.dx_core.proofs.sparing.Reduction.keep_nulls.Goals.{in-Ok, in_default}

pub loop-number-init : goal.loop-number-init
loop-number-init c = record { long = c.requires.long; known = λ T r k. k }

pub loop-number-preserved : goal.loop-number-preserved
loop-number-preserved c =
    let N = c.args.self.now.numbers in
    let nulls = c.args.nulls.now in
    let row = c.row-number-items.result.now in
    let i = c.loop-number.number-index in
    elim c.match-binary_search.branch [
      | in-Ok w ↦
          let x = get_or row i 0 in
          let e : get_or nulls w.in-Ok.place 0 ≡ x = is_at nulls x w.in-Ok.place w.in-Ok.ensures.ok in
          rw w.known-is (record {
            long = length-set c.loop-number.known.items w.in-Ok.place (Some x) ∙ c.loop-number.invariant.long;
            known = λ T rigid k. known_more N T nulls c.loop-number.known.items w.in-Ok.place x w.in-Ok.ensures.bound e
                (rigid x (rw (← c.row-number-items.ensures.row) (in_at row i 0 c.loop-number-test.true))
                (rw (← e) (in_at nulls w.in-Ok.place 0 w.in-Ok.ensures.bound)))
                (c.loop-number.invariant.known T rigid k);
          })
      | in_default w ↦ rw w.known-is c.loop-number.invariant
    ]

pub returns : goal.returns
returns c = c.loop-number.invariant.known
