use Rattle.std.proofs.Common.{◌≡◌, ◌∙◌, [], sym, ap, length, arith}
use Rattle.dx_base.specs.Members.{◌∈◌}
use Rattle.dx_base.proofs.Members.{in_at}
use Rattle.dx_instance.specs.Cells.{NumberTable, numbers_at}
use Rattle.dx_instance.specs.Keys.{AllSmall, packed}
use Rattle.dx_instance.proofs.CellFacts.{length_rows}
use Rattle.dx_instance.proofs.KeyFacts.{keyed_more}
use Rattle.dx_instance.proofs.cells.Rows.keyed_places.Goals as goal

pub row-requires : goal.row-requires
row-requires c =
    let many = sym (length_rows c.self.inside.count c.self.inside.width c.self.inside.cells.items) ∙ ap (λ (t : NumberTable). length t.rows) c.self.view_is in
    omega (arith, many, c.loop-place-test.true)

pub key_of-requires-clause-below : goal.key_of-requires-clause-below
key_of-requires-clause-below c =
    let many = sym (length_rows c.self.inside.count c.self.inside.width c.self.inside.cells.items) ∙ ap (λ (t : NumberTable). length t.rows) c.self.view_is in
    let rows = c.args.self.now.rows in
    let there : numbers_at rows c.loop-place.place ∈ rows = in_at rows c.loop-place.place [] (omega (arith, many, c.loop-place-test.true)) in
    c.requires.below c.row.result.now (rw c.row.ensures.row there)

pub loop-place-preserved : goal.loop-place-preserved
loop-place-preserved c =
    let b = c.args.packing.base in
    let n = c.args.packing.digits in
    let e = c.row.ensures.row in
    keyed_more (numbers_at c.args.self.now.rows) (packed b n 0) (AllSmall b n) c.loop-place.keys.items c.push.new.self.items c.loop-place.place c.key_of.result c.loop-place.invariant.many c.in_ok-push.ensures.items (rw (← e) c.key_of.ensures.key) (rw (← e) c.key_of.ensures.small) c.loop-place.invariant

pub returns : goal.returns
returns c =
    let many = sym (length_rows c.self.inside.count c.self.inside.width c.self.inside.cells.items) ∙ ap (λ (t : NumberTable). length t.rows) c.self.view_is in
    let all : c.loop-place.place ≡ length c.args.self.now.rows = omega (arith, many, c.loop-place-test.false, c.loop-place.auto.place-end) in
    rw all at c.loop-place.invariant
