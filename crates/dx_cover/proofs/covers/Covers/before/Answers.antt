use Rattle.dx_cover.proofs.Covering.{before_alone, before_tie, not_before}
use Rattle.dx_cover.proofs.covers.Covers.before.Goals as goal

pub returns-then-is_empty : goal.returns-then-is_empty
returns-then-is_empty c = λ R e.
    before_alone R c.args.i c.args.j c.maps.result.now c.maps-then-not-is_empty.result.now c.is_empty.result c.is_empty-then-not-is_empty.result
    (c.maps.ensures.used R e) c.is_empty.ensures c.if-not-is_empty.true (c.maps-then-not-is_empty.ensures.used R e) c.is_empty-then-not-is_empty.ensures c.if-is_empty.true

pub returns-else-is_empty : goal.returns-else-is_empty
returns-else-is_empty c = λ R e.
    before_tie R c.args.i c.args.j c.maps.result.now c.maps-then-not-is_empty.result.now c.is_empty.result c.is_empty-then-not-is_empty.result
    (c.maps.ensures.used R e) c.is_empty.ensures c.if-not-is_empty.true (c.maps-then-not-is_empty.ensures.used R e) c.is_empty-then-not-is_empty.ensures c.if-is_empty.false

pub returns-else-not-is_empty : goal.returns-else-not-is_empty
returns-else-not-is_empty c = λ R e.
    not_before R c.args.i c.args.j c.maps.result.now c.maps.result.now c.is_empty.result c.is_empty.result (c.maps.ensures.used R e) c.is_empty.ensures c.if-not-is_empty.false
