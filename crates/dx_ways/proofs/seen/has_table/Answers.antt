use Rattle.std.proofs.Common.{◌≡◌, Bor, rules, tests}
use Rattle.std.proofs.lemmas.Iterator.{YieldsList-from_slice}
use Rattle.std.proofs.lemmas.Iterator.Search.{any_from_yields_List}
use Rattle.dx_logical.specs.declared.relation.Occurrence.{Occurrence}
use Rattle.dx_lines.specs.Ways.{is_of}
use Rattle.dx_ways.proofs.Unlike.{any_map}
use Rattle.dx_ways.proofs.seen.has_table.Goals as goal

pub returns : goal.returns
returns c =
    rw (any_map (is_of c.args.table) (λ (r : Bor Occurrence). r.now) c.args.choice.now)
    (any_from_yields_List (λ (r : Bor Occurrence). is_of c.args.table r.now) _ _ _ c.any.ensures.ran (YieldsList-from_slice c.args.choice.now (cc)) (λ x b q k. search (rules, tests)))
