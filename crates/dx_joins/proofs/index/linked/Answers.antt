use Rattle.std.proofs.Common.{◌≡◌, ◌∙◌, ◌-◌, ◌+◌, ◌<◌, ◌%◌, length, sym, ap, arith, ℕ, get_or}
use Rattle.std.specs.Prelude.{slice_index}
use Rattle.std.proofs.lemmas.List.{length-set, get_or_default}
use Rattle.dx_joins.proofs.Linking.{links_more, below_mod}
use Rattle.dx_joins.proofs.index.linked.Goals as goal

pub loop-left-preserved : goal.loop-left-preserved
loop-left-preserved c =
    let p = c.loop-left.left - 1 in
    let b = get_or c.args.keys.now p 0 % c.max-buckets.result in
    let many : length c.loop-left.heads.items ≡ c.max-buckets.result = c.loop-left.invariant.many in
    let within : b < length c.loop-left.heads.items = rw many (below_mod (get_or c.args.keys.now p 0) c.max-buckets.result (omega (arith, many, c.loop-left.invariant.links.some))) in
    let next : p + 1 ≡ c.loop-left.left = omega arith in
    let at : c.index.result.now ≡ slice_index c.loop-left.heads.items b = c.index.ensures ∙ get_or_default c.loop-left.heads.items b c.index.result.now 0 within in
    let links = rw (← next) at c.loop-left.invariant.links in
    record {
      within = omega (arith, c.loop-left.invariant.within);
      many = length-set c.loop-left.heads.items b p ∙ many;
      links = rw at (links_more c.args.keys.now c.loop-left.heads.items c.loop-left.nexts.items p b (omega (arith, next, c.loop-left.invariant.within)) (ap (λ (m : ℕ). get_or c.args.keys.now p 0 % m) (sym many)) within links);
    }
