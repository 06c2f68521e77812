use Rattle.std.proofs.Common.{◌≡◌, rules}
use Rattle.std.specs.Ordering.{is_lt}
use Rattle.std.proofs.lemmas.Fn.{always_returns_same}
use Rattle.std.proofs.lemmas.List.MinMax.{ranks_by}
use Rattle.dx_instance.proofs.KeyFacts.{keys_ordered, row_key_lt, row_key_total}
use Rattle.dx_instance.proofs.cells.Rows.places_in_order.Goals as goal

pub returns : goal.returns
returns c =
    let rows = c.args.self.now.rows in
    keys_ordered c.below.result.base c.below.result.digits rows c.in_ok-keys.keys.items c.sort_unstable_by.new.self.items c.in_ok-keys.ensures c.sort_unstable_by.ensures.permutation
    (c.sort_unstable_by.ensures.sorted (row_key_lt rows) (ranks_by (row_key_total c.below.result.base c.below.result.digits rows) (λ k. k)) (always_returns_same _ (λ a r. is_lt r ≡ row_key_lt rows a.0.now a.1.0.now) _ (λ a r f k. search rules)))
