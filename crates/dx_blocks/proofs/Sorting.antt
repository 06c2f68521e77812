-- Nulls that were sorted, and of which equal ones were taken out.
use Rattle.std.proofs.Common.{List, []}
use Rattle.std.specs.List.Sorted.{IsSorted, IsPermutation}
use Rattle.std.specs.List.Retain.{IsFiltered, DiffersFromLast}
use Rattle.dx_base.specs.Members.{◌≈◌}
use Rattle.dx_model.specs.declared.values.NullId.{NullId}
use Rattle.dx_model.specs.contracts.values.NullIdOrd.TheImpl.{cmp-value as null_order}
use Rattle.dx_model.specs.contracts.values.NullIdOrd.TheImpl.Laws.{total-law as null_order_total, matches_eq-law as null_ties}
use Rattle.dx_model.specs.contracts.values.NullIdEq.TheImpl.Laws.{laws-law as null_equiv}
use Rattle.dx_model.specs.contracts.values.NullIdPartialEq.TheImpl.{eq-value as null_same}
use Rattle.dx_model.specs.Values.{NullsAscend}
use Rattle.dx_model.proofs.Orders.{null_exact}
use Rattle.dx_instance.proofs.Sorting.{once_ascends, once_same}

pub nulls_ascend : (ms ns : List NullId) → IsSorted null_order.it ms → IsFiltered (DiffersFromLast null_same.it) [] ms ns → NullsAscend ns
nulls_ascend = once_ascends null_order.it null_order_total null_same.it null_equiv (λ m n. null_ties m n) null_exact

pub nulls_same : (ls ms ns : List NullId) → IsPermutation ls ms → IsFiltered (DiffersFromLast null_same.it) [] ms ns → ns ≈ ls
nulls_same = once_same null_order.it null_order_total null_same.it null_equiv (λ m n. null_ties m n) null_exact
