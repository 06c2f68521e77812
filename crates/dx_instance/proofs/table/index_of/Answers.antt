use Rattle.std.proofs.Common.{◌≡◌, rules, tests}
use Rattle.std.proofs.lemmas.Iterator.{first_from_find, YieldsList-from_slice}
use Rattle.dx_instance.specs.declared.column_index.ColumnIndex.{ColumnIndex}
use Rattle.dx_instance.proofs.AskedFacts.{found_item}
use Rattle.dx_instance.proofs.table.index_of.Goals as goal

pub returns : goal.returns
returns c =
    let xs = c.args.indexes.now in
    let by_call = first_from_find _ _ _ (λ (x : ColumnIndex). x.column ≡ c.args.column) (λ x. Unit {0}) c.find.ensures.ran (YieldsList-from_slice xs (cc)) (λ x q k. search (rules, tests)) (λ x q k. search (rules, tests)) in
    found_item (λ (x : ColumnIndex). x.column ≡ c.args.column) (λ x. Unit {0}) xs _ by_call
