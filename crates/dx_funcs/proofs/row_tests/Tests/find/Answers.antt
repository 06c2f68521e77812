use Rattle.std.proofs.Common.{◌≡◌, rules, tests}
use Rattle.std.proofs.lemmas.Iterator.{first_from_find, YieldsList-from_slice}
use Rattle.dx_funcs.specs.declared.row_test.RowTest.{RowTest}
use Rattle.dx_funcs.specs.Judging.{tested}
use Rattle.dx_funcs.proofs.Asked.{found_or_none, found_alone, test_found}
use Rattle.dx_funcs.proofs.row_tests.Tests.find.Goals as goal

pub returns-clause-some : goal.returns-clause-some
returns-clause-some g c =
    let xs = c.items.result.now in
    let by_call = first_from_find _ _ c.find.result (λ (x : RowTest). x.name ≡ c.args.name.now) (λ x. ¬ (x.name ≡ c.args.name.now)) c.find.ensures.ran (YieldsList-from_slice xs (cc)) (λ x q k. search (rules, tests)) (λ x q k. search (rules, tests)) in
    let found = found_or_none (λ (x : RowTest). x.name ≡ c.args.name.now) (λ x. ¬ (x.name ≡ c.args.name.now)) xs (tested c.args.self.now) c.find.result c.items.ensures by_call in
    found_alone _ _ c.find.result found

pub returns-clause-none : goal.returns-clause-none
returns-clause-none g c =
    let xs = c.items.result.now in
    let by_call = first_from_find _ _ c.find.result (λ (x : RowTest). x.name ≡ c.args.name.now) (λ x. ¬ (x.name ≡ c.args.name.now)) c.find.ensures.ran (YieldsList-from_slice xs (cc)) (λ x q k. search (rules, tests)) (λ x q k. search (rules, tests)) in
    let found = found_or_none (λ (x : RowTest). x.name ≡ c.args.name.now) (λ x. ¬ (x.name ≡ c.args.name.now)) xs (tested c.args.self.now) c.find.result c.items.ensures by_call in
    test_found (tested c.args.self.now) c.args.name.now c.find.result found
