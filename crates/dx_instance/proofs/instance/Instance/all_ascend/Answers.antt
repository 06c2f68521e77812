use Rattle.std.proofs.Common.{◌<◌, length, arith, rules, tests}
use Rattle.std.proofs.lemmas.Iterator.{cases_from_all, YieldsList-from_range, serves_from_Range}
use Rattle.dx_model.specs.Values.{RowsAscend}
use Rattle.dx_instance.specs.Stored.{rows_of}
use Rattle.dx_instance.proofs.AskedFacts.{all_in_range, on_true}
use Rattle.dx_instance.proofs.LawFacts.{all_of}
use Rattle.dx_instance.proofs.instance.Instance.all_ascend.Goals as goal

pub all-requires-clause-callable : goal.all-requires-clause-callable
all-requires-clause-callable c =
    serves_from_Range (λ x q m. search rules) (λ x l u.
    let b : x < length c.args.self.now = omega (arith, u, c.tables.ensures.number) in
    search (rules, b))

pub returns : goal.returns
returns c =
    let I = c.args.self.now in
    let n = c.tables.result in
    let by_call = cases_from_all _ _ _ (λ t. RowsAscend (rows_of I t)) (λ t. Unit {0}) c.all.ensures.ran (YieldsList-from_range 0 n n (cc) (omega arith)) (λ x q k. search (rules, tests)) (λ x q k. tt) in
    on_true _ _ (λ e. all_of I n (omega (arith, c.tables.ensures.number)) (λ t b. all_in_range (λ t. RowsAscend (rows_of I t)) (λ t. Unit {0}) _ 0 n by_call e t (omega arith) (omega (arith, b))))
