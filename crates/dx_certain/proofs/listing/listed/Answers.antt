use Rattle.std.proofs.Common.{◌≤◌, ◌*◌, List, sym, subst, arith, length}
use Rattle.std.proofs.Math.Nat.{mul-le-mul_right}
use Rattle.dx_model.specs.Values.{Tuple}
use Rattle.dx_instance.specs.Stored.{facts, rows_of}
use Rattle.dx_queries.specs.declared.query.Part.{Part}
use Rattle.dx_queries.specs.Results.{AreConstantAnswers}
use Rattle.dx_certain.specs.Finding.{HasThose, IsAmong}
use Rattle.dx_certain.proofs.Union.{are_answers, no_more, sorted_those}
use Rattle.dx_certain.proofs.listing.listed.Goals as goal

pub returns-clause-exact : goal.returns-clause-exact
returns-clause-exact c =
    let K = facts c.args.target.now in
    let q = c.args.query.now in
    let I = c.in_ok-rows.rows in
    let J = c.in_ok-sorted.sorted in
    let those = subst (λ (ps : List Part). HasThose I (IsAmong K ps)) c.items-parts.ensures c.in_ok-rows.ensures.rows in
    subst (λ (ts : List Tuple). AreConstantAnswers K q ts) (sym c.in_ok-tuples_of.ensures)
    (are_answers K q J (sorted_those I J (IsAmong K q.parts) c.in_ok-sorted.ensures those) (c.in_ok-sorted.ensures.ascend 0))

pub returns-clause-within : goal.returns-clause-within
returns-clause-within c =
    let K = facts c.args.target.now in
    let q = c.args.query.now in
    let I = c.in_ok-rows.rows in
    let J = c.in_ok-sorted.sorted in
    let those = subst (λ (ps : List Part). HasThose I (IsAmong K ps)) c.items-parts.ensures c.in_ok-rows.ensures.rows in
    let n = no_more K q I J those c.in_ok-sorted.ensures in
    let few : length c.in_ok-tuples_of.field-0 ≤ length (rows_of I 0) = subst (λ (ts : List Tuple). length ts ≤ length (rows_of I 0)) (sym c.in_ok-tuples_of.ensures) n in
    let cells = mul-le-mul_right q.width few in
    let within : length (rows_of I 0) * q.width ≤ c.args.limit = c.in_ok-rows.ensures.within in
    omega (arith, cells, within)
