use Rattle.std.proofs.Common.{Ok, Err, None}
use Rattle.std.proofs.lemmas.Result.{err_from_is_err_and}
use Rattle.dx_funcs.specs.Judging.{tested}
use Rattle.dx_funcs.specs.Serving.{offered}
use Rattle.dx_stages.specs.declared.stop.Stop.TheVariants as stops
use Rattle.clio_ending.specs.declared.ending.Refusal.TheVariants as refusals
use Rattle.clio_steps.specs.declared.texts.Side.TheVariants.{First, Second}
use Rattle.clio_steps.specs.Steps.{Program, program}
use Rattle.clio_steps.proofs.Mappings.{mapping_fits}
use Rattle.clio_compare.proofs.Pairs.{both_read, comparable_rules, first_stops, gives_comparison, gives_difference, gives_stop, passed_sets, second_stops}
use Rattle.clio_compare.proofs.comparing.compare_files.Goals as goal

pub returns-in_err-first : goal.returns-in_err-first
returns-in_err-first g c =
    let P : Program = program (offered c.args.host.now) (tested c.args.tests.now) g.M.Meaning.apply g.M.Meaning.passes in
    let p = err_from_is_err_and c.from_residual.result c.from_residual.ensures.1 in
    rw (p.1, p.2) (first_stops P c.in_err-first.field-0.0 _ _ c.in_err-first.ensures)

pub returns-in_err-second : goal.returns-in_err-second
returns-in_err-second g c =
    let P : Program = program (offered c.args.host.now) (tested c.args.tests.now) g.M.Meaning.apply g.M.Meaning.passes in
    let p = err_from_is_err_and c.from_residual-in_err-second.result c.from_residual-in_err-second.ensures.1 in
    rw (p.1, p.2) (second_stops P c.in_ok-first.first c.in_err-second.field-0.0 _ _ _ c.in_ok-first.ensures c.in_err-second.ensures)

pub difference-requires-clause-first : goal.difference-requires-clause-first
difference-requires-clause-first g c =
    let P : Program = program (offered c.args.host.now) (tested c.args.tests.now) g.M.Meaning.apply g.M.Meaning.passes in
    (mapping_fits P First c.in_ok-first.first _ _ c.in_ok-first.ensures).few

pub difference-requires-clause-second : goal.difference-requires-clause-second
difference-requires-clause-second g c =
    let P : Program = program (offered c.args.host.now) (tested c.args.tests.now) g.M.Meaning.apply g.M.Meaning.passes in
    (mapping_fits P Second c.in_ok-second.second _ _ c.in_ok-second.ensures).few

pub returns-in-Some : goal.returns-in-Some
returns-in-Some g c =
    let P : Program = program (offered c.args.host.now) (tested c.args.tests.now) g.M.Meaning.apply g.M.Meaning.passes in
    let M = c.in_ok-first.first in
    let N = c.in_ok-second.second in
    let e = refusals.Other c.in-Some.fault in
    both_read P M N (Err (stops.Refused e)) _ _ _ c.in_ok-first.ensures c.in_ok-second.ensures (gives_difference (M, N) e c.in-Some.ensures.some)

pub compare_rules-requires : goal.compare_rules-requires
compare_rules-requires g c =
    let P : Program = program (offered c.args.host.now) (tested c.args.tests.now) g.M.Meaning.apply g.M.Meaning.passes in
    let M = c.in_ok-first.first in
    let N = c.in_ok-second.second in
    let s = passed_sets (M, N) (M, N) (λ n. None) (c.in_default.ensures.none (λ n. None)) in
    comparable_rules P (M, N) (mapping_fits P First M _ _ c.in_ok-first.ensures) (mapping_fits P Second N _ _ c.in_ok-second.ensures) s.1 s.3

pub returns-in_err-comparison : goal.returns-in_err-comparison
returns-in_err-comparison g c =
    let P : Program = program (offered c.args.host.now) (tested c.args.tests.now) g.M.Meaning.apply g.M.Meaning.passes in
    let M = c.in_ok-first.first in
    let N = c.in_ok-second.second in
    let stop = c.in_err-comparison.field-0.0 in
    let p = err_from_is_err_and c.from_residual-in_err-comparison.result c.from_residual-in_err-comparison.ensures.1 in
    rw (p.1, p.2)
    (both_read P M N (Err stop) _ _ _ c.in_ok-first.ensures c.in_ok-second.ensures (gives_stop (M, N) stop c.in_default.ensures.none c.in_err-comparison.ensures))

pub returns : goal.returns
returns g c =
    let P : Program = program (offered c.args.host.now) (tested c.args.tests.now) g.M.Meaning.apply g.M.Meaning.passes in
    let M = c.in_ok-first.first in
    let N = c.in_ok-second.second in
    let k = c.in_ok-comparison.comparison in
    both_read P M N (Ok (M, k)) _ _ _ c.in_ok-first.ensures c.in_ok-second.ensures
    (gives_comparison (M, N) k c.in_default.ensures.none c.in_ok-comparison.ensures)
