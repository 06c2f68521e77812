use Rattle.std.proofs.Common.{◌≡◌, true, false, bytes_eq, rules, tests}
use Rattle.std.proofs.lemmas.Iterator.{first_from_find, YieldsList-from_slice}
use Rattle.dx_json.proofs.Trees.{Entry, none_found, some_found}
use Rattle.dx_json.proofs.members.member_of.Goals as goal

pub returns-in-Some : goal.returns-in-Some
returns-in-Some c =
    let by_call = first_from_find c.find.new.self _ c.find.result (λ (e : Entry). bytes_eq e.0.now c.args.name.now ≡ true) (λ (e : Entry). bytes_eq e.0.now c.args.name.now ≡ false) c.find.ensures.ran (YieldsList-from_slice c.args.members.now (cc)) (λ x q k. search (rules, tests)) (λ x q k. search (rules, tests)) in
    some_found c.args.name.now c.args.members.now c.find.result c.in-Some.member c.in-Some.is by_call

pub returns-in-None : goal.returns-in-None
returns-in-None c =
    let by_call = first_from_find c.find.new.self _ c.find.result (λ (e : Entry). bytes_eq e.0.now c.args.name.now ≡ true) (λ (e : Entry). bytes_eq e.0.now c.args.name.now ≡ false) c.find.ensures.ran (YieldsList-from_slice c.args.members.now (cc)) (λ x q k. search (rules, tests)) (λ x q k. search (rules, tests)) in
    none_found c.args.name.now c.args.members.now c.find.result c.in-None.is by_call
