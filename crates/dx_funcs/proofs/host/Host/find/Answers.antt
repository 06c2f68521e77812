use Rattle.std.proofs.Common.{◌≡◌, rules, tests}
use Rattle.std.proofs.lemmas.Iterator.{first_from_find, YieldsList-from_slice}
use Rattle.dx_funcs.specs.declared.conversion.Conversion.{Conversion}
use Rattle.dx_funcs.specs.Serving.{offered}
use Rattle.dx_funcs.proofs.Asked.{found_or_none, first_conversion, found_alone}
use Rattle.dx_funcs.proofs.host.Host.find.Goals as goal

pub returns-clause-found : goal.returns-clause-found
returns-clause-found g c =
    let xs = c.items.result.now in
    let by_call = first_from_find _ _ c.find.result (λ (x : Conversion). x.name ≡ c.args.name.now) (λ x. ¬ (x.name ≡ c.args.name.now)) c.find.ensures.ran (YieldsList-from_slice xs (cc)) (λ x q k. search (rules, tests)) (λ x q k. search (rules, tests)) in
    let found = found_or_none (λ (x : Conversion). x.name ≡ c.args.name.now) (λ x. ¬ (x.name ≡ c.args.name.now)) xs (offered c.args.self.now) c.find.result c.items.ensures by_call in
    first_conversion (offered c.args.self.now) c.args.name.now c.find.result c.args.self.now.offer found

pub returns-clause-listed : goal.returns-clause-listed
returns-clause-listed g c =
    let xs = c.items.result.now in
    let by_call = first_from_find _ _ c.find.result (λ (x : Conversion). x.name ≡ c.args.name.now) (λ x. ¬ (x.name ≡ c.args.name.now)) c.find.ensures.ran (YieldsList-from_slice xs (cc)) (λ x q k. search (rules, tests)) (λ x q k. search (rules, tests)) in
    let found = found_or_none (λ (x : Conversion). x.name ≡ c.args.name.now) (λ x. ¬ (x.name ≡ c.args.name.now)) xs (offered c.args.self.now) c.find.result c.items.ensures by_call in
    found_alone _ _ c.find.result found
