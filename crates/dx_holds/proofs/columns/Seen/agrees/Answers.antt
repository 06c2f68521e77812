use Rattle.std.proofs.Common.{◌≡◌, rules, sym, tests}
use Rattle.std.proofs.lemmas.Iterator.{cases_from_all, YieldsList-from_slice, YieldsList-from_zip}
use Rattle.std.proofs.lemmas.Iterator.Adapters.{serves_from_places}
use Rattle.dx_model.specs.Tables.{cell}
use Rattle.dx_instance.specs.Places.{row_at, value_at}
use Rattle.dx_instance.proofs.AskedFacts.{first_in_zip}
use Rattle.dx_holds.proofs.Agreeing.{row_has_table}
use Rattle.dx_holds.proofs.Asking.{maps_meet, second_in_zip}
use Rattle.dx_holds.proofs.columns.Seen.agrees.Goals as goal

pub all-requires-clause-callable : goal.all-requires-clause-callable
all-requires-clause-callable c =
    let columns = c.args.columns.now in
    let own = c.args.self.now.columns.now in
    serves_from_places (YieldsList-from_zip (YieldsList-from_slice columns (cc)) (YieldsList-from_slice own (cc))) (λ x q m. search rules) (λ x k h e.
    let b = c.requires.columns x.0.now (first_in_zip columns own k (x.0.now, x.1.now) h e) in
    let d = c.args.self.now.within x.1.now (second_in_zip columns own k (x.0.now, x.1.now) h e) in
    let its = row_has_table c.args.self.now.instance.now c.args.table c.args.place c.requires.place in
    let mine = row_has_table c.args.self.now.instance.now c.args.self.now.table c.args.self.now.place c.args.self.now.stands in
    search (rules, b, d, its, mine, c.requires.place, c.args.self.now.stands))

pub returns : goal.returns
returns c =
    let columns = c.args.columns.now in
    let own = c.args.self.now.columns.now in
    let its = value_at c.args.self.now.instance.now c.args.table c.args.place in
    let mine = cell (row_at c.args.self.now.instance.now c.args.self.now.table c.args.self.now.place) in
    let by_call = cases_from_all c.all.new.self _ _ (λ p. its p.0 ≡ mine p.1) (λ p. ¬ (its p.0 ≡ mine p.1)) c.all.ensures.ran (YieldsList-from_zip (YieldsList-from_slice columns (cc)) (YieldsList-from_slice own (cc))) (λ x q k. search (rules, tests)) (λ x q k. search (rules, tests)) in
    maps_meet its mine _ columns own (sym c.requires.lengths) by_call
