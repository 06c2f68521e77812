use Rattle.std.proofs.Common.{ℕ, length, rules, tests}
use Rattle.std.proofs.lemmas.Iterator.{cases_from_all, YieldsList-from_slice}
use Rattle.std.proofs.lemmas.Iterator.Adapters.{serves_from_places}
use Rattle.dx_base.proofs.Asked.{all_tells}
use Rattle.dx_base.proofs.Members.{item_in}
use Rattle.dx_joins.specs.Shown.{texts_of}
use Rattle.dx_eval.specs.Keeping.{HoldsAlone, TestStands}
use Rattle.dx_eval.proofs.keeping.holds_alone.Goals as goal

pub all-requires-clause-callable : goal.all-requires-clause-callable
all-requires-clause-callable c =
    serves_from_places (YieldsList-from_slice c.args.tests.now (cc)) (λ x q k. search (rules, tests))
    (λ x k h e.
    let t = c.requires.texts in
    let s : (width : ℕ) × TestStands (length c.args.row.now) width x.now = (c.requires.stand.0, c.requires.stand.1 x.now (item_in c.args.tests.now k x.now h e)) in
    search (rules, t, s))

pub returns : goal.returns
returns c =
    let P = HoldsAlone (texts_of c.args.symbols.now c.args.row.now) in
    all_tells (λ x. P x) (λ x. ¬ (P x)) c.all.result c.args.tests.now (λ x p q. q p)
    (cases_from_all _ _ _ (λ x. P x) (λ x. ¬ (P x)) c.all.ensures.ran (YieldsList-from_slice c.args.tests.now (cc)) (λ x q k. search (rules, tests)) (λ x q k. search (rules, tests)))
