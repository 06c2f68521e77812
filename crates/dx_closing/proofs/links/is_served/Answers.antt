use Rattle.std.proofs.Common.{◌≡◌, length, rules}
use Rattle.std.proofs.lemmas.Iterator.{YieldsList-from_slice}
use Rattle.std.proofs.lemmas.Iterator.Adapters.{serves_from_places}
use Rattle.dx_base.proofs.Members.{item_in}
use Rattle.dx_model.specs.Tables.{AllInside}
use Rattle.dx_closing.proofs.links.is_served.Goals as goal

pub any-requires-clause-callable : goal.any-requires-clause-callable
any-requires-clause-callable c =
    serves_from_places (YieldsList-from_slice c.args.atoms.now (cc)) (λ x q m. search rules) (λ x k h e.
    let f = c.requires.fit x.now (item_in c.args.atoms.now k x.now h e) in
    let inside : x.now.table ≡ c.args.link.now.table → AllInside c.args.link.now.to (length x.now.cells) = λ t n m. rw (f.width, t) (c.requires.within n m) in
    search (rules, inside, c.requires.pairs))
