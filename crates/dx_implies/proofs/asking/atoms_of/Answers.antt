use Rattle.std.proofs.Common.{refl, subst, List}
use Rattle.dx_base.proofs.Members.{in_flat_map, item_in}
use Rattle.dx_base.proofs.Options.{some_left, none_left}
use Rattle.dx_model.specs.declared.rules.Atom.{Atom}
use Rattle.dx_model.specs.declared.rules.Cell.{Cell}
use Rattle.dx_model.specs.Following.{frozen_text}
use Rattle.dx_implies.specs.Asking.{HasNowhere, SaysAtom, SaysCell}
use Rattle.std.specs.List.{AllZip}
use Rattle.dx_implies.proofs.Asked.{zip_more}
use Rattle.dx_implies.proofs.asking.atoms_of.Goals as goal

pub returns-in_default : goal.returns-in_default
returns-in_default c =
    let n = subst (HasNowhere c.args.numbers.now.symbols (frozen_text c.args.prefix.now)) c.items.ensures (none_left _ _ c.in_ok-terms.field-0 c.in_ok-terms.ensures c.in_default.not-Some) in
    (n.0, in_flat_map (λ (a : Atom). a.cells) (item_in c.args.atoms.now c.loop-atom.atom-index c.atom-item.result c.loop-atom-test.true c.atom-item.is) n.1, n.2)

pub loop-atom-preserved : goal.loop-atom-preserved
loop-atom-preserved c =
    rw c.in_ok-push.ensures.items
    (zip_more (SaysAtom c.args.numbers.now.symbols (frozen_text c.args.prefix.now)) c.args.atoms.now c.loop-atom.all.items c.loop-atom.atom-index c.atom-item.result _ c.loop-atom-test.true c.atom-item.is
    c.loop-atom.invariant
    (record {
      table = refl;
      cells = subst (λ (cs : List Cell). AllZip (SaysCell c.args.numbers.now.symbols (frozen_text c.args.prefix.now)) cs c.in-Some.terms) c.items.ensures (some_left _ _ c.in_ok-terms.field-0 c.in-Some.terms c.in-Some.is c.in_ok-terms.ensures);
    }))
