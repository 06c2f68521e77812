use Rattle.std.proofs.Common.{◌∙◌, ◌^◌, ◌∷◌, [], ap, arith, length, refl}
use Rattle.dx_base.specs.Members.{here}
use Rattle.std.proofs.lemmas.List.{length-map}
use Rattle.dx_solver.specs.declared.domain.Domain.{Domain}
use Rattle.dx_solver.specs.Domains.{domain_size}
use Rattle.dx_solver.proofs.DomainFacts.{worth_one}
use Rattle.dx_solver.proofs.RowFacts.{image_of}
use Rattle.dx_solver.proofs.SearchFacts.{one_only}
use Rattle.dx_solver.proofs.TermFacts.{value_in, variable_below}
use Rattle.dx_solver.proofs.cutting.list.Goals as goal

pub with-requires : goal.with-requires
with-requires c =
    let at = c.args.position.now in
    variable_below c.args.question.now.numbers.now.tables (length c.args.node.now.domains.items) at.atom.now at.column at.variable
    c.requires.fits at.within at.stands

pub returns : goal.returns
returns c =
    let T = c.args.question.now.numbers.now.tables in
    let out = c.args.question.now.taken.now in
    let at = c.args.position.now in
    let atom = at.atom.now in
    let listed = c.in_ok-listed.listed in
    let numbers = c.in_ok-numbers.numbers.items in
    let rows = c.as_slice-rows.result.now in
    let any = ap (λ (d : Domain). domain_size (2 ^ 32) d) c.requires.unknown in
    let many = ap length c.in_ok-numbers.ensures ∙ length-map rows _ in
    let same = ap length c.as_slice-rows.ensures.value in
    let few = c.of-domain.ensures.few (2 ^ 32) in
    let short = c.in_ok-places.ensures.few in
    let light = c.in_ok-listed.ensures.lighter (omega (arith, any, many, same, few, short)) in
    record {
      more = listed ∷ [];
      added = c.in_ok-push.ensures.items;
      less = worth_one listed _ light;
      many = one_only listed _ c.in_ok-listed.ensures.many;
      all = λ a s k.
          let i = image_of T out a atom s in
          let m = c.in_ok-places.ensures.all a (rw c.as_slice.ensures.value k) s.0 i in (
            listed,
            here refl,
            c.in_ok-listed.ensures.kept a k (c.of-domain.ensures.all (a at.variable) (value_in T out a atom s.0
                at.column at.variable rows numbers i at.within at.stands (rw c.as_slice-rows.ensures.value m)
                c.in_ok-numbers.ensures)),
          );
    }
