use Rattle.std.proofs.Common.{◌∙◌, length, refl, ap}
use Rattle.std.proofs.lemmas.List.{length-map}
use Rattle.dx_schema.specs.Tables.{model_tables}
use Rattle.dx_closing.proofs.Steps.{in_item, atom_links, links_at, links_fit_row}
use Rattle.dx_closing.proofs.links.follow_atom.Goals as goal

pub links_of-links-requires : goal.links_of-links-requires
links_of-links-requires c =
    let f = c.requires.roomy.fit c.index-items-place.result (in_item c.args.growing.now.atoms c.args.place c.index-items-place.result _ c.requires.place (rw c.items.ensures at c.index-items-place.is) refl) in
    rw length-map at f.table

pub follow_links-requires-clause-links : goal.follow_links-requires-clause-links
follow_links-requires-clause-links c =
    let f = c.requires.roomy.fit c.index-items-place.result (in_item c.args.growing.now.atoms c.args.place c.index-items-place.result _ c.requires.place (rw c.items.ensures at c.index-items-place.is) refl) in
    let e = links_at c.args.target.now c.index-items-place.result.table c.links_of-links.result.now (rw length-map at f.table) c.links_of-links.ensures in
    links_fit_row c.args.target.now c.index-items-place.result c.links_of-links.result.now (length c.as_slice.result.now) c.requires.tables f e
    (ap length (c.as_slice.ensures.value ∙ (c.in_ok-row.ensures ∙ c.items-2.ensures)))

pub returns-clause-exact : goal.returns-clause-exact
returns-clause-exact c =
    let i = rw c.items.ensures at c.index-items-place.is in
    let f = c.requires.roomy.fit c.index-items-place.result (in_item c.args.growing.now.atoms c.args.place c.index-items-place.result _ c.requires.place i refl) in
    let e = links_at c.args.target.now c.index-items-place.result.table c.links_of-links.result.now (rw length-map at f.table) c.links_of-links.ensures in
    let a = atom_links (model_tables c.args.target.now) c.args.growing.now c.args.place c.index-items-place.result c.as_slice.result.now c.links_of-links.result.now c.requires.place i
    (c.as_slice.ensures.value ∙ (c.in_ok-row.ensures ∙ c.items-2.ensures)) e in
    rw (← a) c.follow_links.ensures.exact

pub returns-clause-wide : goal.returns-clause-wide
returns-clause-wide c =
    let i = rw c.items.ensures at c.index-items-place.is in
    let f = c.requires.roomy.fit c.index-items-place.result (in_item c.args.growing.now.atoms c.args.place c.index-items-place.result _ c.requires.place i refl) in
    let e = links_at c.args.target.now c.index-items-place.result.table c.links_of-links.result.now (rw length-map at f.table) c.links_of-links.ensures in
    let a = atom_links (model_tables c.args.target.now) c.args.growing.now c.args.place c.index-items-place.result c.as_slice.result.now c.links_of-links.result.now c.requires.place i
    (c.as_slice.ensures.value ∙ (c.in_ok-row.ensures ∙ c.items-2.ensures)) e in
    rw (← a) c.follow_links.ensures.wide
