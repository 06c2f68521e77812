use Rattle.std.proofs.Common.{◌≡◌, ◌+◌, ◌≤◌, arith, length, ◌∙◌, ap, subst}
use Rattle.dx_schema.specs.Forest.{Tree}
use Rattle.dx_schema.specs.Tables.{count, tables_of, tree_at}
use Rattle.clio_source.specs.declared.reading.Reading.{Reading}
use Rattle.clio_source.specs.Fitting.{AddsEmpty, ReadFits}
use Rattle.clio_source.proofs.Fits.{can_take, few_facts, fit_empty, many_tables}
use Rattle.clio_source.proofs.Roots.{end_within}
use Rattle.clio_source.proofs.documents.add_root.Goals as goal

pub push_tables-requires-clause-last : goal.push_tables-requires-clause-last
push_tables-requires-clause-last c =
    let same = ap (λ (t : Tree). count t.inner) (c.behind-schema.view_is ∙ c.tree.ensures.tree) in
    omega (arith, end_within c.args.schema.now c.args.root c.requires.inside, c.count.ensures, same)

pub push_facts-requires-clause-fit : goal.push_facts-requires-clause-fit
push_facts-requires-clause-fit c =
    let f = c.args.schema.now in
    let last = c.args.root + 1 + c.count.result in
    let same = ap (λ (t : Tree). count t.inner) (c.behind-schema.view_is ∙ c.tree.ensures.tree) in
    let end : c.args.root + 1 + count (tree_at f c.args.root).inner ≡ last = omega (arith, c.count.ensures, same) in
    let few : last ≤ length (tables_of f) = omega (arith, end_within f c.args.root c.requires.inside, end) in
    let before : Reading = record { symbols = c.args.symbols.now; tables = c.args.tables.now; bytes_left = 0; cells_left = 0 } in
    let fit : ReadFits f c.args.root before = record { widths = c.requires.widths; below = c.requires.below; few = omega arith } in
    let many = many_tables f c.args.root before (omega (arith, c.requires.inside)) fit in
    can_take f c.args.root last c.args.tables.now.items c.push_tables.new.tables.items c.args.facts.now c.in_ok-push_tables.ensures many few c.requires.fit
    (λ fact m. let w = c.requires.within fact m in (omega (arith, w), omega (arith, w, end)))

pub push_facts-requires-clause-below : goal.push_facts-requires-clause-below
push_facts-requires-clause-below c =
    fit_empty c.args.symbols.now c.args.schema.now (c.args.root + 1 + c.count.result) c.args.tables.now.items c.push_tables.new.tables.items c.in_ok-push_tables.ensures c.requires.below

pub push_facts-requires-clause-few : goal.push_facts-requires-clause-few
push_facts-requires-clause-few c =
    let cells = few_facts c.args.schema.now c.args.facts.now c.tables.ensures.facts c.requires.fit in
    omega (arith, cells, c.requires.cells)

pub returns : goal.returns
returns c =
    let f = c.args.schema.now in
    let same = ap (λ (t : Tree). count t.inner) (c.behind-schema.view_is ∙ c.tree.ensures.tree) in
    let end : c.args.root + 1 + c.count.result ≡ c.args.root + 1 + count (tree_at f c.args.root).inner = omega (arith, c.count.ensures, same) in record {
      between = c.push_tables.new.tables.items;
      empty = subst (λ n. AddsEmpty f n c.args.tables.now.items c.push_tables.new.tables.items) end c.in_ok-push_tables.ensures;
      put = c.in_ok-push_facts.ensures;
    }
