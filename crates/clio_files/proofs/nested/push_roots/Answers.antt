use Rattle.std.proofs.Common.{ap, arith, map}
use Rattle.dx_schema.proofs.Preorder.{count_more}
use Rattle.clio_files.specs.Files.{printed_view}
use Rattle.clio_files.proofs.RootFiles.{root_within, roots_more, sets_few}
use Rattle.clio_files.proofs.nested.push_roots.Goals as goal

pub prove-unreachable-requires : goal.prove-unreachable-requires
prove-unreachable-requires c =
    let within =
    root_within c.args.schema.now c.trees-tree-items.result.now c.loop-tree.tree-index c.tree-item.result c.loop-tree.root
    c.loop-tree-test.true c.tree-item.is c.trees-tree-items.ensures c.loop-tree.invariant.root in
    omega (arith, within, c.if-prove.true, c.tables.ensures.count)

pub count-requires : goal.count-requires
count-requires c =
    let few =
    sets_few c.args.schema.now c.trees-tree-items.result.now c.loop-tree.tree-index c.tree-item.result c.loop-tree.root
    c.tree.inside.inner c.loop-tree-test.true c.tree-item.is c.trees-tree-items.ensures c.loop-tree.invariant.root
    (ap (λ v. v.inner) c.tree.view_is) c.tables.ensures.facts in
    omega (arith, few)

pub overflow_add-root : goal.overflow_add-root
overflow_add-root c =
    let few =
    sets_few c.args.schema.now c.trees-tree-items.result.now c.loop-tree.tree-index c.tree-item.result c.loop-tree.root
    c.tree.inside.inner c.loop-tree-test.true c.tree-item.is c.trees-tree-items.ensures c.loop-tree.invariant.root
    (ap (λ v. v.inner) c.tree.view_is) c.tables.ensures.facts in
    omega (arith, few, c.count.ensures)

pub overflow_add-root-in-loop-tree : goal.overflow_add-root-in-loop-tree
overflow_add-root-in-loop-tree c =
    let few =
    sets_few c.args.schema.now c.trees-tree-items.result.now c.loop-tree.tree-index c.tree-item.result c.loop-tree.root
    c.tree.inside.inner c.loop-tree-test.true c.tree-item.is c.trees-tree-items.ensures c.loop-tree.invariant.root
    (ap (λ v. v.inner) c.tree.view_is) c.tables.ensures.facts in
    omega (arith, few, c.count.ensures)

pub loop-tree-preserved : goal.loop-tree-preserved
loop-tree-preserved c =
    let ts = c.trees-tree-items.result.now in
    let k = c.loop-tree.tree-index in
    let more =
    count_more ts k c.tree-item.result c.tree.inside.inner c.loop-tree-test.true c.tree-item.is (ap (λ v. v.inner) c.tree.view_is) in
    record {
      sorted = rw c.root_file.ensures.same c.loop-tree.invariant.sorted;
      root = omega (arith, more, c.count.ensures, c.loop-tree.invariant.root);
      adds =
          roots_more c.args.schema.now c.args.target.now (map printed_view c.args.files.now.items) ts k c.tree-item.result c.loop-tree.root
          c.loop-tree.files.items c.push.new.self.items c.in_ok-root_file.field-0 c.loop-tree-test.true c.tree-item.is
          c.loop-tree.invariant.root c.loop-tree.invariant.adds c.in_ok-root_file.ensures.file c.in_ok-push.ensures.items;
    }
