use Rattle.std.proofs.Common.{◌≡◌, ◌+◌, ℕ, Ok, Err, arith, refl, sym, ◌∙◌, ap, subst}
use Rattle.std.proofs.lemmas.Result.{err_from_is_err_and}
use Rattle.dx_schema.specs.Forest.{Tree}
use Rattle.dx_schema.specs.Tables.{count}
use Rattle.clio_source.specs.Fitting.{ReadFits}
use Rattle.clio_source.proofs.Roots.{few_inner, last_number, next_number, next_root}
use Rattle.clio_source.proofs.Runs.{all_read, ended, none_read, one_more}
use Rattle.clio_source.proofs.files.read_files.Goals as goal

pub loop-tree-init : goal.loop-tree-init
loop-tree-init g c = record {
  root = refl;
  fit = c.at_start-so_far.ensures.fit c.args.schema.now;
  blank = c.at_start-so_far.ensures.blank c.args.used.now c.args.schema.now;
  read = none_read c.args.used.now c.args.schema.now c.at_start-so_far.result _ (c.at_start-so_far.ensures.holds c.args.used.now);
}

pub read_root-requires-clause-root : goal.read_root-requires-clause-root
read_root-requires-clause-root g c =
    next_root c.trees-tree-items.result.now c.loop-tree.tree-index c.tree-item.result c.loop-tree.root c.args.schema.now c.trees-tree-items.ensures c.loop-tree-test.true c.tree-item.is c.loop-tree.invariant.root

pub returns-in_err-so_far-clause-read : goal.returns-in_err-so_far-clause-read
returns-in_err-so_far-clause-read g c =
    let ts = c.trees-tree-items.result.now in
    let p = err_from_is_err_and c.from_residual.result c.from_residual.ensures.1 in
    rw (p.1, p.2) (ended c.args.used.now c.args.schema.now ts (c.loop-tree.tree-index + 1) c.in_err-so_far.field-0.0 _ _ c.trees-tree-items.ensures
    (one_more c.args.used.now c.args.schema.now ts c.loop-tree.tree-index c.tree-item.result c.loop-tree.root c.loop-tree.so_far (Err c.in_err-so_far.field-0.0) _ _ _
    c.tables.ensures.facts c.trees-tree-items.ensures c.loop-tree-test.true c.tree-item.is c.loop-tree.invariant.root c.loop-tree.invariant.read c.in_err-so_far.ensures.read))

pub count-requires : goal.count-requires
count-requires g c =
    let few = few_inner c.args.schema.now c.trees-tree-items.result.now c.loop-tree.tree-index c.tree-item.result c.loop-tree.root c.tables.ensures.facts c.trees-tree-items.ensures c.loop-tree-test.true c.tree-item.is c.loop-tree.invariant.root in
    omega (arith, few, ap (λ (t : Tree). count t.inner) c.tree.view_is)

pub overflow_add-root : goal.overflow_add-root
overflow_add-root g c =
    let few = few_inner c.args.schema.now c.trees-tree-items.result.now c.loop-tree.tree-index c.tree-item.result c.loop-tree.root c.tables.ensures.facts c.trees-tree-items.ensures c.loop-tree-test.true c.tree-item.is c.loop-tree.invariant.root in
    omega (arith, few, c.count.ensures, ap (λ (t : Tree). count t.inner) c.tree.view_is)

pub overflow_add-root-in-loop-tree : goal.overflow_add-root-in-loop-tree
overflow_add-root-in-loop-tree g c =
    let few = few_inner c.args.schema.now c.trees-tree-items.result.now c.loop-tree.tree-index c.tree-item.result c.loop-tree.root c.tables.ensures.facts c.trees-tree-items.ensures c.loop-tree-test.true c.tree-item.is c.loop-tree.invariant.root in
    omega (arith, few, c.count.ensures, ap (λ (t : Tree). count t.inner) c.tree.view_is)

pub loop-tree-preserved : goal.loop-tree-preserved
loop-tree-preserved g c =
    let f = c.args.schema.now in
    let ts = c.trees-tree-items.result.now in
    let n = next_number f ts c.loop-tree.tree-index c.tree-item.result c.loop-tree.root c.trees-tree-items.ensures c.loop-tree-test.true c.tree-item.is c.loop-tree.invariant.root in
    let same : c.count.result ≡ count c.tree-item.result.inner = c.count.ensures ∙ ap (λ (t : Tree). count t.inner) c.tree.view_is in
    let next = ap (λ (k : ℕ). c.loop-tree.root + (1 + k)) same in record {
      root = next ∙ n.1;
      fit = subst (λ (k : ℕ). ReadFits f k c.in_ok-so_far.so_far) (n.0 ∙ sym next) c.in_ok-so_far.ensures.fit;
      blank = c.in_ok-so_far.ensures.blank c.loop-tree.invariant.blank;
      read = one_more c.args.used.now f ts c.loop-tree.tree-index c.tree-item.result c.loop-tree.root c.loop-tree.so_far (Ok c.in_ok-so_far.so_far) _ _ _
          c.tables.ensures.facts c.trees-tree-items.ensures c.loop-tree-test.true c.tree-item.is c.loop-tree.invariant.root c.loop-tree.invariant.read c.in_ok-so_far.ensures.read;
    }

pub returns-clause-fit : goal.returns-clause-fit
returns-clause-fit g c =
    subst (λ (k : ℕ). ReadFits c.args.schema.now k c.loop-tree.so_far)
    (last_number c.args.schema.now c.trees-tree-items.result.now c.loop-tree.tree-index c.loop-tree.root c.trees-tree-items.ensures c.loop-tree-test.false c.loop-tree.invariant.root) c.loop-tree.invariant.fit

pub returns-clause-read : goal.returns-clause-read
returns-clause-read g c =
    all_read c.args.used.now c.args.schema.now c.trees-tree-items.result.now c.loop-tree.tree-index c.loop-tree.so_far _ _ c.trees-tree-items.ensures c.loop-tree-test.false c.loop-tree.invariant.read
