use Rattle.std.proofs.Common.{◌≡◌, refl, ap, ◌∙◌, arith, string_bytes}
use Rattle.std.proofs.lemmas.Result.{IfOk-weaker}
use Rattle.dx_schema.specs.Tables.{tree_at}
use Rattle.dx_json.specs.Nesting.{nested_text}
use Rattle.dx_json.proofs.Fitting.{root_columns, sets_stand}
use Rattle.dx_json.proofs.nesting.nest_sorted.Goals as goal

pub index_sets-requires-clause-stand : goal.index_sets-requires-clause-stand
index_sets-requires-clause-stand c =
    let I = c.args.instance.now in
    sets_stand I I c.args.schema.now c.args.root _ c.tree-tree.result.now c.tree.inside.inner c.requires.widths c.requires.root c.tree-tree.ensures.tree refl (ap (λ v. v.inner) c.tree.view_is) (omega arith)

pub text_of_root-requires : goal.text_of_root-requires
text_of_root-requires c = record {
  table = rw c.index_sets.ensures (omega (arith, c.if-prove-2.false, c.tables-2.ensures.number));
  columns = root_columns c.args.instance.now _ c.args.schema.now c.args.root c.tree-tree.result.now c.requires.widths c.requires.root c.tree-tree.ensures.tree c.index_sets.ensures;
  stand = sets_stand c.args.instance.now _ c.args.schema.now c.args.root _ c.tree-tree.result.now _ c.requires.widths c.requires.root c.tree-tree.ensures.tree c.index_sets.ensures refl refl;
  few = c.tree-tree.ensures.few;
  room = omega (arith, c.tables.ensures.facts.few_tables, c.requires.root, c.tree-tree.ensures.few);
}

pub returns-clause-text : goal.returns-clause-text
returns-clause-text c =
    let I = c.args.instance.now in
    let t = c.tree-tree.result.now in
    let root = c.args.root in
    let text = c.in_ok-text_of_root.field-0 in
    let all : string_bytes text ≡ nested_text I (tree_at c.args.schema.now root) root = c.in_ok-text_of_root.ensures ∙ ap (λ J. nested_text J t root) c.index_sets.ensures ∙ ap (λ u. nested_text I u root) c.tree-tree.ensures.tree in
    IfOk-weaker c.from_string.result (λ x. x ≡ string_bytes text) (λ x. x ≡ nested_text I (tree_at c.args.schema.now root) root) (λ x e. e ∙ all) c.from_string.ensures
