use Rattle.std.proofs.Common.{◌≡◌, [], ◌∙◌, rules, string_bytes}
use Rattle.serde_json.specs.Data.{array}
use Rattle.dx_json.specs.Nesting.{root_objects}
use Rattle.dx_json.proofs.Tokens.{value_text}
use Rattle.dx_json.proofs.nesting.text_of_root.Goals as goal

pub written-text-requires : goal.written-text-requires
written-text-requires c =
    let none : c.new.result.items ≡ [] = search rules in
    c.in_ok-write_root.ensures.0 ∙ c.new-out.ensures.before ∙ none

pub returns : goal.returns
returns c =
    let none : c.new.result.items ≡ [] = search rules in
    value_text c.new-out.result c.write_root.new.out (array (root_objects c.args.instance.now c.args.tree.now c.args.root)) (string_bytes c.written-text.result) _ (c.new-out.ensures.before ∙ none) c.new-out.ensures.tokens c.in_ok-write_root.ensures c.written-text.ensures c.in_ok-push_str.ensures.bytes
