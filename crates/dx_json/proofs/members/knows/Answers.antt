use Rattle.std.proofs.Common.{◌≡◌, ◌∙◌, ◌||◌, ap, sym, Bool, bytes_eq, rules, tests}
use Rattle.std.proofs.lemmas.Iterator.{YieldsList-from_slice}
use Rattle.std.proofs.lemmas.Iterator.Search.{any_from_yields_List}
use Rattle.dx_schema.specs.Faults.{is_among, level_names}
use Rattle.dx_schema.specs.Forest.{Tree, Forest, forest_of}
use Rattle.dx_json.proofs.Steps.{among_columns, among_inner}
use Rattle.dx_json.proofs.members.knows.Goals as goal

pub returns-then-any : goal.returns-then-any
returns-then-any c =
    let name = c.args.name.now in
    let first = any_from_yields_List (λ x. bytes_eq x name) _ _ _ c.any.ensures.ran (YieldsList-from_slice c.items.result.now (cc)) (λ x b q k. search (rules, tests)) in
    let same : c.items.result.now ≡ c.args.tree.now.label.columns = search rules in
    let columns : c.any.result ≡ is_among name c.args.tree.now.label.columns = first ∙ among_columns name c.items.result.now ∙ ap (is_among name) same in
    let known = sym columns ∙ c.if-any.true in
    c.if-any.true ∙ sym (ap (λ (b : Bool). b || is_among name (level_names c.args.tree.now.inner)) known)

pub returns-else-any : goal.returns-else-any
returns-else-any c =
    let name = c.args.name.now in
    let first = any_from_yields_List (λ x. bytes_eq x name) _ _ _ c.any.ensures.ran (YieldsList-from_slice c.items.result.now (cc)) (λ x b q k. search (rules, tests)) in
    let same : c.items.result.now ≡ c.args.tree.now.label.columns = search rules in
    let columns : c.any.result ≡ is_among name c.args.tree.now.label.columns = first ∙ among_columns name c.items.result.now ∙ ap (is_among name) same in
    let unknown = sym columns ∙ c.if-any.false in
    let second = any_from_yields_List (λ (t : Tree). bytes_eq t.label.name name) _ _ _ c.any-else-any.ensures.ran (YieldsList-from_slice c.items-else-any.result.now (cc)) (λ x b q k. search (rules, tests)) in
    let sets : forest_of c.items-else-any.result.now ≡ c.args.tree.now.inner = search rules in
    let inner = second ∙ among_inner name c.items-else-any.result.now ∙ ap (λ (f : Forest). is_among name (level_names f)) sets in
    inner ∙ sym (ap (λ (b : Bool). b || is_among name (level_names c.args.tree.now.inner)) unknown)
