use Rattle.std.proofs.Common.{◌≡◌, ℕ, ◌+◌, IfOk, true, not, arith, refl, sym, ◌∙◌, ap, subst}
use Rattle.std.proofs.lemmas.Result.{err_from_is_err_and}
use Rattle.dx_schema.specs.Forest.{Forest, Tree, none, set, has_sets}
use Rattle.dx_schema.specs.Tables.{count, tree_at}
use Rattle.clio_source.specs.Fitting.{ReadFits}
use Rattle.clio_source.specs.Source.{flat, shape_of, nested}
use Rattle.clio_source.proofs.Roots.{is_flat, is_nested}
use Rattle.clio_source.proofs.Runs.{passed, stopped}
use Rattle.clio_source.proofs.files.read_root.Goals as goal

pub returns-in_err-bytes-clause-read : goal.returns-in_err-bytes-clause-read
returns-in_err-bytes-clause-read g c = λ q h.
    let p = err_from_is_err_and c.from_residual-in_err-bytes.result c.from_residual-in_err-bytes.ensures.1 in
    rw (p.1, p.2) (stopped c.args.used.now c.args.schema.now c.args.root c.args.before.bytes_left c.in_ok-copy-2.field-0 c.in_ok-copy.field-0 c.too_many_bytes.result q c.in_err-bytes.field-0.0 _ _
    (c.in_ok-copy-2.ensures ∙ c.in_ok-name.ensures) (c.in_ok-copy.ensures ∙ c.in_ok-name.ensures) h.bytes c.too_many_bytes.ensures c.in_err-bytes.ensures)

pub returns-then-is_empty-clause-read : goal.returns-then-is_empty-clause-read
returns-then-is_empty-clause-read g c = λ q h.
    let formed = is_flat c.behind-schema.inside.inner (sym c.is_empty.ensures ∙ c.if-is_empty.true) ∙ ap (λ (t : Tree). shape_of t.inner) (c.behind-schema.view_is ∙ c.tree.ensures.tree) in
    passed c.args.used.now c.args.schema.now c.args.root c.args.before.bytes_left flat c.in_ok-copy-2.field-0 c.in_ok-copy.field-0 c.in_ok-bytes.bytes c.items.result.now c.too_many_bytes.result q c.load_table.result _ _
    (c.in_ok-copy-2.ensures ∙ c.in_ok-name.ensures) (c.in_ok-copy.ensures ∙ c.in_ok-name.ensures) h.bytes c.too_many_bytes.ensures c.items.ensures formed c.in_ok-bytes.ensures (c.load_table.ensures.read q h)

pub returns-clause-read : goal.returns-clause-read
returns-clause-read g c = λ q h.
    let formed = is_nested c.behind-schema.inside.inner (sym c.is_empty.ensures ∙ c.if-is_empty.false) ∙ ap (λ (t : Tree). shape_of t.inner) (c.behind-schema.view_is ∙ c.tree.ensures.tree) in
    passed c.args.used.now c.args.schema.now c.args.root c.args.before.bytes_left nested c.in_ok-copy-2.field-0 c.in_ok-copy.field-0 c.in_ok-bytes.bytes c.items-else-is_empty.result.now c.too_many_bytes.result q c.load_document.result _ _
    (c.in_ok-copy-2.ensures ∙ c.in_ok-name.ensures) (c.in_ok-copy.ensures ∙ c.in_ok-name.ensures) h.bytes c.too_many_bytes.ensures c.items-else-is_empty.ensures formed c.in_ok-bytes.ensures (c.load_document.ensures.read c.args.used.now q h)

pub returns-clause-blank : goal.returns-clause-blank
returns-clause-blank g c = λ h.
    let formed = is_nested c.behind-schema.inside.inner (sym c.is_empty.ensures ∙ c.if-is_empty.false) ∙ ap (λ (t : Tree). shape_of t.inner) (c.behind-schema.view_is ∙ c.tree.ensures.tree) in
    c.load_document.ensures.blank c.args.used.now formed h

-- a root without inner sets has no tables after its own
no_inner : (g : Forest) → not (has_sets g) ≡ true → count g ≡ 0
no_inner none e = refl
no_inner (set l i r) e = absurd (cc e)

pub returns-then-is_empty-clause-fit : goal.returns-then-is_empty-clause-fit
returns-then-is_empty-clause-fit g c =
    let nothing = no_inner c.behind-schema.inside.inner (sym c.is_empty.ensures ∙ c.if-is_empty.true) in
    let same = ap (λ (t : Tree). count t.inner) (c.behind-schema.view_is ∙ c.tree.ensures.tree) in
    let next : c.args.root + 1 ≡ c.args.root + 1 + count (tree_at c.args.schema.now c.args.root).inner = omega (arith, nothing, same) in
    subst (λ (n : ℕ). IfOk c.load_table.result (ReadFits c.args.schema.now n)) next c.load_table.ensures.fit
