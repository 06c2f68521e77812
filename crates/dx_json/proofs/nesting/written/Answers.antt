use Rattle.std.proofs.Common.{◌≡◌, ◌++◌, ◌∙◌, IsUtf8, List, ℕ, ap, sym, subst}
use Rattle.std.proofs.lemmas.Bool.{false≢true}
use Rattle.json.specs.Print.{print}
use Rattle.dx_json.proofs.nesting.written.Goals as goal

pub unreachable-requires : goal.unreachable-requires
unreachable-requires c =
    false≢true (c.in-Err.ensures.succeeds (subst IsUtf8 (sym (c.into_inner.ensures.items ∙ ap (λ (before : List ℕ). before ++ print c.args.out.tokens) c.requires)) c.into_inner.ensures.utf8))
