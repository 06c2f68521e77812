use Rattle.std.proofs.Common.{◌≡◌, ℕ, string_bytes}
use Rattle.std.proofs.lemmas.Result.{IfOk-weaker}
use Rattle.dx_schema.specs.Forest.{forest_of}
use Rattle.dx_schema_text.specs.Print.{AreWritable, IsKnownVersion, IsReadAgain}
use Rattle.dx_schema_text.proofs.PrintReads.{read_again, printed_whole}
use Rattle.dx_schema_text.proofs.print.print_trees.Goals as goal

pub returns-clause-read_again : goal.returns-clause-read_again
returns-clause-read_again c =
    let trees = forest_of c.args.trees.now in
    let out = string_bytes c.push_sets.new.out in
    IfOk-weaker c.from_string.result (λ t. t ≡ out) (λ t. (version : ℕ) → IsKnownVersion version → AreWritable version trees → IsReadAgain version trees t)
    (λ t is version. read_again version trees t (printed_whole trees c.in_ok-margin.margin _ out t is c.in_ok-push_sets.ensures c.new-out.ensures.bytes c.in_ok-margin.ensures))
    c.from_string.ensures
