use Rattle.std.proofs.Common.{◌≡◌, ◌++◌, ◌∙◌, ap}
use Rattle.std.specs.Prelude.{List, codes, decimal, map, string_bytes}
use Rattle.dx_script.specs.declared.form.Test.{Test}
use Rattle.dx_script_text.specs.Print.{test_text, where_clause_text}
use Rattle.dx_script_text.proofs.Pushes.{unless_pushed}
use Rattle.dx_script_text.proofs.print_keeps.push_unless.Goals as goal

pub returns : goal.returns
returns c =
    let tests : string_bytes c.push_tests.new.out ≡ string_bytes c.write.new.self ++ where_clause_text (map test_text c.args.unless.now.tests) = c.in_ok-push_tests.ensures ∙ ap (λ (ts : List Test). string_bytes c.write.new.self ++ where_clause_text (map test_text ts)) c.items.ensures in
    unless_pushed (codes "NOT EXISTS (SELECT * FROM m") (decimal c.args.unless.now.rule) (codes " AS n") _ (codes ")") _ _ _ _ c.in_ok-write.ensures.bytes tests c.in_ok-push_str.ensures.bytes
