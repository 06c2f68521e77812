use Rattle.std.proofs.Common.{◌≡◌, ◌++◌, ◌∙◌, ap}
use Rattle.std.specs.Prelude.{List, ℕ, codes, decimal, string_bytes}
use Rattle.dx_script_text.specs.Print.{table_letter}
use Rattle.dx_script_text.proofs.Pushes.{insert_pushed}
use Rattle.dx_script_text.proofs.print_inserts.push_insert.Goals as goal

pub returns : goal.returns
returns c =
    let letter : string_bytes c.push_str-4.new.self ≡ string_bytes c.push_str-3.new.self ++ table_letter c.args.kept = c.in_ok-push_str-4.ensures.bytes ∙ ap (λ (l : List ℕ). string_bytes c.push_str-3.new.self ++ l) c.letter.ensures in
    insert_pushed (codes "INSERT INTO target.") _ (codes " SELECT ") _ (codes " FROM ") _ (decimal c.args.rule) (codes " AS m;\n") _ _ _ _ _ _ _ _
    c.in_ok-push_str.ensures.bytes c.in_ok-push_name.ensures c.in_ok-push_str-2.ensures.bytes c.in_ok-push_cells.ensures c.in_ok-push_str-3.ensures.bytes letter c.in_ok-write.ensures.bytes
