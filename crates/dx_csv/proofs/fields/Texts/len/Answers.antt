use Rattle.std.proofs.Common.{◌∙◌, ap, length, sym, string_bytes, List, ℕ}
use Rattle.csv.proofs.RecordFacts.{cut-length}
use Rattle.dx_csv.proofs.fields.Texts.len.Goals as goal

pub returns : goal.returns
returns c =
    c.len.ensures ∙ c.self.inside.ends.ok.0 ∙ sym (cut-length 0 c.self.inside.ends.items (string_bytes c.self.inside.buffer.value)) ∙ ap (λ (l : List (List ℕ)). length l) c.self.view_is
