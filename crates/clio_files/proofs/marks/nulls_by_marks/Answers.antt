use Rattle.std.proofs.Common.{◌≡◌, ◌∙◌, ◌+◌, List, Bool, ap, length, subst, sym}
use Rattle.clio_files.specs.Marks.{AreMarks, table_numbers}
use Rattle.clio_files.proofs.MarkFacts.{nulls_marked}
use Rattle.clio_files.proofs.marks.nulls_by_marks.Goals as goal

pub returns : goal.returns
returns c =
    let target = c.args.target.now in
    let first = c.first_null-first.result in
    let marks = c.deref.result.now in
    let many : first + length marks ≡ length target.symbols =
    ap (λ (m : List Bool). first + length m) c.deref.ensures.value ∙ c.in_ok-marks.ensures.many in
    let marked : AreMarks first (table_numbers target.tables) marks =
    subst (λ (m : List Bool). AreMarks first (table_numbers target.tables) m) (sym c.deref.ensures.value) c.in_ok-marks.ensures.marked in
    nulls_marked c.marked_nulls.result target.symbols target.tables first marks many c.first_null-first.ensures.constants marked
    c.marked_nulls.ensures.ascend c.marked_nulls.ensures.members
