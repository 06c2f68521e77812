use Rattle.std.proofs.Common.{◌++◌, List, ℕ, sym, subst, map, take}
use Rattle.std.proofs.lemmas.List.{append-nil, take_all}
use Rattle.clio_files.specs.Printing.{AreRecords}
use Rattle.clio_files.specs.Sheets.{term_records}
use Rattle.dx_rule_text.specs.Printed.{variable_text}
use Rattle.clio_files.proofs.SheetLists.{terms_more}
use Rattle.clio_files.proofs.sheets.push_terms.Goals as goal

pub loop-column-init : goal.loop-column-init
loop-column-init c = λ rs h. subst (AreRecords c.args.records.now) (sym (append-nil rs)) h

pub loop-column-preserved : goal.loop-column-preserved
loop-column-preserved c = λ rs h.
    let n = c.args.null.now in
    let before = rs ++ term_records n (map variable_text (take c.loop-column.column c.args.variables.now)) c.args.tuple.now in
    let pushed = rw (c.requires.shown, c.text.ensures) at (c.in_ok-push_term.ensures before (c.loop-column.invariant rs h)) in
    subst (AreRecords c.push_term.new.records)
    (terms_more n c.args.variables.now c.args.tuple.now rs c.loop-column.column 0 c.loop-column-test.true c.requires.wide) pushed

pub returns : goal.returns
returns c = λ rs h.
    let n = c.args.null.now in
    let all = take_all c.loop-column.column c.args.variables.now c.loop-column-test.false in
    subst (λ (xs : List ℕ). AreRecords c.loop-column.records (rs ++ term_records n (map variable_text xs) c.args.tuple.now)) all
    (c.loop-column.invariant rs h)

pub push_term-requires : goal.push_term-requires
push_term-requires c = rw c.requires.shown c.requires.plain
