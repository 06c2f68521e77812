use Rattle.std.proofs.Common.{◌≡◌, ◌+◌, ◌∷◌, length, arith, ap, sym, subst}
use Rattle.csv.specs.Records.{fields_of}
use Rattle.dx_csv.specs.Table.{IsWholeRecord}
use Rattle.dx_csv.proofs.TableFacts.{Loaded, loaded-faulty, loaded-more}
use Rattle.dx_csv.proofs.load.rows_under.Goals as goal

pub under-smaller : goal.under-smaller
under-smaller c = let left = ap length (c.in_ok-next.ensures.some c.if-branch.true) in omega (arith, left)

pub under-preserved : goal.under-preserved
under-preserved c =
    let all = c.args.columns.now ∷ c.args.records.now in
    let left = c.in_ok-next.ensures.some c.if-branch.true in
    let text = rw c.in-Some.is at c.in_ok-row.ensures.text in
    let row = rw c.in-Some.is at c.in_ok-row.ensures.row in
    let fields = fields_of c.next.new.row in
    let width : length fields ≡ length c.args.columns.now = omega arith in
    let whole : IsWholeRecord c.args.columns.now fields = record { width = width; text = text } in
    subst (λ n. Loaded all c.args.columns.now c.push.new.self.items c.next.new.self (n + 1)) (sym c.in_ok-number.ensures)
    (rw c.in_ok-push.ensures.items (loaded-more all c.args.columns.now c.under.rows.items c.under.records c.next.new.self (c.under.number + 1) fields c.in-Some.row c.under.invariant left whole row))
