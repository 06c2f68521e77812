use Rattle.std.proofs.Common.{◌≡◌, ◌+◌, ◌∷◌, length, arith, ap, sym, subst}
use Rattle.csv.specs.Records.{fields_of}
use Rattle.dx_csv.specs.Fields.{flat}
use Rattle.dx_csv.specs.Table.{IsWholeRecord}
use Rattle.dx_csv.proofs.TableFacts.{Collected, collected-faulty, collected-more}
use Rattle.dx_csv.proofs.load.fields_under.Goals as goal

pub under-smaller : goal.under-smaller
under-smaller c = let left = ap length (c.in_ok-next.ensures.some c.if-branch.true) in omega (arith, left)

pub under-preserved : goal.under-preserved
under-preserved c =
    let all = c.args.columns.now ∷ c.args.records.now in
    let left = c.in_ok-next.ensures.some c.if-branch.true in
    let fields = fields_of c.next.new.row in
    let width : length fields ≡ length c.args.columns.now = omega arith in
    let whole : IsWholeRecord c.args.columns.now fields = record { width = width; text = c.in_ok-push_record.ensures.text c.if-not-branch.false } in
    subst (λ n. Collected all c.args.columns.now c.push_record.new.fields c.next.new.self (n + 1)) (sym c.in_ok-number.ensures)
    (collected-more all c.args.columns.now c.under.fields c.push_record.new.fields c.under.records c.next.new.self (c.under.number + 1) fields
    c.under.invariant left whole (c.in_ok-push_record.ensures.pushed (flat c.under.invariant.under) c.under.invariant.have c.if-not-branch.false))
