use Rattle.std.proofs.Common.{◌≡◌, ◌∙◌, ◌<◌, ◌-◌, ℕ, get_or, sym, ap, length, arith}
use Rattle.std.proofs.lemmas.Bool.{true≢false}
use Rattle.dx_instance.specs.Cells.{NumberTable, numbers_at}
use Rattle.std.proofs.lemmas.List.{length-map}
use Rattle.dx_instance.specs.Keys.{places_of}
use Rattle.dx_instance.proofs.CellFacts.{length_rows}
use Rattle.dx_instance.proofs.KeyFacts.{place_read}
use Rattle.dx_instance.proofs.OrderFacts.{gathered_same, gathered_more, gathered_all}
use Rattle.dx_instance.proofs.cells.Rows.in_order_by_places.Goals as goal
use Rattle.dx_instance.proofs.cells.Rows.in_order_by_places.Goals.{then-not-ends_with+in_ok-push, else-not-ends_with}

pub index-requires : goal.index-requires
index-requires c =
    let many = sym (length_rows c.self.inside.count c.self.inside.width c.self.inside.cells.items) ∙ ap (λ (t : NumberTable). length t.rows) c.self.view_is in
    let o = c.in_ok-places.ensures in
    omega (arith, many, o.many, length-map c.in_ok-places.places.items (λ (k : ℕ × ℕ). k.1), c.in_ok-places.places.ok.0, c.loop-i-test.true)

pub row-row-requires : goal.row-row-requires
row-row-requires c =
    let many = sym (length_rows c.self.inside.count c.self.inside.width c.self.inside.cells.items) ∙ ap (λ (t : NumberTable). length t.rows) c.self.view_is in
    let o = c.in_ok-places.ensures in
    let b : c.loop-i.i < length (places_of c.in_ok-places.places.items) = omega (arith, many, o.many, c.loop-i-test.true) in
    let w = o.within c.loop-i.i b in
    let e = place_read c.in_ok-places.places.items c.loop-i.i c.index.result.now b c.index.ensures in
    omega (arith, w, e)

pub loop-i-preserved : goal.loop-i-preserved
loop-i-preserved c =
    let many = sym (length_rows c.self.inside.count c.self.inside.width c.self.inside.cells.items) ∙ ap (λ (t : NumberTable). length t.rows) c.self.view_is in
    let o = c.in_ok-places.ensures in
    let h : c.loop-i.i < length c.args.self.now.rows = omega (arith, many, c.loop-i-test.true) in
    let b : c.loop-i.i < length (places_of c.in_ok-places.places.items) = omega (arith, o.many, h) in
    let e : c.row-row.result.now ≡ numbers_at c.args.self.now.rows (get_or (places_of c.in_ok-places.places.items) c.loop-i.i 0) =
    c.row-row.ensures.row ∙ ap (λ (p : ℕ). numbers_at c.args.self.now.rows p) (place_read c.in_ok-places.places.items c.loop-i.i c.index.result.now b c.index.ensures) in
    elim c.if-not-ends_with.branch [
      | then-not-ends_with+in_ok-push w ↦
          let n : ¬ ((0 < length c.loop-i.rows.rows) × (numbers_at c.loop-i.rows.rows (length c.loop-i.rows.rows - 1) ≡ c.row-row.result.now)) = λ q. true≢false (sym (c.ends_with.ensures.1 q) ∙ w.if-not-ends_with.true) in
          let is = w.rows-is ∙ w.in_ok-push.ensures.ok in
          rw is (record { width = c.loop-i.invariant.width; gathered = gathered_more c.args.self.now.rows c.loop-i.rows.rows (places_of c.in_ok-places.places.items) c.loop-i.i c.row-row.result.now o h e n c.loop-i.invariant.gathered })
      | else-not-ends_with w ↦
          let q = c.ends_with.ensures.0 w.if-not-ends_with.false in
          rw w.rows-is (record { width = c.loop-i.invariant.width; gathered = gathered_same c.args.self.now.rows c.loop-i.rows.rows (places_of c.in_ok-places.places.items) c.loop-i.i c.row-row.result.now e q c.loop-i.invariant.gathered })
    ]

pub returns : goal.returns
returns c =
    let many = sym (length_rows c.self.inside.count c.self.inside.width c.self.inside.cells.items) ∙ ap (λ (t : NumberTable). length t.rows) c.self.view_is in
    gathered_all c.args.self.now c.loop-i.rows (places_of c.in_ok-places.places.items) c.loop-i.i c.in_ok-places.ensures (omega (arith, many, c.loop-i-test.false)) c.loop-i.invariant.width c.loop-i.invariant.gathered
