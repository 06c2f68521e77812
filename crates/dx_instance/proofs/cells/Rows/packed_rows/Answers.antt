use Rattle.std.proofs.Common.{◌≡◌, ◌<◌, ◌∙◌, ◌^◌, List, ℕ, [], sym, ap, arith, length, map, subst, take}
use Rattle.std.proofs.lemmas.List.{length-map, map_more, take_all}
use Rattle.dx_base.specs.Members.{◌∈◌, Each}
use Rattle.dx_base.proofs.Members.{in_at}
use Rattle.dx_instance.specs.Cells.{NumberTable, numbers_at}
use Rattle.dx_instance.specs.Keys.{packed}
use Rattle.dx_instance.proofs.CellFacts.{length_rows, rows_wide}
use Rattle.dx_instance.proofs.cells.Rows.packed_rows.Goals as goal

pub row-requires : goal.row-requires
row-requires c =
    let many = sym (length_rows c.self.inside.count c.self.inside.width c.self.inside.cells.items) ∙ ap (λ (t : NumberTable). length t.rows) c.self.view_is in
    omega (arith, many, c.loop-place-test.true)

pub key_of-requires-clause-below : goal.key_of-requires-clause-below
key_of-requires-clause-below c =
    let many = sym (length_rows c.self.inside.count c.self.inside.width c.self.inside.cells.items) ∙ ap (λ (t : NumberTable). length t.rows) c.self.view_is in
    let rows = c.args.self.now.rows in
    let there : numbers_at rows c.loop-place.place ∈ rows = in_at rows c.loop-place.place [] (omega (arith, many, c.loop-place-test.true)) in
    c.requires.below c.row.result.now (rw c.row.ensures.row there)

pub loop-place-preserved : goal.loop-place-preserved
loop-place-preserved c =
    let many = sym (length_rows c.self.inside.count c.self.inside.width c.self.inside.cells.items) ∙ ap (λ (t : NumberTable). length t.rows) c.self.view_is in
    let rows = c.args.self.now.rows in
    let h : c.loop-place.place < length rows = omega (arith, many, c.loop-place-test.true) in
    let f : List ℕ → ℕ = packed (2 ^ c.args.packing.bits) c.args.packing.width 0 in
    let key : c.key_of.result ≡ f (numbers_at rows c.loop-place.place) = c.key_of.ensures ∙ ap f c.row.ensures.row in
    c.in_ok-push.ensures.items ∙ rw (c.loop-place.invariant, key) (sym (map_more f rows c.loop-place.place [] h))

pub returns-clause-keys : goal.returns-clause-keys
returns-clause-keys c =
    let many = sym (length_rows c.self.inside.count c.self.inside.width c.self.inside.cells.items) ∙ ap (λ (t : NumberTable). length t.rows) c.self.view_is in
    let f : List ℕ → ℕ = packed (2 ^ c.args.packing.bits) c.args.packing.width 0 in
    c.loop-place.invariant ∙ ap (λ (l : List (List ℕ)). map f l) (take_all c.loop-place.place c.args.self.now.rows (omega (arith, many, c.loop-place-test.false)))

pub returns-clause-wide : goal.returns-clause-wide
returns-clause-wide c = subst (λ (t : NumberTable). Each t.rows (λ (r : List ℕ). length r ≡ t.width)) c.self.view_is (rows_wide c.self.inside.count c.self.inside.width c.self.inside.cells.items c.self.invariant)

pub returns-clause-few : goal.returns-clause-few
returns-clause-few c =
    let many = sym (length_rows c.self.inside.count c.self.inside.width c.self.inside.cells.items) ∙ ap (λ (t : NumberTable). length t.rows) c.self.view_is in
    let f : List ℕ → ℕ = packed (2 ^ c.args.packing.bits) c.args.packing.width 0 in
    let taken = ap length c.loop-place.invariant ∙ length-map (take c.loop-place.place c.args.self.now.rows) f in
    let rows = ap (λ (l : List (List ℕ)). length l) (take_all c.loop-place.place c.args.self.now.rows (omega (arith, many, c.loop-place-test.false))) in
    omega (arith, taken, rows, many)
