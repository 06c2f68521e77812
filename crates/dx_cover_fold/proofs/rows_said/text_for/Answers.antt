use Rattle.std.proofs.Common.{◌<◌, ◌≤◌, ◌⊎◌, ℕ, [], get_or, length, arith, sym, ◌∙◌, ap, inl, inr, min}
use Rattle.std.proofs.lemmas.Bool.{cases_lt}
use Rattle.std.proofs.lemmas.List.{get_or-map, get_or_default, length-map}
use Rattle.dx_instance.specs.Numbers.{value_of}
use Rattle.dx_joins.specs.Shown.{texts_of}
use Rattle.dx_instance.specs.Ranks.{text_of_value}
use Rattle.dx_base.proofs.Members.{in_at}
use Rattle.dx_cover_fold.proofs.TextsOf.{text_here, text_nowhere, text_past}
use Rattle.dx_cover_fold.proofs.rows_said.text_for.Goals as goal

pub value-requires : goal.value-requires
value-requires c =
    let k : c.loop-i.i < length c.args.row.now = omega (arith, c.loop-i-test.true, c.min-i-end.ensures) in
    (c.requires (get_or c.args.row.now c.loop-i.i 0) (in_at c.args.row.now c.loop-i.i 0 k)).0

pub loop-i-preserved : goal.loop-i-preserved
loop-i-preserved c =
    let texts = texts_of c.args.matches.now.symbols c.args.row.now in
    let long = length-map c.args.row.now (λ (n : ℕ). text_of_value (value_of c.args.matches.now.symbols n)) in
    let l : c.loop-i.i < length c.args.variables.now = omega (arith, c.loop-i-test.true, c.min-i-end.ensures) in
    let k : c.loop-i.i < length texts = omega (arith, c.loop-i-test.true, c.min-i-end.ensures, long) in
    c.loop-i.invariant ∙ text_past c.args.variables.now texts c.loop-i.i c.args.variable (get_or c.args.variables.now c.loop-i.i 0) (get_or texts c.loop-i.i []) l k
    (get_or_default c.args.variables.now c.loop-i.i 0 _ l) (get_or_default texts c.loop-i.i [] _ k) c.if-variable-variables.false

nowhere : (m n i : ℕ) → min m n ≤ i → (m ≤ i) ⊎ (n ≤ i)
nowhere m n i h = elim (cases_lt i m) [ inl l ↦ inr (omega arith) | inr g ↦ inl g ]

pub returns : goal.returns
returns c =
    let texts = texts_of c.args.matches.now.symbols c.args.row.now in
    let long = length-map c.args.row.now (λ (n : ℕ). text_of_value (value_of c.args.matches.now.symbols n)) in
    let w = text_nowhere c.args.variables.now texts c.loop-i.i c.args.variable in
    rw (c.loop-i.invariant ∙ elim (nowhere (length c.args.variables.now) (length c.args.row.now) c.loop-i.i (omega (arith, c.loop-i-test.false, c.min-i-end.ensures))) [ inl l ↦ w.0 l | inr r ↦ w.1 (omega (arith, r, long)) ]) c.from_str.ensures

pub returns-then-variable-variables : goal.returns-then-variable-variables
returns-then-variable-variables c =
    let texts = texts_of c.args.matches.now.symbols c.args.row.now in
    let long = length-map c.args.row.now (λ (n : ℕ). text_of_value (value_of c.args.matches.now.symbols n)) in
    let l : c.loop-i.i < length c.args.variables.now = omega (arith, c.loop-i-test.true, c.min-i-end.ensures) in
    let k : c.loop-i.i < length c.args.row.now = omega (arith, c.loop-i-test.true, c.min-i-end.ensures) in
    let at : c.loop-i.i < length texts = omega (arith, k, long) in
    let is = c.loop-i.invariant ∙ text_here c.args.variables.now texts c.loop-i.i c.args.variable (get_or c.args.variables.now c.loop-i.i 0) (get_or texts c.loop-i.i []) l at
    (get_or_default c.args.variables.now c.loop-i.i 0 _ l) (get_or_default texts c.loop-i.i [] _ at) c.if-variable-variables.true
    ∙ get_or-map (λ (n : ℕ). text_of_value (value_of c.args.matches.now.symbols n)) c.args.row.now c.loop-i.i 0 [] k
    ∙ ap text_of_value (sym c.value.ensures) in
    rw is c.text_copy.ensures
