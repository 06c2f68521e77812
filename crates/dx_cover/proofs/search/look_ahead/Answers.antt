use Rattle.std.proofs.Common.{◌≡◌, true, false, sym, ◌∙◌, ap, arith}
use Rattle.std.specs.List.{list_any}
use Rattle.dx_model.specs.Covers.{is_cell_map}
use Rattle.dx_cover.specs.Search.{maps_under}
use Rattle.dx_cover.specs.States.{same_state, state_of}
use Rattle.dx_cover.proofs.Extending.{full}
use Rattle.dx_cover.proofs.Memory.{gone_nothing, dead_none}
use Rattle.dx_cover.proofs.Searching.{no_map_no_more}
use Rattle.dx_cover.proofs.search.look_ahead.Goals as goal

pub returns-then-len-eq16 : goal.returns-then-len-eq16
returns-then-len-eq16 c = λ others s.
    sym (full c.args.search.now.found.items (maps_under c.args.problem.now.rule.now c.args.bound.now c.args.rest.now others)
    (omega (arith, c.len.ensures, c.if-len-eq16.true)))

pub returns-then-not-make_map : goal.returns-then-not-make_map
returns-then-not-make_map c = λ others s. no_map_no_more c.args.problem.now.rule.now c.args.bound.now c.args.rest.now others (sym c.make_map.ensures
    ∙ c.if-not-make_map.true)

pub returns-then-is_dead : goal.returns-then-is_dead
returns-then-is_dead c = λ others s.
    let bound = c.args.bound.now in
    let map : is_cell_map bound ≡ true = sym c.make_map.ensures ∙ c.if-not-make_map.false in
    let known = ap (list_any (same_state (state_of false c.args.rest.now bound))) (sym c.as_slice-2.ensures.value)
    ∙ (sym c.in_ok-is_dead.ensures ∙ c.if-is_dead.true) in
    dead_none c.args.problem.now.rule.now others c.args.search.now bound c.args.rest.now s map c.requires.last known

pub returns-then-is_gone : goal.returns-then-is_gone
returns-then-is_gone c = λ others s.
    let bound = c.args.bound.now in
    let map : is_cell_map bound ≡ true = sym c.make_map.ensures ∙ c.if-not-make_map.false in
    let known = ap (list_any (same_state (state_of true c.args.rest.now bound))) (sym c.as_slice-3.ensures.value)
    ∙ (sym c.in_ok-is_gone.ensures ∙ c.if-is_gone.true) in
    gone_nothing c.args.problem.now.rule.now others c.args.search.now bound c.args.rest.now s map c.requires.last known

pub returns : goal.returns
returns c = λ others s. (sym c.make_map.ensures ∙ c.if-not-make_map.false, omega (arith, s.few, c.len.ensures, c.if-len-eq16.false))
