use Rattle.dx_keys.proofs.Answering.{Done, clash_answers, clash_can_be_read, map_answers, numbers_below, numbers_fit, roots_are_read}
use Rattle.dx_keys.proofs.chasing.chase_numbered.Goals as goal

pub chase_rows-requires-clause-fit : goal.chase_rows-requires-clause-fit
chase_rows-requires-clause-fit c = numbers_fit c.requires.0 c.requires.1 c.args.numbering.now c.args.rows.now c.requires.2

pub chase_rows-requires-clause-below : goal.chase_rows-requires-clause-below
chase_rows-requires-clause-below c = rw c.len-count.ensures.len (numbers_below c.requires.0 c.requires.1 c.args.numbering.now c.args.rows.now c.requires.2)

pub read_clash-requires : goal.read_clash-requires
read_clash-requires c =
    let D : Done c.args.numbering.now c.args.rows.now c.in_ok-found.found = record { demands = c.in_ok-found.ensures.demands; ended = rw c.len-count.ensures.len at c.in_ok-found.ensures.chased } in
    clash_can_be_read c.requires.0 c.requires.1 c.args.numbering.now c.args.rows.now c.requires.2 c.in_ok-found.found D c.in-Some.place c.in-Some.is

pub returns-in_ok-clash-in-Some-clause-fault : goal.returns-in_ok-clash-in-Some-clause-fault
returns-in_ok-clash-in-Some-clause-fault c = λ schema I N.
    let D : Done c.args.numbering.now c.args.rows.now c.in_ok-found.found = record { demands = c.in_ok-found.ensures.demands; ended = rw c.len-count.ensures.len at c.in_ok-found.ensures.chased } in
    clash_answers schema I c.args.numbering.now c.args.rows.now N c.in_ok-found.found D c.in-Some.place c.in-Some.is c.in_ok-clash-in-Some.clash c.in_ok-clash-in-Some.ensures

pub returns-in-None-clause-roots : goal.returns-in-None-clause-roots
returns-in-None-clause-roots c =
    let D : Done c.args.numbering.now c.args.rows.now c.in_ok-found.found = record { demands = c.in_ok-found.ensures.demands; ended = rw c.len-count.ensures.len at c.in_ok-found.ensures.chased } in
    rw c.roots_of.ensures (roots_are_read c.requires.0 c.requires.1 c.args.numbering.now c.args.rows.now c.requires.2 c.in_ok-found.found D)

pub returns-in-None-clause-ok : goal.returns-in-None-clause-ok
returns-in-None-clause-ok c = λ schema I N.
    let D : Done c.args.numbering.now c.args.rows.now c.in_ok-found.found = record { demands = c.in_ok-found.ensures.demands; ended = rw c.len-count.ensures.len at c.in_ok-found.ensures.chased } in
    rw c.roots_of.ensures (map_answers schema I c.args.numbering.now c.args.rows.now N c.in_ok-found.found D c.in-None.is)
