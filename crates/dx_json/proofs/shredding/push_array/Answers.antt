use Rattle.std.proofs.Common.{◌≡◌, ◌+◌, ◌<◌, None, arith, length}
use Rattle.json.specs.Json.{after_end_array, value}
use Rattle.dx_json.specs.View.{view}
use Rattle.dx_json.proofs.Streams.{all_passed, none_passed, one_passed, passed_refused}
use Rattle.dx_json.proofs.shredding.push_array.Goals as goal

pub items-init : goal.items-init
items-init c = none_passed (value 126) c.args.list.now.tree.now.label c.args.list.now.tree.now.inner c.args.list.now.at.now c.args.reader.now c.args.out.now

pub returns-in_err-item-clause-refused : goal.returns-in_err-item-clause-refused
returns-in_err-item-clause-refused c refused =
    let l = c.items in
    let going : (after_end_array l.reader ≡ None) × (c.take_end_array.new.self ≡ l.reader) = grind arith in
    passed_refused (value 126) c.args.list.now.tree.now.label c.args.list.now.tree.now.inner c.args.list.now.at.now c.args.reader.now c.args.out.now l.reader l.place l.met l.out l.invariant going.0 (rw (← going.1) (c.read.ensures.refused (grind arith)))

pub items-preserved-in_ok-place : goal.items-preserved-in_ok-place
items-preserved-in_ok-place c =
    let l = c.items in
    let going : (after_end_array l.reader ≡ None) × (c.take_end_array.new.self ≡ l.reader) = grind arith in
    let less : length c.read.new.reader < length l.reader = rw (← going.1) c.in_ok-item.ensures.shorter in
    let next : c.in_ok-place.place ≡ l.place + 1 = grind arith in
    one_passed (value 126) c.args.list.now.tree.now.label c.args.list.now.tree.now.inner c.args.list.now.at.now c.args.reader.now c.args.out.now l.reader l.place l.met l.out l.invariant c.read.new.reader (view c.in_ok-item.item) c.in_ok-place.place c.in_ok-met.met
    c.push_next.new.out next going.0 (rw (← going.1) c.in_ok-item.ensures.ok) less (λ before h. c.in_ok-met.ensures c.args.out.now before h)

pub items-preserved-in_ok-place-2 : goal.items-preserved-in_ok-place-2
items-preserved-in_ok-place-2 c =
    let l = c.items in
    let going : (after_end_array l.reader ≡ None) × (c.take_end_array.new.self ≡ l.reader) = grind arith in
    let less : length c.read.new.reader < length l.reader = rw (← going.1) c.in_ok-item.ensures.shorter in
    let next : c.in_ok-place.place ≡ l.place + 1 = grind arith in
    one_passed (value 126) c.args.list.now.tree.now.label c.args.list.now.tree.now.inner c.args.list.now.at.now c.args.reader.now c.args.out.now l.reader l.place l.met l.out l.invariant c.read.new.reader (view c.in_ok-item.item) c.in_ok-place.place c.in_ok-met.met
    c.push_next.new.out next going.0 (rw (← going.1) c.in_ok-item.ensures.ok) less (λ before h. c.in_ok-met.ensures c.args.out.now before h)

pub items-preserved : goal.items-preserved
items-preserved c =
    let l = c.items in
    let going : (after_end_array l.reader ≡ None) × (c.take_end_array.new.self ≡ l.reader) = grind arith in
    let less : length c.read.new.reader < length l.reader = rw (← going.1) c.in_ok-item.ensures.shorter in
    let next : c.in_ok-place.place ≡ l.place + 1 = grind arith in
    one_passed (value 126) c.args.list.now.tree.now.label c.args.list.now.tree.now.inner c.args.list.now.at.now c.args.reader.now c.args.out.now l.reader l.place l.met l.out l.invariant c.read.new.reader (view c.in_ok-item.item) c.in_ok-place.place c.in_ok-met.met
    c.push_next.new.out next going.0 (rw (← going.1) c.in_ok-item.ensures.ok) less (λ before h. c.in_ok-met.ensures c.args.out.now before h)

pub returns-clause-ok : goal.returns-clause-ok
returns-clause-ok c =
    let l = c.items in
    all_passed (value 126) c.args.list.now.tree.now.label c.args.list.now.tree.now.inner c.args.list.now.at.now c.args.reader.now c.args.out.now l.reader l.place l.met l.out l.invariant c.take_end_array.new.self (grind arith)
