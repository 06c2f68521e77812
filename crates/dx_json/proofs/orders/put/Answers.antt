use Rattle.std.proofs.Common.{◌≡◌, string_bytes, ap, ◌∙◌, rules}
use Rattle.dx_json.specs.Orders.{slot_put, slots_of}
use Rattle.dx_json.proofs.Ordered.{slots_of-insert}
use Rattle.dx_json.proofs.orders.put.Goals as goal

pub returns : goal.returns
returns c =
    let old = c.args.order.now.entries in
    let copied : string_bytes c.in_ok-name.name ≡ c.args.name.now = search rules in
    ap slots_of c.in_ok-insert.ensures.entries ∙ slots_of-insert old c.in_ok-name.name c.args.source ∙ ap (λ k. slot_put k c.args.source (slots_of old)) copied
