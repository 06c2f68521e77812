use Rattle.std.proofs.Common.{map}
use Rattle.clio_files.specs.Files.{printed_view}
use Rattle.clio_ending.specs.declared.ending.Done.TheVariants.{Exchanged}
use Rattle.clio_top.proofs.exchanging.plan_exchange.Goals as goal

pub returns : goal.returns
returns g c =
    let text = rw c.deref.ensures.value at c.in_ok-text.ensures in (
      map printed_view c.in_ok-printed.printed.items,
      c.in_ok-printed.ensures,
      (λ i. record { done = Exchanged c.args.exchange; files = c.in_ok-files.ensures i; text = text i }),
    )
