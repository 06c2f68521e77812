use Rattle.std.proofs.Common.{◌≡◌, ℕ, rules, subst}
use Rattle.dx_holds.specs.Columns.{IsFirstLike}
use Rattle.dx_holds.proofs.Determining.{first_once}
use Rattle.dx_holds.proofs.keys.is_first_like.Goals as goal

pub returns : goal.returns
returns c = (
  (λ e. let d : c.first_like.result ≡ c.args.place = search (rules, e) in subst (λ (x : ℕ). IsFirstLike c.args.instance.now c.args.table c.args.columns.now c.args.place x) d c.first_like.ensures),
  (λ g. let d : c.first_like.result ≡ c.args.place = first_once c.args.instance.now c.args.table c.args.columns.now c.args.place c.first_like.result c.args.place c.first_like.ensures g in search (rules, d)),
)
