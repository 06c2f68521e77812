use Rattle.dx_keys.proofs.Unforced.{unchanged_is_chased}
use Rattle.dx_keys.proofs.keyless.unchanged.Goals as goal

pub returns : goal.returns
returns c = λ schema k. unchanged_is_chased schema c.args.instance c.in_ok-instance.instance c.new-map.result c.new-map.ensures c.in_ok-instance.ensures k
