use Rattle.std.proofs.Common.{refl}
use Rattle.clio_source.proofs.Blank.{blank_start}
use Rattle.clio_source.proofs.Fits.{fit_start}
use Rattle.clio_source.proofs.reading.at_start.Goals as goal

pub returns-clause-fit : goal.returns-clause-fit
returns-clause-fit c = λ f. fit_start f (record { symbols = c.new.result; tables = c.new-2.result; bytes_left = 67108864; cells_left = 4000000 }) c.new-2.ensures.items refl

pub returns-clause-blank : goal.returns-clause-blank
returns-clause-blank c = λ used f. blank_start used f (record { symbols = c.new.result; tables = c.new-2.result; bytes_left = 67108864; cells_left = 4000000 }) c.new-2.ensures.items
