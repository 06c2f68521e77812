use Rattle.std.proofs.Common.{refl}
use Rattle.clio_given.proofs.Fits.{fit_start, read_start}
use Rattle.clio_given.proofs.reading.at_start.Goals as goal

pub returns-clause-fit : goal.returns-clause-fit
returns-clause-fit c = λ f. fit_start f (record { symbols = c.new.result; tables = c.new-2.result; bytes_left = c.args.bytes_left; cells_left = 1000000 }) c.new-2.ensures.items

pub returns-clause-read : goal.returns-clause-read
returns-clause-read c =
    read_start (record { symbols = c.new.result; tables = c.new-2.result; bytes_left = c.args.bytes_left; cells_left = 1000000 }) c.args.bytes_left c.new-2.ensures.items refl refl
