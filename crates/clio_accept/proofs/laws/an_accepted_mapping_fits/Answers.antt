use Rattle.clio_accept.proofs.Accepted.{accepted_fits}
use Rattle.clio_accept.proofs.laws.an_accepted_mapping_fits.Goals as goal

pub returns : goal.returns
returns c = accepted_fits
