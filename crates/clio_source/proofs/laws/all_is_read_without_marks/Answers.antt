use Rattle.clio_source.proofs.Unmarked.{all_is_read}
use Rattle.clio_source.proofs.laws.all_is_read_without_marks.Goals as goal

pub returns : goal.returns
returns c = all_is_read
