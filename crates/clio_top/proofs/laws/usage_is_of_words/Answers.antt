use Rattle.clio_top.proofs.Reasons.{no_reason, usage, words_for_reasons}
use Rattle.clio_top.proofs.laws.usage_is_of_words.Goals as goal

pub returns-clause-usage : goal.returns-clause-usage
returns-clause-usage c = usage

pub returns-clause-memory : goal.returns-clause-memory
returns-clause-memory c = no_reason

pub returns-clause-words : goal.returns-clause-words
returns-clause-words c = words_for_reasons
