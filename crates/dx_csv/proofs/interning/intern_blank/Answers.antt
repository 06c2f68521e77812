use Rattle.std.proofs.Common.{◌∙◌, refl, sym}
use Rattle.dx_csv.proofs.BlankFacts.{all_used}
use Rattle.dx_csv.proofs.interning.intern_blank.Goals as goal

pub returns-clause-blank : goal.returns-clause-blank
returns-clause-blank c = λ m. absurd (all_used _ c.args.used.now (sym c.contains.ensures.value ∙ c.if-contains.false) refl m)
