use Rattle.std.proofs.Common.{◌∙◌, ap, sym, ℕ}
use Rattle.csv.specs.Records.{prev}
use Rattle.csv.proofs.RecordFacts.{prev-first}
use Rattle.dx_csv.proofs.FieldFacts.{start-is}
use Rattle.dx_csv.proofs.fields.start_of.Goals as goal

pub returns-then-place-eq0 : goal.returns-then-place-eq0
returns-then-place-eq0 c = sym (ap (λ (p : ℕ). prev 0 c.args.ends.now p) c.if-place-eq0.true ∙ prev-first c.args.ends.now)

pub returns : goal.returns
returns c = start-is c.args.ends.now c.args.place c.requires c.if-place-eq0.false
