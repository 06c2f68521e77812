use Rattle.std.proofs.Common.{◌∙◌, Some, sym}
use Rattle.csv.specs.Records.{fields_of}
use Rattle.dx_csv.proofs.LeftFacts.{read-some, read-none}
use Rattle.dx_csv.proofs.Refusals.{stopped}
use Rattle.dx_csv.proofs.records.Records.next.Goals as goal

pub want_of_memory-requires : goal.want_of_memory-requires
want_of_memory-requires c =
    let g = c.self.invariant c.if-self.false in
    stopped (λ s. Some s.now) c.self.inside.rdr c.read_byte_record.new.self _ g.flexible (c.in-Err.ensures.why g.ready)

pub returns-then-not-found-clause-none : goal.returns-then-not-found-clause-none
returns-then-not-found-clause-none c e =
    let g = c.self.invariant c.if-self.false in
    let r = rw c.if-not-found.true at (c.in-Ok.ensures.reads g.plain g.ready) in
    let done = rw c.if-self.false at c.self.view_is in
    sym done ∙ read-none _ c.self.inside.rdr c.read_byte_record.new.self (fields_of c.read_byte_record.new.row) g r

pub invariant_of-self-else-not-found : goal.invariant_of-self-else-not-found
invariant_of-self-else-not-found c e =
    let g = c.self.invariant c.if-self.false in
    let r = rw c.if-not-found.false at (c.in-Ok.ensures.reads g.plain g.ready) in
    (read-some _ c.self.inside.rdr c.read_byte_record.new.self (fields_of c.read_byte_record.new.row) g (c.in-Ok.ensures.ready g.plain) c.in-Ok.ensures.flexible r).good

pub returns-else-not-found-clause-some : goal.returns-else-not-found-clause-some
returns-else-not-found-clause-some c e =
    let g = c.self.invariant c.if-self.false in
    let r = rw c.if-not-found.false at (c.in-Ok.ensures.reads g.plain g.ready) in
    let took = read-some _ c.self.inside.rdr c.read_byte_record.new.self (fields_of c.read_byte_record.new.row) g (c.in-Ok.ensures.ready g.plain) c.in-Ok.ensures.flexible r in
    let done = rw c.if-self.false at c.self.view_is in
    rw c.if-self.false (sym done ∙ took.left)
