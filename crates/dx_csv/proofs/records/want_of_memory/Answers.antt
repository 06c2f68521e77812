use Rattle.std.proofs.Common.{◌∙◌, sym}
use Rattle.csv.specs.Reading.{error_kind}
use Rattle.dx_csv.proofs.Refusals.{no-third}
use Rattle.dx_csv.proofs.records.want_of_memory.Goals as goal

pub unreachable-requires : goal.unreachable-requires
unreachable-requires c =
    no-third (error_kind c.args.error.now) (sym c.is_io_error.ensures ∙ c.if-is_io_error.false) (λ e. c.in_default.not-OutOfMemory (c.kind.ensures ∙ e)) c.requires
