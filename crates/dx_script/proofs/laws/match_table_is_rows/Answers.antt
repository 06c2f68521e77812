use Rattle.dx_schema.specs.Names.{table_names_of}
use Rattle.dx_script.proofs.MatchTables.{table_is_rows}
use Rattle.dx_script.proofs.RuleFacts.{names_fit, widths_fit}
use Rattle.dx_script.proofs.laws.match_table_is_rows.Goals as goal

pub returns : goal.returns
returns c = λ source target convert list R d I ts fit member i.
    table_is_rows (table_names_of source) (table_names_of target) convert list R d I ts (names_fit source target list R fit) member (widths_fit source I i)
