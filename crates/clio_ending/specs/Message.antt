-- The text of an ending.
use Rattle.std.specs.Prelude.{Bool, false, true, ℕ, List, [], ◌++◌, codes, slice_index_or}
use Rattle.std.specs.Fmt.{decimal}
use Rattle.dx_base.specs.declared.file.Count.{Count}
use Rattle.dx_base.specs.declared.file.Count.TheVariants as counts
use Rattle.dx_base.specs.Texts.{Text}
use Rattle.dx_model.specs.declared.values.Value.{Value}
use Rattle.dx_model.specs.declared.values.Value.TheVariants.{Const, Null}
use Rattle.dx_schema.specs.declared.fault.SchemaKind.{SchemaKind}
use Rattle.dx_schema.specs.declared.fault.SchemaKind.TheVariants as schema_kinds
use Rattle.dx_tokens.specs.Quoted.{quoted}
use Rattle.dx_tokens.specs.declared.faults.TextKind.{TextKind}
use Rattle.dx_tokens.specs.declared.faults.TextKind.TheVariants as text_kinds
use Rattle.dx_schema_text.specs.Print.{names_text}
use Rattle.dx_csv.specs.declared.fault.RowKind.{RowKind}
use Rattle.dx_csv.specs.declared.fault.RowKind.TheVariants as kinds
use Rattle.dx_json.specs.declared.fault.JsonKind.{JsonKind}
use Rattle.dx_json.specs.declared.fault.JsonKind.TheVariants as json_kinds
use Rattle.dx_keys.specs.declared.answers.Clash.{Clash}
use Rattle.clio_accept.specs.declared.fault.MapFault.{MapFault}
use Rattle.clio_accept.specs.declared.fault.MapFault.TheVariants as map_faults
use Rattle.clio_source.specs.declared.fault.RowsFault.{RowsFault}
use Rattle.clio_source.specs.declared.fault.RowsFault.TheVariants as rows_faults
use Rattle.clio_ending.specs.declared.faults.OtherFault.{OtherFault}
use Rattle.clio_ending.specs.declared.faults.OtherFault.TheVariants as other_faults
use Rattle.clio_ending.specs.declared.faults.QueryFault.{QueryFault}
use Rattle.clio_ending.specs.declared.faults.QueryFault.TheVariants as query_faults
use Rattle.clio_ending.specs.declared.ending.Ending.{Ending}
use Rattle.clio_ending.specs.declared.ending.Ending.TheVariants as endings

-- the printed name of a count
abbrev pub count_text : Count → Text
count_text counts.TextBytes = codes "text bytes"
count_text counts.DataBytes = codes "data bytes"
count_text counts.Tables = codes "tables"
count_text counts.Columns = codes "columns"
count_text counts.Depth = codes "depth"
count_text counts.Lines = codes "lines"
count_text counts.Variants = codes "variants"
count_text counts.Occurrences = codes "occurrences"
count_text counts.Ways = codes "ways"
count_text counts.Candidates = codes "candidates"
count_text counts.Rules = codes "rules"
count_text counts.SourceCells = codes "source cells"
count_text counts.TargetCells = codes "target cells"
count_text counts.FrozenCells = codes "frozen cells"
count_text counts.QueryBytes = codes "query bytes"
count_text counts.QueryAtoms = codes "query atoms"
count_text counts.AnswerCells = codes "answer cells"
count_text counts.GivenCells = codes "given cells"

-- what is wrong at a place of the mapping text
abbrev pub text_kind_text : TextKind → Text
text_kind_text text_kinds.Character = codes "bad character"
text_kind_text text_kinds.Expected = codes "unexpected token"
text_kind_text text_kinds.Ended = codes "text ended"
text_kind_text text_kinds.UnknownName = codes "unknown name"
text_kind_text text_kinds.Width = codes "wrong number of cells"
text_kind_text text_kinds.Unsafe = codes "unsafe variable"

-- what is wrong with the sets of one side
abbrev pub schema_kind_text : SchemaKind → Text
schema_kind_text (schema_kinds.DoubleName name) = codes "double name " ++ name
schema_kind_text (schema_kinds.NoColumn name) = codes "no column in " ++ name
schema_kind_text (schema_kinds.UnknownName name) = codes "unknown name " ++ name
schema_kind_text (schema_kinds.CyclicLinks name) = codes "cyclic links at " ++ name
schema_kind_text (schema_kinds.BadLink name) = codes "bad link in " ++ name

-- what is wrong with the mapping text
abbrev pub map_fault_text : MapFault → Text
map_fault_text map_faults.Absent = codes "mapping.clio is absent"
map_fault_text (map_faults.Text place kind) = text_kind_text kind ++ (codes " at byte " ++ decimal place)
map_fault_text (map_faults.Source kind) = codes "source: " ++ schema_kind_text kind
map_fault_text (map_faults.Target kind) = codes "target: " ++ schema_kind_text kind
map_fault_text (map_faults.Reserved name) = codes "target: reserved name " ++ name

-- what is wrong with the records of a file
abbrev pub kind_text : RowKind → Text
kind_text kinds.NoHeader = codes "no header"
kind_text (kinds.Header n) = codes "header at column " ++ decimal n
kind_text (kinds.Width n) = codes "width of record " ++ decimal n
kind_text (kinds.NotText n) = codes "record " ++ (decimal n ++ codes " is not text")

-- what is wrong with a document
abbrev pub json_kind_text : JsonKind → Text
json_kind_text json_kinds.NotJson = codes "not JSON"
json_kind_text (json_kinds.Shape path) = codes "wrong shape at " ++ path
json_kind_text (json_kinds.Number path) = codes "number at " ++ path
json_kind_text (json_kinds.Unknown path) = codes "unknown member at " ++ path

-- what is wrong with a file of rows
abbrev pub rows_fault_text : Text → RowsFault → Text
rows_fault_text file rows_faults.Absent = file ++ codes " is absent"
rows_fault_text file (rows_faults.Csv kind) = file ++ (codes ": " ++ kind_text kind)
rows_fault_text file (rows_faults.Json kind) = file ++ (codes ": " ++ json_kind_text kind)
rows_fault_text file (rows_faults.Value n) = file ++ (codes ": record " ++ (decimal n ++ codes " is not a value"))

-- what is wrong with a query
abbrev pub query_fault_text : QueryFault → Text
query_fault_text query_faults.Absent = codes "query.clio is absent"
query_fault_text (query_faults.Text place kind) = text_kind_text kind ++ (codes " at byte " ++ decimal place)

-- which of two mapping texts
abbrev pub which_text : Bool → Text
which_text false = codes "mapping.clio"
which_text true = codes "other.clio"

-- what is wrong with the second of two mappings, or with the two together
abbrev pub other_fault_text : OtherFault → Text
other_fault_text other_faults.Absent = codes "other.clio is absent"
other_fault_text (other_faults.Mapping fault) = map_fault_text fault
other_fault_text other_faults.Schemas = codes "schemas differ"
other_fault_text other_faults.Conditions = codes "row conditions"
other_fault_text (other_faults.Derived second rule) =
    codes "conversion in rule " ++ (decimal rule ++ (codes " of " ++ which_text second))

-- the text of a constant, and the empty text for a null
abbrev pub constant_text : Value → Text
constant_text (Const t) = t
constant_text (Null n) = []

-- the text of the value in a column of a row, and the empty text if there is none
abbrev pub text_in : List Value → ℕ → Text
text_in row column = constant_text (slice_index_or row column (Const []))

-- what is wrong with two rows
abbrev pub clash_text : Clash → Text → List Text → Text → Text
clash_text c table key column =
    codes "table " ++ (table ++ (codes ", key ("
    ++ (names_text key ++ (codes "): "
    ++ (quoted (text_in c.left c.column)
    ++ (codes " and " ++ (quoted (text_in c.right c.column) ++ (codes " in column " ++ column))))))))

-- the commands, and what they take
abbrev pub usage_text : Text
usage_text =
    codes
    "usage: clio show [--core] | clio exchange [--core] [--nested] | clio demo N [--core] | clio answer | clio judge | clio compare"

-- the text of an ending, without a line feed
abbrev pub message_of : Ending → Text
message_of (endings.Done done) = []
message_of endings.Usage = usage_text
message_of (endings.Clash clash table key column) = codes "clash: " ++ clash_text clash table key column
message_of (endings.Mapping fault) = codes "mapping: " ++ map_fault_text fault
message_of (endings.Rows file fault) = codes "rows: " ++ rows_fault_text file fault
message_of (endings.Limit l) = codes "limit: " ++ (count_text l.what ++ (codes " " ++ decimal l.number))
message_of (endings.ReadFault file) = codes "read fault: " ++ file
message_of (endings.WriteFault files) = codes "write fault: " ++ (decimal files ++ codes " files written")
message_of endings.Memory = codes "out of memory"
message_of (endings.Query fault) = codes "query: " ++ query_fault_text fault
message_of (endings.Other fault) = codes "other: " ++ other_fault_text fault
