-- Which refusals are alike; the names of a clash; and what is said of endings, with their statuses.
use Rattle.std.proofs.Common.{◌≡◌, ℕ, List, [], ◌∷◌, Some, None, codes, get_or, map, refl, ap, arith, inl, inr, false, true}
use Rattle.std.specs.Fmt.{digits}
use Rattle.dx_base.specs.declared.file.Count.{Count}
use Rattle.dx_base.specs.declared.file.Count.TheVariants as counts
use Rattle.dx_base.specs.declared.file.Limit.{Limit}
use Rattle.dx_stages.specs.declared.plan.Ended.TheVariants as endeds
use Rattle.dx_tokens.specs.declared.faults.TextFault.TheVariants as text_faults
use Rattle.dx_tokens.specs.declared.faults.TextKind.TheVariants as text_kinds
use Rattle.dx_schema.specs.Forest.{Forest, none, set}
use Rattle.dx_schema.specs.declared.fault.SchemaKind.TheVariants as schema_kinds
use Rattle.dx_csv.specs.declared.fault.RowKind.TheVariants as kinds
use Rattle.dx_json.specs.declared.fault.JsonKind.TheVariants as json_kinds
use Rattle.dx_model.specs.declared.values.Value.TheVariants.{Const}
use Rattle.dx_keys.specs.declared.answers.Clash.{Clash}
use Rattle.dx_exchange.specs.declared.fault.ExFault.TheVariants as exchange_faults
use Rattle.clio_accept.specs.declared.fault.AcceptFault.TheVariants as accept_faults
use Rattle.clio_accept.specs.declared.fault.MapFault.{MapFault}
use Rattle.clio_accept.specs.declared.fault.MapFault.TheVariants as map_faults
use Rattle.clio_source.specs.declared.fault.RowsFault.{RowsFault}
use Rattle.clio_source.specs.declared.fault.RowsFault.TheVariants as rows_faults
use Rattle.clio_source.specs.declared.fault.SourceRefusal.TheVariants as source_refusals
use Rattle.clio_ending.specs.declared.faults.OtherFault.{OtherFault}
use Rattle.clio_ending.specs.declared.faults.OtherFault.TheVariants as other_faults
use Rattle.clio_ending.specs.declared.faults.QueryFault.{QueryFault}
use Rattle.clio_ending.specs.declared.faults.QueryFault.TheVariants as query_faults
use Rattle.clio_ending.specs.declared.ending.Done.{Done}
use Rattle.clio_ending.specs.declared.ending.Refusal.{Refusal}
use Rattle.clio_ending.specs.declared.ending.Refusal.TheVariants as refusals
use Rattle.clio_ending.specs.declared.ending.Ending.TheVariants as endings
use Rattle.clio_ending.specs.Ending.{AreAlike, column_text, ending_of, exchange_refusal, left_columns, mapping_refusal, named_clash, other_refusal, query_refusal, refusal_ending, source_refusal, status_of}
use Rattle.clio_ending.specs.Message.{count_text, json_kind_text, kind_text, message_of, schema_kind_text, text_kind_text}

-- ---- which refusals are alike

abbrev limit : Count → ℕ → Refusal
limit what number = refusals.Limit (record { what = what; number = number })

number_in : Refusal → ℕ
number_in (refusals.Limit l) = l.number
number_in _ = 0

what_in : Refusal → Count
what_in (refusals.Limit l) = l.what
what_in _ = counts.Ways

-- the first byte of a file's name
begins : Refusal → ℕ
begins (refusals.Rows file fault) = get_or file 0 0
begins _ = 0

-- limits with other numbers, or of other counts, are not alike
numbers_count : ¬ (AreAlike (limit counts.Lines 512) (limit counts.Lines 256))
unfolding number_in
numbers_count (inl e) = let h : 512 ≡ 256 = ap number_in e in absurd (omega (arith, h))
numbers_count (inr h) = h.0

counts_count : ¬ (AreAlike (limit counts.Rules 64) (limit counts.Ways 64))
unfolding what_in
counts_count (inl e) = let h : counts.Rules ≡ counts.Ways = ap what_in e in absurd (cc h)
counts_count (inr h) = h.0

-- nor are faults of rows in two files, nor two faults of the mapping text
files_count : ¬ (AreAlike (refusals.Rows (codes "emp.csv") rows_faults.Absent) (refusals.Rows (codes "dept.csv") rows_faults.Absent))
unfolding begins
files_count (inl e) = let h : 101 ≡ 100 = ap begins e in absurd (omega (arith, h))
files_count (inr h) = h.0

names_count : ¬ (AreAlike (refusals.Mapping map_faults.Absent) (refusals.Mapping (map_faults.Reserved (codes "fold"))))
names_count (inl e) = absurd (cc e)
names_count (inr h) = h.0

-- an absent query is none of an absent mapping, and an absent second mapping none of the first
absent_count : ¬ (AreAlike (refusals.Query query_faults.Absent) (refusals.Other other_faults.Absent))
absent_count (inl e) = absurd (cc e)
absent_count (inr h) = h.0

module _ (c d : Clash) (table other : List ℕ) (key others : List (List ℕ)) (column another : List ℕ) where
  -- two clashes are alike, and a clash is like nothing else
  clashes_are_alike : AreAlike (refusals.Clash c table key column) (refusals.Clash d other others another)
  clashes_are_alike = inr (tt, tt)

  no_usage : ¬ (AreAlike (refusals.Clash c table key column) refusals.Usage)
  no_usage (inl e) = absurd (cc e)
  no_usage (inr h) = h.1

  no_mapping : (fault : MapFault) → ¬ (AreAlike (refusals.Clash c table key column) (refusals.Mapping fault))
  no_mapping fault (inl e) = absurd (cc e)
  no_mapping fault (inr h) = h.1

  no_rows : (file : List ℕ) (fault : RowsFault) → ¬ (AreAlike (refusals.Clash c table key column) (refusals.Rows file fault))
  no_rows file fault (inl e) = absurd (cc e)
  no_rows file fault (inr h) = h.1

  no_limit : (what : Count) (number : ℕ) → ¬ (AreAlike (refusals.Clash c table key column) (limit what number))
  no_limit what number (inl e) = absurd (cc e)
  no_limit what number (inr h) = h.1

  not_turned : (what : Count) (number : ℕ) → ¬ (AreAlike (limit what number) (refusals.Clash c table key column))
  not_turned what number (inl e) = absurd (cc e)
  not_turned what number (inr h) = h.0

-- ---- a clash in the second table, of its second key and its middle column

towns : Forest
towns =
    set (record { name = codes "person"; columns = codes "name" ∷ codes "mail" ∷ []; keys = record { columns = codes "mail" ∷ [] } ∷ []; deps = []; refs = [] }) none
    (set (record {
      name = codes "town";
      columns = codes "name" ∷ codes "zip" ∷ codes "land" ∷ [];
      keys = record { columns = codes "zip" ∷ [] } ∷ record { columns = codes "name" ∷ codes "land" ∷ [] } ∷ [];
      deps = [];
      refs = [];
    }) none none)

clash : Clash
clash = record {
  steps = [];
  table = 1;
  key = 1;
  left = Const (codes "ulm") ∷ Const (codes "1") ∷ Const (codes "de") ∷ [];
  right = Const (codes "ulm") ∷ Const (codes "2\"") ∷ Const (codes "de") ∷ [];
  column = 1;
}

its_names : named_clash towns clash ≡ refusals.Clash clash (codes "town") (codes "name" ∷ codes "land" ∷ []) (codes "zip")
unfolding towns clash
its_names = refl

said_of_it : message_of (refusal_ending (named_clash towns clash)) ≡ codes "clash: table town, key (name, land): \"1\" and \"2\\\"\" in column zip"
unfolding towns clash
said_of_it = refl

-- ---- other messages, as the manual has them

a_limit : message_of (endings.Limit (record { what = counts.DataBytes; number = 67108864 })) ≡ codes "limit: data bytes 67108864"
unfolding digits
a_limit = refl

a_name : message_of (endings.Mapping (map_faults.Text 88 text_kinds.UnknownName)) ≡ codes "mapping: unknown name at byte 88"
unfolding digits
a_name = refl

a_double_name : message_of (endings.Mapping (map_faults.Source (schema_kinds.DoubleName (codes "emp")))) ≡ codes "mapping: source: double name emp"
a_double_name = refl

a_cycle : message_of (endings.Mapping (map_faults.Target (schema_kinds.CyclicLinks (codes "emp")))) ≡ codes "mapping: target: cyclic links at emp"
a_cycle = refl

a_reserved_name : message_of (endings.Mapping (map_faults.Reserved (codes "fold"))) ≡ codes "mapping: target: reserved name fold"
a_reserved_name = refl

an_absent_file : message_of (endings.Rows (codes "emp.csv") rows_faults.Absent) ≡ codes "rows: emp.csv is absent"
an_absent_file = refl

a_record : message_of (endings.Rows (codes "emp.csv") (rows_faults.Csv (kinds.NotText 3))) ≡ codes "rows: emp.csv: record 3 is not text"
unfolding digits
a_record = refl

a_member : message_of (endings.Rows (codes "club.json") (rows_faults.Json (json_kinds.Unknown (codes "/0/town")))) ≡ codes "rows: club.json: unknown member at /0/town"
a_member = refl

a_field : message_of (endings.Rows (codes "given/person.csv") (rows_faults.Value 1)) ≡ codes "rows: given/person.csv: record 1 is not a value"
unfolding digits
a_field = refl

no_query : message_of (endings.Query query_faults.Absent) ≡ codes "query: query.clio is absent"
no_query = refl

an_unsafe_variable : message_of (endings.Query (query_faults.Text 16 text_kinds.Unsafe)) ≡ codes "query: unsafe variable at byte 16"
unfolding digits
an_unsafe_variable = refl

no_other : message_of (endings.Other other_faults.Absent) ≡ codes "other: other.clio is absent"
no_other = refl

a_name_in_the_other : message_of (endings.Other (other_faults.Mapping (map_faults.Text 88 text_kinds.UnknownName))) ≡ codes "other: unknown name at byte 88"
unfolding digits
a_name_in_the_other = refl

other_sets : message_of (endings.Other other_faults.Schemas) ≡ codes "other: schemas differ"
other_sets = refl

a_condition : message_of (endings.Other other_faults.Conditions) ≡ codes "other: row conditions"
a_condition = refl

a_conversion : message_of (endings.Other (other_faults.Derived false 0)) ≡ codes "other: conversion in rule 0 of mapping.clio"
unfolding digits
a_conversion = refl

a_conversion_in_the_other : message_of (endings.Other (other_faults.Derived true 12)) ≡ codes "other: conversion in rule 12 of other.clio"
unfolding digits
a_conversion_in_the_other = refl

a_read_fault : message_of (endings.ReadFault (codes "emp.csv")) ≡ codes "read fault: emp.csv"
a_read_fault = refl

a_write_fault : message_of (endings.WriteFault 0) ≡ codes "write fault: 0 files written"
unfolding digits
a_write_fault = refl

-- each kind of refusal has a status of its own
statuses : (c : Clash) (fault : MapFault) (file : List ℕ) (rows : RowsFault) (query : QueryFault) (other : OtherFault)
    → (status_of (refusal_ending refusals.Usage) ∷ status_of (refusal_ending (refusals.Clash c [] [] [])) ∷ status_of (refusal_ending (refusals.Mapping fault))
    ∷ status_of (refusal_ending (refusals.Rows file rows)) ∷ status_of (refusal_ending (limit counts.Lines 512)) ∷ status_of (endings.ReadFault file)
    ∷ status_of (endings.WriteFault 0) ∷ status_of endings.Memory ∷ status_of (refusal_ending (refusals.Query query))
    ∷ status_of (refusal_ending (refusals.Other other)) ∷ [])
    ≡ 2 ∷ 3 ∷ 4 ∷ 5 ∷ 6 ∷ 7 ∷ 8 ∷ 9 ∷ 10 ∷ 11 ∷ []
statuses c fault file rows query other = refl

-- ---- which refusal a fault is

-- a fault of the second mapping's text is told as one of the second, a limit without a sign of the file, and want of
-- memory refuses nothing
mapping_faults : (l : Limit)
    → map mapping_refusal (accept_faults.Mapping map_faults.Absent ∷ accept_faults.Limit l ∷ accept_faults.Memory ∷ [])
    ≡ Some (refusals.Mapping map_faults.Absent) ∷ Some (refusals.Limit l) ∷ None ∷ []
mapping_faults l = refl

other_mapping_faults : (l : Limit)
    → map other_refusal (accept_faults.Mapping map_faults.Absent ∷ accept_faults.Limit l ∷ accept_faults.Memory ∷ [])
    ≡ Some (refusals.Other (other_faults.Mapping map_faults.Absent)) ∷ Some (refusals.Limit l) ∷ None ∷ []
other_mapping_faults l = refl

query_text_faults : map query_refusal
    (text_faults.At 5 text_kinds.Ended ∷ text_faults.TooDeep 5 ∷ text_faults.Memory ∷ [])
    ≡ Some (refusals.Query (query_faults.Text 5 text_kinds.Ended)) ∷ None ∷ None ∷ []
query_text_faults = refl

source_faults : (l : Limit)
    → map source_refusal (source_refusals.Rows (codes "emp.csv") rows_faults.Absent ∷ source_refusals.Limit l ∷ [])
    ≡ refusals.Rows (codes "emp.csv") rows_faults.Absent ∷ refusals.Limit l ∷ []
source_faults l = refl

exchange_faults_are : (l : Limit)
    → map (exchange_refusal towns) (exchange_faults.Clash clash ∷ exchange_faults.Limit l ∷ exchange_faults.Memory ∷ [])
    ≡ Some (refusals.Clash clash (codes "town") (codes "name" ∷ codes "land" ∷ []) (codes "zip"))
    ∷ Some (refusals.Limit l) ∷ None ∷ []
unfolding towns clash
exchange_faults_are l = refl

-- a read that failed tells the file, a write that failed how many files were written
ended : map ending_of
    (endeds.Refused refusals.Usage ∷ endeds.ReadFault (codes "emp.csv") ∷ endeds.WriteFault 3 ∷ endeds.Memory ∷ [])
    ≡ endings.Usage ∷ endings.ReadFault (codes "emp.csv") ∷ endings.WriteFault 3 ∷ endings.Memory ∷ []
ended = refl

ended_well : (d : Done)
    → (ending_of (endeds.Done d) ≡ endings.Done d) × (status_of (endings.Done d) ≡ 0)
    × (message_of (endings.Done d) ≡ [])
ended_well d = (refl, refl, refl)

-- a dependency has its number after the keys
zips : Forest
zips =
    set (record {
      name = codes "town";
      columns = codes "name" ∷ codes "zip" ∷ codes "land" ∷ [];
      keys = record { columns = codes "name" ∷ [] } ∷ [];
      deps = record { columns = codes "zip" ∷ []; decides = codes "land" ∷ [] } ∷ [];
      refs = [];
    }) none none

of_a_dependency : map (column_text zips 0) (left_columns zips 0 1) ≡ codes "zip" ∷ []
unfolding zips
of_a_dependency = refl

-- ---- all words, as the manual has them

counted : map count_text
    (counts.TextBytes ∷ counts.Depth ∷ counts.Tables ∷ counts.Columns ∷ counts.Lines ∷ counts.Variants
    ∷ counts.Occurrences ∷ counts.Ways ∷ counts.Candidates ∷ [])
    ≡ codes "text bytes" ∷ codes "depth" ∷ codes "tables" ∷ codes "columns" ∷ codes "lines" ∷ codes "variants"
    ∷ codes "occurrences" ∷ codes "ways" ∷ codes "candidates" ∷ []
counted = refl

counted_too : map count_text
    (counts.Rules ∷ counts.DataBytes ∷ counts.SourceCells ∷ counts.GivenCells ∷ counts.TargetCells ∷ counts.QueryBytes
    ∷ counts.QueryAtoms ∷ counts.AnswerCells ∷ counts.FrozenCells ∷ [])
    ≡ codes "rules" ∷ codes "data bytes" ∷ codes "source cells" ∷ codes "given cells" ∷ codes "target cells"
    ∷ codes "query bytes" ∷ codes "query atoms" ∷ codes "answer cells" ∷ codes "frozen cells" ∷ []
counted_too = refl

text_kinds_are : map text_kind_text
    (text_kinds.Character ∷ text_kinds.Expected ∷ text_kinds.Ended ∷ text_kinds.UnknownName ∷ text_kinds.Width
    ∷ text_kinds.Unsafe ∷ [])
    ≡ codes "bad character" ∷ codes "unexpected token" ∷ codes "text ended" ∷ codes "unknown name"
    ∷ codes "wrong number of cells" ∷ codes "unsafe variable" ∷ []
text_kinds_are = refl

schema_kinds_are : map schema_kind_text
    (schema_kinds.UnknownName (codes "X") ∷ schema_kinds.BadLink (codes "X") ∷ schema_kinds.NoColumn (codes "X") ∷ [])
    ≡ codes "unknown name X" ∷ codes "bad link in X" ∷ codes "no column in X" ∷ []
schema_kinds_are = refl

row_kinds_are : map kind_text (kinds.NoHeader ∷ kinds.Header 10 ∷ kinds.Width 12 ∷ [])
    ≡ codes "no header" ∷ codes "header at column 10" ∷ codes "width of record 12" ∷ []
unfolding digits
row_kinds_are = refl

json_kinds_are : map json_kind_text
    (json_kinds.NotJson ∷ json_kinds.Shape (codes "/0/x") ∷ json_kinds.Shape [] ∷ json_kinds.Number (codes "/1/y") ∷ [])
    ≡ codes "not JSON" ∷ codes "wrong shape at /0/x" ∷ codes "wrong shape at " ∷ codes "number at /1/y" ∷ []
json_kinds_are = refl

-- what comes in front, and two messages without a part
in_front : map message_of
    (endings.Mapping map_faults.Absent ∷ endings.Mapping (map_faults.Target (schema_kinds.BadLink (codes "X")))
    ∷ endings.Query (query_faults.Text 7 text_kinds.Ended) ∷ endings.Memory ∷ [])
    ≡ codes "mapping: mapping.clio is absent" ∷ codes "mapping: target: bad link in X"
    ∷ codes "query: text ended at byte 7" ∷ codes "out of memory" ∷ []
unfolding digits
in_front = refl

usage : message_of endings.Usage
    ≡ codes "usage: clio show [--core] | clio exchange [--core] [--nested] | clio demo N [--core] | clio answer | clio judge | clio compare"
usage = refl
