-- Refusals and endings of a run: their exit statuses, the names of a clash, and which refusals are alike.
use Rattle.std.specs.Prelude.{◌≡◌, ◌⊎◌, ℕ, List, [], Option, Some, None, map, slice_index_or}
use Rattle.dx_base.specs.Texts.{Text}
use Rattle.dx_stages.specs.declared.plan.Ended.{Ended}
use Rattle.dx_stages.specs.declared.plan.Ended.TheVariants as endeds
use Rattle.dx_schema.specs.Forest.{Forest}
use Rattle.dx_schema.specs.Tables.{determinations_of, schema_table}
use Rattle.dx_tokens.specs.declared.faults.TextFault.{TextFault}
use Rattle.dx_tokens.specs.declared.faults.TextFault.TheVariants as text_faults
use Rattle.dx_rule_text.specs.Printed.{table_name}
use Rattle.dx_keys.specs.declared.answers.Clash.{Clash}
use Rattle.dx_exchange.specs.declared.fault.ExFault.{ExFault}
use Rattle.dx_exchange.specs.declared.fault.ExFault.TheVariants as exchange_faults
use Rattle.clio_accept.specs.declared.fault.AcceptFault.{AcceptFault}
use Rattle.clio_accept.specs.declared.fault.AcceptFault.TheVariants as accept_faults
use Rattle.clio_source.specs.declared.fault.SourceRefusal.{SourceRefusal}
use Rattle.clio_source.specs.declared.fault.SourceRefusal.TheVariants as source_refusals
use Rattle.clio_ending.specs.declared.faults.OtherFault.TheVariants as other_faults
use Rattle.clio_ending.specs.declared.faults.QueryFault.TheVariants as query_faults
use Rattle.clio_ending.specs.declared.ending.Done.{Done}
use Rattle.clio_ending.specs.declared.ending.Refusal.{Refusal}
use Rattle.clio_ending.specs.declared.ending.Refusal.TheVariants as refusals
use Rattle.clio_ending.specs.declared.ending.Ending.{Ending}
use Rattle.clio_ending.specs.declared.ending.Ending.TheVariants as endings

-- the refusal for a fault of the mapping text; running out of memory refuses nothing
abbrev pub mapping_refusal : AcceptFault → Option Refusal
mapping_refusal (accept_faults.Mapping fault) = Some (refusals.Mapping fault)
mapping_refusal (accept_faults.Limit limit) = Some (refusals.Limit limit)
mapping_refusal accept_faults.Memory = None

-- the refusal for a fault of the second mapping's text; running out of memory refuses nothing
abbrev pub other_refusal : AcceptFault → Option Refusal
other_refusal (accept_faults.Mapping fault) = Some (refusals.Other (other_faults.Mapping fault))
other_refusal (accept_faults.Limit limit) = Some (refusals.Limit limit)
other_refusal accept_faults.Memory = None

-- the refusal for a fault of a query's text; no such text is too deep, and running out of memory refuses nothing
abbrev pub query_refusal : TextFault → Option Refusal
query_refusal (text_faults.At place kind) = Some (refusals.Query (query_faults.Text place kind))
query_refusal (text_faults.TooDeep place) = None
query_refusal text_faults.Memory = None

-- a refusal of the source
abbrev pub source_refusal : SourceRefusal → Refusal
source_refusal (source_refusals.Rows file fault) = refusals.Rows file fault
source_refusal (source_refusals.Limit limit) = refusals.Limit limit

-- the name of a column of a table
abbrev pub column_text : Forest → ℕ → ℕ → Text
column_text schema t c = slice_index_or (schema_table schema t).columns c []

-- the columns on the left of a determination of a table: a key, or a dependency after the keys
abbrev pub left_columns : Forest → ℕ → ℕ → List ℕ
left_columns schema t k =
    (slice_index_or (determinations_of (schema_table schema t)) k (record { left = []; right = [] })).left

-- the clash with the names of its table, of the columns on the left of its
-- determination and of its column in the target
abbrev pub named_clash : Forest → Clash → Refusal
named_clash target c =
    refusals.Clash c (table_name target c.table)
    (map (column_text target c.table) (left_columns target c.table c.key)) (column_text target c.table c.column)

-- the refusal for a fault of the exchange into this target; running out of memory refuses nothing
abbrev pub exchange_refusal : Forest → ExFault → Option Refusal
exchange_refusal target (exchange_faults.Clash clash) = Some (named_clash target clash)
exchange_refusal target (exchange_faults.Limit limit) = Some (refusals.Limit limit)
exchange_refusal target exchange_faults.Memory = None

-- it is a clash
abbrev pub IsClashRefusal : Refusal → Type 0
IsClashRefusal (refusals.Clash clash table key column) = Unit {0}
IsClashRefusal refusals.Usage = ⊥
IsClashRefusal (refusals.Mapping fault) = ⊥
IsClashRefusal (refusals.Rows file fault) = ⊥
IsClashRefusal (refusals.Limit limit) = ⊥
IsClashRefusal (refusals.Query fault) = ⊥
IsClashRefusal (refusals.Other fault) = ⊥

-- two refusals are alike: they are one, or they are clashes, of which there may be many
abbrev pub AreAlike : Refusal → Refusal → Type 0
AreAlike d e = (d ≡ e) ⊎ (IsClashRefusal d × IsClashRefusal e)

-- the ending of a refusal
abbrev pub refusal_ending : Refusal → Ending
refusal_ending refusals.Usage = endings.Usage
refusal_ending (refusals.Clash clash table key column) = endings.Clash clash table key column
refusal_ending (refusals.Mapping fault) = endings.Mapping fault
refusal_ending (refusals.Rows file fault) = endings.Rows file fault
refusal_ending (refusals.Limit limit) = endings.Limit limit
refusal_ending (refusals.Query fault) = endings.Query fault
refusal_ending (refusals.Other fault) = endings.Other fault

-- the ending of a run that ended so
abbrev pub ending_of : Ended Done Refusal → Ending
ending_of (endeds.Done d) = endings.Done d
ending_of (endeds.Refused e) = refusal_ending e
ending_of (endeds.ReadFault n) = endings.ReadFault n
ending_of (endeds.WriteFault count) = endings.WriteFault count
ending_of endeds.Memory = endings.Memory

-- the exit status
abbrev pub status_of : Ending → ℕ
status_of (endings.Done _) = 0
status_of endings.Usage = 2
status_of (endings.Clash _ _ _ _) = 3
status_of (endings.Mapping _) = 4
status_of (endings.Rows _ _) = 5
status_of (endings.Limit _) = 6
status_of (endings.ReadFault _) = 7
status_of (endings.WriteFault _) = 8
status_of endings.Memory = 9
status_of (endings.Query _) = 10
status_of (endings.Other _) = 11
