-- The steps that commands share: the names of texts, what is said of a fault on either side, and what is wanted of files.
use Rattle.std.proofs.Common.{◌≡◌, List, [], ◌∷◌, Some, None, codes, refl}
use Rattle.dx_base.specs.declared.file.Count.TheVariants.{TextBytes}
use Rattle.dx_base.specs.declared.file.Limit.{Limit}
use Rattle.dx_schema.specs.Forest.{Forest, none}
use Rattle.dx_schema.specs.Tables.{model_tables}
use Rattle.dx_instance.specs.Stored.{TableRows, facts}
use Rattle.dx_exchange.specs.declared.mode.Mode.{Mode}
use Rattle.clio_accept.specs.declared.mapping.Mapping.{Mapping}
use Rattle.clio_accept.specs.declared.fault.AcceptFault.TheVariants as accept_faults
use Rattle.clio_accept.specs.declared.fault.MapFault.{MapFault}
use Rattle.clio_accept.specs.declared.fault.MapFault.TheVariants as map_faults
use Rattle.clio_ending.specs.declared.faults.OtherFault.TheVariants as other_faults
use Rattle.clio_ending.specs.declared.ending.Refusal.TheVariants as refusals
use Rattle.clio_steps.specs.declared.texts.Side.{Side}
use Rattle.clio_steps.specs.declared.texts.Side.TheVariants.{First, Second}
use Rattle.clio_steps.specs.Steps.{absent_text, exchange_input, side_refusal, target_cells, text_bytes, text_name, too_long, wanted}

-- ---- the texts

the_mapping : text_name First ≡ codes "mapping.clio"
the_mapping = refl

the_other : text_name Second ≡ codes "other.clio"
the_other = refl

no_mapping : absent_text First ≡ refusals.Mapping map_faults.Absent
no_mapping = refl

no_other : absent_text Second ≡ refusals.Other other_faults.Absent
no_other = refl

-- a fault of the first text is one of the mapping, of the second one of the other; a limit is said alike of both
of_the_mapping : (fault : MapFault) → side_refusal First (accept_faults.Mapping fault) ≡ Some (refusals.Mapping fault)
of_the_mapping fault = refl

of_the_other : (fault : MapFault) → side_refusal Second (accept_faults.Mapping fault) ≡ Some (refusals.Other (other_faults.Mapping fault))
of_the_other fault = refl

of_both : (side : Side) (l : Limit) → side_refusal side (accept_faults.Limit l) ≡ Some (refusals.Limit l)
of_both First l = refl
of_both Second l = refl

-- want of memory is no refusal
memory_refuses_none : (side : Side) → side_refusal side accept_faults.Memory ≡ None
memory_refuses_none First = refl
memory_refuses_none Second = refl

-- ---- the numbers

bytes_of_a_text : text_bytes ≡ 1048576
bytes_of_a_text = refl

cells_of_a_target : target_cells ≡ 4000000
cells_of_a_target = refl

said_of_a_long_text : too_long ≡ refusals.Limit (record { what = TextBytes; number = 1048576 })
said_of_a_long_text = refl

-- ---- what is wanted

abbrev conditioned : Forest → Forest → Mapping
conditioned source target =
    record { source = source; target = target; conditions = (record { place = record { table = 0; column = 1 }; code = 1 }) ∷ []; rules = [] }

-- the tables of the source, and the mapping's own conditions
wanted_of_files : (source target : Forest) → wanted (conditioned source target) ≡ record { schema = source; conditions = (conditioned none none).conditions }
wanted_of_files source target = refl

-- the exchange is of all that a mapping says, in the mode that was asked for
asked : (mode : Mode) (M : Mapping) (I : List TableRows)
    → exchange_input mode (M, I) ≡ record { rules = M.rules; schema = model_tables M.target; rows = facts I; mode = mode; limit = 4000000 }
asked mode M I = refl
