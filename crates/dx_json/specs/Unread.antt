-- What is told where a text gave no tree.
use Rattle.dx_json.specs.declared.fault.JsonFault.{JsonFault}
use Rattle.dx_json.specs.declared.fault.JsonFault.TheVariants as fault
use Rattle.dx_json.specs.declared.fault.JsonKind.TheVariants as kind
use Rattle.dx_json.specs.declared.reading.Unread.{Unread}
use Rattle.dx_json.specs.declared.reading.Unread.TheVariants.{NotJson, Memory}

abbrev pub fault_of : Unread → JsonFault
fault_of NotJson = fault.Bad kind.NotJson
fault_of Memory = fault.Memory
