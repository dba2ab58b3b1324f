-- What a refusal is told as.
use Rattle.fsd_bytes.specs.declared.refusal.Refusal.{Refusal}
use Rattle.fsd_bytes.specs.declared.refusal.Refusal.TheVariants as Why
use Rattle.volume_dump.specs.declared.fault.DumpFault.{DumpFault}
use Rattle.volume_dump.specs.declared.fault.DumpFault.TheVariants.{Cut, Memory, Refused}

abbrev pub told_as : Refusal → DumpFault
told_as Why.Memory = Memory
told_as (Why.Damaged s) = Cut s
told_as why = Refused why
