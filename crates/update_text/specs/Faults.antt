-- Faults of writing.
use Rattle.tick_io.{specs.declared.sink.SinkFault.SinkFault, specs.declared.sink.SinkFault.TheVariants.{Memory, Failed}}
use Rattle.update_text.{specs.declared.fault.WriteFault.WriteFault, specs.declared.fault.WriteFault.TheVariants.{Memory as OutOfMemory, Failed as NotWritten}}

-- what a sink's fault is to the one who writes a text
abbrev pub write_fault_of : SinkFault → WriteFault
write_fault_of Memory = OutOfMemory
write_fault_of Failed = NotWritten
