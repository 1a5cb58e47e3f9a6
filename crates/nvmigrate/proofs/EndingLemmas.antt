use Rattle.engine.specs.Claims.{OnRun}
use Rattle.engine.specs.declared.status.Status.{Status}
use Rattle.engine.specs.declared.status.Status.TheVariants.{Done, Usage, BadScript, TooLong, OutOfMemory, HostSize, ReadFault, WriteFault, GaveUp, Refused}

-- what is claimed of a run is claimed as what follows from it
pub on_run : {P Q : Type 0} (status : Status) → (P → Q) → OnRun status P → OnRun status Q
on_run Done f claim = f claim
on_run GaveUp f claim = f claim
on_run WriteFault f claim = f claim
on_run Usage f claim = tt
on_run (BadScript line why) f claim = tt
on_run TooLong f claim = tt
on_run OutOfMemory f claim = tt
on_run (HostSize kept asked) f claim = tt
on_run ReadFault f claim = tt
on_run (Refused line why) f claim = tt
