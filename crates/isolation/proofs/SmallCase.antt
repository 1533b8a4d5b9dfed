-- The small case, by computing it.
use Rattle.std.proofs.Common.{refl}
use Rattle.std.specs.Fmt.{digits}
use Rattle.partition.specs.Machine.{fresh}
use Rattle.partition.specs.Event.{apply}
use Rattle.recording.specs.Alone.{alone}
use Rattle.network.specs.Change.{changed}
use Rattle.network.specs.World.{opening_world}
use Rattle.network.specs.Entering.{enter}
use Rattle.network.specs.Turn.{turn, run}
use Rattle.isolation.specs.Isolation.{prints}
use Rattle.isolation.specs.Example.{SmallRecordingIsKnown, SmallPrintIsKnown}

pub small_recording : SmallRecordingIsKnown
unfolding fresh apply changed opening_world enter turn run
small_recording = refl

pub small_print : SmallPrintIsKnown
unfolding digits fresh apply alone prints
small_print = refl
