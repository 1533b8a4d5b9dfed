-- The small run, by computing it.
use Rattle.std.proofs.Common.{refl}
use Rattle.std.specs.Fmt.{digits}
use Rattle.partition.specs.Machine.{fresh}
use Rattle.partition.specs.Event.{apply}
use Rattle.network.specs.Change.{changed}
use Rattle.network.specs.World.{opening_world}
use Rattle.network.specs.Entering.{enter}
use Rattle.network.specs.Turn.{turn, run}
use Rattle.network.specs.Report.{text_of}
use Rattle.network.specs.Example.{SmallRunIsKnown}

pub small_run : SmallRunIsKnown
unfolding digits fresh apply changed opening_world enter turn run text_of
small_run = refl
