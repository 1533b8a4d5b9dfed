-- The small cases, by computing them.
use Rattle.std.proofs.Common.{refl}
use Rattle.machine_desc.specs.Private.{is_private_range}
use Rattle.partition.specs.Machine.{fresh}
use Rattle.partition.specs.Event.{apply}
use Rattle.recording.specs.Fits.{allows, fits}
use Rattle.recording.specs.Example.{EventsAreKnown, OrderIsKnown}

pub events_known : EventsAreKnown
unfolding fresh apply is_private_range allows fits
events_known = record {
  full = refl;
  over = refl;
  doorbell = refl;
  room = refl;
  rung = refl;
  channel = refl;
  nothing = refl;
  told = refl;
  unmanaged = refl;
  started = refl;
  twice = refl;
  stopped = refl;
  restarted = refl;
  copied = refl;
}

pub order_known : OrderIsKnown
unfolding fresh apply allows fits
order_known = record { quiet = refl; stopped = refl; core = refl; no_core = refl; twice = refl; behind = refl; no_step = refl }
