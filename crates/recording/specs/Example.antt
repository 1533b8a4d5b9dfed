-- Small cases that are known outright.
use Rattle.std.specs.Prelude.{◌≡◌, Bool, true, false, List, [], ◌∷◌, ◌++◌, map, replicate, codes}
use Rattle.machine_desc.specs.declared.desc.Desc.{Desc}
use Rattle.machine_desc.specs.declared.desc.Port.TheVariants.{Channel, Receive, Manage}
use Rattle.partition.specs.Event.{Event, Bytes, Room, Ring, Tells, Start, Stop, Restart, CopyIn}
use Rattle.recording.specs.Recording.{After, Feed, OnCore, Until}
use Rattle.recording.specs.Fits.{fits}

-- A partition without memory that begins stopped, on one core. Its handles are a channel, a doorbell that it receives, and a partition
-- that it manages.
abbrev waits : Desc
waits = record {
  name = codes "one";
  regions = [];
  cores = 0 ∷ [];
  ports = Channel 0 1 ∷ (Receive 2 ∷ (Manage 1 false [] ∷ []));
  tree_at = 0;
  tree_size = 0;
  entry = 0;
  held = true;
  pieces = [];
}

-- these events may come to it, one after the other
abbrev may_come : List Event → Bool
may_come events = fits waits (map (After 0) events ++ Until 0 ∷ [])

pub record EventsAreKnown : Type 0 where
  -- of bytes that aren't taken a channel has 256, and no more
  pub full : may_come (Bytes 1 (replicate 256 7) ∷ []) ≡ true
  pub over : may_come (Bytes 1 (replicate 256 7) ∷ (Bytes 1 (7 ∷ []) ∷ [])) ≡ false
  -- a doorbell has none
  pub doorbell : may_come (Bytes 2 (7 ∷ []) ∷ []) ≡ false
  -- no byte is outstanding that could have been taken
  pub room : may_come (Room 1 1 ∷ []) ≡ false
  -- a ring comes to a doorbell that is received, to no channel, and to no handle that there isn't
  pub rung : may_come (Ring 2 ∷ []) ≡ true
  pub channel : may_come (Ring 1 ∷ []) ≡ false
  pub nothing : may_come (Ring 0 ∷ []) ≡ false
  -- the state of a managed partition comes to the handle that manages it
  pub told : may_come (Tells 3 true ∷ []) ≡ true
  pub unmanaged : may_come (Tells 2 true ∷ []) ≡ false
  -- what doesn't run is started, once, and neither stopped nor restarted; what runs is stopped
  pub started : may_come (Start 0 false ∷ (Stop ∷ [])) ≡ true
  pub twice : may_come (Start 0 false ∷ (Start 0 false ∷ [])) ≡ false
  pub stopped : may_come (Stop ∷ []) ≡ false
  pub restarted : may_come (Restart ∷ []) ≡ false
  -- it has no private memory that could be written
  pub copied : may_come (CopyIn (record { at = 0; bytes = 7 ∷ [] }) ∷ []) ≡ false

pub record OrderIsKnown : Type 0 where
  -- nothing comes, and no step is done
  pub quiet : fits waits (Until 0 ∷ []) ≡ true
  -- what doesn't run does no step
  pub stopped : fits waits (Until 1 ∷ []) ≡ false
  -- before the first step a core may stand that there is, once, and before what comes later
  pub core : fits waits (OnCore 0 0 ∷ (Until 0 ∷ [])) ≡ true
  pub no_core : fits waits (OnCore 0 1 ∷ (Until 0 ∷ [])) ≡ false
  pub twice : fits waits (OnCore 0 0 ∷ (OnCore 0 0 ∷ (Until 0 ∷ []))) ≡ false
  pub behind : fits waits (After 0 (Ring 2) ∷ (OnCore 0 0 ∷ (Until 0 ∷ []))) ≡ false
  -- no step has the number 0, so it is given no bytes
  pub no_step : fits waits (Feed 0 (7 ∷ []) ∷ (Until 0 ∷ [])) ≡ false
