-- A small case that is known outright.
use Rattle.std.specs.Prelude.{◌≡◌, true, nat_lt, if◌then◌else◌, List, [], ◌∷◌, replicate, codes, None}
use Rattle.machine_desc.specs.declared.desc.Desc.{Desc}
use Rattle.machine_desc.specs.declared.desc.Port.TheVariants.{Channel}
use Rattle.machine_desc.specs.declared.wiring.End.TheVariants.{Part, Console}
use Rattle.partition.specs.Event.{Bytes}
use Rattle.network.specs.Network.{Network, ref_to}
use Rattle.network.specs.Turn.{Script}
use Rattle.recording.specs.Recording.{Item, After, Until}
use Rattle.isolation.specs.Isolation.{record_of, prints}

-- a partition without memory that begins stopped, with a channel
abbrev waits : Desc
waits = record {
  name = codes "one";
  regions = [];
  cores = 0 ∷ [];
  ports = Channel 0 1 ∷ [];
  tree_at = 0;
  tree_size = 0;
  entry = 0;
  held = true;
  pieces = [];
}

-- a console is at the other end
abbrev small : Network
small = record {
  descs = waits ∷ [];
  wiring = record {
    sizes = [];
    reals = [];
    links = record { a = Part (ref_to 0 1); b = Console 0 } ∷ [];
    bells = [];
    managers = None ∷ [];
    consoles = codes "con" ∷ [];
  };
}

-- from the second turn on the console was given 300 bytes
abbrev small_script : Script
small_script = record { schedule = 0 ∷ []; inputs = λ console number. if nat_lt number 2 then [] else replicate 300 0x41 }

abbrev small_recording : List Item
small_recording = After 0 (Bytes 1 (replicate 256 0x41)) ∷ (Until 0 ∷ [])

-- what came to the partition in three turns
abbrev pub SmallRecordingIsKnown : Type 0
SmallRecordingIsKnown = record_of small small_script 3 0 ≡ small_recording

-- and what it does alone
abbrev pub SmallPrintIsKnown : Type 0
SmallPrintIsKnown = prints waits small_recording ≡ codes "end one stopped 0\n"
