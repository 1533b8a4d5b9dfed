-- The built-in machine: one partition with 65,536 bytes of memory at logical address 0, and one channel, to a console.
use Rattle.std.specs.Prelude.{ℕ, true, false, List, [], ◌∷◌, length, codes, None}
use Rattle.machine_desc.specs.declared.desc.Desc.{Desc}
use Rattle.machine_desc.specs.declared.desc.Region.{Region}
use Rattle.machine_desc.specs.declared.desc.Port.TheVariants.{Channel}
use Rattle.machine_desc.specs.declared.wiring.End.TheVariants.{Part, Console}
use Rattle.machine_desc.specs.declared.wiring.Wiring.{Wiring}
use Rattle.network.specs.Network.{Network}
use Rattle.script.specs.declared.names.Names.{Names}

abbrev pub memory_size : ℕ
memory_size = 65536

abbrev pub built_in_region : Region
built_in_region = record { logical = 0; size = memory_size; extent = 0; real = 0; private = true }

-- its description with an image, from address 0 on
unfoldable pub built_in : List ℕ → Desc
built_in image = record {
  name = codes "guest";
  regions = built_in_region ∷ [];
  cores = 0 ∷ [];
  ports = Channel 0 1 ∷ [];
  tree_at = 0;
  tree_size = 0;
  entry = 0;
  held = false;
  pieces = record { at = 0; bytes = image; len = length image } ∷ [];
}

unfoldable pub built_in_wiring : Wiring
built_in_wiring = record {
  sizes = memory_size ∷ [];
  reals = 0 ∷ [];
  links = record { a = Part (record { part = 0; handle = 1 }); b = Console 0 } ∷ [];
  bells = [];
  managers = None ∷ [];
  consoles = codes "con" ∷ [];
}

-- nothing is joined to it
unfoldable pub built_in_network : List ℕ → Network
built_in_network image = record { descs = built_in image ∷ []; wiring = built_in_wiring }

-- its console, and its core, which has every turn
unfoldable pub built_in_names : Names
built_in_names = record { consoles = codes "con" ∷ []; cpus = 0 ∷ [] }
