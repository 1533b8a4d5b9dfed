-- Small cases that are known outright.
use Rattle.std.specs.Prelude.{◌≡◌, ℕ, Bool, true, false, nat_lt, if◌then◌else◌, List, [], ◌∷◌, map, replicate, codes, Option, Some, None}
use Rattle.core_step.specs.declared.answer.Wrote.{Wrote}
use Rattle.machine_desc.specs.declared.desc.Desc.{Desc}
use Rattle.machine_desc.specs.declared.desc.Port.{Port}
use Rattle.machine_desc.specs.declared.desc.Port.TheVariants.{Channel, Send, Receive}
use Rattle.machine_desc.specs.declared.desc.Region.{Region}
use Rattle.machine_desc.specs.declared.wiring.End.TheVariants.{Part, Console}
use Rattle.network.specs.Network.{Network, ref_to, receivers_of}
use Rattle.partition.specs.Reservations.{kept_reservation}
use Rattle.network.specs.Change.{seen}
use Rattle.network.specs.Turn.{Script}
use Rattle.network.specs.Report.{report}

-- ---- a run

-- a partition without memory
abbrev bare : List ℕ → ℕ → List Port → Bool → Desc
bare name core ports held =
    record { name = name; regions = []; cores = core ∷ []; ports = ports; tree_at = 0; tree_size = 0; entry = 0; held = held; pieces = [] }

-- One partition with a channel to a console, and one that begins stopped. A handle of the first rings three that receive, one of them its
-- own.
abbrev small : Network
small = record {
  descs = bare (codes "one") 0 (Channel 0 1 ∷ (Send ∷ (Receive 2 ∷ []))) false ∷ (bare (codes "two") 1 (Receive 0 ∷ (Receive 1 ∷ [])) true ∷ []);
  wiring = record {
    sizes = [];
    reals = [];
    links = record { a = Part (ref_to 0 1); b = Console 0 } ∷ [];
    bells = record { senders = ref_to 0 2 ∷ []; receivers = ref_to 1 2 ∷ (ref_to 1 1 ∷ (ref_to 0 3 ∷ [])) } ∷ [];
    managers = None ∷ (None ∷ []);
    consoles = codes "con" ∷ [];
  };
}

-- core 5 is nobody's, and from the second turn on the console was given 300 bytes
abbrev small_script : Script
small_script = record { schedule = 5 ∷ []; inputs = λ console number. if nat_lt number 2 then [] else replicate 300 0x41 }

-- 256 of them enter, for which there is room, and the others wait
abbrev pub SmallRunIsKnown : Type 0
SmallRunIsKnown = report small small_script 3 ≡ codes "end one running 0\nend two stopped 0\nconsole con 0 256 44\n"

-- ---- a ring

-- it is heard in document order of partitions and of handles, however the doorbell lists them
abbrev pub ReceiversAreKnown : Type 0
ReceiversAreKnown = receivers_of small 0 2 ≡ ref_to 0 3 ∷ (ref_to 1 1 ∷ (ref_to 1 2 ∷ []))

-- ---- shared areas

abbrev area : ℕ → ℕ → Bool → Region
area logical extent private = record { logical = logical; size = 4096; extent = extent; real = 0; private = private }

-- A region of the same extent has the bytes that the other partition left; another extent's stay.
abbrev pub SharedBytesAreKnown : Type 0
SharedBytesAreKnown =
    seen (area 0 7 true ∷ (area 8192 3 false ∷ [])) ((1 ∷ []) ∷ ((2 ∷ []) ∷ [])) (area 0 4 false ∷ (area 4096 3 false ∷ [])) ((8 ∷ []) ∷ ((9 ∷ []) ∷ []))
    ≡ (8 ∷ []) ∷ ((2 ∷ []) ∷ [])

-- eight bytes from the offset 60 of an extent on
abbrev stored_in : ℕ → Wrote
stored_in extent = record { extent = extent; at = 60; len = 8 }

abbrev left_by : Wrote → ℕ → Option ℕ
left_by range granule = kept_reservation (area 0 4 false ∷ (area 4096 3 false ∷ [])) (range ∷ []) (Some granule)

-- of the extent at the logical address 4096, both granules that the bytes lie in, and no other
abbrev pub ReservationsAreKnown : Type 0
ReservationsAreKnown =
    map (left_by (stored_in 3)) (0 ∷ (4096 ∷ (4160 ∷ (4224 ∷ [])))) ≡ Some 0 ∷ (None ∷ (None ∷ (Some 4224 ∷ [])))
