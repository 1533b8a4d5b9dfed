-- The pages of an access in order of address, its first fault, and the bytes that it moves (Power ISA 2.06, Book III-E: access
-- control).
use Rattle.std.specs.Prelude.{◌≡◌, ℕ, ◌+◌, ◌-◌, ◌/◌, ◌%◌, ◌^◌, ◌==◌, Bool, not, nat_le, List, [], ◌∷◌, length, map, take, drop, Option, Some, None, Result, Ok, Err, if◌then◌else◌}
use Rattle.std.specs.List.{flat_map}
use Rattle.ground.specs.Extents.{bytes_at, after_write, HasRange}
use Rattle.core_step.specs.declared.look.Page.{Page}
use Rattle.core_step.specs.declared.access.Part.{Part}
use Rattle.core_step.specs.declared.access.Place.{Place}
use Rattle.core_step.specs.declared.access.Places.{Places}
use Rattle.core_step.specs.declared.access.Fault.{Fault}
use Rattle.core_step.specs.declared.access.Fault.TheVariants.{Missing, Denied, Reversed}
use Rattle.core_step.specs.declared.answer.Wrote.{Wrote}

-- how many bytes the 4 KiB page has from an address on
abbrev pub room_from : ℕ → ℕ
room_from ea = 4096 - ea % 4096

-- the parts of an access that is no longer than a 4 KiB page; behind the last address comes 0
unfoldable pub parts_of : ℕ → ℕ → List Part
parts_of ea len =
    if nat_le len (room_from ea) then record { ea = ea; len = len } ∷ []
    else record { ea = ea; len = room_from ea } ∷ record { ea = (ea + room_from ea) % 2 ^ 32; len = len - room_from ea } ∷ []

-- where a part lies in real memory, and the logical address of its first byte
unfoldable pub place_in : Page → Part → Place
place_in page part = record {
  extent = page.extent;
  at = page.at + (part.ea - page.ea);
  len = part.len;
  logical = page.logical + (part.ea - page.ea);
}

-- the permission bits of MAS3: UX and SX, UW and SW, UR and SR
abbrev pub fetching : Bool → ℕ
fetching problem = if problem then 32 else 16

abbrev pub storing : Bool → ℕ
storing problem = if problem then 8 else 4

abbrev pub loading : Bool → ℕ
loading problem = if problem then 2 else 1

abbrev pub allows : Page → ℕ → Bool
allows page permission = page.perms / permission % 2 == 1

unfoldable pub place_or_fault : ℕ → Part → Option Page → Result Place Fault
place_or_fault permission part None = Err (Missing part.ea)
place_or_fault permission part (Some page) =
    if not (allows page permission) then Err (Denied part.ea)
    else if page.little then Err (Reversed part.ea)
    else Ok (place_in page part)

-- a place before others, unless there is a fault; the first counts
abbrev pub before : Result Place Fault → Result (List Place) Fault → Result (List Place) Fault
before (Err fault) others = Err fault
before (Ok place) (Err fault) = Err fault
before (Ok place) (Ok places) = Ok (place ∷ places)

abbrev pub places_or_fault : (ℕ → Option Page) → ℕ → List Part → Result (List Place) Fault
places_or_fault page_at permission [] = Ok []
places_or_fault page_at permission (part ∷ parts) =
    before (place_or_fault permission part (page_at part.ea)) (places_or_fault page_at permission parts)

-- the bytes that lie there
abbrev pub loaded_from : List (List ℕ) → List Place → List ℕ
loaded_from memory places = flat_map (λ place. bytes_at memory place.extent place.at place.len) places

-- the memory after bytes were stored there
abbrev pub stored_to : List (List ℕ) → List Place → List ℕ → List (List ℕ)
stored_to memory [] bytes = memory
stored_to memory (place ∷ places) bytes =
    stored_to (after_write memory place.extent place.at (take place.len bytes)) places (drop place.len bytes)

abbrev pub range_of : Place → Wrote
range_of place = record { extent = place.extent; at = place.at; len = place.len }

abbrev pub ranges_of : List Place → List Wrote
ranges_of places = map range_of places

-- ---- the places of an access as the program keeps them

abbrev pub others : Option Place → List Place
others None = []
others (Some place) = place ∷ []

abbrev pub in_order : Places → List Place
in_order places = places.first ∷ others places.second

-- its bytes are in real memory
abbrev pub IsInside : List (List ℕ) → Place → Type 0
IsInside memory place = HasRange memory place.extent place.at place.len

abbrev pub AreInside : List (List ℕ) → List Place → Type 0
AreInside memory [] = Unit {0}
AreInside memory (place ∷ places) = IsInside memory place × AreInside memory places

-- how many bytes there are
abbrev pub total : List Place → ℕ
total [] = 0
total (place ∷ places) = place.len + total places

-- the same extents with the same numbers of bytes
abbrev pub SameSizes : List (List ℕ) → List (List ℕ) → Type 0
SameSizes old new = map length new ≡ map length old
