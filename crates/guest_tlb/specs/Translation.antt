-- Translations as ranges of addresses: what one translates, and when two would translate one access (Power ISA 2.06,
-- Book III-E, chapter 6, address translation).
use Rattle.std.specs.Prelude.{◌≡◌, ℕ, ◌+◌, ◌%◌, ◌^◌, ◌<◌, ◌≤◌, ◌==◌, Bool, ◌&&◌, ◌||◌, nat_lt, IsTrue}
use Rattle.std.specs.Bool.{beq}
use Rattle.mas.specs.declared.entry.Entry.{Entry}
use Rattle.mas.specs.Page.{page_size, is_in_page}
use Rattle.mas.specs.Translation.{Fits}

-- whether an effective address lies in its page
abbrev pub has_address : Entry → ℕ → Bool
has_address entry ea = is_in_page entry.epn entry.tsize ea

-- whether it is everyone's, or this PID's
abbrev pub is_for : ℕ → Entry → Bool
is_for pid entry = entry.tid == 0 || entry.tid == pid

-- whether it translates an access: it is live, of the access's address space, for its PID, and has its address
unfoldable pub matches : Bool → ℕ → ℕ → Entry → Bool
matches space pid ea entry = entry.valid && (beq entry.ts space && (is_for pid entry && has_address entry ea))

-- whether an address lies in both pages
abbrev pub overlap : Entry → Entry → Bool
overlap a b = nat_lt a.epn (b.epn + page_size b.tsize) && nat_lt b.epn (a.epn + page_size a.tsize)

-- whether both are for one PID: their TIDs are equal, or one is 0
abbrev pub share_pid : Entry → Entry → Bool
share_pid a b = a.tid == b.tid || (a.tid == 0 || b.tid == 0)

-- whether two translations meet: their pages overlap, their address spaces are equal, and both are for one PID
unfoldable pub meets : Entry → Entry → Bool
meets a b = overlap a b && (beq a.ts b.ts && share_pid a b)

-- What a live translation keeps: its page is of 4 KiB to 4 GiB, begins at a multiple of its size, and so does what it shows.
-- So each ends within its address space.
pub record IsSound (entry : Entry) : Type 0 where
  pub fits : Fits entry
  pub least : 1 ≤ entry.tsize
  pub most : entry.tsize ≤ 11
  pub page_whole : entry.epn % page_size entry.tsize ≡ 0
  pub page_ends : entry.epn + page_size entry.tsize ≤ 2 ^ 32
  pub frame_whole : entry.rpn % page_size entry.tsize ≡ 0
  pub frame_ends : entry.rpn + page_size entry.tsize ≤ 2 ^ 36

-- a translation that is live and sound, and that translates an access
pub record IsMatch (space : Bool) (pid ea : ℕ) (entry : Entry) : Type 0 where
  pub live : IsTrue entry.valid
  pub space_same : entry.ts ≡ space
  pub pid_fits : IsTrue (is_for pid entry)
  pub begins : entry.epn ≤ ea
  pub ends : ea < entry.epn + page_size entry.tsize
  pub sound : IsSound entry
