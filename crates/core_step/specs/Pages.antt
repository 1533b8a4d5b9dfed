-- The pages that an access may look at, and what they allow (Power ISA 2.06, Book III-E: address translation and access control).
use Rattle.std.specs.Prelude.{◌≡◌, ℕ, ◌+◌, ◌%◌, ◌^◌, ◌<◌, ◌≤◌, Bool, List, length, Option, IfSome}
use Rattle.mas.specs.Page as tlb
use Rattle.ground.specs.Extents.{extent_at}
use Rattle.core_step.specs.declared.look.Page.{Page}

-- what is looked up: the page of an effective address, in an address space, for a process
abbrev pub Lookup : Type 0
Lookup = Bool → ℕ → ℕ → Option Page

-- its size in bytes
abbrev pub page_size : Page → ℕ
page_size page = tlb.page_size page.tsize

-- The page has a size of the standard and is aligned to it, it has the address, and as many bytes of real memory stand behind it.
pub record IsBacked (memory : List (List ℕ)) (ea : ℕ) (page : Page) : Type 0 where
  pub some_size : 1 ≤ page.tsize
  pub most_size : page.tsize ≤ 11
  pub aligned : page.ea % page_size page ≡ 0
  pub begins : page.ea ≤ ea
  pub ends : ea < page.ea + page_size page
  pub logical_end : page.logical + page_size page ≤ 2 ^ 36
  pub exists : page.extent < length memory
  pub within : page.at + page_size page ≤ length (extent_at memory page.extent)

-- so it is of each page that is found
abbrev pub AreBacked : List (List ℕ) → Lookup → Type 0
AreBacked memory lookup = (space : Bool) (pid ea : ℕ) → IfSome (lookup space pid ea) (IsBacked memory ea)
