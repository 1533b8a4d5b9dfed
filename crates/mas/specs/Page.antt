-- A page by its effective address and the exponent of its size, TSIZE (Power ISA 2.06, Book III-E, chapter 6, page size), for every
-- kind of TLB.
use Rattle.std.specs.Prelude.{ℕ, ◌+◌, ◌*◌, ◌^◌, Bool, ◌&&◌, nat_lt, nat_le}

-- the size of a page in bytes: 4 ^ TSIZE KiB
abbrev pub page_size : ℕ → ℕ
page_size tsize = 4 ^ tsize * 2 ^ 10

-- whether the page of 4 ^ TSIZE KiB at EPN has an effective address
unfoldable pub is_in_page : ℕ → ℕ → ℕ → Bool
is_in_page epn tsize ea = nat_le epn ea && nat_lt ea (epn + page_size tsize)
