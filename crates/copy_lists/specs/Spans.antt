-- Ranges of logical addresses that a list of spans has: what a handle tells of the private memory of a managed partition.
use Rattle.std.specs.Prelude.{ℕ, ◌+◌, Bool, ◌&&◌, nat_le, nat_lt, List}
use Rattle.std.specs.List.{list_any, list_all, range_with_len}
use Rattle.machine_desc.specs.declared.desc.Span.{Span}

-- the first address behind the span
abbrev pub span_end : Span → ℕ
span_end span = span.at + span.size

-- the span has the address
abbrev pub has_address : ℕ → Span → Bool
has_address address span = nat_le span.at address && nat_lt address (span_end span)

-- some span has the address
abbrev pub is_spanned : List Span → ℕ → Bool
is_spanned spans address = list_any (has_address address) spans

-- Each of so many addresses from this one on is in a span, in the same one or not. A range without addresses is in any spans. The spans
-- of a managed partition end before the last address of 64 bits, and so does a range in them.
unfoldable pub is_in_spans : List Span → ℕ → ℕ → Bool
is_in_spans spans at size = list_all (is_spanned spans) (range_with_len at size)
