-- The interrupt controller of a partition: what it keeps of each source, and what it begins with.
use Rattle.std.specs.Prelude.{ℕ, Bool, nat_lt, List, length, replicate, slice_index_or}
use Rattle.vpic.specs.declared.source.Source.{Source}

pub record Controller : Type 0 where
  -- one a number, from 0
  pub sources : List Source
  -- the priority that an interrupt has to exceed
  pub task : ℕ
  -- the numbers that aren't masked
  pub unmasked : ℕ
  -- the numbers that were taken and whose service hasn't ended
  pub in_service : ℕ
  -- the numbers that were rung and not taken since
  pub latched : ℕ

abbrev pub source : ℕ → ℕ → ℕ → Source
source config priority dest = record { config = config; priority = priority; dest = dest }

-- Of so many sources each has configuration 0, priority 8 and destination 0, and is masked; none is in service or rung.
unfoldable pub fresh : ℕ → Controller
fresh count = record {
  sources = replicate count (source 0 8 0);
  task = 0;
  unmasked = 0;
  in_service = 0;
  latched = 0;
}

-- whether a source has the number
abbrev pub is_number : Controller → ℕ → Bool
is_number controller n = nat_lt n (length controller.sources)

abbrev pub priority_of : Controller → ℕ → ℕ
priority_of controller n = (slice_index_or controller.sources n (source 0 0 0)).priority
