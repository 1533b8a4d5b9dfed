-- How many lines the steps of a run have, and how many bytes they sent.
use Rattle.std.specs.Prelude.{ℕ, ◌+◌, Bool, true, false, if◌then◌else◌, List, [], ◌∷◌, length}
use Rattle.partition.specs.Act.{Act, Nothing, Sent, Took}
use Rattle.network.specs.World.{Line}

pub record Tally : Type 0 where
  pub lines : ℕ
  -- in bytes
  pub sent : ℕ

-- before the first turn
abbrev pub no_tally : Tally
no_tally = record { lines = 0; sent = 0 }

-- whether a step that did this has a line
abbrev pub has_line : Act → Bool
has_line Nothing = false
has_line (Took handle count) = false
has_line _ = true

abbrev pub line_count : Act → ℕ
line_count act = if has_line act then 1 else 0

abbrev pub sent_count : Act → ℕ
sent_count (Sent handle bytes) = length bytes
sent_count _ = 0

abbrev pub after_act : Act → Tally → Tally
after_act act tally = record { lines = tally.lines + line_count act; sent = tally.sent + sent_count act }

-- once these steps are counted too
abbrev pub after_lines : List Line → Tally → Tally
after_lines [] tally = tally
after_lines (line ∷ lines) tally = after_lines lines (after_act line.traced.act tally)

-- of all the steps of a run
abbrev pub tally_of : List Line → Tally
tally_of lines = after_lines lines no_tally
