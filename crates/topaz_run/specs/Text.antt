-- Lines of commands. Each ends with one line feed.
use Rattle.std.specs.Prelude.{ℕ, List, ◌++◌, codes, decimal}

-- of a configuration that is accepted: the numbers of partitions, areas, channels and doorbells
abbrev pub accepted_line : ℕ → ℕ → ℕ → ℕ → List ℕ
accepted_line parts areas channels bells =
    codes "accepted " ++ (decimal parts ++ (codes " " ++ (decimal areas ++ (codes " " ++ (decimal channels ++ (codes " " ++ (decimal bells ++ codes "\n")))))))

-- of a generated run: its number, how many turns it had, how many lines its steps have, and how many bytes they sent
abbrev pub gen_line : ℕ → ℕ → ℕ → ℕ → List ℕ
gen_line number turns lines sent =
    codes "gen " ++ (decimal number ++ (codes " " ++ (decimal turns ++ (codes " lines " ++ (decimal lines ++ (codes " sent " ++ (decimal sent ++ codes "\n")))))))

-- the place of a script's line, counted from 1
abbrev pub line_place : ℕ → List ℕ
line_place line = codes "line " ++ decimal line
