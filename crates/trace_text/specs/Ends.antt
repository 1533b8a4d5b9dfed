-- The lines behind the last turn. Each ends with one line feed.
use Rattle.std.specs.Prelude.{ℕ, List, ◌++◌, codes, decimal}
use Rattle.machine_desc.specs.declared.act.State.{State}
use Rattle.machine_desc.specs.declared.act.State.TheVariants.{Running, Stopped, Faulted}

-- whether a partition does steps
abbrev pub state_word : State → List ℕ
state_word Running = codes "running"
state_word Stopped = codes "stopped"
state_word Faulted = codes "faulted"

-- a partition in the state of that word after so many own steps
abbrev pub end_line : List ℕ → List ℕ → ℕ → List ℕ
end_line name state step = codes "end " ++ (name ++ (codes " " ++ (state ++ (codes " " ++ (decimal step ++ codes "\n")))))

-- of a console: the bytes printed, the bytes entered and the bytes waiting
abbrev pub console_line : List ℕ → ℕ → ℕ → ℕ → List ℕ
console_line name printed entered waiting =
    codes "console " ++ (name ++ (codes " " ++ (decimal printed ++ (codes " " ++ (decimal entered ++ (codes " " ++ (decimal waiting ++ codes "\n")))))))
