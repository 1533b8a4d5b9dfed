-- What is known of a run in the midst of it.
use Rattle.std.specs.Prelude.{◌≡◌, ℕ, ◌<◌, ◌≤◌, List, []}
use Rattle.network.specs.World.{World, machine_at}
use Rattle.network.specs.Entering.{waiting}

-- no partition has done more steps than that
abbrev pub StepsAtMost : ℕ → World → Type 0
StepsAtMost count world = (part : ℕ) → (machine_at world.machines part).inner.steps ≤ count

-- of so many consoles, none is given more than has entered
abbrev pub AllEntered : (ℕ → List ℕ) → World → ℕ → Type 0
AllEntered given world consoles = (console : ℕ) → console < consoles → waiting (given console) world.consoles console ≡ []
