-- What a start and a restart give: the machine as it was loaded first.
use Rattle.std.specs.Prelude.{ℕ, Bool, if◌then◌else◌}
use Rattle.machine_desc.specs.declared.act.State.TheVariants.{Running}
use Rattle.machine_desc.specs.declared.desc.Desc.{Desc}
use Rattle.fresh_load.specs.Fresh.{reloaded}
use Rattle.partition.specs.Port.{emptied}
use Rattle.partition.specs.Machine.{Inner, Machine, booted_all, fresh_interrupts}

-- what a partition holds by itself once it begins at this entry: of before the count of its steps stays
abbrev pub started_inner : Desc → ℕ → Inner → Inner
started_inner desc entry inner = record {
  cores = booted_all desc entry;
  interrupts = fresh_interrupts desc;
  state = Running;
  steps = inner.steps;
}

-- The machine as it was loaded, but that it begins at this entry. What it has outstanding, the states of the partitions that it
-- manages, its shared regions and the count of its steps stay, and so does all of its memory where that isn't loaded anew.
abbrev pub started : Desc → ℕ → Bool → Machine → Machine
started desc entry load machine = record {
  inner = started_inner desc entry machine.inner;
  ports = emptied machine.ports;
  memory = if load then reloaded desc.pieces desc.regions machine.memory else machine.memory;
}
