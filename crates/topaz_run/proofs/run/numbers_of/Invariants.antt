use Rattle.std.proofs.Common.{◌≡◌, take, map}
use Rattle.hv_config.specs.declared.board.Cpu.{Cpu}
use Rattle.topaz_run.proofs.run.numbers_of.Given as goal

abbrev pub invariant-loop-cpu : goal.invariant-loop-cpu
invariant-loop-cpu l = l.numbers ≡ map (λ (cpu : Cpu). cpu.number) (take l.cpu-index l.cpus)
