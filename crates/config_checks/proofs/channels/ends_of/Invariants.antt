use Rattle.std.proofs.Common.{◌≡◌, ◌-◌, ◌^◌, min, take, sum_by}
use Rattle.config_checks.specs.Channels.{ends_in}
use Rattle.config_checks.proofs.channels.ends_of.Given as goal

abbrev pub invariant-loop-part : goal.invariant-loop-part
invariant-loop-part l = l.count ≡ min (sum_by (ends_in l.name) (take l.part-index l.parts)) (2 ^ 64 - 1)
