use Rattle.std.proofs.Common.{◌≡◌, take, map, filter}
use Rattle.config_descs.specs.Desc.{span_of}
use Rattle.config_checks.specs.Found.{is_private}
use Rattle.hv_config.specs.declared.config.GuestAreaDef.{GuestAreaDef}
use Rattle.config_descs.proofs.memory.spans_among.Given as goal

abbrev pub invariant-loop-guest : goal.invariant-loop-guest
invariant-loop-guest l = l.spans ≡ map (span_of l.config) (filter (λ (guest : GuestAreaDef). is_private l.config.parts guest.area) (take l.guest-index l.guests))
