-- The ends of handles before the first turn.
use Rattle.std.proofs.Common.{◌≡◌, ℕ, zero, suc, ◌+◌, ◌<◌, ◌==◌, Bool, true, false, not, ◌&&◌, List, [], ◌∷◌, length, map, replicate, refl, sym, ap, ◌∙◌, arith}
use Rattle.std.specs.Prelude.{slice_get}
use Rattle.std.specs.Option.{option_map_or}
use Rattle.std.proofs.lemmas.Bool.{and_parts, false≢true}
use Rattle.byte_channel.specs.declared.side.Side.{Side}
use Rattle.byte_channel.specs.declared.side.Side.TheVariants.{A, B}
use Rattle.byte_channel.specs.Waiting.{Waiting, empty_channel}
use Rattle.machine_desc.specs.declared.desc.Desc.{Desc}
use Rattle.machine_desc.specs.declared.desc.Span.{Span}
use Rattle.machine_desc.specs.declared.desc.Port.{Port}
use Rattle.machine_desc.specs.declared.desc.Port.TheVariants as described
use Rattle.machine_desc.specs.declared.wiring.PortRef.{PortRef}
use Rattle.machine_desc.specs.declared.wiring.End.TheVariants.{Part}
use Rattle.machine_desc.specs.declared.wiring.Link.{Link}
use Rattle.machine_desc.specs.declared.wiring.Wiring.{Wiring}
use Rattle.machine_desc.specs.Joined.{same_bool, are_private_spans, is_managed_as, is_part_managed_as, is_manager_of, is_manage_joined, is_port_joined, are_handles_joined, AreJoined}
use Rattle.partition.specs.Port as port
use Rattle.network.specs.Network.{Network, desc_at, ref_to}
use Rattle.system.specs.declared.wire.Wire.TheVariants.{Channel}
use Rattle.system.specs.Board.{kind_of, kinds_of, channel_at, running_at, end_of, ends_of}
use Rattle.system.specs.Wired.{side_from, wire_of, wires_from, begins_running, opening_lines}
use Rattle.system.specs.Opening.{OpensFresh}
use Rattle.system.proofs.Tied.{joined_parts, wires_there, ports_joined}

-- ---- channels

-- nothing waits in any of so many channels
pub none_wait : (count link : ℕ) → channel_at (replicate count empty_channel) link ≡ empty_channel
none_wait zero link = refl
none_wait (suc count) zero = refl
none_wait (suc count) (suc link) = none_wait count link

abbrev channels_for : List Link → List Waiting
channels_for links = replicate (length links) empty_channel

channel_opens : (count link : ℕ) (side : Side) (running : List Bool) → end_of (replicate count empty_channel) running (Channel link side) ≡ port.empty_end
channel_opens count link A running = rw (none_wait count link) refl
channel_opens count link B running = rw (none_wait count link) refl

-- ---- kinds

wire_kind : (wiring : Wiring) (ref : PortRef) (p : Port) → kind_of (wire_of wiring ref p) ≡ port.kind_of p
wire_kind wiring ref (described.Channel rx tx) = refl
wire_kind wiring ref described.Send = refl
wire_kind wiring ref (described.Receive irq) = refl
wire_kind wiring ref (described.Manage part held spans) = refl

kinds_from : (wiring : Wiring) (part first : ℕ) (ports : List Port) → kinds_of (wires_from wiring part first ports) ≡ port.kinds_of ports
kinds_from wiring part first [] = refl
kinds_from wiring part first (p ∷ ports) =
    let head : kind_of (wire_of wiring (ref_to part first) p) ≡ port.kind_of p = wire_kind wiring (ref_to part first) p in
    let tail : kinds_of (wires_from wiring part (first + 1) ports) ≡ port.kinds_of ports = kinds_from wiring part (first + 1) ports in
    cc

-- ---- managed partitions

same_bools : (a b : Bool) → same_bool a b ≡ true → a ≡ b
same_bools true b h = sym h
same_bools false true h = absurd (false≢true h)
same_bools false false h = refl

begins_as : (descs : List Desc) (part : ℕ) (held : Bool) (spans : List Span) → option_map_or (is_managed_as held spans) (slice_get descs part) false ≡ true
    → running_at (map begins_running descs) part ≡ not held
begins_as [] part held spans h = absurd (false≢true h)
begins_as (desc ∷ descs) zero held spans h = ap not (sym (same_bools held desc.held (and_parts (same_bool held desc.held) (are_private_spans spans desc.regions) h).0))
begins_as (desc ∷ descs) (suc part) held spans h = begins_as descs part held spans h

managed_opens : (descs : List Desc) (wiring : Wiring) (ref : PortRef) (part : ℕ) (held : Bool) (spans : List Span) → is_port_joined descs wiring ref (described.Manage part held spans) ≡ true
    → running_at (map begins_running descs) part ≡ not held
unfolding is_port_joined is_manage_joined
managed_opens descs wiring ref part held spans h =
    let two = (and_parts (not (part == ref.part) && is_part_managed_as descs part held spans) (is_manager_of wiring.managers ref part) h).0 in
    begins_as descs part held spans (and_parts (not (part == ref.part)) (is_part_managed_as descs part held spans) two).1

-- ---- ends

end_opens : (descs : List Desc) (wiring : Wiring) (ref : PortRef) (p : Port) → is_port_joined descs wiring ref p ≡ true
    → end_of (channels_for wiring.links) (map begins_running descs) (wire_of wiring ref p) ≡ port.fresh_end p
end_opens descs wiring ref (described.Channel rx tx) h =
    let it = side_from 0 wiring.links (Part ref) in channel_opens (length wiring.links) it.link it.side (map begins_running descs)
end_opens descs wiring ref described.Send h = refl
end_opens descs wiring ref (described.Receive irq) h = refl
end_opens descs wiring ref (described.Manage part held spans) h =
    ap (λ (b : Bool). let end : port.End = record port.empty_end { runs = b } in end) (managed_opens descs wiring ref part held spans h)

ends_from : (descs : List Desc) (wiring : Wiring) (part first : ℕ) (ports : List Port) → are_handles_joined descs wiring part first ports ≡ true
    → ends_of (channels_for wiring.links) (map begins_running descs) (wires_from wiring part first ports) ≡ map port.fresh_end ports
ends_from descs wiring part first [] h = refl
ends_from descs wiring part first (p ∷ ports) h =
    let both = and_parts (is_port_joined descs wiring (ref_to part first) p) (are_handles_joined descs wiring part (first + 1) ports) h in
    let head : end_of (channels_for wiring.links) (map begins_running descs) (wire_of wiring (ref_to part first) p) ≡ port.fresh_end p = end_opens descs wiring (ref_to part first) p both.0 in
    let tail : ends_of (channels_for wiring.links) (map begins_running descs) (wires_from wiring part (first + 1) ports) ≡ map port.fresh_end ports = ends_from descs wiring part (first + 1) ports both.1 in
    cc

pub open_fresh : (network : Network) (part : ℕ) → AreJoined network.descs network.wiring → part < length network.descs → OpensFresh network (opening_lines network.descs network.wiring) part
unfolding opening_lines
open_fresh network part joined here =
    let joins = joined_parts network.descs network.wiring joined in
    let own = wires_there network.wiring 0 network.descs part part here (omega arith) in
    record {
      kinds = ap kinds_of own ∙ kinds_from network.wiring part 1 (desc_at network part).ports;
      ends = ap (ends_of (channels_for network.wiring.links) (map begins_running network.descs)) own
          ∙ ends_from network.descs network.wiring part 1 (desc_at network part).ports (ports_joined network.descs network.wiring part joins.ports here);
    }
