-- One step of a walk along handles and channels.
use Rattle.std.proofs.Common.{◌≡◌, ℕ, ◌+◌, ◌<◌, true, false, if◌then◌else◌, List, [], ◌∷◌, ◌++◌, length, drop, map, slice_index_or, Some, None, refl, sym, ap, ◌∙◌, append_assoc, append-nil, arith, drop-cons, drop_of_length-le, add-one}
use Rattle.std.specs.List.{range_with_len}
use Rattle.std.proofs.lemmas.List.FromFn.{map-range_with_len_more}
use Rattle.byte_channel.specs.declared.side.Side.TheVariants.{A, B}
use Rattle.machine_desc.specs.declared.desc.Desc.{Desc}
use Rattle.machine_desc.specs.declared.desc.Port.{Port}
use Rattle.machine_desc.specs.declared.wiring.End.{End}
use Rattle.machine_desc.specs.declared.wiring.Link.{Link}
use Rattle.machine_desc.specs.declared.wiring.Wiring.{Wiring}
use Rattle.network.specs.Network.{is_end, ref_to, far_end}
use Rattle.system.specs.declared.wire.ChannelEnd.{ChannelEnd}
use Rattle.system.specs.declared.wire.Wire.{Wire}
use Rattle.system.specs.Wired.{side_from, console_side, wire_of, wires_from, all_wires}

-- ---- channels

abbrev at_a : ℕ → ChannelEnd
at_a number = record { link = number; side = A }

abbrev at_b : ℕ → ChannelEnd
at_b number = record { link = number; side = B }

side_step : (links : List Link) (end : End) (number : ℕ) (d : Link) → number < length links
    → side_from number (drop number links) end
    ≡ (if is_end end (slice_index_or links number d).a then at_a number else if is_end end (slice_index_or links number d).b then at_b number else side_from (number + 1) (drop (number + 1) links) end)
side_step links end number d there =
    ap (λ (l : List Link). side_from number l end) (drop-cons links number d there)
    ∙ ap (λ (n : ℕ). if is_end end (slice_index_or links number d).a then at_a number else if is_end end (slice_index_or links number d).b then at_b number else side_from (number + 1) (drop n links) end)
    (sym (add-one number))

pub side_here : (links : List Link) (end : End) (number : ℕ) (d : Link) → number < length links → is_end end (slice_index_or links number d).a ≡ true
    → side_from number (drop number links) end ≡ at_a number
side_here links end number d there at = side_step links end number d there ∙ rw at refl

pub side_there : (links : List Link) (end : End) (number : ℕ) (d : Link) → number < length links → is_end end (slice_index_or links number d).a ≡ false
    → is_end end (slice_index_or links number d).b ≡ true → side_from number (drop number links) end ≡ at_b number
side_there links end number d there not_at at = side_step links end number d there ∙ rw (not_at, at) refl

pub side_behind : (links : List Link) (end : End) (number : ℕ) (d : Link) → number < length links → is_end end (slice_index_or links number d).a ≡ false
    → is_end end (slice_index_or links number d).b ≡ false → side_from (number + 1) (drop (number + 1) links) end ≡ side_from number (drop number links) end
side_behind links end number d there not_at nor_at = sym (side_step links end number d there ∙ rw (not_at, nor_at) refl)

pub no_side_left : (links : List Link) (end : End) (number : ℕ) → number ≡ length links → side_from number (drop number links) end ≡ at_a number
no_side_left links end number last = ap (λ (l : List Link). side_from number l end) (drop_of_length-le links {i = number} (omega arith))

far_step : (links : List Link) (end : End) (number : ℕ) (d : Link) → number < length links
    → far_end (drop number links) end
    ≡ (if is_end end (slice_index_or links number d).a then Some (slice_index_or links number d).b else if is_end end (slice_index_or links number d).b then Some (slice_index_or links number d).a
    else far_end (drop (number + 1) links) end)
far_step links end number d there =
    ap (λ (l : List Link). far_end l end) (drop-cons links number d there)
    ∙ ap (λ (n : ℕ). if is_end end (slice_index_or links number d).a then Some (slice_index_or links number d).b else if is_end end (slice_index_or links number d).b then Some (slice_index_or links number d).a
    else far_end (drop n links) end) (sym (add-one number))

pub far_here : (links : List Link) (end : End) (number : ℕ) (d : Link) → number < length links → is_end end (slice_index_or links number d).a ≡ true
    → far_end (drop number links) end ≡ Some (slice_index_or links number d).b
far_here links end number d there at = far_step links end number d there ∙ rw at refl

pub far_there : (links : List Link) (end : End) (number : ℕ) (d : Link) → number < length links → is_end end (slice_index_or links number d).a ≡ false
    → is_end end (slice_index_or links number d).b ≡ true → far_end (drop number links) end ≡ Some (slice_index_or links number d).a
far_there links end number d there not_at at = far_step links end number d there ∙ rw (not_at, at) refl

pub far_behind : (links : List Link) (end : End) (number : ℕ) (d : Link) → number < length links → is_end end (slice_index_or links number d).a ≡ false
    → is_end end (slice_index_or links number d).b ≡ false → far_end (drop (number + 1) links) end ≡ far_end (drop number links) end
far_behind links end number d there not_at nor_at = sym (far_step links end number d there ∙ rw (not_at, nor_at) refl)

pub no_far_left : (links : List Link) (end : End) (number : ℕ) → number ≡ length links → far_end (drop number links) end ≡ None
no_far_left links end number last = ap (λ (l : List Link). far_end l end) (drop_of_length-le links {i = number} (omega arith))

-- one more console
pub one_more_console : (links : List Link) (count : ℕ) → map (console_side links) (range_with_len 0 (count + 1)) ≡ map (console_side links) (range_with_len 0 count) ++ console_side links count ∷ []
one_more_console links count = map-range_with_len_more (console_side links) 0 count count (omega arith)

-- ---- wires

pub one_more_wire : (wiring : Wiring) (part : ℕ) (ports : List Port) (place : ℕ) (d : Port) (front : List Wire) → place < length ports
    → front ++ wires_from wiring part (place + 1) (drop place ports)
    ≡ (front ++ wire_of wiring (ref_to part (place + 1)) (slice_index_or ports place d) ∷ []) ++ wires_from wiring part ((place + 1) + 1) (drop (place + 1) ports)
one_more_wire wiring part ports place d front there =
    ap (λ (l : List Port). front ++ wires_from wiring part (place + 1) l) (drop-cons ports place d there)
    ∙ (ap (λ (n : ℕ). front ++ wire_of wiring (ref_to part (place + 1)) (slice_index_or ports place d) ∷ wires_from wiring part ((place + 1) + 1) (drop n ports)) (sym (add-one place))
    ∙ sym (append_assoc front (wire_of wiring (ref_to part (place + 1)) (slice_index_or ports place d) ∷ []) (wires_from wiring part ((place + 1) + 1) (drop (place + 1) ports))))

pub no_more_wires : (wiring : Wiring) (part handle : ℕ) (ports : List Port) (front : List Wire) → front ++ wires_from wiring part handle (drop (length ports) ports) ≡ front
no_more_wires wiring part handle ports front = ap (λ (l : List Port). front ++ wires_from wiring part handle l) (drop_of_length-le ports {i = length ports} (omega arith)) ∙ append-nil front

pub one_more_part : (wiring : Wiring) (descs : List Desc) (part : ℕ) (d : Desc) (front : List (List Wire)) → part < length descs
    → front ++ all_wires wiring part (drop part descs)
    ≡ (front ++ wires_from wiring part 1 (slice_index_or descs part d).ports ∷ []) ++ all_wires wiring (part + 1) (drop (part + 1) descs)
one_more_part wiring descs part d front there =
    ap (λ (l : List Desc). front ++ all_wires wiring part l) (drop-cons descs part d there)
    ∙ (ap (λ (n : ℕ). front ++ wires_from wiring part 1 (slice_index_or descs part d).ports ∷ all_wires wiring (part + 1) (drop n descs)) (sym (add-one part))
    ∙ sym (append_assoc front (wires_from wiring part 1 (slice_index_or descs part d).ports ∷ []) (all_wires wiring (part + 1) (drop (part + 1) descs))))

pub no_more_parts : (wiring : Wiring) (descs : List Desc) (front : List (List Wire)) → front ++ all_wires wiring (length descs) (drop (length descs) descs) ≡ front
no_more_parts wiring descs front = ap (λ (l : List Desc). front ++ all_wires wiring (length descs) l) (drop_of_length-le descs {i = length descs} (omega arith)) ∙ append-nil front
