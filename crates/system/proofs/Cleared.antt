-- Channel ends from which all that waits was dropped, one after the other.
use Rattle.std.proofs.Common.{◌≡◌, ℕ, ◌+◌, ◌<◌, List, drop, drop-cons, drop_of_length-le, add-one, length, slice_index_or, sym, ap, ◌∙◌, arith}
use Rattle.byte_channel.specs.Waiting.{Waiting}
use Rattle.system.specs.declared.wire.Wire.{Wire}
use Rattle.system.specs.Board.{no_wire, cleared_by, all_cleared}

pub one_more_cleared : (wires : List Wire) (place : ℕ) (channels : List Waiting) → place < length wires
    → all_cleared (drop (place + 1) wires) (cleared_by channels (slice_index_or wires place no_wire)) ≡ all_cleared (drop place wires) channels
one_more_cleared wires place channels there =
    ap (λ (n : ℕ). all_cleared (drop n wires) (cleared_by channels (slice_index_or wires place no_wire))) (add-one place)
    ∙ ap (λ (l : List Wire). all_cleared l channels) (sym (drop-cons wires place no_wire there))

pub no_more_cleared : (wires : List Wire) (place : ℕ) (channels : List Waiting) → place ≡ length wires → all_cleared (drop place wires) channels ≡ channels
no_more_cleared wires place channels last = ap (λ (l : List Wire). all_cleared l channels) (drop_of_length-le wires {i = place} (omega (arith, last)))
