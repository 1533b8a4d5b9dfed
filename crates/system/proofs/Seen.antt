-- What a machine has of its handles, after a channel has changed.
use Rattle.std.proofs.Common.{◌≡◌, ◌≢◌, ℕ, zero, suc, ◌+◌, ◌-◌, ◌<◌, Bool, true, false, List, [], ◌∷◌, length, drop, map, slice_index_or, slice_set, refl, sym, ap, ◌∙◌, arith, length-append}
use Rattle.std.specs.Prelude.{nat_lt}
use Rattle.std.proofs.lemmas.Bool.{eqb-false}
use Rattle.std.proofs.lemmas.Bool.Decides.{nat_tests}
use Rattle.std.proofs.lemmas.List.{get_or-set_same, get_or-set_other, get_or-map}
use Rattle.byte_channel.specs.declared.side.Side.{Side}
use Rattle.byte_channel.specs.declared.side.Side.TheVariants.{A, B}
use Rattle.byte_channel.specs.Waiting.{Waiting, waiting_at, other_side, empty_channel}
use Rattle.partition.specs.Port.{End, empty_end, end_at, sent_on, taken_on}
use Rattle.system.specs.declared.wire.Wire.{Wire}
use Rattle.system.specs.declared.wire.Wire.TheVariants.{Channel, Send, Receive, Manage}
use Rattle.system.specs.Board.{Lines, end_of, ends_of, no_wire, wire_at, own_wires, own_wire, own_ends, sent_by, taken_by, have_channel, AreWires}

-- ---- lists that differ at one place

pub map_same : {X Y : Type 0} (f g : X → Y) (xs : List X) (d : X) → ((k : ℕ) → k < length xs → f (slice_index_or xs k d) ≡ g (slice_index_or xs k d)) → map f xs ≡ map g xs
map_same f g [] d h = refl
map_same f g (x ∷ xs) d h =
    let tail : map f xs ≡ map g xs = map_same f g xs d (λ k l. h (suc k) (omega arith)) in
    let head : f x ≡ g x = h 0 (omega arith) in
    cc

pub map_but : {X Y : Type 0} (f g : X → Y) (xs : List X) (d : X) (k : ℕ) → k < length xs
    → ((l : ℕ) → l < length xs → l ≢ k → f (slice_index_or xs l d) ≡ g (slice_index_or xs l d)) → map f xs ≡ slice_set (map g xs) k (f (slice_index_or xs k d))
map_but f g [] d k i h = absurd (omega arith)
map_but f g (x ∷ xs) d zero i h = ap (λ ys. f x ∷ ys) (map_same f g xs d (λ l m. h (suc l) (omega arith) (omega arith)))
map_but f g (x ∷ xs) d (suc k) i h =
    let tail : map f xs ≡ slice_set (map g xs) k (f (slice_index_or xs k d)) = map_but f g xs d k (omega arith) (λ l m n. h (suc l) (omega arith) (λ e. n (omega arith))) in
    let head : f x ≡ g x = h 0 (omega arith) (omega arith) in
    cc

-- ---- ends

pub elsewhere : (channels : List Waiting) (running : List Bool) (link : ℕ) (side : Side) (channel : Waiting) (wire : Wire) → have_channel wire (Channel link side) ≡ false
    → end_of (slice_set channels link channel) running wire ≡ end_of channels running wire
elsewhere channels running link side channel (Channel there s) h =
    ap (λ (c : Waiting). let end : End = record { received = waiting_at s c; outstanding = length (waiting_at (other_side s) c); runs = false } in end)
    (get_or-set_other channels link there channel empty_channel (eqb-false there link h))
elsewhere channels running link side channel (Send bell) h = refl
elsewhere channels running link side channel (Receive bell) h = refl
elsewhere channels running link side channel (Manage part) h = refl

-- after a channel has changed: the end of its handle alone
pub changed : (channels : List Waiting) (running : List Bool) (wires : List Wire) (parts handle link : ℕ) (side : Side) (channel : Waiting) → AreWires (length channels) parts wires
    → handle - 1 < length wires → wire_at wires handle ≡ Channel link side
    → ends_of (slice_set channels link channel) running wires ≡ slice_set (ends_of channels running wires) (handle - 1) (end_of (slice_set channels link channel) running (Channel link side))
changed channels running wires parts handle link side channel are there e =
    map_but (end_of (slice_set channels link channel) running) (end_of channels running) wires no_wire (handle - 1) there
    (λ l lt ne. elsewhere channels running link side channel (slice_index_or wires l no_wire) (rw e at (are.apart l (handle - 1) lt there ne)))
    ∙ ap (λ w. slice_set (ends_of channels running wires) (handle - 1) (end_of (slice_set channels link channel) running w)) e

pub end_here : (channels : List Waiting) (running : List Bool) (wires : List Wire) (handle : ℕ) → handle - 1 < length wires
    → end_at (ends_of channels running wires) handle ≡ end_of channels running (wire_at wires handle)
end_here channels running wires handle there = get_or-map (end_of channels running) wires (handle - 1) no_wire empty_end there

tied : (channels : List Waiting) (wires : List Wire) (parts handle link : ℕ) (side : Side) → AreWires (length channels) parts wires → handle - 1 < length wires
    → wire_at wires handle ≡ Channel link side → link < length channels
tied channels wires parts handle link side are there e = let t : nat_lt link (length channels) ≡ true = rw e at (are.tied (handle - 1) there) in grind (arith, nat_tests)

sent_end : (channels : List Waiting) (running : List Bool) (link : ℕ) (side : Side) (bytes : List ℕ) → link < length channels
    → end_of (sent_by channels (Channel link side) bytes) running (Channel link side)
    ≡ record (end_of channels running (Channel link side)) { outstanding = (end_of channels running (Channel link side)).outstanding + length bytes }
sent_end channels running link A bytes h = rw (get_or-set_same channels link _ empty_channel h, length-append) refl
sent_end channels running link B bytes h = rw (get_or-set_same channels link _ empty_channel h, length-append) refl

taken_end : (channels : List Waiting) (running : List Bool) (link : ℕ) (side : Side) (count : ℕ) → link < length channels
    → end_of (taken_by channels (Channel link side) count) running (Channel link side)
    ≡ record (end_of channels running (Channel link side)) { received = drop count (end_of channels running (Channel link side)).received }
taken_end channels running link A count h = rw (get_or-set_same channels link _ empty_channel h) refl
taken_end channels running link B count h = rw (get_or-set_same channels link _ empty_channel h) refl

-- ---- the whole

pub ends_sent : (channels : List Waiting) (running : List Bool) (wires : List Wire) (parts handle link : ℕ) (side : Side) (bytes : List ℕ) → AreWires (length channels) parts wires
    → handle - 1 < length wires → wire_at wires handle ≡ Channel link side
    → ends_of (sent_by channels (Channel link side) bytes) running wires ≡ sent_on (ends_of channels running wires) handle (length bytes)
ends_sent channels running wires parts handle link side bytes are there e =
    let here : end_at (ends_of channels running wires) handle ≡ end_of channels running (Channel link side) = end_here channels running wires handle there ∙ ap (end_of channels running) e in
    changed channels running wires parts handle link side _ are there e
    ∙ ap (slice_set (ends_of channels running wires) (handle - 1))
    (sent_end channels running link side bytes (tied channels wires parts handle link side are there e)
    ∙ ap (λ (end : End). let next : End = record end { outstanding = end.outstanding + length bytes } in next) (sym here))

pub ends_taken : (channels : List Waiting) (running : List Bool) (wires : List Wire) (parts handle link : ℕ) (side : Side) (count : ℕ) → AreWires (length channels) parts wires
    → handle - 1 < length wires → wire_at wires handle ≡ Channel link side
    → ends_of (taken_by channels (Channel link side) count) running wires ≡ taken_on (ends_of channels running wires) handle count
ends_taken channels running wires parts handle link side count are there e =
    let here : end_at (ends_of channels running wires) handle ≡ end_of channels running (Channel link side) = end_here channels running wires handle there ∙ ap (end_of channels running) e in
    changed channels running wires parts handle link side _ are there e
    ∙ ap (slice_set (ends_of channels running wires) (handle - 1))
    (taken_end channels running link side count (tied channels wires parts handle link side are there e)
    ∙ ap (λ (end : End). let next : End = record end { received = drop count end.received } in next) (sym here))

pub seen_sent : (lines : Lines) (parts handle link : ℕ) (side : Side) (bytes : List ℕ) → AreWires (length lines.channels) parts (own_wires lines) → handle - 1 < length (own_wires lines)
    → own_wire lines handle ≡ Channel link side
    → own_ends (record lines { channels = sent_by lines.channels (Channel link side) bytes }) ≡ sent_on (own_ends lines) handle (length bytes)
seen_sent lines parts handle link side bytes are there e = ends_sent lines.channels lines.running (own_wires lines) parts handle link side bytes are there e

pub seen_taken : (lines : Lines) (parts handle link : ℕ) (side : Side) (count : ℕ) → AreWires (length lines.channels) parts (own_wires lines) → handle - 1 < length (own_wires lines)
    → own_wire lines handle ≡ Channel link side
    → own_ends (record lines { channels = taken_by lines.channels (Channel link side) count }) ≡ taken_on (own_ends lines) handle count
seen_taken lines parts handle link side count are there e = ends_taken lines.channels lines.running (own_wires lines) parts handle link side count are there e
