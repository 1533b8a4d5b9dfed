-- The lines of acts. Each begins with a partition's name and its own step, and ends with one line feed.
use Rattle.std.specs.Prelude.{ℕ, Bool, List, [], ◌++◌, codes, decimal, if◌then◌else◌}
use Rattle.std.specs.Int.{w32, to_be_bytes}
use Rattle.hex.specs.Hex.{encode_lower}
use Rattle.machine_desc.specs.declared.act.Act.{Act}
use Rattle.machine_desc.specs.declared.act.Act.TheVariants as act

-- an effective address as eight hexadecimal digits
abbrev pub address_digits : ℕ → List ℕ
address_digits address = encode_lower (to_be_bytes w32 address)

-- whether memory is loaded anew
abbrev pub load_digit : Bool → List ℕ
load_digit load = if load then codes "1" else codes "0"

-- a deed that needs no handle
abbrev pub own_line : List ℕ → ℕ → List ℕ → List ℕ
own_line name step deed = name ++ (codes " " ++ (decimal step ++ (codes " " ++ (deed ++ codes "\n"))))

-- a deed by a handle
abbrev pub handle_line : List ℕ → ℕ → List ℕ → ℕ → List ℕ
handle_line name step deed handle =
    name ++ (codes " " ++ (decimal step ++ (codes " " ++ (deed ++ (codes " " ++ (decimal handle ++ codes "\n"))))))

-- so many bytes were copied, to or from the partition that the handle manages
abbrev pub copy_line : List ℕ → ℕ → List ℕ → ℕ → ℕ → List ℕ
copy_line name step way handle total =
    name ++ (codes " " ++ (decimal step ++ (codes " copy " ++ (way ++ (codes " " ++ (decimal handle ++ (codes " " ++ (decimal total ++ codes "\n"))))))))

-- these bytes were sent on the handle
abbrev pub sent_line : List ℕ → ℕ → ℕ → List ℕ → List ℕ
sent_line name step handle bytes =
    name ++ (codes " " ++ (decimal step ++ (codes " sent " ++ (decimal handle ++ (codes " " ++ (encode_lower bytes ++ codes "\n"))))))

-- a doorbell was rung
abbrev pub ring_line : List ℕ → ℕ → ℕ → List ℕ
ring_line name step handle = handle_line name step (codes "ring") handle

-- the partition that the handle manages was started at an address, and loaded anew or not
abbrev pub start_line : List ℕ → ℕ → ℕ → ℕ → Bool → List ℕ
start_line name step handle entry load =
    name ++ (codes " " ++ (decimal step ++ (codes " start " ++ (decimal handle ++ (codes " " ++ (address_digits entry ++ (codes " " ++ (load_digit load ++ codes "\n"))))))))

-- the partition that the handle manages was stopped
abbrev pub stop_line : List ℕ → ℕ → ℕ → List ℕ
stop_line name step handle = handle_line name step (codes "stop") handle

-- the partition that the handle manages was restarted
abbrev pub restart_line : List ℕ → ℕ → ℕ → List ℕ
restart_line name step handle = handle_line name step (codes "restart") handle

-- bytes were copied to the partition that the handle manages
abbrev pub copy_to_line : List ℕ → ℕ → ℕ → ℕ → List ℕ
copy_to_line name step handle total = copy_line name step (codes "to") handle total

-- bytes were copied from the partition that the handle manages
abbrev pub copy_from_line : List ℕ → ℕ → ℕ → ℕ → List ℕ
copy_from_line name step handle total = copy_line name step (codes "from") handle total

-- the partition stopped itself
abbrev pub self_stop_line : List ℕ → ℕ → List ℕ
self_stop_line name step = own_line name step (codes "stop self")

-- the partition restarted itself
abbrev pub self_restart_line : List ℕ → ℕ → List ℕ
self_restart_line name step = own_line name step (codes "restart self")

-- the partition met a machine check that it couldn't take, and stopped
abbrev pub faulted_line : List ℕ → ℕ → List ℕ
faulted_line name step = own_line name step (codes "faulted")

-- The line of what a partition did in its own step. What nobody else sees has none, nor has a take, nor a step that
-- couldn't be done.
abbrev pub act_text : List ℕ → ℕ → Act → List ℕ
act_text name step act.None = []
act_text name step (act.Sent handle bytes) = sent_line name step handle bytes.items
act_text name step (act.Took handle count) = []
act_text name step (act.Rang handle) = ring_line name step handle
act_text name step (act.Start handle entry load) = start_line name step handle entry load
act_text name step (act.Stop handle) = stop_line name step handle
act_text name step (act.Restart handle) = restart_line name step handle
act_text name step (act.CopyTo handle total) = copy_to_line name step handle total
act_text name step (act.CopyFrom handle total) = copy_from_line name step handle total
act_text name step act.SelfStop = self_stop_line name step
act_text name step act.SelfRestart = self_restart_line name step
act_text name step act.Faulted = faulted_line name step
