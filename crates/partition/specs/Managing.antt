-- The hypercalls by which a partition starts, stops, restarts and asks after itself and the partitions that it manages: from
-- registers and ends to a reply and an act.
use Rattle.std.specs.Prelude.{ℕ, ◌==◌, Bool, true, not, List, [], ◌∷◌, if◌then◌else◌}
use Rattle.guest_regs.specs.Registers.{Registers, gpr_of}
use Rattle.hcall_abi.specs.declared.status.Status.TheVariants.{Success}
use Rattle.hcall_abi.specs.Status.{code_of, own_handle}
use Rattle.machine_desc.specs.declared.desc.Port.{Port}
use Rattle.partition_manager.specs.declared.decision.Decision.{Decision}
use Rattle.partition_manager.specs.declared.decision.Decision.TheVariants.{Go, Refuse}
use Rattle.partition_manager.specs.Decisions.{is_manage_at, decide_start, decide_stop, decide_restart, decide_status}
use Rattle.partition.specs.Port.{End, end_at}
use Rattle.partition.specs.Act.{Act, Nothing, Start, Stop, Restart, SelfStop, SelfRestart}
use Rattle.partition.specs.Channels.{Served}
use Rattle.partition.specs.Interrupts.{granted}

-- whether the partition that a handle names runs: a managed one by what its manager knows, and the caller itself does
abbrev pub runs_at : List Port → List End → ℕ → Bool
runs_at ports ends handle = if is_manage_at ports handle then (end_at ends handle).runs else true

-- what a call gets by its decision
abbrev pub decided : Decision → Served → Served
decided Go served = served
decided (Refuse status) served = record { reply = record { status = status; outs = [] }; act = Nothing }

abbrev pub commanding : Act → Served
commanding act = record granted { act = act }

-- one act for the caller itself, and one for a partition that it manages
abbrev pub own_or : ℕ → Act → Act → Act
own_or handle own managed = if handle == own_handle then own else managed

-- Start the partition r3 at the effective address r4; its memory is loaded anew unless r5 is 0.
unfoldable pub start : List Port → Registers → List End → Served
start ports registers ends =
    let handle = gpr_of registers 3 in
    let entry = gpr_of registers 4 in
    decided (decide_start ports handle entry (runs_at ports ends handle)) (commanding (Start handle entry (not (gpr_of registers 5 == 0))))

-- Stop the partition r3.
unfoldable pub stop : List Port → Registers → List End → Served
stop ports registers ends =
    let handle = gpr_of registers 3 in
    decided (decide_stop ports handle (runs_at ports ends handle)) (commanding (own_or handle SelfStop (Stop handle)))

-- Restart the partition r3.
unfoldable pub restart : List Port → Registers → List End → Served
restart ports registers ends =
    let handle = gpr_of registers 3 in
    decided (decide_restart ports handle (runs_at ports ends handle)) (commanding (own_or handle SelfRestart (Restart handle)))

-- Of the partition r3: r4 is 1 where it runs, else 0.
unfoldable pub get_status : List Port → Registers → List End → Served
get_status ports registers ends =
    let handle = gpr_of registers 3 in
    decided (decide_status ports handle)
    (record { reply = record { status = code_of Success; outs = (if runs_at ports ends handle then 1 else 0) ∷ [] }; act = Nothing })
