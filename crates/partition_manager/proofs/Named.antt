-- What a decision says of the handle, and what a managed partition's handle is by whatever is read of handles.
use Rattle.std.proofs.Common.{◌≡◌, ℕ, ◌-◌, ◌==◌, Bool, true, false, not, ◌&&◌, cond, if◌then◌else◌, List, map, Option, Some, None, refl, ap, ◌∙◌, arith}
use Rattle.std.specs.List.{slice_get}
use Rattle.std.specs.Option.{option_map, option_map_or}
use Rattle.std.proofs.lemmas.Option.{slice_get-map}
use Rattle.machine_desc.specs.declared.desc.Port.{Port}
use Rattle.machine_desc.specs.declared.desc.Port.TheVariants.{Channel, Send, Receive, Manage}
use Rattle.machine_desc.specs.declared.desc.Span.{Span}
use Rattle.hcall_abi.specs.Status.{own_handle}
use Rattle.hcall_abi.specs.declared.status.Status.TheVariants.{InvalidArgument, InvalidState}
use Rattle.partition_manager.specs.declared.decision.Decision.TheVariants.{Go}
use Rattle.partition_manager.specs.Decisions.{is_manage, port_at, is_manage_at, names_partition, is_entry, refused, decide_start, decide_stop, decide_restart}

-- ---- handles by what is read of them

-- what is read of the handle, where there is one
abbrev pub sort_at : {X : Type 0} → List X → ℕ → Option X
sort_at sorts handle = if handle == 0 then None else slice_get sorts (handle - 1)

-- of a handle the same is read as of its port
pub sort_of_port : {X : Type 0} (sort : Port → X) (ports : List Port) (handle : ℕ) → sort_at (map sort ports) handle ≡ option_map sort (port_at ports handle)
sort_of_port sort ports handle = by_zero (handle == 0)
  where
    by_zero : (none : Bool) → cond none None (slice_get (map sort ports) (handle - 1)) ≡ option_map sort (cond none None (slice_get ports (handle - 1)))
    by_zero true = refl
    by_zero false = slice_get-map sort ports (handle - 1)

-- The handle of a managed partition is of the sort that all such ports are.
pub managed_sort : {X : Type 0} (sort : Port → X) (managed : X) → ((part : ℕ) (held : Bool) (private : List Span) → sort (Manage part held private) ≡ managed) → (ports : List Port) (handle : ℕ)
    → is_manage_at ports handle ≡ true → sort_at (map sort ports) handle ≡ Some managed
managed_sort sort managed same ports handle is = sort_of_port sort ports handle ∙ by_port (port_at ports handle) is
  where
    by_port : (found : Option Port) → option_map_or is_manage found false ≡ true → option_map sort found ≡ Some managed
    by_port None is = absurd (cc)
    by_port (Some (Manage part held private)) is = ap Some (same part held private)
    by_port (Some (Channel rx tx)) is = absurd (cc)
    by_port (Some Send) is = absurd (cc)
    by_port (Some (Receive irq)) is = absurd (cc)

-- ---- what a decision to go says

-- the handle names a partition, which runs or doesn't
pub record Goes (ports : List Port) (handle : ℕ) (running wanted : Bool) : Type 0 where
  pub named : names_partition ports handle ≡ true
  pub state : running ≡ wanted

running_goes : (named running : Bool) → cond (not named) (refused InvalidArgument) (cond (not running) (refused InvalidState) Go) ≡ Go → (named ≡ true) × (running ≡ true)
running_goes true true goes = (refl, refl)
running_goes true false goes = absurd (cc)
running_goes false running goes = absurd (cc)

pub stop_goes : (ports : List Port) (handle : ℕ) (running : Bool) → decide_stop ports handle running ≡ Go → Goes ports handle running true
unfolding decide_stop
stop_goes ports handle running goes =
    let (named, state) = running_goes (names_partition ports handle) running goes in record { named = named; state = state }

pub restart_goes : (ports : List Port) (handle : ℕ) (running : Bool) → decide_restart ports handle running ≡ Go → Goes ports handle running true
unfolding decide_restart
restart_goes ports handle running goes =
    let (named, state) = running_goes (names_partition ports handle) running goes in record { named = named; state = state }

stopped_goes : (named entry running : Bool) → cond (not (named && entry)) (refused InvalidArgument) (cond running (refused InvalidState) Go) ≡ Go → (named ≡ true) × ((running ≡ false) × (entry ≡ true))
stopped_goes true true false goes = (refl, (refl, refl))
stopped_goes true true true goes = absurd (cc)
stopped_goes true false running goes = absurd (cc)
stopped_goes false entry running goes = absurd (cc)

-- of a start the entry is one where a partition may start, too
pub start_goes : (ports : List Port) (handle entry : ℕ) (running : Bool) → decide_start ports handle entry running ≡ Go → Goes ports handle running false × (is_entry entry ≡ true)
unfolding decide_start
start_goes ports handle entry running goes =
    let (named, (state, may)) = stopped_goes (names_partition ports handle) (is_entry entry) running goes in (record { named = named; state = state }, may)

-- one that isn't the caller itself is a managed one
pub named_is_managed : (ports : List Port) (handle : ℕ) → names_partition ports handle ≡ true → (handle == own_handle) ≡ false → is_manage_at ports handle ≡ true
named_is_managed ports handle named other = grind arith
