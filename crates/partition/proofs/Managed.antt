-- What a decision to go says of the handle and of the partition that it names.
use Rattle.std.proofs.Common.{◌≡◌, ℕ, ◌%◌, ◌==◌, nat_lt, Bool, true, false, cond, List, Some, refl, sym, ap, subst, ◌∙◌}
use Rattle.std.proofs.lemmas.Bool.{and_parts, cond-true, eqb-true}
use Rattle.guest_regs.specs.Registers.{Registers}
use Rattle.hcall_abi.specs.declared.call.Call.{Call}
use Rattle.hcall_abi.specs.declared.call.Call.TheVariants as call
use Rattle.hcall_abi.specs.Status.{own_handle}
use Rattle.vpic.specs.Controller.{Controller}
use Rattle.machine_desc.specs.declared.desc.Port.{Port}
use Rattle.machine_desc.specs.Limits.{mapped_end}
use Rattle.machine_desc.specs.declared.act.Act.{Act as Told}
use Rattle.partition_manager.specs.declared.decision.Decision.TheVariants.{Go}
use Rattle.partition_manager.specs.Decisions.{is_manage_at, decide_start, decide_stop, decide_restart}
use Rattle.partition_manager.proofs.Named.{Goes, managed_sort, start_goes, stop_goes, restart_goes, named_is_managed}
use Rattle.partition.specs.declared.kind.Kind.{Kind}
use Rattle.partition.specs.declared.kind.Kind.TheVariants.{Manage}
use Rattle.partition.specs.Lending.{HasHandle}
use Rattle.partition.specs.Port.{End, kind_of, kinds_of, kind_at, end_at}
use Rattle.partition.specs.Act.{Act}
use Rattle.partition.specs.Channels.{Served}
use Rattle.partition.specs.Machine.{Cpu}
use Rattle.partition.specs.Managing.{runs_at, stop, restart}
use Rattle.partition.specs.Step.{managed, obeying}

-- a handle of a managed partition is of that kind
pub manage_kind : (ports : List Port) (handle : ℕ) → is_manage_at ports handle ≡ true → kind_at (kinds_of ports) handle ≡ Some Manage
manage_kind ports handle h = managed_sort kind_of Manage (λ part held private. refl) ports handle h

-- what doesn't run is a managed partition
stopped : (managed : Bool) (runs : Bool) → cond managed runs true ≡ false → (managed ≡ true) × (runs ≡ false)
stopped true runs e = (refl, e)
stopped false runs e = absurd (cc)

-- what a manager may command, and what it knows of the partition
pub record Manages (ports : List Port) (ends : List End) (handle : ℕ) (runs : Bool) : Type 0 where
  pub kind : kind_at (kinds_of ports) handle ≡ Some Manage
  pub state : (end_at ends handle).runs ≡ runs

pub starts_aligned : (ports : List Port) (handle entry : ℕ) (running : Bool) → decide_start ports handle entry running ≡ Go → entry % 4 ≡ 0
starts_aligned ports handle entry running e =
    eqb-true (entry % 4) 0 (and_parts (entry % 4 == 0) (nat_lt entry mapped_end) (start_goes ports handle entry running e).1).0

pub starts : (ports : List Port) (ends : List End) (handle entry : ℕ) → decide_start ports handle entry (runs_at ports ends handle) ≡ Go → Manages ports ends handle false
starts ports ends handle entry e =
    let known = stopped (is_manage_at ports handle) (end_at ends handle).runs (start_goes ports handle entry (runs_at ports ends handle) e).0.state in
    record { kind = manage_kind ports handle known.0; state = known.1 }

-- a partition that is named and isn't the caller itself
commands : (ports : List Port) (ends : List End) (handle : ℕ) → Goes ports handle (runs_at ports ends handle) true → (handle == own_handle) ≡ false → Manages ports ends handle true
commands ports ends handle goes other =
    let managed : is_manage_at ports handle ≡ true = named_is_managed ports handle goes.named other in
    record { kind = manage_kind ports handle managed; state = sym (cond-true (is_manage_at ports handle) (end_at ends handle).runs true managed) ∙ goes.state }

pub stops : (ports : List Port) (ends : List End) (handle : ℕ) → decide_stop ports handle (runs_at ports ends handle) ≡ Go → (handle == own_handle) ≡ false → Manages ports ends handle true
stops ports ends handle e other = commands ports ends handle (stop_goes ports handle (runs_at ports ends handle) e) other

pub restarts : (ports : List Port) (ends : List End) (handle : ℕ) → decide_restart ports handle (runs_at ports ends handle) ≡ Go → (handle == own_handle) ≡ false → Manages ports ends handle true
restarts ports ends handle e other = commands ports ends handle (restart_goes ports handle (runs_at ports ends handle) e) other

-- the handle of an act on the caller itself or on a partition that it manages
pub own_kind : (kinds : List Kind) (handle : ℕ) (own managed act : Told) → act ≡ cond (handle == own_handle) own managed → HasHandle kinds own → ((handle == own_handle) ≡ false → HasHandle kinds managed)
    → HasHandle kinds act
own_kind kinds handle own managed act e h k = subst (HasHandle kinds) (sym e) (either (handle == own_handle) refl)
  where
    either : (b : Bool) → (handle == own_handle) ≡ b → HasHandle kinds (cond b own managed)
    either true f = h
    either false f = k f

-- ---- calls that may be on the caller itself

pub stops_so : (ports : List Port) (service : Call) (cpu left : Cpu) (registers : Registers) (interrupts : Controller) (ends : List End) (it : Served) (act : Act) → service ≡ call.Stop → registers ≡ cpu.registers
    → stop ports registers ends ≡ it → ((controller : Controller) → obeying it cpu controller ≡ record { cpu = left; interrupts = controller; act = act })
    → managed ports service cpu interrupts ends ≡ record { cpu = left; interrupts = interrupts; act = act }
unfolding managed
stops_so ports service cpu left registers interrupts ends it act is same served obeyed =
    ap (λ (c : Call). managed ports c cpu interrupts ends) is
    ∙ (ap (λ (rs : Registers). obeying (stop ports rs ends) cpu interrupts) (sym same)
    ∙ (ap (λ (s : Served). obeying s cpu interrupts) served ∙ obeyed interrupts))

pub restarts_so : (ports : List Port) (service : Call) (cpu left : Cpu) (registers : Registers) (interrupts : Controller) (ends : List End) (it : Served) (act : Act) → service ≡ call.Restart → registers ≡ cpu.registers
    → restart ports registers ends ≡ it → ((controller : Controller) → obeying it cpu controller ≡ record { cpu = left; interrupts = controller; act = act })
    → managed ports service cpu interrupts ends ≡ record { cpu = left; interrupts = interrupts; act = act }
unfolding managed
restarts_so ports service cpu left registers interrupts ends it act is same served obeyed =
    ap (λ (c : Call). managed ports c cpu interrupts ends) is
    ∙ (ap (λ (rs : Registers). obeying (restart ports rs ends) cpu interrupts) (sym same)
    ∙ (ap (λ (s : Served). obeying s cpu interrupts) served ∙ obeyed interrupts))
