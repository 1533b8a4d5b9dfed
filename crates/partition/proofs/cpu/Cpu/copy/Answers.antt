use Rattle.std.proofs.Common.{◌≡◌, ℕ, Bool, cond, List, [], refl, ap, sym, subst, ◌∙◌}
use Rattle.guest_regs.specs.Registers.{Registers}
use Rattle.hcall_abi.specs.Reply.{Reply, reply_of}
use Rattle.ground.specs.Own.{own_of}
use Rattle.fresh_load.specs.Placed.{extents_of}
use Rattle.copy_lists.specs.declared.list.SgEntry.{SgEntry}
use Rattle.copy_lists.specs.Lists.{is_to_managed}
use Rattle.copy_lists.specs.Pieces.{Piece, sources_of, targets_of, all_put}
use Rattle.partition.specs.Act.{HasTotal, act_of}
use Rattle.partition.specs.Channels.{Served}
use Rattle.partition.specs.Machine.{Cpu, Shape, shape_of}
use Rattle.partition.specs.Reservations.{with_copied}
use Rattle.partition.specs.Copying.{Copy, own_regions, asked_copy, copy, copied_in, copied_at}
use Rattle.partition.specs.Step.{answered}
use Rattle.partition.specs.Lending.{pieces_of}
use Rattle.partition.proofs.cpu.Cpu.copy.Goals as goal

pub returns-clause-copied : goal.returns-clause-copied
returns-clause-copied g c interrupts =
    let shape : Shape = shape_of c.args.desc.now in
    let own : List (List ℕ) = own_of (extents_of c.args.desc.now.regions) c.args.ground.now in
    let old : Cpu = c.args.self.now in
    let regs : c.regs-2.result.now ≡ old.registers = c.regs-2.ensures ∙ ap (λ (cpu : Cpu). cpu.registers) c.self.view_is in
    let it : Copy = asked_copy shape old.registers own in
    let pieces : List Piece = pieces_of c.args.desc.now.regions c.copy-served.new.ground (g.P.Ports.last c.copy-served.new.ports) in
    let told : Served = record { reply = reply_of c.copy-served.result.reply; act = act_of pieces c.copy-served.result.act } in
    let served : copy shape old.registers own ≡ told = ap (λ (r : Registers). copy shape r own) (sym regs) ∙ c.copy-served.ensures.served in
    let way : c.is_to_managed-to_managed.result ≡ it.to_managed = c.is_to_managed-to_managed.ensures ∙ ap is_to_managed (c.regs.ensures ∙ ap (λ (cpu : Cpu). cpu.registers) c.self.view_is) in
    let list : c.copy-served.new.self.list ≡ it.entries = c.copy-served.ensures.list ∙ ap (λ (r : Registers). (asked_copy shape r own).entries) regs in
    let left : with_copied (copied_at it) old ≡ c.lose_copied.new.self =
    sym (c.lose_copied.ensures ∙ ap (λ (to : Bool). with_copied (cond to [] (targets_of c.copy-served.new.self.list)) old) way ∙ ap (λ (entries : List SgEntry). with_copied (cond it.to_managed [] (targets_of entries)) old) list) in
    let reply : (copy shape old.registers own).reply ≡ told.reply = ap (λ (s : Served). s.reply) served in
    record {
      cpu = ap (λ (r : Reply). answered r (with_copied (copied_at it) old)) reply ∙ ap (answered told.reply) left ∙ sym c.answer.ensures.answered;
      interrupts = refl;
      memory = sym (c.copy-served.ensures.memory ∙ ap (λ (r : Registers). all_put (own_regions shape.areas) (copied_in (asked_copy shape r own) (g.P.Ports.feed c.args.ports.now c.args.ground.now (asked_copy shape r own).handle (sources_of (asked_copy shape r own).entries))) own) regs);
      act = ap (λ (s : Served). s.act) served ∙ ap (act_of pieces) (sym c.answer.ensures.act);
      total = subst (HasTotal pieces) (sym c.answer.ensures.act) c.copy-served.ensures.total;
      shared = refl;
    }
