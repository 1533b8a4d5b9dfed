use Rattle.std.proofs.Common.{◌≡◌, ℕ, ◌≤◌, Bool, List, ap, sym, subst, ◌∙◌}
use Rattle.copy_lists.specs.declared.list.SgEntry.{SgEntry}
use Rattle.partition.specs.declared.kind.Kind.{Kind}
use Rattle.partition.specs.Port.{kind_at, kinds_of}
use Rattle.ground.specs.Own.{own_of}
use Rattle.fresh_load.specs.Placed.{extents_of}
use Rattle.partition_manager.specs.declared.decision.Decision.{Decision}
use Rattle.copy_lists.specs.Moving.{byte_in}
use Rattle.copy_lists.specs.Lists.{most_bytes, total, is_to_managed, managed_handle, managed_spans, asked_entries, decided_entries}
use Rattle.partition.specs.Regions.{areas_of}
use Rattle.partition.specs.Machine.{shape_of}
use Rattle.partition.specs.Copying.{own_byte, asked_copy}
use Rattle.partition.proofs.OwnBytes.{listed_so, decided_so}
use Rattle.partition.specs.Act.{act_of}
use Rattle.machine_desc.specs.declared.desc.Desc.{Desc}
use Rattle.machine_desc.specs.declared.desc.Region.{Region}
use Rattle.partition.specs.Lending.{CopyFits, Kit, pieces_of}
use Rattle.partition.proofs.Copies.{copy_goes, copy_manages, copy_fits, private_so, refused_served, refused_memory, refused_copy}
use Rattle.machine_desc.proofs.Parts.{sound_regions}
use Rattle.partition.proofs.Managed.{manage_kind}
use Rattle.partition.proofs.Lent.{nothing_lent}
use Rattle.copy_lists.specs.Pieces.{sources_of}
use Rattle.partition.proofs.Carried.{renamed, served_so}
use Rattle.partition.proofs.Copied.{own_after}
use Rattle.partition.proofs.copier.Copier.copy.Goals as goal

pub carry_out-requires-clause-few : goal.carry_out-requires-clause-few
carry_out-requires-clause-few g c =
    let goes = decided_so c.args.desc.now c.args.regs.now c.args.ground.now ∙ sym c.sg_check.ensures.decision ∙ c.in-Go.is in
    let known = copy_goes (shape_of c.args.desc.now) c.args.regs.now (own_of (extents_of c.args.desc.now.regions) c.args.ground.now) goes in
    let list : c.sg_check.new.list ≡ asked_entries c.args.regs.now (own_byte (areas_of c.args.desc.now.regions) (own_of (extents_of c.args.desc.now.regions) c.args.ground.now)) =
    listed_so c.args.desc.now c.args.regs.now c.args.ground.now c.sg_check.new.list c.sg_check.result c.sg_check.ensures.decision c.sg_check.ensures.entries
    ∙ ap (λ (d : Decision). decided_entries d (asked_entries c.args.regs.now (own_byte (areas_of c.args.desc.now.regions) (own_of (extents_of c.args.desc.now.regions) c.args.ground.now)))) goes in
    subst (λ (entries : List SgEntry). total entries ≤ most_bytes) (sym list) known.few

pub carry_out-requires-clause-manage : goal.carry_out-requires-clause-manage
carry_out-requires-clause-manage g c =
    let goes = decided_so c.args.desc.now c.args.regs.now c.args.ground.now ∙ sym c.sg_check.ensures.decision ∙ c.in-Go.is in
    let known = copy_goes (shape_of c.args.desc.now) c.args.regs.now (own_of (extents_of c.args.desc.now.regions) c.args.ground.now) goes in
    ap (λ (kinds : List Kind). kind_at kinds c.managed_handle.result) c.requires.kinds ∙ ap (kind_at (kinds_of c.args.desc.now.ports)) c.managed_handle.ensures ∙ manage_kind c.args.desc.now.ports _ (copy_manages c.args.desc.now.ports c.args.regs.now known.asked)

pub carry_out-requires-clause-fits : goal.carry_out-requires-clause-fits
carry_out-requires-clause-fits g c =
    let desc : Desc = c.args.desc.now in
    let memory : List (List ℕ) = c.args.ground.now in
    let goes = decided_so desc c.args.regs.now memory ∙ sym c.sg_check.ensures.decision ∙ c.in-Go.is in
    let list : c.sg_check.new.list ≡ asked_entries c.args.regs.now (byte_in desc.regions memory) =
    c.sg_check.ensures.entries ∙ ap (λ (d : Decision). decided_entries d (asked_entries c.args.regs.now (byte_in desc.regions memory))) c.in-Go.is in
    let map : c.self.inside.map ≡ desc.regions = ap (λ (kit : Kit). kit.map) c.self.view_is ∙ c.requires.map in
    let whole = copy_fits (g.P.Ports.told c.args.ports.now (managed_handle c.args.regs.now)) desc.regions (managed_spans desc.ports (managed_handle c.args.regs.now)) memory (is_to_managed c.args.regs.now) (asked_entries c.args.regs.now (byte_in desc.regions memory))
    (sound_regions desc c.requires.sound) c.requires.placed (c.requires.told (managed_handle c.args.regs.now)) (private_so desc c.args.regs.now memory goes) in
    subst (λ (h : ℕ). CopyFits (g.P.Ports.told c.args.ports.now h) c.self.inside.map memory c.is_to_managed.result c.sg_check.new.list) (sym c.managed_handle.ensures)
    (subst (λ (to : Bool). CopyFits (g.P.Ports.told c.args.ports.now (managed_handle c.args.regs.now)) c.self.inside.map memory to c.sg_check.new.list) (sym c.is_to_managed.ensures)
    (subst (λ (own : List Region). CopyFits (g.P.Ports.told c.args.ports.now (managed_handle c.args.regs.now)) own memory (is_to_managed c.args.regs.now) c.sg_check.new.list) (sym map)
    (subst (λ (entries : List SgEntry). CopyFits (g.P.Ports.told c.args.ports.now (managed_handle c.args.regs.now)) desc.regions memory (is_to_managed c.args.regs.now) entries) (sym list) whole)))

pub returns-in-Go-clause-served : goal.returns-in-Go-clause-served
returns-in-Go-clause-served g c =
    let desc : Desc = c.args.desc.now in
    let memory : List (List ℕ) = c.args.ground.now in
    let map : c.self.inside.map ≡ desc.regions = ap (λ (kit : Kit). kit.map) c.self.view_is ∙ c.requires.map in
    let list = listed_so desc c.args.regs.now memory c.sg_check.new.list c.sg_check.result c.sg_check.ensures.decision c.sg_check.ensures.entries in
    let goes = decided_so desc c.args.regs.now memory ∙ sym c.sg_check.ensures.decision ∙ c.in-Go.is in
    let done = renamed g.P.Ports.kinds g.P.Ports.seen g.P.Ports.sends g.P.Ports.takes g.P.Ports.copies g.P.Ports.told g.P.Ports.last (g.P.Ports.feed c.args.ports.now memory) c.managed_handle.result c.is_to_managed.result c.sg_check.new.list (asked_copy (shape_of desc) c.args.regs.now (own_of (extents_of desc.regions) memory)) c.self.inside.map desc.regions memory c.carry_out.new.ground c.carry_out.result.act c.args.ports.now c.carry_out.new.ports c.managed_handle.ensures c.is_to_managed.ensures list map c.carry_out.ensures.done in
    served_so desc c.args.regs.now memory _ _ goes c.carry_out.ensures.reply done.act

pub returns-in-Go-clause-lent : goal.returns-in-Go-clause-lent
returns-in-Go-clause-lent g c =
    let desc : Desc = c.args.desc.now in
    let memory : List (List ℕ) = c.args.ground.now in
    let map : c.self.inside.map ≡ desc.regions = ap (λ (kit : Kit). kit.map) c.self.view_is ∙ c.requires.map in
    let list = listed_so desc c.args.regs.now memory c.sg_check.new.list c.sg_check.result c.sg_check.ensures.decision c.sg_check.ensures.entries in
    let done = renamed g.P.Ports.kinds g.P.Ports.seen g.P.Ports.sends g.P.Ports.takes g.P.Ports.copies g.P.Ports.told g.P.Ports.last (g.P.Ports.feed c.args.ports.now memory) c.managed_handle.result c.is_to_managed.result c.sg_check.new.list (asked_copy (shape_of desc) c.args.regs.now (own_of (extents_of desc.regions) memory)) c.self.inside.map desc.regions memory c.carry_out.new.ground c.carry_out.result.act c.args.ports.now c.carry_out.new.ports c.managed_handle.ensures c.is_to_managed.ensures list map c.carry_out.ensures.done in
    done.lent

pub returns-in-Go-clause-list : goal.returns-in-Go-clause-list
returns-in-Go-clause-list g c =
    ap (λ it. it.list) c.carry_out.ensures.kept ∙ listed_so c.args.desc.now c.args.regs.now c.args.ground.now c.sg_check.new.list c.sg_check.result c.sg_check.ensures.decision c.sg_check.ensures.entries

pub returns-in-Refuse-clause-list : goal.returns-in-Refuse-clause-list
returns-in-Refuse-clause-list g c =
    listed_so c.args.desc.now c.args.regs.now c.args.ground.now c.sg_check.new.list c.sg_check.result c.sg_check.ensures.decision c.sg_check.ensures.entries

pub returns-in-Refuse-clause-served : goal.returns-in-Refuse-clause-served
returns-in-Refuse-clause-served g c =
    let pieces = pieces_of c.args.desc.now.regions c.args.ground.now (g.P.Ports.last c.args.ports.now) in
    refused_served (shape_of c.args.desc.now) c.args.regs.now (own_of (extents_of c.args.desc.now.regions) c.args.ground.now) c.in-Refuse.status
    (decided_so c.args.desc.now c.args.regs.now c.args.ground.now ∙ sym c.sg_check.ensures.decision ∙ c.in-Refuse.is)
    ∙ (λ i. record { reply = sym c.refusing.ensures.reply i; act = ap (act_of pieces) (sym c.refusing.ensures.act) i })

pub returns-in-Refuse-clause-memory : goal.returns-in-Refuse-clause-memory
returns-in-Refuse-clause-memory g c =
    sym (refused_memory (shape_of c.args.desc.now) c.args.regs.now (own_of (extents_of c.args.desc.now.regions) c.args.ground.now) c.in-Refuse.status (g.P.Ports.feed c.args.ports.now c.args.ground.now)
    (decided_so c.args.desc.now c.args.regs.now c.args.ground.now ∙ sym c.sg_check.ensures.decision ∙ c.in-Refuse.is))

pub returns-in-Refuse-clause-lent : goal.returns-in-Refuse-clause-lent
returns-in-Refuse-clause-lent g c =
    nothing_lent g.P.Ports.kinds g.P.Ports.seen g.P.Ports.sends g.P.Ports.takes g.P.Ports.copies g.P.Ports.told g.P.Ports.last _ c.args.ground.now c.refusing.result.act c.args.ports.now c.refusing.ensures.act
    (refused_copy (shape_of c.args.desc.now) c.args.regs.now (own_of (extents_of c.args.desc.now.regions) c.args.ground.now) c.in-Refuse.status
    (decided_so c.args.desc.now c.args.regs.now c.args.ground.now ∙ sym c.sg_check.ensures.decision ∙ c.in-Refuse.is))

pub returns-in-Go-clause-memory : goal.returns-in-Go-clause-memory
returns-in-Go-clause-memory g c =
    let desc : Desc = c.args.desc.now in
    let memory : List (List ℕ) = c.args.ground.now in
    let map : c.self.inside.map ≡ desc.regions = ap (λ (kit : Kit). kit.map) c.self.view_is ∙ c.requires.map in
    let list = listed_so desc c.args.regs.now memory c.sg_check.new.list c.sg_check.result c.sg_check.ensures.decision c.sg_check.ensures.entries in
    let it = asked_copy (shape_of desc) c.args.regs.now (own_of (extents_of desc.regions) memory) in
    let done = renamed g.P.Ports.kinds g.P.Ports.seen g.P.Ports.sends g.P.Ports.takes g.P.Ports.copies g.P.Ports.told g.P.Ports.last (g.P.Ports.feed c.args.ports.now memory) c.managed_handle.result c.is_to_managed.result c.sg_check.new.list it c.self.inside.map desc.regions memory c.carry_out.new.ground c.carry_out.result.act c.args.ports.now c.carry_out.new.ports c.managed_handle.ensures c.is_to_managed.ensures list map c.carry_out.ensures.done in
    own_after g.P.Ports.kinds g.P.Ports.seen g.P.Ports.sends g.P.Ports.takes g.P.Ports.copies g.P.Ports.told g.P.Ports.last it desc.regions (g.P.Ports.feed c.args.ports.now memory it.handle (sources_of it.entries)) memory c.carry_out.new.ground c.carry_out.result.act c.args.ports.now c.carry_out.new.ports (sound_regions desc c.requires.sound) done
