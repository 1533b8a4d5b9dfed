use Rattle.std.proofs.Common.{◌≡◌, ◌<◌, List, [], length, sym, ap, subst, ◌∙◌, arith}
use Rattle.std.proofs.lemmas.Bool.{false≢true}
use Rattle.std.proofs.lemmas.List.{get_or_default}
use Rattle.machine_desc.specs.declared.desc.Region.{Region}
use Rattle.copy_lists.specs.Moving.{AreCopiable, copied}
use Rattle.system.specs.Board.{Lines, regions_at}
use Rattle.system.proofs.Lent.{moves_into, moves_from, left_from}
use Rattle.system.proofs.board.BoardPorts.copy.Goals.{then-to_managed, else-to_managed}
use Rattle.system.proofs.board.BoardPorts.copy.Goals as goal

pub sg_copy-requires-clause-entries : goal.sg_copy-requires-clause-entries
sg_copy-requires-clause-entries c =
    let there : c.managed.result < length c.self.inside.wires.items = subst (λ (ls : Lines). c.managed.result < length ls.wires) (sym c.self.view_is) c.managed.ensures.there in
    let long = c.self.invariant.maps in
    let regions : c.index-managed.result.now ≡ regions_at c.args.self.now.maps c.managed.result =
    c.index-managed.ensures ∙ (get_or_default c.self.inside.maps.items c.managed.result c.index-managed.result.now [] (omega (arith, there, long)) ∙ ap (λ (ls : Lines). regions_at ls.maps c.managed.result) c.self.view_is) in
    subst (λ (to : List Region). AreCopiable c.args.own.now to c.args.list.now) (sym regions)
    (moves_into c.args.self.now c.args.h c.managed.result c.args.own.now c.args.ground.now c.args.list.now c.args.to_managed c.requires.manage c.managed.ensures.managed c.if-to_managed.true c.requires.fits).entries_so

pub sg_copy-requires-else-to_managed-clause-entries : goal.sg_copy-requires-else-to_managed-clause-entries
sg_copy-requires-else-to_managed-clause-entries c =
    let there : c.managed.result < length c.self.inside.wires.items = subst (λ (ls : Lines). c.managed.result < length ls.wires) (sym c.self.view_is) c.managed.ensures.there in
    let long = c.self.invariant.maps in
    let regions : c.index-managed.result.now ≡ regions_at c.args.self.now.maps c.managed.result =
    c.index-managed.ensures ∙ (get_or_default c.self.inside.maps.items c.managed.result c.index-managed.result.now [] (omega (arith, there, long)) ∙ ap (λ (ls : Lines). regions_at ls.maps c.managed.result) c.self.view_is) in
    subst (λ (from : List Region). AreCopiable from c.args.own.now c.args.list.now) (sym regions)
    (moves_from c.args.self.now c.args.h c.managed.result c.args.own.now c.args.ground.now c.args.list.now c.args.to_managed c.requires.manage c.managed.ensures.managed c.if-to_managed.false c.requires.fits).entries_so

pub returns-clause-from : goal.returns-clause-from
returns-clause-from c = λ way.
    let there : c.managed.result < length c.self.inside.wires.items = subst (λ (ls : Lines). c.managed.result < length ls.wires) (sym c.self.view_is) c.managed.ensures.there in
    let long = c.self.invariant.maps in
    let regions : c.index-managed.result.now ≡ regions_at c.args.self.now.maps c.managed.result =
    c.index-managed.ensures ∙ (get_or_default c.self.inside.maps.items c.managed.result c.index-managed.result.now [] (omega (arith, there, long)) ∙ ap (λ (ls : Lines). regions_at ls.maps c.managed.result) c.self.view_is) in
    elim c.if-to_managed.branch [
      | then-to_managed w ↦ absurd (false≢true (sym way ∙ w.if-to_managed.true))
      | else-to_managed w ↦ w.ground-is
          ∙ (w.sg_copy-else-to_managed.ensures.copied
          ∙ (ap (λ (from : List Region). copied from c.args.own.now c.args.list.now c.args.ground.now) regions
          ∙ left_from c.args.self.now c.args.h c.managed.result c.args.own.now c.args.ground.now c.args.list.now c.requires.manage c.managed.ensures.managed
          (moves_from c.args.self.now c.args.h c.managed.result c.args.own.now c.args.ground.now c.args.list.now c.args.to_managed c.requires.manage c.managed.ensures.managed way c.requires.fits)))
    ]
