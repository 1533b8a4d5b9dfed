use Rattle.std.proofs.Common.{◌≡◌, ◌-◌, ◌^◌, min, List, sym, ap, ◌∙◌, arith}
use Rattle.copy_lists.specs.declared.list.SgEntry.{SgEntry}
use Rattle.copy_lists.specs.Lists.{total}
use Rattle.copy_lists.specs.Pieces.{sources_of, pieces_in, all_put}
use Rattle.partition.specs.Copying.{Copy}
use Rattle.partition.specs.Lending.{Kit, written_into}
use Rattle.partition.proofs.Copied.{not_zero, copied_nothing, copied_either}
use Rattle.partition.proofs.copier.Copier.carry_out.Goals as goal

pub returns-then-total-eq0-clause-done : goal.returns-then-total-eq0-clause-done
returns-then-total-eq0-clause-done g c =
    let it : Copy = record { handle = c.args.h; to_managed = c.args.to_managed; entries = c.args.self.now.list } in
    let list : c.self.inside.list ≡ c.args.self.now.list = ap (λ (kit : Kit). kit.list) c.self.view_is in
    let counted : c.total-total.result ≡ total c.args.self.now.list = omega (arith, c.total-total.ensures ∙ ap (λ (entries : List SgEntry). min (total entries) (2 ^ 64 - 1)) list, c.requires.few) in
    copied_nothing g.P.Ports.kinds g.P.Ports.seen g.P.Ports.sends g.P.Ports.takes g.P.Ports.copies g.P.Ports.told g.P.Ports.last it c.args.self.now.map _ c.args.ground.now c.commanding.result.act c.args.ports.now
    (sym counted ∙ c.if-total-eq0.true) c.commanding.ensures.act

pub returns-clause-done : goal.returns-clause-done
returns-clause-done g c =
    let it : Copy = record { handle = c.args.h; to_managed = c.args.to_managed; entries = c.args.self.now.list } in
    let list : c.self.inside.list ≡ c.args.self.now.list = ap (λ (kit : Kit). kit.list) c.self.view_is in
    let map : c.self.inside.map ≡ c.args.self.now.map = ap (λ (kit : Kit). kit.map) c.self.view_is in
    let counted : c.total-total.result ≡ total c.args.self.now.list = omega (arith, c.total-total.ensures ∙ ap (λ (entries : List SgEntry). min (total entries) (2 ^ 64 - 1)) list, c.requires.few) in
    copied_either g.P.Ports.kinds g.P.Ports.seen g.P.Ports.sends g.P.Ports.takes g.P.Ports.copies g.P.Ports.told g.P.Ports.last it c.args.self.now.map
    (g.P.Ports.feed c.args.ports.now c.args.ground.now c.args.h (sources_of c.args.self.now.list)) c.args.ground.now c.copy.new.ground c.total-total.result c.args.ports.now c.copy.new.self c.commanding-2.result.act
    (not_zero (total c.args.self.now.list) (λ none. c.if-total-eq0.false (counted ∙ none))) counted (c.commanding-2.ensures.act ∙ c.copy_act.ensures) c.requires.fits
    (
    λ to.
    c.copy.ensures.into to
    ∙ (λ i. written_into (g.P.Ports.told c.args.ports.now c.args.h) (map i) (list i) c.args.ground.now)
    )
    (
    λ out.
    c.copy.ensures.from out
    ∙ (λ i. all_put (map i) (pieces_in (list i) (g.P.Ports.feed c.args.ports.now c.args.ground.now c.args.h (sources_of (list i)))) c.args.ground.now)
    )
    (record {
      handle = c.requires.manage;
      seen_so = c.copy.ensures.seen;
      same = c.copy.ensures.kinds;
      told_so = c.copy.ensures.told;
      last = c.copy.ensures.last ∙ (λ i. record { handle = c.args.h; to_managed = c.args.to_managed; entries = list i });
      did = c.copy.ensures.copied;
    })
