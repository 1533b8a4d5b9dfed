use Rattle.std.proofs.Common.{◌≡◌, ℕ, ◌<◌, List, length, slice_set, sym, ap, subst, ◌∙◌}
use Rattle.std.proofs.lemmas.List.{get_or_default}
use Rattle.partition.specs.Port.{kinds_of}
use Rattle.partition.specs.Lending.{Part as Member, AreTold}
use Rattle.system.specs.Board.{told_by}
use Rattle.system.specs.System.{no_part, part_at}
use Rattle.system.specs.Turning.{AfterCopy}
use Rattle.system.proofs.Parted.{IsLeft, parted_at}
use Rattle.system.proofs.turning.step_part.Goals as goal

pub returns : goal.returns
returns c =
    let parts : List Member = c.args.parts.now.items in
    let board = c.args.board.now in
    let act = c.step.result.act in
    let ranges = c.step.result.shared.items in
    let part : c.index_mut-part.result.now ≡ part_at parts board.who =
    c.index_mut-part.ensures.value ∙ (get_or_default parts c.args.who c.index_mut-part.result.now no_part c.requires.who ∙ ap (part_at parts) (sym c.requires.lent)) in
    let left : IsLeft c.index_mut-part.result.now c.step.new.self c.args.memory.now c.step.new.ground board c.step.new.ports c.args.core act ranges = record {
      stepped = c.step.ensures.stepped;
      desc = c.step.ensures.desc;
      counted = c.step.ensures.counted;
      others = c.step.ensures.others;
      sizes = c.step.ensures.sizes;
      lent = c.step.ensures.lent;
    } in
    subst (λ (n : ℕ). AfterCopy parts (slice_set parts n c.step.new.self) c.args.memory.now c.step.new.ground board c.step.new.ports c.args.core act ranges) c.requires.lent
    (parted_at parts c.step.new.self c.args.memory.now c.step.new.ground board c.step.new.ports c.args.core act ranges
    (subst (λ (n : ℕ). n < length parts) (sym c.requires.lent) c.requires.who)
    (c.requires.kinds ∙ ap (λ (n : ℕ). kinds_of (part_at parts n).desc.ports) (sym c.requires.lent))
    (subst (λ (n : ℕ). AreTold (told_by board) (part_at parts n).desc c.args.memory.now) (sym c.requires.lent) c.requires.told)
    (subst (λ (p : Member). IsLeft p c.step.new.self c.args.memory.now c.step.new.ground board c.step.new.ports c.args.core act ranges) part left))
