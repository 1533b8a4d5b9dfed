use Rattle.std.proofs.Common.{◌≡◌, ◌∙◌, ◌+◌, ◌<◌, List, Some, bit_and, bit_or, length, drop, slice_index_or, ap, sym, subst, arith}
use Rattle.machine_desc.specs.declared.desc.Port.{Port}
use Rattle.machine_desc.specs.declared.desc.Port.TheVariants as described
use Rattle.partition.specs.Port.{kind_of, kinds_of, kind_at}
use Rattle.partition.specs.Interrupts.{HasNumbersBelow, levels, levels_from}
use Rattle.partition.proofs.Levels.{few_ports, kind_here, numbers_small}
use Rattle.partition.proofs.Among.{among_on, among_end, passed}
use Rattle.partition.proofs.interrupts.levels_among.Goals as goal

pub loop-place-init : goal.loop-place-init
loop-place-init g c =
    let desc = c.args.desc.now in
    let ends = g.P.Ports.seen c.args.ports.now in
    let place = c.next_place-place.result in
    record {
      levels =
          subst (λ (all : List Port). bit_and (levels_from (place + 1) (drop place all) ends) c.args.numbers ≡ bit_and (levels_from 1 all ends) c.args.numbers) (sym c.as_slice-handles.ensures)
          (passed desc ends c.args.numbers 0 place described.Send c.requires.sound c.ranges.numbers.fits c.next_place-place.ensures);
      left = c.ranges.numbers.fits;
    }

pub overflow_cast-place : goal.overflow_cast-place
overflow_cast-place g c = omega (arith, few_ports c.args.desc.now c.requires.sound, ap (λ ports. length ports) c.as_slice-handles.ensures, c.loop-place-test.true)

pub overflow_add-place : goal.overflow_add-place
overflow_add-place g c = omega (arith, few_ports c.args.desc.now c.requires.sound, ap (λ ports. length ports) c.as_slice-handles.ensures, c.loop-place-test.true)

pub level_among-levels-requires-clause-kind : goal.level_among-levels-requires-clause-kind
level_among-levels-requires-clause-kind g c =
    let ports : List Port = c.as_slice-handles.result.now in
    ap (λ kinds. kind_at kinds (c.loop-place.place + 1)) (c.requires.kinds ∙ ap (λ (all : List Port). kinds_of all) (sym c.as_slice-handles.ensures))
    ∙ kind_here ports c.loop-place.place c.index-handles-place.result c.loop-place-test.true ∙ ap (λ (port : Port). Some (kind_of port)) (sym c.index-handles-place.is)

pub level_among-levels-requires-clause-small : goal.level_among-levels-requires-clause-small
level_among-levels-requires-clause-small g c =
    let place = c.loop-place.place in
    let port = c.index-handles-place.result in
    let within = subst (λ (all : List Port). place < length all) c.as_slice-handles.ensures c.loop-place-test.true in
    let is : slice_index_or c.args.desc.now.ports place port ≡ port =
    ap (λ (all : List Port). slice_index_or all place port) (sym c.as_slice-handles.ensures) ∙ sym c.index-handles-place.is
    in
    subst (HasNumbersBelow 128) is (numbers_small c.args.desc.now place port c.requires.sound within)

pub without_those_of-left-requires : goal.without_those_of-left-requires
without_those_of-left-requires g c =
    let place = c.loop-place.place in
    let port = c.index-handles-place.result in
    let within = subst (λ (all : List Port). place < length all) c.as_slice-handles.ensures c.loop-place-test.true in
    let is : slice_index_or c.args.desc.now.ports place port ≡ port =
    ap (λ (all : List Port). slice_index_or all place port) (sym c.as_slice-handles.ensures) ∙ sym c.index-handles-place.is
    in
    subst (HasNumbersBelow 128) is (numbers_small c.args.desc.now place port c.requires.sound within)

pub loop-place-preserved : goal.loop-place-preserved
loop-place-preserved g c =
    let desc = c.args.desc.now in
    let ends = g.P.Ports.seen c.args.ports.now in
    let place = c.loop-place.place in
    let port = c.index-handles-place.result in
    let next = c.next_place-place-in-loop-place.result in
    let left = c.without_those_of-left.result in
    let level = c.level_among-levels.result in
    let up = c.loop-place.levels in
    let same = c.as_slice-handles.ensures in
    let within = subst (λ (all : List Port). place < length all) same c.loop-place-test.true in
    let is : port ≡ slice_index_or desc.ports place port = c.index-handles-place.is ∙ ap (λ (all : List Port). slice_index_or all place port) same in
    let before = subst (λ (all : List Port). bit_or up (bit_and (levels_from (place + 1) (drop place all) ends) c.loop-place.left) ≡ bit_and (levels_from 1 all ends) c.args.numbers) same c.loop-place.invariant.levels in
    let done =
    among_on up level place c.loop-place.left left next (bit_and (levels_from 1 desc.ports ends) c.args.numbers) desc ends port c.requires.sound within c.loop-place.invariant.left
    c.without_those_of-left.type_inv is (subst (HasNumbersBelow 128) (sym is) (numbers_small desc place port c.requires.sound within)) c.level_among-levels.ensures c.without_those_of-left.ensures
    c.next_place-place-in-loop-place.ensures before
    in
    record {
      levels =
          subst (λ (all : List Port). bit_or (bit_or up level) (bit_and (levels_from (next + 1) (drop next all) ends) left) ≡ bit_and (levels_from 1 all ends) c.args.numbers) (sym same) done;
      left = c.without_those_of-left.type_inv;
    }

pub returns : goal.returns
unfolding levels
returns g c =
    let ends = g.P.Ports.seen c.args.ports.now in
    let ports : List Port = c.as_slice-handles.result.now in
    sym (among_end c.loop-place.levels c.loop-place.place c.loop-place.left ports ends c.loop-place-test.false)
    ∙ c.loop-place.invariant.levels
    ∙ ap (λ (all : List Port). bit_and (levels_from 1 all ends) c.args.numbers) c.as_slice-handles.ensures
