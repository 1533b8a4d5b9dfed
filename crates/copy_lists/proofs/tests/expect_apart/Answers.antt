use Rattle.std.proofs.Common.{◌≡◌, true, List, sym, ◌∙◌, ap}
use Rattle.std.specs.List.{list_all}
use Rattle.machine_desc.specs.declared.desc.Region.{Region}
use Rattle.copy_lists.proofs.Sizes.{is_apart, all_apart}
use Rattle.copy_lists.proofs.tests.expect_apart.Goals as goal

pub returns : goal.returns
returns g c =
    let from : List Region = c.args.from.now.regions in
    let to : List Region = c.args.to.now.regions in
    let all : list_all (is_apart to) from ≡ true =
    ap (λ (regions : List Region). list_all (is_apart regions) from) (sym c.as_slice-2.ensures)
    ∙ (ap (list_all (is_apart c.as_slice-2.result.now)) (sym c.as_slice.ensures) ∙ (sym c.are_apart.ensures ∙ c.if-not-are_apart.false)) in
    all_apart from to all
