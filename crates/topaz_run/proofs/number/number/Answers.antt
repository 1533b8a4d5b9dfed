use Rattle.std.proofs.Common.{◌≡◌, ◌<◌, ◌^◌, ◌&&◌, nat_le, Some, None, cond, decimal, sym, ap, ◌∙◌, arith}
use Rattle.std.proofs.lemmas.Bool.Decides.{nat_tests}
use Rattle.std.specs.Str.{bytes_eq}
use Rattle.topaz_run.specs.Number.{number_of}
use Rattle.topaz_run.proofs.Spellings.{number_from_parse, spelled_within}
use Rattle.topaz_run.proofs.number.number.Goals as goal
use Rattle.topaz_run.proofs.number.number.Goals.{else-value-most-via-then-value-most+else-is_spelled, else-value-most-via-else-value-most}

pub returns-in_default-clause-meant : goal.returns-in_default-clause-meant
returns-in_default-clause-meant c =
    let small : c.args.most < 2 ^ 64 = omega arith in
    sym (number_from_parse c.args.most c.args.text.now c.parse.result small c.parse.ensures.value.0
    ∙ ap (spelled_within c.args.most c.args.text.now) c.in_default.is)

pub returns-then-is_spelled-clause-meant : goal.returns-then-is_spelled-clause-meant
returns-then-is_spelled-clause-meant c =
    let small : c.args.most < 2 ^ 64 = omega arith in
    let n = c.in-Ok.value in
    let told : number_of c.args.most c.args.text.now ≡ cond (nat_le n c.args.most && bytes_eq c.args.text.now (decimal n)) (Some n) None =
    number_from_parse c.args.most c.args.text.now c.parse.result small c.parse.ensures.value.0
    ∙ ap (spelled_within c.args.most c.args.text.now) c.in-Ok.is in
    rw told (grind (arith, nat_tests))

pub returns-else-value-most-clause-meant : goal.returns-else-value-most-clause-meant
returns-else-value-most-clause-meant c =
    let small : c.args.most < 2 ^ 64 = omega arith in
    let n = c.in-Ok.value in
    let told : number_of c.args.most c.args.text.now ≡ cond (nat_le n c.args.most && bytes_eq c.args.text.now (decimal n)) (Some n) None =
    number_from_parse c.args.most c.args.text.now c.parse.result small c.parse.ensures.value.0
    ∙ ap (spelled_within c.args.most c.args.text.now) c.in-Ok.is in
    elim c.else-value-most.branch [
      | else-value-most-via-then-value-most+else-is_spelled w ↦ rw told (grind (arith, nat_tests))
      | else-value-most-via-else-value-most w ↦ rw told (grind (arith, nat_tests))
    ]
