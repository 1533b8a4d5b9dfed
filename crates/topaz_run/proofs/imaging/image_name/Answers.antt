use Rattle.std.proofs.Common.{List, sym, ap, subst, ◌∙◌}
use Rattle.std.specs.Prelude.{slice_index_or}
use Rattle.std.specs.Str.{IsUtf8}
use Rattle.hv_config.specs.declared.config.PartDef.{PartDef}
use Rattle.topaz_run.proofs.Texts.{image_utf8}
use Rattle.topaz_run.proofs.imaging.image_name.Goals as goal

pub unreachable-requires : goal.unreachable-requires
unreachable-requires c =
    let d = c.index-as_slice-part.result in
    let parts = c.as_slice.ensures ∙ ap (λ config. config.parts) c.config-config.ensures.value in
    let name = c.as_slice-2.ensures ∙ ap (λ (parts : List PartDef). (slice_index_or parts c.args.part d).image) parts in
    c.in-Err.ensures.cases.0 (subst IsUtf8 (sym name) (image_utf8 c.args.accepted.now c.config-config.ensures.accepted c.args.part d c.requires))
