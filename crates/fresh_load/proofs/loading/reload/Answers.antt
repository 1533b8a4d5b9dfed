use Rattle.std.proofs.Common.{◌≡◌, ℕ, List, ap, ◌∙◌, sym, subst}
use Rattle.memory_areas.proofs.Found.{sound_regions_within}
use Rattle.memory_areas.specs.Kept.{AreWithin}
use Rattle.machine_desc.specs.declared.desc.Region.{Region}
use Rattle.machine_desc.proofs.Parts.{regions_parts, sound_regions}
use Rattle.ground.specs.Extents.{extent_at}
use Rattle.fresh_load.specs.Loading.{loaded}
use Rattle.fresh_load.specs.Placed.{sizes_of}
use Rattle.fresh_load.proofs.Places.{all_still_placed, all_private, loaded_others, loaded_sizes, all_reloaded}
use Rattle.fresh_load.proofs.loading.reload.Goals as goal

pub load_regions-requires-clause-within : goal.load_regions-requires-clause-within
load_regions-requires-clause-within c = subst (λ (regions : List Region). AreWithin regions) (sym c.as_slice-2.ensures) (sound_regions_within c.args.desc.now c.requires.sound)

pub returns-clause-private : goal.returns-clause-private
returns-clause-private c =
    let desc = c.args.desc.now in
    let after : c.load_regions.new.memory ≡ loaded desc.pieces desc.regions c.args.memory.now = rw (c.as_slice.ensures, c.as_slice-2.ensures) at c.load_regions.ensures in
    all_private desc.pieces desc.regions c.args.memory.now c.load_regions.new.memory (regions_parts desc.regions (sound_regions desc c.requires.sound)).extents c.requires.placed after

pub returns-clause-others : goal.returns-clause-others
returns-clause-others c extent h =
    let desc = c.args.desc.now in
    let after : c.load_regions.new.memory ≡ loaded desc.pieces desc.regions c.args.memory.now = rw (c.as_slice.ensures, c.as_slice-2.ensures) at c.load_regions.ensures in
    ap (λ (memory : List (List ℕ)). extent_at memory extent) after ∙ loaded_others desc.pieces desc.regions c.args.memory.now extent h

pub returns-clause-sizes : goal.returns-clause-sizes
returns-clause-sizes c =
    let desc = c.args.desc.now in
    let after : c.load_regions.new.memory ≡ loaded desc.pieces desc.regions c.args.memory.now = rw (c.as_slice.ensures, c.as_slice-2.ensures) at c.load_regions.ensures in
    ap sizes_of after ∙ loaded_sizes desc.pieces desc.regions c.args.memory.now c.requires.placed

pub returns-clause-placed : goal.returns-clause-placed
returns-clause-placed c =
    let desc = c.args.desc.now in
    let after : c.load_regions.new.memory ≡ loaded desc.pieces desc.regions c.args.memory.now = rw (c.as_slice.ensures, c.as_slice-2.ensures) at c.load_regions.ensures in
    all_still_placed c.args.memory.now c.load_regions.new.memory desc.regions (ap sizes_of after ∙ loaded_sizes desc.pieces desc.regions c.args.memory.now c.requires.placed) c.requires.placed

pub returns-clause-own : goal.returns-clause-own
returns-clause-own c =
    let desc = c.args.desc.now in
    let after : c.load_regions.new.memory ≡ loaded desc.pieces desc.regions c.args.memory.now = rw (c.as_slice.ensures, c.as_slice-2.ensures) at c.load_regions.ensures in
    all_reloaded desc c.args.memory.now c.load_regions.new.memory (regions_parts desc.regions (sound_regions desc c.requires.sound)).extents c.requires.placed after
