use Rattle.std.proofs.Common.{◌≡◌, ℕ, ◌*◌, List, true, subst, sym, ◌∙◌, ap}
use Rattle.machine_desc.specs.declared.desc.Region.{Region}
use Rattle.machine_desc.specs.Private.{is_private_range}
use Rattle.memory_areas.specs.Kept.{AreWithin}
use Rattle.memory_areas.proofs.Found.{sound_regions_within}
use Rattle.copy_lists.specs.Lists.{entry_size}
use Rattle.copy_lists.proofs.Places.{private_ends}
use Rattle.copy_lists.proofs.checking.read_and_decide.Goals as goal

pub read_entries-requires-clause-end : goal.read_entries-requires-clause-end
read_entries-requires-clause-end c =
    let within : AreWithin c.args.map.now = subst (λ (regions : List Region). AreWithin regions) (sym c.requires.map) (sound_regions_within c.args.desc.now c.requires.sound) in
    let private : is_private_range c.args.map.now c.list_address-at.result (entry_size * c.list_count-count.result) ≡ true =
    ap (λ (n : ℕ). is_private_range c.args.map.now c.list_address-at.result (entry_size * n)) (sym c.from.ensures) ∙ sym c.is_private.ensures ∙ c.if-not-is_private.false in
    private_ends c.args.map.now c.list_address-at.result (entry_size * c.list_count-count.result) within private c.list_address-at.type_inv
