use Rattle.std.proofs.Common.{List, get_or, ap, ◌∙◌}
use Rattle.hv_config.specs.declared.config.PartDef.{PartDef}
use Rattle.hv_config.specs.declared.config.Config.{Config}
use Rattle.guest_tree.proofs.Guests.{IsAsked, asked}
use Rattle.guest_tree.proofs.tree.derive.Goals as goal

asks : (c : goal.After-index-as_slice-part) → IsAsked c.index-as_slice-part.result
asks c =
    let parts = c.as_slice.ensures ∙ ap (λ (config : Config). config.parts) c.config-config.ensures.value in
    let is = c.index-as_slice-part.is ∙ ap (λ (parts : List PartDef). get_or parts c.args.part c.index-as_slice-part.result) parts in
    asked c.accepted_keep_parts.ensures c.args.acc.now c.config-config.ensures.accepted c.args.part c.requires c.index-as_slice-part.result is

pub tree_of-requires-clause-room : goal.tree_of-requires-clause-room
tree_of-requires-clause-room c = (asks c).room

pub tree_of-requires-clause-cores : goal.tree_of-requires-clause-cores
tree_of-requires-clause-cores c = (asks c).cores

pub tree_of-requires-clause-handles : goal.tree_of-requires-clause-handles
tree_of-requires-clause-handles c = (asks c).handles
