-- All that unfolds when the definitions run on a configuration that is written out.

-- the rules C5 to C22
unfoldable pub checking : Unit {0}
unfolding
    Rattle.config_checks.specs.Areas.ragged_area Rattle.config_checks.specs.Areas.high_area Rattle.config_checks.specs.Areas.homeless_area
    Rattle.config_checks.specs.Areas.overlapping_area Rattle.config_checks.specs.Areas.large_areas Rattle.config_checks.specs.Channels.loose_channel
    Rattle.config_checks.specs.Channels.misprinting_channel Rattle.config_checks.specs.Cores.miscounted_part
    Rattle.config_checks.specs.Cores.coreless_part Rattle.config_checks.specs.Cores.taking_part Rattle.config_checks.specs.Counts.many_areas
    Rattle.config_checks.specs.Counts.many_channels Rattle.config_checks.specs.Counts.many_bells Rattle.config_checks.specs.Counts.many_parts
    Rattle.config_checks.specs.Counts.too_many Rattle.config_checks.specs.Guests.misplaced_guest Rattle.config_checks.specs.Guests.overlapping_guest
    Rattle.config_checks.specs.Guests.repeated_guest Rattle.config_checks.specs.Managers.own_manager
    Rattle.config_checks.specs.Managers.second_manager Rattle.config_checks.specs.Names.misnamed_area
    Rattle.config_checks.specs.Names.misnamed_channel Rattle.config_checks.specs.Names.misnamed_bell Rattle.config_checks.specs.Names.misnamed_part
    Rattle.config_checks.specs.Names.misnamed Rattle.config_checks.specs.Rules.broken_list Rattle.config_checks.specs.Rules.broken_area
    Rattle.config_checks.specs.Rules.broken_guest Rattle.config_checks.specs.Rules.broken_part Rattle.config_checks.specs.Rules.broken_link
    Rattle.config_checks.specs.Rules.first_broken Rattle.config_checks.specs.Spot.at_place Rattle.config_checks.specs.Spot.placed
    Rattle.config_checks.specs.Spot.earlier Rattle.config_checks.specs.Spot.first_inner Rattle.config_checks.specs.Spot.first_list
    Rattle.config_checks.specs.Window.windowless_part Rattle.dt_model.specs.Name.is_name_of Rattle.gen_load.specs.Meant.generated_config
    Rattle.gen_load.specs.Meant.generated_board
checking = tt

-- the rules I4 to I7
unfoldable pub loading : Unit {0}
unfolding
    Rattle.config_descs.specs.Desc.region_of Rattle.config_descs.specs.Desc.span_of Rattle.config_descs.specs.Desc.private_spans
    Rattle.config_descs.specs.Desc.manage_port Rattle.config_descs.specs.Desc.desc_of Rattle.guest_tree.specs.Guest.guest_blob
    Rattle.guest_tree.specs.Properties.cpu_properties Rattle.guest_tree.specs.Properties.handle_properties
    Rattle.guest_tree.specs.Properties.chosen_properties Rattle.guest_tree.specs.Tokens.cpus_tokens Rattle.guest_tree.specs.Tokens.hypervisor_tokens
    Rattle.guest_tree.specs.Tokens.children_tokens Rattle.guest_tree.specs.Tokens.guest_tokens Rattle.dt_model.specs.Canonical.spelling
    Rattle.dt_model.specs.Canonical.header_bytes Rattle.machine_desc.specs.Private.is_private_range Rattle.fresh_load.specs.Described.first_fault
    Rattle.elf_image.specs.Image.raw_image Rattle.gen_load.specs.Meant.generated_config Rattle.std.specs.Fmt.digits
loading = tt
