-- All that unfolds when the definitions run on a tree that is written out.

unfoldable pub everything : Unit {0}
unfolding
    Rattle.dt_model.specs.declared.tree.Node.TheBlock.hidden-the_row-Node-0 Rattle.dt_model.specs.declared.tree.Node.TheBlock.shown-the_row-Node-0
    Rattle.dt_model.specs.declared.tree.Node.TheViews.out-Node Rattle.dt_model.specs.declared.tree.Node.TheViews.roll-Node
    denote.Hole.Carrier.out denote.Hole.Carrier.roll denote.Hole.Carrier.shown denote.Hole.Carrier.hidden
    Rattle.dt_model.specs.Name.is_name_of Rattle.dt_model.specs.Value.text_in Rattle.dt_model.specs.Rule.broken_by_begin
    Rattle.dt_model.specs.Rule.broken_by_property Rattle.dt_model.specs.Rule.broken_by_end Rattle.dt_model.specs.Rule.broken_by_finish
    Rattle.dt_model.specs.Canonical.spelling Rattle.dt_model.specs.Canonical.header_bytes
    Rattle.hv_config.specs.Form.cores_in Rattle.hv_config.specs.Form.has_form Rattle.hv_config.specs.Form.form_of
    Rattle.hv_config.specs.Meaning.list_in Rattle.hv_config.specs.Meaning.place_in Rattle.hv_config.specs.Meaning.area_def
    Rattle.hv_config.specs.Meaning.channel_def Rattle.hv_config.specs.Meaning.bell_def Rattle.hv_config.specs.Meaning.guest_area_def
    Rattle.hv_config.specs.Meaning.handle_def Rattle.hv_config.specs.Meaning.part_def Rattle.hv_config.specs.Meaning.config_in
    Rattle.hv_config.specs.Rule.first_broken_among Rattle.hv_config.specs.Cells.cells_of
    Rattle.hv_config.specs.Device.cpus_among Rattle.hv_config.specs.Device.cpus_under Rattle.hv_config.specs.Device.devices_at
    Rattle.hv_config.specs.Device.devices_of Rattle.hv_config.specs.Cpus.number_of Rattle.hv_config.specs.Cpus.cpu_of
    Rattle.hv_config.specs.Memory.item_at Rattle.hv_config.specs.Memory.items_in Rattle.hv_config.specs.Memory.ranges_in
    Rattle.hv_config.specs.Memory.whole_ranges Rattle.hv_config.specs.Memory.ranges_of Rattle.hv_config.specs.Memory.memory_in
    Rattle.hv_config.specs.Hardware.board_in Rattle.hv_config.specs.Hardware.h1 Rattle.hv_config.specs.Hardware.h2
    Rattle.hv_config.specs.Hardware.h3 Rattle.hv_config.specs.Hardware.h4 Rattle.hv_config.specs.Hardware.first_broken_in
    Rattle.hv_read.specs.Made.vector_of Rattle.hv_read.specs.Made.node_of
    Rattle.gen_load.specs.Tokens.part_tokens Rattle.gen_load.specs.Tokens.config_tokens Rattle.gen_load.specs.Tokens.hardware_tokens
    Rattle.gen_load.specs.Meant.generated_config Rattle.gen_load.specs.Meant.generated_board
everything = tt
