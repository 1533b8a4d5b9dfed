-- The first of the rules C5 to C22 that a configuration breaks on hardware, and where.
use Rattle.std.specs.Prelude.{ℕ, Option}
use Rattle.std.specs.Option.{option_map, option_or}
use Rattle.hv_config.specs.declared.config.Config.{Config}
use Rattle.hv_config.specs.declared.board.Board.{Board}
use Rattle.hv_config.specs.Rule.{Breach}
use Rattle.config_checks.specs.Spot.{Spot}
use Rattle.config_checks.specs.Names.{misnamed}
use Rattle.config_checks.specs.Counts.{too_many}
use Rattle.config_checks.specs.Areas.{ragged_area, high_area, homeless_area, overlapping_area, large_areas}
use Rattle.config_checks.specs.Guests.{misplaced_guest, overlapping_guest, repeated_guest}
use Rattle.config_checks.specs.Cores.{miscounted_part, coreless_part, taking_part}
use Rattle.config_checks.specs.Window.{windowless_part}
use Rattle.config_checks.specs.Channels.{loose_channel, misprinting_channel}
use Rattle.config_checks.specs.Managers.{own_manager, second_manager}

abbrev pub breach_at : ℕ → Spot → Breach
breach_at number spot = record { rule = record { letter = 0x43; number = number }; at = spot.path }

abbrev pub breach : ℕ → Option Spot → Option Breach
breach number spot = option_map (breach_at number) spot

-- names and counts
unfoldable pub broken_list : Config → Option Breach
broken_list config = option_or (breach 5 (misnamed config)) (breach 6 (too_many config))

unfoldable pub broken_area : Config → Board → Option Breach
broken_area config board =
    option_or (breach 7 (ragged_area config.areas))
    (option_or (breach 8 (high_area config.areas))
    (option_or (breach 9 (homeless_area board.memory config.areas))
    (option_or (breach 10 (overlapping_area config.areas)) (breach 11 (large_areas config.areas)))))

unfoldable pub broken_guest : Config → Option Breach
broken_guest config =
    option_or (breach 12 (misplaced_guest config))
    (option_or (breach 13 (overlapping_guest config)) (breach 14 (repeated_guest config.parts)))

unfoldable pub broken_part : Config → Board → Option Breach
broken_part config board =
    option_or (breach 15 (miscounted_part config.parts))
    (option_or (breach 16 (coreless_part board.cpus config.parts))
    (option_or (breach 17 (taking_part config.parts)) (breach 18 (windowless_part config))))

unfoldable pub broken_link : Config → Option Breach
broken_link config =
    option_or (breach 19 (loose_channel config.parts config.channels))
    (option_or (breach 20 (misprinting_channel config.channels))
    (option_or (breach 21 (own_manager config.parts)) (breach 22 (second_manager config.parts))))

-- the least number that is broken, and of the nodes that break it the first in document order
unfoldable pub first_broken : Config → Board → Option Breach
first_broken config board =
    option_or (broken_list config)
    (option_or (broken_area config board)
    (option_or (broken_guest config) (option_or (broken_part config board) (broken_link config))))
