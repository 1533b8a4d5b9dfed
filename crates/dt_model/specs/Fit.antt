-- Which trees a blob can hold.
use Rattle.std.specs.Prelude.{◌≡◌, IsTrue, ◌≤◌, Bool, ◌&&◌, not, ◌==◌, [], None, length}
use Rattle.std.specs.List.{list_all}
use Rattle.dt_model.specs.declared.tree.Reserve.{Reserve}
use Rattle.dt_model.specs.declared.tree.Tree.{Tree}
use Rattle.dt_model.specs.Node.{tokens_of}
use Rattle.dt_model.specs.Rule.{first_broken}

-- Two zeros end the reserve map, so no entry is two zeros (ePAPR 1.1, 8.3 "Memory Reservation Block").
abbrev pub is_entry : Reserve → Bool
is_entry entry = not (entry.address == 0 && entry.size == 0)

pub record Fits (tree : Tree) : Type 0 where
  pub few_entries : length tree.reserve.items ≤ 1024
  pub entries : IsTrue (list_all is_entry tree.reserve.items)
  pub tokens : first_broken [] (tokens_of tree) ≡ None
