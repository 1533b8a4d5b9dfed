-- Flattened device trees (ePAPR 1.1, chapter 8 "Flat Device Tree Physical Structure").
use Rattle.std.specs.Prelude.{◌≡◌, ℕ, List, None}
use Rattle.dt_model.specs.declared.tree.Tree.{Tree}
use Rattle.dt_model.specs.Token.{Token, without_nops}
use Rattle.dt_model.specs.Node.{tokens_of, rows_of}
use Rattle.dt_model.specs.Fit.{Fits}
use Rattle.dt_model.specs.Header.{header_of, header_fault, reserve_part, structure_part, strings_part}
use Rattle.dt_model.specs.Reserve.{IsReserveMap}
use Rattle.dt_model.specs.Spelling.{SpellsAll}

-- the block begins with these tokens, NOPs among them, and anything may follow
pub record IsStructure (strings block : List ℕ) (tokens : List Token) : Type 0 where
  pub spelled : List Token
  pub rest : List ℕ
  pub spells : SpellsAll strings spelled block rest
  pub same : without_nops spelled ≡ tokens

-- the bytes are a blob of the tree
pub record IsBlobOf (bytes : List ℕ) (tree : Tree) : Type 0 where
  pub header : header_fault bytes ≡ None
  pub boot_cpu : (header_of bytes).boot_cpu ≡ tree.boot_cpu
  pub reserve : IsReserveMap (reserve_part bytes) tree.reserve.items
  pub structure : IsStructure (strings_part bytes) (structure_part bytes) (tokens_of tree)
  pub fits : Fits tree

-- Two trees say the same: the reserve map, the cpu that boots, and each node and property in document order.
pub record IsSameTree (a b : Tree) : Type 0 where
  pub reserve : a.reserve.items ≡ b.reserve.items
  pub boot_cpu : a.boot_cpu ≡ b.boot_cpu
  pub tokens : tokens_of a ≡ tokens_of b
  pub rows : rows_of a ≡ rows_of b
