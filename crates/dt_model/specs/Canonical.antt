-- The canonical blob of a tree: the header, the reserve map, the structure block and the strings block, one right behind the
-- other (ePAPR 1.1, chapter 8).
use Rattle.std.specs.Prelude.{ℕ, zero, suc, ◌+◌, List, [], ◌∷◌, ◌++◌, length, drop, replicate, if◌then◌else◌}
use Rattle.std.specs.List.{flat_map}
use Rattle.std.specs.Str.{bytes_eq}
use Rattle.byteorder.specs.Endian.{big_bytes}
use Rattle.dt_model.specs.declared.tree.Reserve.{Reserve}
use Rattle.dt_model.specs.declared.tree.Tree.{Tree}
use Rattle.dt_model.specs.Name.{has}
use Rattle.dt_model.specs.Token.{Token, BeginNode, Prop, EndNode, Nop, Finish, without_nops}
use Rattle.dt_model.specs.Node.{tokens_of}
use Rattle.dt_model.specs.Fit.{is_entry}
use Rattle.dt_model.specs.Header.{header_of, reserve_part, structure_part, strings_part}
use Rattle.dt_model.specs.Reserve.{entry_of}
use Rattle.dt_model.specs.Spelling.{padded}
use Rattle.dt_model.specs.Fault.{tokens_in}

-- a number in four bytes, the highest first
abbrev pub word : ℕ → List ℕ
word number = big_bytes 4 number

-- ---- the strings block

-- the names with one more, which comes last unless it is among them
abbrev pub with_name : List (List ℕ) → List ℕ → List (List ℕ)
with_name names name = if has names name then names else names ++ name ∷ []

-- the names of properties in these tokens, behind earlier ones: each once, in order of first use
abbrev pub names_after : List (List ℕ) → List Token → List (List ℕ)
names_after names [] = names
names_after names (Prop name value ∷ tokens) = names_after (with_name names name) tokens
names_after names (token ∷ tokens) = names_after names tokens

-- each name and its NUL
abbrev pub strings_of : List (List ℕ) → List ℕ
strings_of names = flat_map (λ name. name ++ 0 ∷ []) names

-- where the name stands there
abbrev pub offset_of : List (List ℕ) → List ℕ → ℕ
offset_of [] name = 0
offset_of (first ∷ names) name = if bytes_eq first name then 0 else length first + 1 + offset_of names name

-- ---- the structure block

-- a token's one spelling, where the strings block has these names
unfoldable pub spelling : List (List ℕ) → Token → List ℕ
spelling names (BeginNode name) = word 1 ++ padded (name ++ 0 ∷ [])
spelling names (Prop name value) = word 3 ++ (word (length value) ++ (word (offset_of names name) ++ padded value))
spelling names EndNode = word 2
spelling names Nop = word 4
spelling names Finish = word 9

abbrev pub structure_of : List (List ℕ) → List Token → List ℕ
structure_of names tokens = flat_map (spelling names) tokens

-- ---- the reserve map and the header

abbrev pub entry_bytes : Reserve → List ℕ
entry_bytes entry = big_bytes 8 entry.address ++ big_bytes 8 entry.size

-- the entries, and the two zeros behind them
abbrev pub reserve_map_of : List Reserve → List ℕ
reserve_map_of entries = flat_map entry_bytes entries ++ replicate 16 0

-- version 17, which a reader of version 16 understands
unfoldable pub header_bytes : ℕ → ℕ → ℕ → ℕ → List ℕ
header_bytes boot_cpu reserve_size structure_size strings_size =
    word 0xd00dfeed
    ++ (word (40 + reserve_size + structure_size + strings_size)
    ++ (word (40 + reserve_size)
    ++ (word (40 + reserve_size + structure_size)
    ++ (word 40
    ++ (word 17
    ++ (word 16
    ++ (word boot_cpu
    ++ (word strings_size
    ++ word structure_size))))))))

-- ---- the blob

-- the blocks that a blob is made of
abbrev pub blob_of : ℕ → List ℕ → List ℕ → List ℕ → List ℕ
blob_of boot_cpu reserve structure strings =
    header_bytes boot_cpu (length reserve) (length structure) (length strings) ++ (reserve ++ (structure ++ strings))

-- the blob that says this
abbrev pub blob_saying : ℕ → List Reserve → List Token → List ℕ
blob_saying boot_cpu entries tokens =
    let names = names_after [] tokens in
    blob_of boot_cpu (reserve_map_of entries) (structure_of names tokens) (strings_of names)

unfoldable pub canonical : Tree → List ℕ
canonical tree = blob_saying tree.boot_cpu tree.reserve.items (tokens_of tree)

-- the most bytes that a blob has
abbrev pub most_bytes : ℕ
most_bytes = 16777216

-- ---- what bytes say

-- the entries up to the first that is two zeros, at most so many
abbrev pub entries_in : ℕ → List ℕ → List Reserve
entries_in zero bytes = []
entries_in (suc most) bytes = if is_entry (entry_of bytes) then entry_of bytes ∷ entries_in most (drop 16 bytes) else []

-- The canonical blob of the tree that the bytes are a blob of. It speaks of the bytes alone.
unfoldable pub rewritten : List ℕ → List ℕ
rewritten bytes =
    blob_saying (header_of bytes).boot_cpu (entries_in 1024 (reserve_part bytes))
    (without_nops (tokens_in (strings_part bytes) (structure_part bytes)).tokens)
