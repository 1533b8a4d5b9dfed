-- The parts of a blob, and its first fault.
use Rattle.std.proofs.Common.{◌≡◌, ℕ, List, [], take, drop, None, Result, Ok, Err, refl, sym, ap, ◌∙◌}
use Rattle.std.specs.Prelude.{MatchResult}
use Rattle.dt_model.specs.declared.Tree.{Tree}
use Rattle.dt_model.specs.Header.{Header, header_of, header_fault, reserve_part, structure_part, strings_part}
use Rattle.dt_model.specs.Fault.{reserve_fault, fault_in, tokens_in, first_fault}
use Rattle.dt_model.specs.Blob.{IsBlobOf, IsSameTree}
use Rattle.dt_model.proofs.Blobs.{no_fault, one_tree, IsBlobOf-read}
use Rattle.dt_read.specs.declared.fault.BlobFault.{BlobFault}
use Rattle.dt_read.specs.declared.fault.BlobFault.TheVariants.{Rule, NoMemory}
use Rattle.dt_read.specs.Given.{FailsBy, IsMapOf}
use Rattle.dt_model.specs.Token.{without_nops}
use Rattle.dt_model.specs.Node.{tokens_of}

pub reserve_part-is : (blob : List ℕ) (header : Header) → header ≡ header_of blob → drop header.reserve_at (take header.total_size blob) ≡ reserve_part blob
unfolding reserve_part
reserve_part-is blob header e = ap (λ (h : Header). drop h.reserve_at (take h.total_size blob)) e

pub structure_part-is : (blob : List ℕ) (header : Header) → header ≡ header_of blob → take header.structure_size (drop header.structure_at blob) ≡ structure_part blob
unfolding structure_part
structure_part-is blob header e = ap (λ (h : Header). take h.structure_size (drop h.structure_at blob)) e

pub strings_part-is : (blob : List ℕ) (header : Header) → header ≡ header_of blob → take header.strings_size (drop header.strings_at blob) ≡ strings_part blob
unfolding strings_part
strings_part-is blob header e = ap (λ (h : Header). take h.strings_size (drop h.strings_at blob)) e

pub fails_in_header : (fault : BlobFault) (blob : List ℕ) → FailsBy fault (header_fault blob) → FailsBy fault (first_fault blob)
unfolding first_fault
fails_in_header (Rule rule) blob e = rw e refl
fails_in_header NoMemory blob e = tt

pub fails_in_reserve : (fault : BlobFault) (blob map : List ℕ) → header_fault blob ≡ None → map ≡ reserve_part blob → FailsBy fault (reserve_fault map) → FailsBy fault (first_fault blob)
unfolding first_fault
fails_in_reserve (Rule rule) blob map sound is e = rw (sound, ← is, e) refl
fails_in_reserve NoMemory blob map sound is e = tt

pub fails_in_structure : (fault : BlobFault) (blob map strings structure : List ℕ) → header_fault blob ≡ None → map ≡ reserve_part blob → reserve_fault map ≡ None → strings ≡ strings_part blob → structure ≡ structure_part blob
    → FailsBy fault (fault_in [] (tokens_in strings structure)) → FailsBy fault (first_fault blob)
unfolding first_fault
fails_in_structure (Rule rule) blob map strings structure sound is map_sound strings_are structure_is e = rw (sound, ← is, map_sound, ← strings_are, ← structure_is) e
fails_in_structure NoMemory blob map strings structure sound is map_sound strings_are structure_is e = tt

-- a blob of a tree is read as that tree
pub only_that_tree : (r : Result Tree BlobFault) (blob : List ℕ) → MatchResult r (λ tree. IsBlobOf blob tree × (first_fault blob ≡ None)) (λ fault. FailsBy fault (first_fault blob))
    → (tree : Tree) → IsBlobOf blob tree → MatchResult r (λ found. IsSameTree found tree) (λ fault. fault ≡ NoMemory)
only_that_tree (Ok found) blob given tree is = one_tree blob found tree given.0 is
only_that_tree (Err (Rule rule)) blob given tree is = absurd (let none = no_fault blob tree is in cc (sym given ∙ none))
only_that_tree (Err NoMemory) blob given tree is = refl

pub reads_whole : (blob map strings structure : List ℕ) (tree : Tree) → header_fault blob ≡ None → (header_of blob).boot_cpu ≡ tree.boot_cpu
    → map ≡ reserve_part blob → IsMapOf 1024 map tree.reserve.items → strings ≡ strings_part blob → structure ≡ structure_part blob
    → fault_in [] (tokens_in strings structure) ≡ None → without_nops (tokens_in strings structure).tokens ≡ tokens_of tree
    → IsBlobOf blob tree × (first_fault blob ≡ None)
reads_whole blob map strings structure tree sound boot_cpu map_is entries strings_are structure_is fault same =
    let blob_is = IsBlobOf-read blob tree sound boot_cpu (rw (← map_is) entries.spelled) entries.few entries.none_ends (rw (← strings_are, ← structure_is) fault) (rw (← strings_are, ← structure_is) same) in
    (blob_is, no_fault blob tree blob_is)
