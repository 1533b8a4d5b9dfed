-- Pieces that a manager writes, one after the other.
use Rattle.std.proofs.Common.{◌≡◌, ℕ, ◌||◌, Bool, true, false, cond, List, [], ◌∷◌, length, map, Option, None, Some, refl, ap}
use Rattle.std.specs.List.{range_with_len}
use Rattle.std.proofs.lemmas.List.FromFn.{length-map-range_with_len}
use Rattle.machine_desc.specs.declared.desc.Desc.{Desc}
use Rattle.machine_desc.specs.declared.desc.Region.{Region}
use Rattle.machine_desc.specs.declared.desc.Span.{Span}
use Rattle.machine_desc.specs.Ranges.{ranges_meet}
use Rattle.core_step.specs.Step.{with_reserved}
use Rattle.copy_lists.specs.declared.list.SgEntry.{SgEntry}
use Rattle.copy_lists.specs.Moving.{byte_in}
use Rattle.copy_lists.specs.Pieces.{Piece, span_of, with_bytes, targets_of, pieces_out, all_put}
use Rattle.partition.specs.Regions.{areas_of}
use Rattle.partition.specs.Machine.{Cpu, Machine}
use Rattle.partition.specs.Copying.{own_regions}
use Rattle.partition.specs.Reservations.{granule_size, is_copied_to, uncopied_reservation, with_copied}
use Rattle.partition.specs.Event.{CopyIn, apply}
use Rattle.partition.proofs.Copies.{nothing_copied}

-- the machine, once all were written
abbrev pub all_copied : Desc → List Piece → Machine → Machine
all_copied desc pieces machine = record machine {
  inner = record machine.inner { cores = map (with_copied (map span_of pieces)) machine.inner.cores };
  memory = all_put (own_regions (areas_of desc.regions)) pieces machine.memory;
}

all_same : (f : Cpu → Cpu) (cores : List Cpu) → ((cpu : Cpu) → f cpu ≡ cpu) → map f cores ≡ cores
all_same f [] same = refl
all_same f (cpu ∷ cores) same = λ i. same cpu i ∷ all_same f cores same i

pub none_copied : (desc : Desc) (machine : Machine) → all_copied desc [] machine ≡ machine
none_copied desc machine = λ i. record machine { inner = record machine.inner { cores = all_same (with_copied []) machine.inner.cores nothing_copied i } }

-- one range and those behind it
range_on : (range : Span) (ranges : List Span) (reserved : Option ℕ) → uncopied_reservation ranges (uncopied_reservation (range ∷ []) reserved) ≡ uncopied_reservation (range ∷ ranges) reserved
range_on range ranges None = refl
range_on range ranges (Some granule) = by_test (ranges_meet granule granule_size range.at range.size)
  where
    by_test : (b : Bool) → uncopied_reservation ranges (cond (b || false) None (Some granule)) ≡ cond (b || is_copied_to ranges granule) None (Some granule)
    by_test true = refl
    by_test false = refl

core_on : (range : Span) (ranges : List Span) (cpu : Cpu) → with_copied ranges (with_copied (range ∷ []) cpu) ≡ with_copied (range ∷ ranges) cpu
core_on range ranges cpu = ap (λ (reserved : Option ℕ). record cpu { registers = with_reserved reserved cpu.registers }) (range_on range ranges cpu.registers.reserved)

cores_on : (range : Span) (ranges : List Span) (cores : List Cpu) → map (with_copied ranges) (map (with_copied (range ∷ [])) cores) ≡ map (with_copied (range ∷ ranges)) cores
cores_on range ranges [] = refl
cores_on range ranges (cpu ∷ cores) = λ i. core_on range ranges cpu i ∷ cores_on range ranges cores i

-- the first piece, and those behind it
pub first_copied : (desc : Desc) (piece : Piece) (pieces : List Piece) (machine : Machine) → all_copied desc pieces (apply desc machine (CopyIn piece)) ≡ all_copied desc (piece ∷ pieces) machine
unfolding apply
first_copied desc piece pieces machine = λ i. record machine {
  inner = record machine.inner { cores = cores_on (span_of piece) (map span_of pieces) machine.inner.cores i };
  memory = all_put (own_regions (areas_of desc.regions)) (piece ∷ pieces) machine.memory;
}

-- the ranges of what goes out by a list are its targets
pub spans_out : (regions : List Region) (memory : List (List ℕ)) (entries : List SgEntry) → map span_of (pieces_out regions memory entries) ≡ targets_of entries
spans_out regions memory entries = of_each (with_bytes entries)
  where
    of_each : (some : List SgEntry) → map span_of (map (λ (entry : SgEntry). let piece : Piece = record { at = entry.target; bytes = map (byte_in regions memory) (range_with_len entry.source entry.size) } in piece) some)
        ≡ map (λ (entry : SgEntry). let range : Span = record { at = entry.target; size = entry.size } in range) some
    of_each [] = refl
    of_each (entry ∷ some) =
        let long : length (map (byte_in regions memory) (range_with_len entry.source entry.size)) ≡ entry.size = length-map-range_with_len (byte_in regions memory) entry.source entry.size in
        λ i. (record { at = entry.target; size = long i }) ∷ of_each some i
