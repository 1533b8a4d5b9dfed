-- Reservations, and what others store and copy (Power ISA 2.06, Book II).
use Rattle.std.specs.Prelude.{ℕ, ◌+◌, ◌==◌, Bool, not, ◌&&◌, if◌then◌else◌, List, Option, Some, None}
use Rattle.std.specs.List.{list_any}
use Rattle.core_step.specs.declared.answer.Wrote.{Wrote}
use Rattle.core_step.specs.Step.{with_reserved}
use Rattle.machine_desc.specs.declared.desc.Region.{Region}
use Rattle.machine_desc.specs.declared.desc.Span.{Span}
use Rattle.machine_desc.specs.Ranges.{ranges_meet}
use Rattle.copy_lists.specs.declared.list.SgEntry.{SgEntry}
use Rattle.partition.specs.Machine.{Cpu}

-- the bytes of a reservation granule
abbrev pub granule_size : ℕ
granule_size = 64

-- what was stored lies in this region, and has a byte of the granule that begins at the logical address
abbrev pub is_in_granule : ℕ → Wrote → Region → Bool
is_in_granule granule range region =
    not region.private && (region.extent == range.extent && ranges_meet granule granule_size (region.logical + range.at) range.len)

abbrev pub is_stored_to : List Region → List Wrote → ℕ → Bool
is_stored_to regions stored granule = list_any (λ (range : Wrote). list_any (is_in_granule granule range) regions) stored

-- a reservation is lost where another stored in its granule
abbrev pub kept_reservation : List Region → List Wrote → Option ℕ → Option ℕ
kept_reservation regions stored None = None
kept_reservation regions stored (Some granule) = if is_stored_to regions stored granule then None else Some granule

abbrev pub with_kept : List Region → List Wrote → Cpu → Cpu
with_kept regions stored cpu = record cpu { registers = with_reserved (kept_reservation regions stored cpu.registers.reserved) cpu.registers }

-- ---- copies

-- some of the ranges of logical addresses has a byte of the granule that begins at this one
abbrev pub is_copied_to : List Span → ℕ → Bool
is_copied_to ranges granule = list_any (λ (range : Span). ranges_meet granule granule_size range.at range.size) ranges

-- an entry of a list copies bytes into that granule
abbrev pub is_in_entry : ℕ → SgEntry → Bool
is_in_entry granule entry = not (entry.size == 0) && ranges_meet granule granule_size entry.target entry.size

-- a reservation is lost where bytes were copied into its granule
abbrev pub uncopied_reservation : List Span → Option ℕ → Option ℕ
uncopied_reservation ranges None = None
uncopied_reservation ranges (Some granule) = if is_copied_to ranges granule then None else Some granule

abbrev pub with_copied : List Span → Cpu → Cpu
with_copied ranges cpu = record cpu { registers = with_reserved (uncopied_reservation ranges cpu.registers.reserved) cpu.registers }
