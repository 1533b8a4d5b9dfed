use Rattle.std.proofs.Common.{◌≡◌, ◌-◌, ◌^◌, min, take, sum_by}
use Rattle.copy_lists.specs.declared.list.SgEntry.{SgEntry}
use Rattle.copy_lists.proofs.list.total.Given as goal

-- the bytes of the entries so far
abbrev pub invariant-loop-entry : goal.invariant-loop-entry
invariant-loop-entry l = l.bytes ≡ min (sum_by (λ (entry : SgEntry). entry.size) (take l.entry-index l.entries)) (2 ^ 64 - 1)
