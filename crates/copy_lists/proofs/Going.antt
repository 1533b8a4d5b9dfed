-- What is sure of a copy that goes.
use Rattle.std.proofs.Common.{◌≡◌, ◌*◌, Bool, true, false, not, ◌||◌, ◌&&◌, ltb, ◌==◌, if◌then◌else◌, List, [], ◌∷◌, refl, sym, ap, ◌∙◌}
use Rattle.std.specs.List.{list_all}
use Rattle.std.proofs.lemmas.Bool.{ltb-false}
use Rattle.machine_desc.specs.Private.{is_private_range}
use Rattle.hcall_abi.specs.declared.status.Status.{Status}
use Rattle.hcall_abi.specs.declared.status.Status.TheVariants.{Fault, InvalidArgument}
use Rattle.partition_manager.specs.declared.decision.Decision.{Decision}
use Rattle.partition_manager.specs.declared.decision.Decision.TheVariants.{Go}
use Rattle.partition_manager.specs.Decisions.{refused}
use Rattle.copy_lists.specs.declared.list.SgEntry.{SgEntry}
use Rattle.copy_lists.specs.Lists.{entry_size, most_bytes, total, list_address, list_count, is_to_managed, is_copy_asked, is_entry_private, source_private, target_private, asked_entries, are_entries_private, copy_decision}
use Rattle.copy_lists.specs.Laws.{GoneIsChecked, CheckedIsCopiable}

-- what goes passed a check
passed : (check : Bool) (status : Status) (rest : Decision) → (if not check then refused status else rest) ≡ Go → (check ≡ true) × (rest ≡ Go)
passed true status rest e = (refl, e)
passed false status rest e = absurd cc

not_failed : (fault : Bool) (status : Status) (rest : Decision) → (if fault then refused status else rest) ≡ Go → (fault ≡ false) × (rest ≡ Go)
not_failed true status rest e = absurd cc
not_failed false status rest e = (refl, e)

pub gone_is_checked : GoneIsChecked
unfolding copy_decision
gone_is_checked ports registers own_private managed_private byte e =
    let first = passed (is_copy_asked ports registers) InvalidArgument _ e in
    let second = passed (own_private (list_address registers) (entry_size * list_count registers)) Fault _ first.1 in
    let third = not_failed (ltb most_bytes (total (asked_entries registers byte))) InvalidArgument _ second.1 in
    let fourth = passed (are_entries_private (is_to_managed registers) own_private managed_private (asked_entries registers byte)) Fault Go third.1 in
    record { asked = first.0; list = second.0; few = ltb-false most_bytes (total (asked_entries registers byte)) third.0; private = fourth.0 }

-- a test of all that says the same of each
same_all : {X : Type 0} (f g : X → Bool) (xs : List X) → ((x : X) → f x ≡ g x) → list_all f xs ≡ list_all g xs
same_all f g [] same = refl
same_all f g (x ∷ xs) same = rw (same x, same_all f g xs same) refl

pub checked_is_copiable : CheckedIsCopiable
unfolding are_entries_private
checked_is_copiable own managed managed_private entries same = (
  λ h.
      same_all (is_entry_private (is_private_range own) (is_private_range managed)) (is_entry_private (source_private true (is_private_range own) managed_private) (target_private true (is_private_range own) managed_private)) entries
      (λ (entry : SgEntry). ap (λ (b : Bool). entry.size == 0 || (is_private_range own entry.source entry.size && b)) (sym (same entry.target entry.size)))
      ∙ h,
  λ h.
      same_all (is_entry_private (is_private_range managed) (is_private_range own)) (is_entry_private (source_private false (is_private_range own) managed_private) (target_private false (is_private_range own) managed_private)) entries
      (λ (entry : SgEntry). ap (λ (b : Bool). entry.size == 0 || (b && is_private_range own entry.target entry.size)) (sym (same entry.source entry.size)))
      ∙ h,
)
