-- A copy that goes, from what it does to a memory of the caller's regions.
use Rattle.std.proofs.Common.{◌≡◌, ℕ, Bool, cond, List, [], Option, sym, ap, subst, ◌∙◌}
use Rattle.guest_regs.specs.Registers.{Registers}
use Rattle.hcall_abi.specs.Reply.{Reply}
use Rattle.ground.specs.Own.{own_of}
use Rattle.machine_desc.specs.declared.act.Act.{Act as Told}
use Rattle.machine_desc.specs.declared.desc.Desc.{Desc}
use Rattle.machine_desc.specs.declared.desc.Region.{Region}
use Rattle.machine_desc.specs.declared.desc.Span.{Span}
use Rattle.fresh_load.specs.Placed.{extents_of}
use Rattle.partition_manager.specs.declared.decision.Decision.{Decision}
use Rattle.partition_manager.specs.declared.decision.Decision.TheVariants.{Go}
use Rattle.copy_lists.specs.declared.list.SgEntry.{SgEntry}
use Rattle.copy_lists.specs.Lists.{total}
use Rattle.copy_lists.specs.Pieces.{Piece, sources_of}
use Rattle.partition.specs.declared.kind.Kind.{Kind}
use Rattle.partition.specs.Regions.{areas_of}
use Rattle.partition.specs.Port.{End}
use Rattle.partition.specs.Act.{Act, copied_to, copied_from}
use Rattle.partition.specs.Interrupts.{granted}
use Rattle.partition.specs.Machine.{shape_of}
use Rattle.partition.specs.Managing.{decided, commanding}
use Rattle.partition.specs.Copying.{Copy, own_regions, decide_copy, asked_copy, copy_act, copy}
use Rattle.partition.specs.Lending.{IsCopied, pieces_of}
use Rattle.partition.proofs.OwnBytes.{pieces_so}

-- by other names for the copy and for the regions
pub renamed : {S : Type 0} (kinds : S → List Kind) (seen : S → List End) (sends : S → ℕ → List ℕ → S → Type 0) (takes : S → ℕ → ℕ → S → Type 0) (copies : S → List (List ℕ) → Copy → S → Type 0) (tells : S → ℕ → Option (List Region)) (latest : S → Copy) (feed : ℕ → List Span → List ℕ)
    (handle : ℕ) (to_managed : Bool) (entries : List SgEntry) (it : Copy) (own regions : List Region) (before after : List (List ℕ)) (act : Told) (old new : S) → handle ≡ it.handle → to_managed ≡ it.to_managed → entries ≡ it.entries → own ≡ regions
    → IsCopied kinds seen sends takes copies tells latest (record { handle = handle; to_managed = to_managed; entries = entries }) own (feed handle (sources_of entries)) before after act old new
    → IsCopied kinds seen sends takes copies tells latest it regions (feed it.handle (sources_of it.entries)) before after act old new
renamed kinds seen sends takes copies tells latest feed handle to_managed entries it own regions before after act old new h t e o done =
    subst (λ (names : List Region). IsCopied kinds seen sends takes copies tells latest it names (feed it.handle (sources_of it.entries)) before after act old new) o
    (subst (λ (copy : Copy). IsCopied kinds seen sends takes copies tells latest copy own (feed copy.handle (sources_of copy.entries)) before after act old new) same done)
  where
    same : (let one : Copy = record { handle = handle; to_managed = to_managed; entries = entries } in one) ≡ it
    same = λ i. record { handle = h i; to_managed = t i; entries = e i }

-- what others see of it
act_so : (regions : List Region) (memory : List (List ℕ)) (it : Copy) → copy_act (own_regions (areas_of regions)) (own_of (extents_of regions) memory) it ≡ copy_act regions memory it
act_so regions memory it = ap (λ (pieces : List Piece). cond it.to_managed (copied_to it.handle pieces) (copied_from it.handle (total it.entries))) (pieces_so regions memory it.entries)

-- the reply and the act
pub served_so : (desc : Desc) (registers : Registers) (memory : List (List ℕ)) (reply : Reply) (act : Act) → decide_copy (shape_of desc) registers (own_of (extents_of desc.regions) memory) ≡ Go → reply ≡ (granted).reply
    → copy_act desc.regions memory (asked_copy (shape_of desc) registers (own_of (extents_of desc.regions) memory)) ≡ act
    → copy (shape_of desc) registers (own_of (extents_of desc.regions) memory) ≡ record { reply = reply; act = act }
unfolding copy
served_so desc registers memory reply act goes granted_is acts =
    let own : List (List ℕ) = own_of (extents_of desc.regions) memory in
    let it : Copy = asked_copy (shape_of desc) registers own in
    let whole : copy_act (own_regions (areas_of desc.regions)) own it ≡ act = act_so desc.regions memory it ∙ acts in
    ap (λ (d : Decision). decided d (commanding (copy_act (own_regions (areas_of desc.regions)) own it))) goes
    ∙ (λ i. record { reply = sym granted_is i; act = whole i })

-- what the last copy took into a managed partition, of the machine's own memory
pub last_so : (regions : List Region) (memory own : List (List ℕ)) (it last : Copy) → own ≡ own_of (extents_of regions) memory → last ≡ it → pieces_of (own_regions (areas_of regions)) own last ≡ pieces_of regions memory it
last_so regions memory own it last e f =
    ap (λ (bytes : List (List ℕ)). pieces_of (own_regions (areas_of regions)) bytes last) e
    ∙ ap (pieces_of (own_regions (areas_of regions)) (own_of (extents_of regions) memory)) f
    ∙ ap (λ (pieces : List Piece). cond it.to_managed pieces []) (pieces_so regions memory it.entries)
