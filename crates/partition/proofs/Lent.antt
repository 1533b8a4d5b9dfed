-- What is owed to the lender of the ports.
use Rattle.std.proofs.Common.{◌≡◌, ℕ, List, [], Option, None, refl, sym, subst}
use Rattle.machine_desc.specs.declared.act.Act.{Act as Told}
use Rattle.machine_desc.specs.declared.act.Act.TheVariants as told
use Rattle.machine_desc.specs.declared.desc.Region.{Region}
use Rattle.partition.specs.declared.kind.Kind.{Kind}
use Rattle.partition.specs.Copying.{Copy}
use Rattle.partition.specs.Port.{End}
use Rattle.copy_lists.specs.Pieces.{Piece}
use Rattle.ground.specs.Own.{KeepsForeign}
use Rattle.fresh_load.specs.Placed.{extents_of}
use Rattle.partition.specs.Act.{HasTotal, act_of}
use Rattle.partition.specs.Lending.{Did, HasEntry, HasHandle, IsQuiet, IsLent, KeepsOthers}

-- where no call on the ports is made, nothing is owed but the handle's kind
pub bell_lent : {S : Type 0} (kinds : S → List Kind) (seen : S → List End) (sends : S → ℕ → List ℕ → S → Type 0) (takes : S → ℕ → ℕ → S → Type 0) (copies : S → List (List ℕ) → Copy → S → Type 0) (tells : S → ℕ → Option (List Region)) (latest : S → Copy) (memory : List (List ℕ)) (act : Told) (ports : S)
    → IsQuiet act → HasEntry act → HasHandle (kinds ports) act → IsLent kinds seen sends takes copies tells latest None memory act ports ports
bell_lent kinds seen sends takes copies tells latest memory told.None ports q e h = record { bytes = tt; entry = e; handle = tt; seen = refl; same = refl; told = refl; last = refl; did = refl }
bell_lent kinds seen sends takes copies tells latest memory (told.Rang handle) ports q e h = record { bytes = tt; entry = e; handle = h; seen = refl; same = refl; told = refl; last = refl; did = refl }
bell_lent kinds seen sends takes copies tells latest memory (told.Sent handle bytes) ports q e h = absurd q
bell_lent kinds seen sends takes copies tells latest memory (told.Took handle count) ports q e h = absurd q
bell_lent kinds seen sends takes copies tells latest memory (told.Start handle entry load) ports q e h = record { bytes = tt; entry = e; handle = h; seen = refl; same = refl; told = refl; last = refl; did = refl }
bell_lent kinds seen sends takes copies tells latest memory (told.Stop handle) ports q e h = record { bytes = tt; entry = e; handle = h; seen = refl; same = refl; told = refl; last = refl; did = refl }
bell_lent kinds seen sends takes copies tells latest memory (told.Restart handle) ports q e h = record { bytes = tt; entry = e; handle = h; seen = refl; same = refl; told = refl; last = refl; did = refl }
bell_lent kinds seen sends takes copies tells latest memory (told.CopyTo handle total) ports q e h = absurd q
bell_lent kinds seen sends takes copies tells latest memory (told.CopyFrom handle total) ports q e h = absurd q
bell_lent kinds seen sends takes copies tells latest memory told.SelfStop ports q e h = record { bytes = tt; entry = e; handle = tt; seen = refl; same = refl; told = refl; last = refl; did = refl }
bell_lent kinds seen sends takes copies tells latest memory told.SelfRestart ports q e h = record { bytes = tt; entry = e; handle = tt; seen = refl; same = refl; told = refl; last = refl; did = refl }
bell_lent kinds seen sends takes copies tells latest memory told.Faulted ports q e h = record { bytes = tt; entry = e; handle = tt; seen = refl; same = refl; told = refl; last = refl; did = refl }

-- ---- an act of a step that copies nothing

-- It is the same with any pieces, and keeps what others have.
pub record IsPlain (pieces : List Piece) (act : Told) : Type 0 where
  pub same : act_of [] act ≡ act_of pieces act
  pub total : HasTotal pieces act
  pub others : (tells : ℕ → Option (List Region)) (own : List Region) (last : Copy) (before after : List (List ℕ)) → KeepsForeign (extents_of own) before after → KeepsOthers tells own last act before after

pub plain_act : {S : Type 0} (sends : S → ℕ → List ℕ → S → Type 0) (takes : S → ℕ → ℕ → S → Type 0) (copies : S → List (List ℕ) → Copy → S → Type 0) (latest : S → Copy) (memory : List (List ℕ)) (act : Told) (old new : S) (pieces : List Piece)
    → Did sends takes copies latest None memory act old new → IsPlain pieces act
plain_act sends takes copies latest memory told.None old new pieces did = record { same = refl; total = tt; others = λ _ _ _ _ _ h. h }
plain_act sends takes copies latest memory (told.Sent handle bytes) old new pieces did = record { same = refl; total = tt; others = λ _ _ _ _ _ h. h }
plain_act sends takes copies latest memory (told.Took handle count) old new pieces did = record { same = refl; total = tt; others = λ _ _ _ _ _ h. h }
plain_act sends takes copies latest memory (told.Rang handle) old new pieces did = record { same = refl; total = tt; others = λ _ _ _ _ _ h. h }
plain_act sends takes copies latest memory (told.Start handle entry load) old new pieces did = record { same = refl; total = tt; others = λ _ _ _ _ _ h. h }
plain_act sends takes copies latest memory (told.Stop handle) old new pieces did = record { same = refl; total = tt; others = λ _ _ _ _ _ h. h }
plain_act sends takes copies latest memory (told.Restart handle) old new pieces did = record { same = refl; total = tt; others = λ _ _ _ _ _ h. h }
plain_act sends takes copies latest memory (told.CopyTo handle count) old new pieces did = absurd (let never = did.0 in cc)
plain_act sends takes copies latest memory (told.CopyFrom handle count) old new pieces did = absurd (let never = did.0 in cc)
plain_act sends takes copies latest memory told.SelfStop old new pieces did = record { same = refl; total = tt; others = λ _ _ _ _ _ h. h }
plain_act sends takes copies latest memory told.SelfRestart old new pieces did = record { same = refl; total = tt; others = λ _ _ _ _ _ h. h }
plain_act sends takes copies latest memory told.Faulted old new pieces did = record { same = refl; total = tt; others = λ _ _ _ _ _ h. h }

-- a step that does nothing for others
pub nothing_lent : {S : Type 0} (kinds : S → List Kind) (seen : S → List End) (sends : S → ℕ → List ℕ → S → Type 0) (takes : S → ℕ → ℕ → S → Type 0) (copies : S → List (List ℕ) → Copy → S → Type 0) (tells : S → ℕ → Option (List Region)) (latest : S → Copy) (copy : Option Copy) (memory : List (List ℕ)) (act : Told) (ports : S)
    → act ≡ told.None → copy ≡ None → IsLent kinds seen sends takes copies tells latest copy memory act ports ports
nothing_lent kinds seen sends takes copies tells latest copy memory act ports is none =
    subst (λ (a : Told). IsLent kinds seen sends takes copies tells latest copy memory a ports ports) (sym is)
    (subst (λ (c : Option Copy). IsLent kinds seen sends takes copies tells latest c memory told.None ports ports) (sym none) (bell_lent kinds seen sends takes copies tells latest memory told.None ports tt tt tt))
