-- What the steps of a run come to is counted.
use Rattle.std.proofs.Common.{◌≡◌, ℕ, ◌+◌, ◌*◌, ◌<◌, ◌≤◌, true, false, if◌then◌else◌, Bool, List, [], length, refl, sym, ap, ◌∙◌, arith}
use Rattle.machine_desc.specs.declared.act.Act.{Act as Told}
use Rattle.machine_desc.specs.declared.act.Act.TheVariants as told
use Rattle.copy_lists.specs.Pieces.{Piece}
use Rattle.partition.specs.Act.{Act, act_of}
use Rattle.partition.specs.Lending.{Part, HasBytes}
use Rattle.network.specs.Network.{Network}
use Rattle.network.specs.World.{World}
use Rattle.network.specs.Turn.{done_by, steps_in}
use Rattle.network.specs.Tally.{Tally, no_tally, has_line, line_count, sent_count, after_act, after_lines}
use Rattle.system.specs.System.{Held, most_counted, total_steps, IsSystem, IsTallied}
use Rattle.system.proofs.Counted.{few_steps}

-- ---- what the program counts by is what the definition counts by

line_alike : (pieces : List Piece) (act : Told) → line_count (act_of [] act) ≡ line_count (act_of pieces act)
line_alike pieces (told.CopyTo handle count) = refl
line_alike pieces told.None = refl
line_alike pieces _ = refl

sent_alike : (pieces : List Piece) (act : Told) → sent_count (act_of [] act) ≡ sent_count (act_of pieces act)
sent_alike pieces (told.CopyTo handle count) = refl
sent_alike pieces told.None = refl
sent_alike pieces _ = refl

told_tally : (pieces : List Piece) (act : Told) (tally : Tally) → after_act (act_of [] act) tally ≡ after_act (act_of pieces act) tally
told_tally pieces act tally =
    ap (λ (n : ℕ). let it : Tally = record { lines = tally.lines + n; sent = tally.sent + sent_count (act_of [] act) } in it) (line_alike pieces act)
    ∙ ap (λ (n : ℕ). let it : Tally = record { lines = tally.lines + line_count (act_of pieces act); sent = tally.sent + n } in it) (sent_alike pieces act)

pub tallied : (network : Network) (world : World) (part core : ℕ) (pieces : List Piece) (act : Told) (tally : Tally) → (done_by network world.machines part core).act ≡ act_of pieces act
    → after_act (act_of [] act) tally ≡ after_lines (steps_in network part core world).lines tally
unfolding steps_in
tallied network world part core pieces act tally e = told_tally pieces act tally ∙ ap (λ (a : Act). after_act a tally) (sym e)

-- ---- the counts stay small

pub none_tallied : (parts : List Part) → IsTallied parts no_tally
none_tallied parts = record { lines = omega arith; sent = omega arith }

few_lines : (b : Bool) → (if b then 1 else 0) ≤ 1
few_lines true = omega arith
few_lines false = omega arith

few_sent : (act : Told) → HasBytes act → sent_count (act_of [] act) ≤ 16
few_sent (told.Sent handle bytes) has = has.1
few_sent told.None has = omega arith
few_sent _ has = omega arith

pub still_tallied : (parts new : List Part) (tally : Tally) (act : Told) → IsTallied parts tally → total_steps new ≡ total_steps parts + 1 → HasBytes act → IsTallied new (after_act (act_of [] act) tally)
still_tallied parts new tally act kept rises has =
    let lines = kept.lines in
    let sent = kept.sent in
    let one : line_count (act_of [] act) ≤ 1 = few_lines (has_line (act_of [] act)) in
    let few = few_sent act has in
    record { lines = omega (arith, lines, rises, one); sent = omega (arith, sent, rises, few) }

-- one more step can be counted
pub record IsFew (tally : Tally) (act : Told) : Type 0 where
  pub lines : tally.lines + 1 ≤ 18446744073709551615
  pub sent : tally.sent + sent_count (act_of [] act) ≤ 18446744073709551615

pub few_tallied : (held : Held) (tally : Tally) (act : Told) → IsSystem held → IsTallied held.parts tally → HasBytes act → IsFew tally act
few_tallied held tally act kept t has =
    let lines = t.lines in
    let sent = t.sent in
    let few = few_steps held kept in
    let bytes = few_sent act has in
    record { lines = omega (arith, lines, few); sent = omega (arith, sent, few, bytes) }
