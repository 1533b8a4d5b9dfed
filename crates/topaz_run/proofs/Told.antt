-- What is written and counted of turns, one behind the other.
use Rattle.std.proofs.Common.{◌≡◌, ℕ, List, [], ◌∷◌, ◌++◌, Option, refl, sym, subst, ◌∙◌, arith}
use Rattle.std.specs.Prelude.{Ok}
use Rattle.std.proofs.KnownBytes.{Appends-nil}
use Rattle.std.proofs.lemmas.Grind.{flat_map-append}
use Rattle.outside.specs.Pieces.{Writes}
use Rattle.outside.proofs.PiecesSoFar.{no_front}
use Rattle.network.specs.Network.{Network, desc_at}
use Rattle.network.specs.World.{Line}
use Rattle.network.specs.Report.{traced_line}
use Rattle.network.specs.Tally.{Tally, after_act, after_lines}
use Rattle.system.specs.declared.show.Show.{Show}
use Rattle.system.specs.declared.show.Show.TheVariants.{Acts, Quiet}
use Rattle.system.specs.Shown.{shown}

pub shown_append : (show : Show) (network : Network) (lines more : List Line) → shown show network (lines ++ more) ≡ shown show network lines ++ shown show network more
shown_append Acts network lines more = flat_map-append (λ (line : Line). traced_line (desc_at network line.part).name line.traced) lines more
shown_append Quiet network lines more = refl

pub shown_same : (show : Show) (network other : Network) (lines more : List Line) → network ≡ other → lines ≡ more → shown show network lines ≡ shown show other more
shown_same show network other lines more same is = λ i. shown show (same i) (is i)

pub nothing_shown : (show : Show) (network : Network) → shown show network [] ≡ []
nothing_shown Acts network = refl
nothing_shown Quiet network = refl

-- no line is written whole at once
pub nothing_written : {T E : Type 0} (show : Show) (network : Network) (lines : List Line) (v : T) (old : Option (List ℕ)) (now : ℕ) → [] ≡ lines
    → Writes {T = T} {E = E} (Ok v) old old now now (shown show network lines)
nothing_written {T} {E} show network lines v old now is =
    subst (λ (lines : List Line). Writes {T = T} {E = E} (Ok v) old old now now (shown show network lines)) is
    (subst (λ (text : List ℕ). Writes {T = T} {E = E} (Ok v) old old now now text) (sym (nothing_shown show network))
    (record { whole = Appends-nil old; front = no_front old []; counted = omega arith; failed = tt }))

pub counted_append : (lines more : List Line) (tally : Tally) → after_lines (lines ++ more) tally ≡ after_lines more (after_lines lines tally)
counted_append [] more tally = refl
counted_append (line ∷ lines) more tally = counted_append lines more (after_act line.traced.act tally)
