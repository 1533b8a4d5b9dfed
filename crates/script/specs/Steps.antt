-- How reading goes on: what it keeps behind one line more, and what it makes of that in the end.
use Rattle.std.specs.Prelude.{◌≡◌, ℕ, ◌+◌, ◌<◌, Bool, true, nat_le, List, [], ◌∷◌, ◌++◌, length, slice_set, Option, Some, None, unwrap_or}
use Rattle.std.specs.List.{list_all}
use Rattle.script.specs.declared.names.Names.{Names}
use Rattle.script.specs.declared.line.Line.{Line}
use Rattle.script.specs.declared.line.Line.TheVariants.{Skipped, Order, At}
use Rattle.script.specs.Course.{Course, Given, given_at}
use Rattle.script.specs.Kept.{Kept}

-- the console of that place is given one thing more
abbrev pub with_given : ℕ → Given → List (List Given) → List (List Given)
with_given place given inputs = slice_set inputs place (given_at place inputs ++ given ∷ [])

-- behind a line that says nothing
abbrev pub after_skipped : Kept → Kept
after_skipped kept = record { place = kept.place + 1; latest = kept.latest; order = kept.order; inputs = kept.inputs }

-- behind an `order`
abbrev pub after_order : Kept → List ℕ → Kept
after_order kept cores = record { place = kept.place + 1; latest = kept.latest; order = Some cores; inputs = kept.inputs }

-- behind an `at`
abbrev pub after_input : Kept → ℕ → ℕ → List ℕ → Kept
after_input kept turn console bytes = record {
  place = kept.place + 1;
  latest = turn;
  order = kept.order;
  inputs = with_given console (record { turn = turn; bytes = bytes }) kept.inputs;
}

-- the same behind one line more that breaks no rule
unfoldable pub after_line : Kept → Option Line → Kept
after_line kept None = kept
after_line kept (Some Skipped) = after_skipped kept
after_line kept (Some (Order cores)) = after_order kept cores
after_line kept (Some (At turn None bytes)) = kept
after_line kept (Some (At turn (Some console) bytes)) = after_input kept turn console bytes

-- the script that the lines are
abbrev pub script_of : Names → Kept → Course
script_of names kept = record { schedule = unwrap_or kept.order names.cpus; inputs = kept.inputs }

-- nothing is given later than at that turn
unfoldable pub is_up_to : ℕ → List Given → Bool
is_up_to turn inputs = list_all (λ given. nat_le given.turn turn) inputs

-- A line that breaks no rule can be kept: it isn't one too many, its console has a place, and that console was given nothing later.
abbrev pub CanBeKept : Kept → Option Line → Type 0
CanBeKept kept None = Unit {0}
CanBeKept kept (Some Skipped) = kept.place < 65536
CanBeKept kept (Some (Order cores)) = kept.place < 65536
CanBeKept kept (Some (At turn None bytes)) = Unit {0}
CanBeKept kept (Some (At turn (Some console) bytes)) =
    (kept.place < 65536) × (console < length kept.inputs) × (is_up_to turn (given_at console kept.inputs) ≡ true)

-- there is a list for each of so many consoles, and nothing is given later than at the latest turn
pub record IsKept (consoles : ℕ) (kept : Kept) : Type 0 where
  pub inputs : length kept.inputs ≡ consoles
  pub turns : (console : ℕ) → console < consoles → is_up_to kept.latest (given_at console kept.inputs) ≡ true
