use Rattle.std.proofs.Common.{◌≡◌, ◌++◌, length}
use Rattle.std.specs.Option.{option_map}
use Rattle.script.specs.Meaning as spec
use Rattle.script.proofs.meaning.cores_of.Given as goal

-- the cores so far and those that the words left name are those that all name
abbrev pub invariant-loop-word : goal.invariant-loop-word
invariant-loop-word l = spec.cores_of l.fn.words ≡ option_map (λ cores. l.cores ++ cores) (spec.cores_of l.words)

abbrev pub decreases-loop-word : goal.decreases-loop-word
decreases-loop-word l = length l.words
