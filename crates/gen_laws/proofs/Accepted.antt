-- The configurations of 2 to 8 partitions are plain, and break none of the rules C5 to C22 on their hardware.
use Rattle.std.proofs.Common.{◌≡◌, ℕ, zero, suc, ◌≤◌, None, refl, arith}
use Rattle.config_checks.specs.Rules.{first_broken}
use Rattle.gen_load.specs.Draws.{count_of}
use Rattle.gen_load.specs.Meant.{generated_config, generated_board}
use Rattle.gen_load.specs.Laws.{CountsAreFew}
use Rattle.gen_laws.specs.Laws.{IsAcceptedOn}
use Rattle.gen_laws.proofs.Compute.{checking}

rules-2 : first_broken (generated_config 2) (generated_board 2) ≡ None
unfolding checking
rules-2 = refl

at-2 : IsAcceptedOn (generated_board 2) (generated_config 2)
unfolding checking
at-2 = record { plain = record { areas = refl; channels = refl; consoles = refl; bells = refl; parts = refl; plain_parts = refl }; rules = rules-2 }

rules-3 : first_broken (generated_config 3) (generated_board 3) ≡ None
unfolding checking
rules-3 = refl

at-3 : IsAcceptedOn (generated_board 3) (generated_config 3)
unfolding checking
at-3 = record { plain = record { areas = refl; channels = refl; consoles = refl; bells = refl; parts = refl; plain_parts = refl }; rules = rules-3 }

rules-4 : first_broken (generated_config 4) (generated_board 4) ≡ None
unfolding checking
rules-4 = refl

at-4 : IsAcceptedOn (generated_board 4) (generated_config 4)
unfolding checking
at-4 = record { plain = record { areas = refl; channels = refl; consoles = refl; bells = refl; parts = refl; plain_parts = refl }; rules = rules-4 }

rules-5 : first_broken (generated_config 5) (generated_board 5) ≡ None
unfolding checking
rules-5 = refl

at-5 : IsAcceptedOn (generated_board 5) (generated_config 5)
unfolding checking
at-5 = record { plain = record { areas = refl; channels = refl; consoles = refl; bells = refl; parts = refl; plain_parts = refl }; rules = rules-5 }

rules-6 : first_broken (generated_config 6) (generated_board 6) ≡ None
unfolding checking
rules-6 = refl

at-6 : IsAcceptedOn (generated_board 6) (generated_config 6)
unfolding checking
at-6 = record { plain = record { areas = refl; channels = refl; consoles = refl; bells = refl; parts = refl; plain_parts = refl }; rules = rules-6 }

rules-7 : first_broken (generated_config 7) (generated_board 7) ≡ None
unfolding checking
rules-7 = refl

at-7 : IsAcceptedOn (generated_board 7) (generated_config 7)
unfolding checking
at-7 = record { plain = record { areas = refl; channels = refl; consoles = refl; bells = refl; parts = refl; plain_parts = refl }; rules = rules-7 }

rules-8 : first_broken (generated_config 8) (generated_board 8) ≡ None
unfolding checking
rules-8 = refl

at-8 : IsAcceptedOn (generated_board 8) (generated_config 8)
unfolding checking
at-8 = record { plain = record { areas = refl; channels = refl; consoles = refl; bells = refl; parts = refl; plain_parts = refl }; rules = rules-8 }

-- ---- each

pub accepted-at : (count : ℕ) → 2 ≤ count → count ≤ 8 → IsAcceptedOn (generated_board count) (generated_config count)
accepted-at zero some few = absurd (omega arith)
accepted-at (suc zero) some few = absurd (omega arith)
accepted-at (suc (suc zero)) some few = at-2
accepted-at (suc (suc (suc zero))) some few = at-3
accepted-at (suc (suc (suc (suc zero)))) some few = at-4
accepted-at (suc (suc (suc (suc (suc zero))))) some few = at-5
accepted-at (suc (suc (suc (suc (suc (suc zero)))))) some few = at-6
accepted-at (suc (suc (suc (suc (suc (suc (suc zero))))))) some few = at-7
accepted-at (suc (suc (suc (suc (suc (suc (suc (suc zero)))))))) some few = at-8
accepted-at (suc (suc (suc (suc (suc (suc (suc (suc (suc n))))))))) some few = absurd (omega arith)

pub accepted : CountsAreFew → (number : ℕ) → IsAcceptedOn (generated_board (count_of number)) (generated_config (count_of number))
accepted law number = accepted-at (count_of number) (law number).0 (law number).1
