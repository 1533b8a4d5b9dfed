-- The hardware for 2 to 8 partitions: each tree fits, breaks none of the rules H1 to H4 and says what it is meant to say.
use Rattle.std.proofs.Common.{◌≡◌, ℕ, zero, suc, ◌≤◌, true, [], length, leb, None, refl, arith}
use Rattle.dt_model.specs.Rule.{first_broken}
use Rattle.dt_model.specs.Canonical.{blob_saying}
use Rattle.hv_config.specs.Device.{devices_of}
use Rattle.hv_config.specs.Memory.{memory_in}
use Rattle.hv_config.specs.Hardware.{board_in, first_broken_in}
use Rattle.gen_load.specs.Tokens.{hardware_tokens}
use Rattle.gen_load.specs.Meant.{generated_board}
use Rattle.gen_load.specs.Bundle.{largest_blob}
use Rattle.gen_load.proofs.Said.{root_in}
use Rattle.gen_load.proofs.Compute.{everything}

-- what holds of the tokens of the hardware
pub record BoardHolds (count : ℕ) : Type 0 where
  pub fits : first_broken [] (hardware_tokens count) ≡ None
  pub short : leb (length (blob_saying 0 [] (hardware_tokens count))) largest_blob ≡ true
  pub meaning : board_in (devices_of (root_in (hardware_tokens count))) ≡ generated_board count
  pub rules : first_broken_in (devices_of (root_in (hardware_tokens count))) (memory_in (devices_of (root_in (hardware_tokens count)))) ≡ None

-- ---- 2 partitions

fits-2 : first_broken [] (hardware_tokens 2) ≡ None
unfolding everything
fits-2 = refl

short-2 : leb (length (blob_saying 0 [] (hardware_tokens 2))) largest_blob ≡ true
unfolding everything
short-2 = refl

meaning-2 : board_in (devices_of (root_in (hardware_tokens 2))) ≡ generated_board 2
unfolding everything
meaning-2 = refl

sound-2 : first_broken_in (devices_of (root_in (hardware_tokens 2))) (memory_in (devices_of (root_in (hardware_tokens 2)))) ≡ None
unfolding everything
sound-2 = refl

holds-2 : BoardHolds 2
holds-2 = record { fits = fits-2; short = short-2; meaning = meaning-2; rules = sound-2 }

-- ---- 3 partitions

fits-3 : first_broken [] (hardware_tokens 3) ≡ None
unfolding everything
fits-3 = refl

short-3 : leb (length (blob_saying 0 [] (hardware_tokens 3))) largest_blob ≡ true
unfolding everything
short-3 = refl

meaning-3 : board_in (devices_of (root_in (hardware_tokens 3))) ≡ generated_board 3
unfolding everything
meaning-3 = refl

sound-3 : first_broken_in (devices_of (root_in (hardware_tokens 3))) (memory_in (devices_of (root_in (hardware_tokens 3)))) ≡ None
unfolding everything
sound-3 = refl

holds-3 : BoardHolds 3
holds-3 = record { fits = fits-3; short = short-3; meaning = meaning-3; rules = sound-3 }

-- ---- 4 partitions

fits-4 : first_broken [] (hardware_tokens 4) ≡ None
unfolding everything
fits-4 = refl

short-4 : leb (length (blob_saying 0 [] (hardware_tokens 4))) largest_blob ≡ true
unfolding everything
short-4 = refl

meaning-4 : board_in (devices_of (root_in (hardware_tokens 4))) ≡ generated_board 4
unfolding everything
meaning-4 = refl

sound-4 : first_broken_in (devices_of (root_in (hardware_tokens 4))) (memory_in (devices_of (root_in (hardware_tokens 4)))) ≡ None
unfolding everything
sound-4 = refl

holds-4 : BoardHolds 4
holds-4 = record { fits = fits-4; short = short-4; meaning = meaning-4; rules = sound-4 }

-- ---- 5 partitions

fits-5 : first_broken [] (hardware_tokens 5) ≡ None
unfolding everything
fits-5 = refl

short-5 : leb (length (blob_saying 0 [] (hardware_tokens 5))) largest_blob ≡ true
unfolding everything
short-5 = refl

meaning-5 : board_in (devices_of (root_in (hardware_tokens 5))) ≡ generated_board 5
unfolding everything
meaning-5 = refl

sound-5 : first_broken_in (devices_of (root_in (hardware_tokens 5))) (memory_in (devices_of (root_in (hardware_tokens 5)))) ≡ None
unfolding everything
sound-5 = refl

holds-5 : BoardHolds 5
holds-5 = record { fits = fits-5; short = short-5; meaning = meaning-5; rules = sound-5 }

-- ---- 6 partitions

fits-6 : first_broken [] (hardware_tokens 6) ≡ None
unfolding everything
fits-6 = refl

short-6 : leb (length (blob_saying 0 [] (hardware_tokens 6))) largest_blob ≡ true
unfolding everything
short-6 = refl

meaning-6 : board_in (devices_of (root_in (hardware_tokens 6))) ≡ generated_board 6
unfolding everything
meaning-6 = refl

sound-6 : first_broken_in (devices_of (root_in (hardware_tokens 6))) (memory_in (devices_of (root_in (hardware_tokens 6)))) ≡ None
unfolding everything
sound-6 = refl

holds-6 : BoardHolds 6
holds-6 = record { fits = fits-6; short = short-6; meaning = meaning-6; rules = sound-6 }

-- ---- 7 partitions

fits-7 : first_broken [] (hardware_tokens 7) ≡ None
unfolding everything
fits-7 = refl

short-7 : leb (length (blob_saying 0 [] (hardware_tokens 7))) largest_blob ≡ true
unfolding everything
short-7 = refl

meaning-7 : board_in (devices_of (root_in (hardware_tokens 7))) ≡ generated_board 7
unfolding everything
meaning-7 = refl

sound-7 : first_broken_in (devices_of (root_in (hardware_tokens 7))) (memory_in (devices_of (root_in (hardware_tokens 7)))) ≡ None
unfolding everything
sound-7 = refl

holds-7 : BoardHolds 7
holds-7 = record { fits = fits-7; short = short-7; meaning = meaning-7; rules = sound-7 }

-- ---- 8 partitions

fits-8 : first_broken [] (hardware_tokens 8) ≡ None
unfolding everything
fits-8 = refl

short-8 : leb (length (blob_saying 0 [] (hardware_tokens 8))) largest_blob ≡ true
unfolding everything
short-8 = refl

meaning-8 : board_in (devices_of (root_in (hardware_tokens 8))) ≡ generated_board 8
unfolding everything
meaning-8 = refl

sound-8 : first_broken_in (devices_of (root_in (hardware_tokens 8))) (memory_in (devices_of (root_in (hardware_tokens 8)))) ≡ None
unfolding everything
sound-8 = refl

holds-8 : BoardHolds 8
holds-8 = record { fits = fits-8; short = short-8; meaning = meaning-8; rules = sound-8 }

-- ---- each

pub board-holds : (count : ℕ) → 2 ≤ count → count ≤ 8 → BoardHolds count
board-holds zero some few = absurd (omega arith)
board-holds (suc zero) some few = absurd (omega arith)
board-holds (suc (suc zero)) some few = holds-2
board-holds (suc (suc (suc zero))) some few = holds-3
board-holds (suc (suc (suc (suc zero)))) some few = holds-4
board-holds (suc (suc (suc (suc (suc zero))))) some few = holds-5
board-holds (suc (suc (suc (suc (suc (suc zero)))))) some few = holds-6
board-holds (suc (suc (suc (suc (suc (suc (suc zero))))))) some few = holds-7
board-holds (suc (suc (suc (suc (suc (suc (suc (suc zero)))))))) some few = holds-8
board-holds (suc (suc (suc (suc (suc (suc (suc (suc (suc n))))))))) some few = absurd (omega arith)
