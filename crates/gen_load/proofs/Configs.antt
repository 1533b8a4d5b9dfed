-- The configurations of 2 to 8 partitions: each fits, breaks none of the rules C1 to C4 and says what it is meant to say.
use Rattle.std.proofs.Common.{◌≡◌, ℕ, zero, suc, ◌≤◌, true, [], length, leb, None, refl, ap, ◌∙◌, arith}
use Rattle.dt_model.specs.Rule.{first_broken}
use Rattle.dt_model.specs.Canonical.{blob_saying}
use Rattle.hv_config.specs.Rule.{first_broken_among}
use Rattle.hv_config.specs.Meaning.{config_in}
use Rattle.hv_read.proofs.Config.{root_seats}
use Rattle.gen_load.specs.Tokens.{config_tokens}
use Rattle.gen_load.specs.Meant.{generated_config}
use Rattle.gen_load.specs.Bundle.{largest_blob}
use Rattle.gen_load.proofs.Said.{root_in}
use Rattle.gen_load.proofs.Shallow.{is_shallow, root_seats_to, root-found}
use Rattle.gen_load.proofs.Compute.{everything}

-- a list, a definition, and a list and a definition in that are below the root
abbrev levels : ℕ
levels = 4

-- what holds of the tokens of the configuration
pub record ConfigHolds (count : ℕ) : Type 0 where
  pub fits : first_broken [] (config_tokens count) ≡ None
  pub short : leb (length (blob_saying 0 [] (config_tokens count))) largest_blob ≡ true
  pub meaning : config_in (root_in (config_tokens count)) ≡ generated_config count
  pub rules : first_broken_among (root_seats (root_in (config_tokens count))) ≡ None

rules-by : (count : ℕ) → is_shallow levels (root_in (config_tokens count)) ≡ true
    → first_broken_among (root_seats_to levels (root_in (config_tokens count))) ≡ None → first_broken_among (root_seats (root_in (config_tokens count))) ≡ None
rules-by count shallow none = ap first_broken_among (root-found levels (root_in (config_tokens count)) shallow) ∙ none

-- ---- 2 partitions

fits-2 : first_broken [] (config_tokens 2) ≡ None
unfolding everything
fits-2 = refl

short-2 : leb (length (blob_saying 0 [] (config_tokens 2))) largest_blob ≡ true
unfolding everything
short-2 = refl

meaning-2 : config_in (root_in (config_tokens 2)) ≡ generated_config 2
unfolding everything
meaning-2 = refl

shallow-2 : is_shallow levels (root_in (config_tokens 2)) ≡ true
unfolding everything
shallow-2 = refl

sound-2 : first_broken_among (root_seats_to levels (root_in (config_tokens 2))) ≡ None
unfolding everything
sound-2 = refl

holds-2 : ConfigHolds 2
holds-2 = record { fits = fits-2; short = short-2; meaning = meaning-2; rules = rules-by 2 shallow-2 sound-2 }

-- ---- 3 partitions

fits-3 : first_broken [] (config_tokens 3) ≡ None
unfolding everything
fits-3 = refl

short-3 : leb (length (blob_saying 0 [] (config_tokens 3))) largest_blob ≡ true
unfolding everything
short-3 = refl

meaning-3 : config_in (root_in (config_tokens 3)) ≡ generated_config 3
unfolding everything
meaning-3 = refl

shallow-3 : is_shallow levels (root_in (config_tokens 3)) ≡ true
unfolding everything
shallow-3 = refl

sound-3 : first_broken_among (root_seats_to levels (root_in (config_tokens 3))) ≡ None
unfolding everything
sound-3 = refl

holds-3 : ConfigHolds 3
holds-3 = record { fits = fits-3; short = short-3; meaning = meaning-3; rules = rules-by 3 shallow-3 sound-3 }

-- ---- 4 partitions

fits-4 : first_broken [] (config_tokens 4) ≡ None
unfolding everything
fits-4 = refl

short-4 : leb (length (blob_saying 0 [] (config_tokens 4))) largest_blob ≡ true
unfolding everything
short-4 = refl

meaning-4 : config_in (root_in (config_tokens 4)) ≡ generated_config 4
unfolding everything
meaning-4 = refl

shallow-4 : is_shallow levels (root_in (config_tokens 4)) ≡ true
unfolding everything
shallow-4 = refl

sound-4 : first_broken_among (root_seats_to levels (root_in (config_tokens 4))) ≡ None
unfolding everything
sound-4 = refl

holds-4 : ConfigHolds 4
holds-4 = record { fits = fits-4; short = short-4; meaning = meaning-4; rules = rules-by 4 shallow-4 sound-4 }

-- ---- 5 partitions

fits-5 : first_broken [] (config_tokens 5) ≡ None
unfolding everything
fits-5 = refl

short-5 : leb (length (blob_saying 0 [] (config_tokens 5))) largest_blob ≡ true
unfolding everything
short-5 = refl

meaning-5 : config_in (root_in (config_tokens 5)) ≡ generated_config 5
unfolding everything
meaning-5 = refl

shallow-5 : is_shallow levels (root_in (config_tokens 5)) ≡ true
unfolding everything
shallow-5 = refl

sound-5 : first_broken_among (root_seats_to levels (root_in (config_tokens 5))) ≡ None
unfolding everything
sound-5 = refl

holds-5 : ConfigHolds 5
holds-5 = record { fits = fits-5; short = short-5; meaning = meaning-5; rules = rules-by 5 shallow-5 sound-5 }

-- ---- 6 partitions

fits-6 : first_broken [] (config_tokens 6) ≡ None
unfolding everything
fits-6 = refl

short-6 : leb (length (blob_saying 0 [] (config_tokens 6))) largest_blob ≡ true
unfolding everything
short-6 = refl

meaning-6 : config_in (root_in (config_tokens 6)) ≡ generated_config 6
unfolding everything
meaning-6 = refl

shallow-6 : is_shallow levels (root_in (config_tokens 6)) ≡ true
unfolding everything
shallow-6 = refl

sound-6 : first_broken_among (root_seats_to levels (root_in (config_tokens 6))) ≡ None
unfolding everything
sound-6 = refl

holds-6 : ConfigHolds 6
holds-6 = record { fits = fits-6; short = short-6; meaning = meaning-6; rules = rules-by 6 shallow-6 sound-6 }

-- ---- 7 partitions

fits-7 : first_broken [] (config_tokens 7) ≡ None
unfolding everything
fits-7 = refl

short-7 : leb (length (blob_saying 0 [] (config_tokens 7))) largest_blob ≡ true
unfolding everything
short-7 = refl

meaning-7 : config_in (root_in (config_tokens 7)) ≡ generated_config 7
unfolding everything
meaning-7 = refl

shallow-7 : is_shallow levels (root_in (config_tokens 7)) ≡ true
unfolding everything
shallow-7 = refl

sound-7 : first_broken_among (root_seats_to levels (root_in (config_tokens 7))) ≡ None
unfolding everything
sound-7 = refl

holds-7 : ConfigHolds 7
holds-7 = record { fits = fits-7; short = short-7; meaning = meaning-7; rules = rules-by 7 shallow-7 sound-7 }

-- ---- 8 partitions

fits-8 : first_broken [] (config_tokens 8) ≡ None
unfolding everything
fits-8 = refl

short-8 : leb (length (blob_saying 0 [] (config_tokens 8))) largest_blob ≡ true
unfolding everything
short-8 = refl

meaning-8 : config_in (root_in (config_tokens 8)) ≡ generated_config 8
unfolding everything
meaning-8 = refl

shallow-8 : is_shallow levels (root_in (config_tokens 8)) ≡ true
unfolding everything
shallow-8 = refl

sound-8 : first_broken_among (root_seats_to levels (root_in (config_tokens 8))) ≡ None
unfolding everything
sound-8 = refl

holds-8 : ConfigHolds 8
holds-8 = record { fits = fits-8; short = short-8; meaning = meaning-8; rules = rules-by 8 shallow-8 sound-8 }

-- ---- each

pub config-holds : (count : ℕ) → 2 ≤ count → count ≤ 8 → ConfigHolds count
config-holds zero some few = absurd (omega arith)
config-holds (suc zero) some few = absurd (omega arith)
config-holds (suc (suc zero)) some few = holds-2
config-holds (suc (suc (suc zero))) some few = holds-3
config-holds (suc (suc (suc (suc zero)))) some few = holds-4
config-holds (suc (suc (suc (suc (suc zero))))) some few = holds-5
config-holds (suc (suc (suc (suc (suc (suc zero)))))) some few = holds-6
config-holds (suc (suc (suc (suc (suc (suc (suc zero))))))) some few = holds-7
config-holds (suc (suc (suc (suc (suc (suc (suc (suc zero)))))))) some few = holds-8
config-holds (suc (suc (suc (suc (suc (suc (suc (suc (suc n))))))))) some few = absurd (omega arith)
