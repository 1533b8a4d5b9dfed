-- Clocks over many steps.
use Rattle.std.proofs.Common.{◌≡◌, ℕ, zero, suc, ◌+◌, ◌-◌, ◌%◌, ◌^◌, ◌<◌, ◌==◌, Bool, true, false, if◌then◌else◌, bit_or, refl, ◌∙◌, ap, arith}
use Rattle.guest_regs.specs.Registers.{Registers}
use Rattle.guest_regs.specs.State.{is_set}
use Rattle.trap_emulate.specs.Clock.{ticked, expired, time_passed, auto_reload, decrementer_status}
use Rattle.trap_emulate.specs.Laws.{after_steps, TimeCountsSteps, FallsInSilence, ExpiresOnTime, RestsAtZero}

-- the first, second and last of three
first_of : (a b : Bool) (x y z : Registers) → a ≡ true → (if a then x else if b then y else z) ≡ x
first_of true b x y z h = refl
first_of false b x y z h = cc

second_of : (a b : Bool) (x y z : Registers) → a ≡ false → b ≡ true → (if a then x else if b then y else z) ≡ y
second_of false true x y z h k = refl
second_of true b x y z h k = cc
second_of false false x y z h k = cc

last_of : (a b : Bool) (x y z : Registers) → a ≡ false → b ≡ false → (if a then x else if b then y else z) ≡ z
last_of false false x y z h k = refl
last_of true b x y z h k = cc
last_of false true x y z h k = cc

-- one step from each value of the decrementer
rests : (r : Registers) → r.dec ≡ 0 → ticked r ≡ time_passed r
unfolding ticked
rests r h = first_of (r.dec == 0) (r.dec == 1) (time_passed r) (expired (time_passed r)) (record (time_passed r) { dec = r.dec - 1 }) (grind (arith, h))

expires : (r : Registers) → r.dec ≡ 1 → ticked r ≡ expired (time_passed r)
unfolding ticked
expires r h = second_of (r.dec == 0) (r.dec == 1) (time_passed r) (expired (time_passed r)) (record (time_passed r) { dec = r.dec - 1 }) (grind (arith, h)) (grind (arith, h))

falls : (r : Registers) → 1 < r.dec → ticked r ≡ record (time_passed r) { dec = r.dec - 1 }
unfolding ticked
falls r h = last_of (r.dec == 0) (r.dec == 1) (time_passed r) (expired (time_passed r)) (record (time_passed r) { dec = r.dec - 1 }) (grind (arith, h)) (grind (arith, h))

-- whichever it is, the time base counts it
same_time : (a b : Bool) (x y z : Registers) (t : ℕ) → x.time ≡ t → y.time ≡ t → z.time ≡ t → (if a then x else if b then y else z).time ≡ t
same_time true b x y z t h k l = h
same_time false true x y z t h k l = k
same_time false false x y z t h k l = l

counts : (r : Registers) → (ticked r).time ≡ (r.time + 1) % 2 ^ 64
unfolding ticked expired
counts r = same_time (r.dec == 0) (r.dec == 1) (time_passed r) (expired (time_passed r)) (record (time_passed r) { dec = r.dec - 1 }) ((r.time + 1) % 2 ^ 64) refl refl refl

next_time : (t n : ℕ) → ((t + n) % 2 ^ 64 + 1) % 2 ^ 64 ≡ (t + suc n) % 2 ^ 64
next_time t n = grind arith

pub time_counts_steps : TimeCountsSteps
time_counts_steps zero r h = grind (arith, h)
time_counts_steps (suc n) r h =
    let before : (after_steps n r).time ≡ (r.time + n) % 2 ^ 64 = time_counts_steps n r h in
    counts (after_steps n r) ∙ (ap (λ t. (t + 1) % 2 ^ 64) before ∙ next_time r.time n)

-- before its last step a decrementer falls, and what it is reloaded with stays
silent : (n : ℕ) (r : Registers) → n < r.dec → ((after_steps n r).dec ≡ r.dec - n) × ((after_steps n r).tsr ≡ r.tsr) × ((after_steps n r).tcr ≡ r.tcr) × ((after_steps n r).decar ≡ r.decar)
silent zero r h = (omega arith, refl, refl, refl)
silent (suc n) r h =
    let before : ((after_steps n r).dec ≡ r.dec - n) × ((after_steps n r).tsr ≡ r.tsr) × ((after_steps n r).tcr ≡ r.tcr) × ((after_steps n r).decar ≡ r.decar) = silent n r (omega arith) in
    let above : 1 < (after_steps n r).dec = omega (arith, before.0, h) in
    let step : ticked (after_steps n r) ≡ record (time_passed (after_steps n r)) { dec = (after_steps n r).dec - 1 } = falls (after_steps n r) above in
    let less : (after_steps n r).dec - 1 ≡ r.dec - suc n = omega (arith, before.0, h) in
    (ap (λ s. s.dec) step ∙ less, ap (λ s. s.tsr) step ∙ before.1, ap (λ s. s.tcr) step ∙ before.2, ap (λ s. s.decar) step ∙ before.3)

pub falls_in_silence : FallsInSilence
falls_in_silence n r h = let all = silent n r h in (all.0, all.1)

pub expires_on_time : ExpiresOnTime
unfolding expired
expires_on_time n r h =
    let before : ((after_steps n r).dec ≡ r.dec - n) × ((after_steps n r).tsr ≡ r.tsr) × ((after_steps n r).tcr ≡ r.tcr) × ((after_steps n r).decar ≡ r.decar) = silent n r (omega (arith, h)) in
    let one : (after_steps n r).dec ≡ 1 = omega (arith, before.0, h) in
    let step : ticked (after_steps n r) ≡ expired (time_passed (after_steps n r)) = expires (after_steps n r) one in
    let reload : ℕ → ℕ → ℕ = λ tcr decar. if is_set auto_reload tcr then decar else 0 in (
      ap (λ s. s.dec) step ∙ (ap (λ t. reload t (after_steps n r).decar) before.2 ∙ ap (λ d. reload r.tcr d) before.3),
      ap (λ s. s.tsr) step ∙ ap (λ t. bit_or t decrementer_status) before.1,
    )

pub rests_at_zero : RestsAtZero
rests_at_zero zero r h = (h, refl)
rests_at_zero (suc n) r h =
    let before : ((after_steps n r).dec ≡ 0) × ((after_steps n r).tsr ≡ r.tsr) = rests_at_zero n r h in
    let step : ticked (after_steps n r) ≡ time_passed (after_steps n r) = rests (after_steps n r) before.0 in
    (ap (λ s. s.dec) step ∙ before.0, ap (λ s. s.tsr) step ∙ before.1)
