-- Each change keeps what a controller keeps.
use Rattle.std.proofs.Common.{◌≡◌, ℕ, ◌^◌, ◌<◌, ◌≤◌, ◌==◌, Bool, true, false, ◌&&◌, cond, nat_lt, nat_le, List, length, length-set, replicate, Option, Some, None, refl, sym, subst, arith}
use Rattle.std.specs.Int.{w128, bit_not}
use Rattle.std.proofs.Math.Pow.{pow-lt}
use Rattle.std.proofs.lemmas.Nat.{or_lt, and_le_l, pow_pos}
use Rattle.std.proofs.lemmas.List.{length-replicate}
use Rattle.std.proofs.lemmas.List.Elements.{All-set, All-replicate}
use Rattle.std.proofs.lemmas.Bool.{ltb-true}
use Rattle.std.proofs.lemmas.Bool.Decides.{nat_tests}
use Rattle.vpic.specs.declared.source.Source.{Source}
use Rattle.vpic.specs.Numbers.{with_number, without_number}
use Rattle.vpic.specs.Controller.{Controller, source, fresh, is_number}
use Rattle.vpic.specs.Choice.{chosen}
use Rattle.vpic.specs.Calls.{taken, ended, may_configure, configured, with_mask, may_set_task, with_task, rung}
use Rattle.vpic.specs.Kept.{IsSource, IsKept}
use Rattle.vpic.proofs.Chosen.{chosen_passes}

pub put_keeps : (set n count : ℕ) → n < count → set < 2 ^ count → with_number set n < 2 ^ count
put_keeps set n count small fits = or_lt count set (2 ^ n) fits (pow-lt small)

pub taken_keeps : (set n count : ℕ) → set < 2 ^ count → without_number set n < 2 ^ count
taken_keeps set n count fits = omega (arith, and_le_l set (bit_not w128 (2 ^ n)), fits)

pub begins : (count : ℕ) → count ≤ 128 → IsKept (fresh count)
unfolding fresh
begins count few =
    let start : IsSource (source 0 8 0) = record { config = omega arith; priority = omega arith; dest = refl } in
    record {
      few = omega (arith, length-replicate count (source 0 8 0), few);
      sources = All-replicate IsSource count (source 0 8 0) start;
      task = omega arith;
      unmasked = pow_pos (length (replicate count (source 0 8 0)));
      in_service = pow_pos (length (replicate count (source 0 8 0)));
      latched = pow_pos (length (replicate count (source 0 8 0)));
    }

taking_by : (controller : Controller) (number : Option ℕ) → ((n : ℕ) → number ≡ Some n → n < length controller.sources) → IsKept controller → IsKept (taken number controller)
unfolding taken
taking_by controller None within kept = kept
taking_by controller (Some n) within kept = record {
  few = kept.few;
  sources = kept.sources;
  task = kept.task;
  unmasked = kept.unmasked;
  in_service = put_keeps controller.in_service n (length controller.sources) (within n refl) kept.in_service;
  latched = taken_keeps controller.latched n (length controller.sources) kept.latched;
}

pub taking : (controller : Controller) (levels : ℕ) → IsKept controller → IsKept (taken (chosen controller levels) controller)
taking controller levels kept = taking_by controller (chosen controller levels) (λ n e. (chosen_passes controller levels n e).1) kept

pub ending : (controller : Controller) (n : ℕ) → IsKept controller → IsKept (ended n controller)
unfolding ended
ending controller n kept = record {
  few = kept.few;
  sources = kept.sources;
  task = kept.task;
  unmasked = kept.unmasked;
  in_service = taken_keeps controller.in_service n (length controller.sources) kept.in_service;
  latched = kept.latched;
}

right_source : (number : Bool) (config priority dest : ℕ) → (number && (nat_lt config 4 && (nat_le priority 15 && (dest == 0)))) ≡ true → IsSource (source config priority dest)
right_source number config priority dest may = record { config = grind (arith, nat_tests); priority = grind (arith, nat_tests); dest = grind (arith, nat_tests) }

pub configuring : (controller : Controller) (n config priority dest : ℕ) → may_configure controller n config priority dest ≡ true → IsKept controller
    → IsKept (configured n config priority dest controller)
unfolding configured
configuring controller n config priority dest may kept =
    let same : length (configured n config priority dest controller).sources ≡ length controller.sources = length-set controller.sources n (source config priority dest) in
    record {
      few = omega (arith, same, kept.few);
      sources = All-set IsSource controller.sources n (source config priority dest) (right_source (is_number controller n) config priority dest may) kept.sources;
      task = kept.task;
      unmasked = subst (λ k. controller.unmasked < 2 ^ k) (sym same) kept.unmasked;
      in_service = subst (λ k. controller.in_service < 2 ^ k) (sym same) kept.in_service;
      latched = subst (λ k. controller.latched < 2 ^ k) (sym same) kept.latched;
    }

masked_by : (set n count : ℕ) (unmask : Bool) → n < count → set < 2 ^ count → cond unmask (with_number set n) (without_number set n) < 2 ^ count
masked_by set n count true small fits = put_keeps set n count small fits
masked_by set n count false small fits = taken_keeps set n count fits

pub masking : (controller : Controller) (n mask : ℕ) → is_number controller n ≡ true → IsKept controller → IsKept (with_mask n mask controller)
unfolding with_mask
masking controller n mask number kept = record {
  few = kept.few;
  sources = kept.sources;
  task = kept.task;
  unmasked = masked_by controller.unmasked n (length controller.sources) (mask == 0) (ltb-true n (length controller.sources) number) kept.unmasked;
  in_service = kept.in_service;
  latched = kept.latched;
}

pub setting_task : (controller : Controller) (priority : ℕ) → may_set_task priority ≡ true → IsKept controller → IsKept (with_task priority controller)
unfolding with_task
setting_task controller priority may kept = record {
  few = kept.few;
  sources = kept.sources;
  task = grind (arith, nat_tests);
  unmasked = kept.unmasked;
  in_service = kept.in_service;
  latched = kept.latched;
}

pub ringing : (controller : Controller) (n : ℕ) → is_number controller n ≡ true → IsKept controller → IsKept (rung n controller)
unfolding rung
ringing controller n number kept = record {
  few = kept.few;
  sources = kept.sources;
  task = kept.task;
  unmasked = kept.unmasked;
  in_service = kept.in_service;
  latched = put_keeps controller.latched n (length controller.sources) (ltb-true n (length controller.sources) number) kept.latched;
}

-- a controller that is made field by field
pub made : (sources : List Source) (count : ℕ) → count ≤ 128 → sources ≡ replicate count (source 0 8 0)
    → IsKept (record { sources = sources; task = 0; unmasked = 0; in_service = 0; latched = 0 })
unfolding fresh
made sources count few e =
    let kept : IsKept (fresh count) = begins count few in
    subst (λ s. IsKept (record { sources = s; task = 0; unmasked = 0; in_service = 0; latched = 0 })) (sym e) kept
