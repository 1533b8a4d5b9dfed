use Rattle.std.proofs.lemmas.Bool.{both_ways}
use Rattle.dt_model.proofs.Bridge.{fits_where_walked, fits_nowhere}
use Rattle.dt_model.proofs.fitting.fits.Goals as goal

pub returns-then-is_reserve_map : goal.returns-then-is_reserve_map
returns-then-is_reserve_map c = fits_where_walked c.args.tree.now c.is_walked.result (rw (← c.deref.ensures.value, ← c.is_reserve_map.ensures) c.if-is_reserve_map.true) c.is_walked.ensures

pub returns-else-is_reserve_map : goal.returns-else-is_reserve_map
returns-else-is_reserve_map c = (
  λ holds. absurd (both_ways _ c.if-is_reserve_map.false holds),
  λ fits. absurd (fits_nowhere c.args.tree.now (rw (← c.deref.ensures.value, ← c.is_reserve_map.ensures) c.if-is_reserve_map.false) fits),
)
