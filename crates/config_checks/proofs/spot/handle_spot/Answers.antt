use Rattle.config_checks.proofs.spot.handle_spot.Goals as goal

pub returns : goal.returns
returns c = rw c.as_slice.ensures at c.inner_spot.ensures
