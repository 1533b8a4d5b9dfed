use Rattle.std.proofs.Common.{◌∙◌}
use Rattle.core_step.proofs.moving.store_bytes.Goals as goal

pub returns-in-Some-clause-sizes : goal.returns-in-Some-clause-sizes
returns-in-Some-clause-sizes c = c.put_place-in-Some.ensures.sizes ∙ c.put_place.ensures.sizes
