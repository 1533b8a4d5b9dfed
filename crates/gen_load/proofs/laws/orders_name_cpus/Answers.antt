use Rattle.gen_load.proofs.Drawing.{order-named}
use Rattle.gen_load.proofs.laws.orders_name_cpus.Goals as goal

pub returns : goal.returns
returns c = order-named
