use Rattle.dt_write.proofs.Laid.{absent, offset_with}
use Rattle.dt_write.proofs.names.Names.place.Goals as goal

pub returns-in-None-clause-place : goal.returns-in-None-clause-place
returns-in-None-clause-place c =
    rw (offset_with c.args.self.now c.args.name.now (absent _ _ c.in-None.ensures)) c.add.ensures.place
