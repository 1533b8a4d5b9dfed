use Rattle.trap_emulate.proofs.Timekeeping.{time_counts_steps, falls_in_silence, expires_on_time, rests_at_zero}
use Rattle.trap_emulate.proofs.laws.clocks_keep_time.Goals as goal

pub returns : goal.returns
returns c = record { time = time_counts_steps; silence = falls_in_silence; expiry = expires_on_time; rest = rests_at_zero }
