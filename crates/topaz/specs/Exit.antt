-- The exit statuses of the program.
use Rattle.std.specs.Prelude.{ℕ}
use Rattle.topaz_run.specs.declared.status.Status.{Status}
use Rattle.topaz_run.specs.declared.status.Status.TheVariants as status

abbrev pub exit_status_of : Status → ℕ
exit_status_of status.Ok = 0
exit_status_of status.Usage = 1
exit_status_of status.Refused = 2
exit_status_of status.ReadFault = 3
exit_status_of status.WriteFault = 4
exit_status_of status.NoMemory = 5
