-- The program's commands as the definitions see them.
use Rattle.topaz_run.specs.declared.command.Command.{Command}
use Rattle.topaz_run.specs.declared.command.Command.TheVariants as code
use Rattle.topaz_run.specs.Words.{Command as Meant, Bare, Dtb, Check, Guest, Run, Gen}

abbrev pub meant : Command → Meant
meant (code.Bare image turns) = Bare image.now turns
meant (code.Dtb file) = Dtb file.now
meant (code.Check config hw) = Check config.now hw.now
meant (code.Guest config hw name) = Guest config.now hw.now name.now
meant (code.Run config hw script turns) = Run config.now hw.now script.now turns
meant (code.Gen number turns) = Gen number turns
