use Rattle.std.proofs.Common.{◌≡◌, ◌++◌, drop}
use Rattle.gen_load.specs.Files.{images_from}
use Rattle.gen_load.proofs.files.images.Given as goal

abbrev pub invariant-loop-start : goal.invariant-loop-start
invariant-loop-start l = record {
  images : l.images ++ images_from l.place (drop l.start-index l.starts) ≡ images_from 0 l.starts;
  place : l.place ≡ l.start-index;
}
