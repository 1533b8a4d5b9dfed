use Rattle.std.proofs.Common.{◌≡◌, ◌≤◌, IfSome, take}
use Rattle.topaz_run.specs.Laws.{AreDescribed}
use Rattle.topaz_run.proofs.Imaged.{GoesSo}
use Rattle.topaz_run.proofs.imaging.read_images.Given as goal

abbrev pub invariant-loop-part : goal.invariant-loop-part
invariant-loop-part g l =
    let files = g.F.Files in
    record {
      goes : IfSome (files.content l.fn.files) (GoesSo l.accepted l.part l.descs);
      described : AreDescribed l.accepted (take l.part l.accepted.parts) l.descs;
      counted : files.faults l.fn.files ≤ files.faults l.files;
      content : files.content l.files ≡ files.content l.fn.files;
    }
