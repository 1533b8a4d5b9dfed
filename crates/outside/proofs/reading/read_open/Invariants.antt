use Rattle.std.proofs.Common.{◌≡◌, ◌+◌, ◌-◌, ◌≤◌, vec_len}
use Rattle.outside.specs.Content.{cut, IsReadTo}
use Rattle.outside.specs.Limit.{file_limit}
use Rattle.outside.proofs.reading.read_open.Given as goal

abbrev pub invariant-loop-files : goal.invariant-loop-files
invariant-loop-files g l =
    let files = g.F.Files in
    record {
      so_far : IsReadTo (files.content l.fn.files) l.name l.bytes.items (files.left l.files);
      within : vec_len l.bytes ≤ file_limit + 1;
      counted : files.faults l.fn.files ≤ files.faults l.files;
      asked : files.asked l.files ≡ cut l.name;
      opened : files.is_open l.files ≡ files.is_open l.fn.files;
      content : files.content l.files ≡ files.content l.fn.files;
    }

abbrev pub decreases-loop-files : goal.decreases-loop-files
decreases-loop-files g l = file_limit + 1 - vec_len l.bytes
