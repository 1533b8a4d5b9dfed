use Rattle.std.proofs.Common.{◌≤◌, ℕ, List, Option, drop}
use Rattle.std.specs.Io.KnownBytes.{Appends}
use Rattle.outside.specs.Taken.{AppendsFront}
use Rattle.system.specs.Shown.{console_lines}
use Rattle.system.proofs.ends.write_consoles.Given as goal

-- who appends what is left has appended all
abbrev pub invariant-loop-i : goal.invariant-loop-i
invariant-loop-i g l =
    let sink = g.S.Sink in
    let left = console_lines (drop l.i l.names) (drop l.i l.counts) (drop l.i l.waiting) in
    record {
      whole : (end : Option (List ℕ)) → Appends (sink.taken l.out) end left → Appends (sink.taken l.fn.out) end (console_lines l.names l.counts l.waiting);
      front : (end : Option (List ℕ)) → AppendsFront (sink.taken l.out) end left → AppendsFront (sink.taken l.fn.out) end (console_lines l.names l.counts l.waiting);
      counted : sink.faults l.fn.out ≤ sink.faults l.out;
    }
