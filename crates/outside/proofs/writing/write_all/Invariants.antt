use Rattle.std.proofs.Common.{◌≡◌, ℕ, ◌-◌, ◌≤◌, [], length, take, drop}
use Rattle.std.specs.Io.KnownBytes.{Appends}
use Rattle.outside.proofs.writing.write_all.Given as goal

abbrev pub invariant-loop-rest : goal.invariant-loop-rest
invariant-loop-rest g l =
    let count = length l.piece - length l.rest in
    let sink = g.S.Sink in
    record {
      within : length l.rest ≤ length l.piece;
      rest_is : l.rest ≡ drop count l.piece;
      taken : Appends (sink.taken l.fn.out) (sink.taken l.out) (take count l.piece);
      counted : sink.faults l.fn.out ≤ sink.faults l.out;
      nothing : l.piece ≡ [] → l.out ≡ l.fn.out;
      sure_count : (n : ℕ) → length l.piece ≤ n → sink.SurelyTakes l.fn.out n → sink.faults l.out ≡ sink.faults l.fn.out;
      sure_rest : (n : ℕ) → length l.piece ≤ n → sink.SurelyTakes l.fn.out n → sink.SurelyTakes l.out (n - count);
    }

abbrev pub decreases-loop-rest : goal.decreases-loop-rest
decreases-loop-rest g l = length l.rest
