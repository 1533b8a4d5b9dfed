use Rattle.std.proofs.Common.{◌≡◌, drop}
use Rattle.system.specs.Board.{all_cleared, wires_at}
use Rattle.system.proofs.board.Board.empty.Given as goal

abbrev pub invariant-loop-place : goal.invariant-loop-place
invariant-loop-place l = record {
  rest : l.self ≡ record l.initial.self { channels = l.self.channels };
  cleared : all_cleared (drop l.place (wires_at l.initial.self.wires l.part)) l.self.channels ≡ all_cleared (wires_at l.initial.self.wires l.part) l.initial.self.channels;
}
