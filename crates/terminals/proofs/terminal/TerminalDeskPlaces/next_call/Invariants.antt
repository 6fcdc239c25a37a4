use Rattle.std.proofs.Common.{◌≡◌}
use Rattle.terminals.proofs.terminal.TerminalDeskPlaces.next_call.Given as goal

abbrev pub invariant-loop : goal.invariant-loop
invariant-loop l = l.self.entries ≡ l.initial.self.entries
