-- The journal of the terminal.
use Rattle.amounts.specs.declared.places.Places.{Places}
use Rattle.logs.specs.Logs.{Event, event}
use Rattle.terminals.specs.declared.terminal.Entry.{Entry}

abbrev pub event_of : Entry → Event Places
event_of e = event e.call e.answer
