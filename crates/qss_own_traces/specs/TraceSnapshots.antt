-- Snapshots of a machine without clauses.
use Rattle.std.specs.Prelude.{List, [], ℤ}
use Rattle.qss_machine.specs.declared.compiled_machine.Machine.{Machine}
use Rattle.qss_machine.specs.Machines.{start_discretes}
use Rattle.qss_machine.specs.Ticks.{Snapshot}

-- the snapshot with these states and levels: discrete values of the start, no conditions
abbrev pub plain_world : Machine → List ℤ → List ℤ → Snapshot
plain_world m states levels = record { states = states; levels = levels; discretes = start_discretes m; at_arrival = []; after_handlers = [] }
