-- The records that a draft of a trace contains.
use Rattle.std.specs.Prelude.{◌≡◌, ℕ, List, length}
use Rattle.qss_trace.specs.declared.trace_parser.Draft.{Draft}
use Rattle.qss_trace.specs.KeptTraces.{Kept}

-- these records have no fault, and the draft contains their numbers
pub record IsDraftOf (seen : List (List (List ℕ))) (d : Draft) : Type 0 where
  pub taken_is : d.taken ≡ length seen
  pub keeps : Kept d.n seen d.scale d.refine d.q.items d.states.items d.levels.items
