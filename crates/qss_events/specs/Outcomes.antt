-- Defines the tick and the end of a run after a call that advances it.
use Rattle.std.specs.Prelude.{ℕ, Option, Some, None}
use Rattle.qss_events.specs.declared.event_outcome.Outcome.{Outcome}
use Rattle.qss_events.specs.declared.event_outcome.Outcome.TheVariants.{Events, Done, Over}

-- the tick after a call with this outcome
abbrev pub tick_of : ℕ → Outcome → ℕ
tick_of last (Events tick) = tick
tick_of last Done = last
tick_of last (Over tick var) = tick

-- the end of the run after a call with this outcome, if it has ended
abbrev pub end_of : Outcome → Option Outcome
end_of (Events tick) = None
end_of Done = Some Done
end_of (Over tick var) = Some (Over tick var)
