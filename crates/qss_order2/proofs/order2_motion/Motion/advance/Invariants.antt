use Rattle.qss_order2.proofs.Common.{IsAdvanced, take}
use Rattle.qss_order2.proofs.order2_motion.Motion.advance.Given as goal

-- the places and the slopes so far
abbrev pub invariant-loop-state : goal.invariant-loop-state
invariant-loop-state l = IsAdvanced l.tick (take l.state-index l.list) l.fn.self l.self
