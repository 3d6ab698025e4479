use Rattle.qss_components.proofs.Common.{input_after_message}
use Rattle.qss_components.proofs.Filled.{IsUpTo}
use Rattle.qss_components.proofs.crossing_model.update_crossing_inputs.Given as goal

-- the first inputs received the message, and the others are as they were
abbrev pub invariant-loop-k : goal.invariant-loop-k
invariant-loop-k l = IsUpTo (input_after_message l.m l.tick l.msg) l.k l.fn.inputs l.inputs
