use Rattle.qss_devs.proofs.Common.{AreGiven, take}
use Rattle.qss_devs.proofs.coupled_messages.send_message_to_models.Given as goal

-- the models so far received the message
abbrev pub invariant-loop-place : goal.invariant-loop-place
invariant-loop-place g l = AreGiven (λ a b. g.A.Atomic.given a l.tick l.msg b) (take l.place-index l.places) l.fn.models l.models
