-- The transition of an integrator with a named rule.
use Rattle.std.specs.Prelude.{◌≡◌, ℕ, ◌<◌, true, false, Some}
use Rattle.qss_components.specs.declared.integrator_model.IntegratorModel.{IntegratorModel}
use Rattle.qss_components.specs.declared.atomic.Message.{Message}
use Rattle.qss_components.specs.declared.atomic.Transition.{Transition}
use Rattle.qss_components.specs.declared.atomic.Transition.TheVariants.{Rests, ExceedsLimit, Sends}
use Rattle.qss_components.specs.Messages.{passes_limit}
use Rattle.qss_components.specs.Integrators.{IsLineNext, SendsLevel, TakesLevel}

-- a message that it may send at a tick, by the name of its rule
abbrev pub MaySend : {X : Type 0} {g : _} → IntegratorModel X g → ℕ → Message → Type 0
MaySend {X} {g} s tick sent = SendsLevel s.machine.value s.quantizer.value.name (λ state old unit level. Unit {0}) s.var s.line tick sent

-- it is not due; or its level exceeds its limit and it is unchanged; or it sends a level, takes it,
-- and leaves the new quantum later
pub record IsTransitionMade {X : Type 0} {g : _} (s : IntegratorModel X g) (tick : ℕ) (turn : Transition) (t : IntegratorModel X g) : Type 0 where
  pub rests : turn ≡ Rests → (t ≡ s) × (IsLineNext s.machine.value s.var s.line (Some tick) → ⊥)
  pub passes : turn ≡ ExceedsLimit → (t ≡ s) × IsLineNext s.machine.value s.var s.line (Some tick) × ((a : Message) × MaySend s tick a × (passes_limit a ≡ true))
  pub sends : (a : Message) → turn ≡ Sends a → IsLineNext s.machine.value s.var s.line (Some tick) × MaySend s tick a × (passes_limit a ≡ false)
      × ((t.machine.value ≡ s.machine.value) × (t.quantizer.value ≡ s.quantizer.value) × (t.var ≡ s.var) × TakesLevel s.var s.line tick a t.line)
  pub later : (a : Message) (next : ℕ) → turn ≡ Sends a → IsLineNext t.machine.value t.var t.line (Some next) → tick < next
