-- A quantizer with a name gives one level.
use Rattle.qss_components.proofs.Common
use Common.{ℕ, ℤ, ◌∙◌, ◌≡◌, ap, Level, Line, Machine, Message, Option, refl, Rule, Some, sym}
use Rattle.qss_components.specs.Integrators.{SendsLevel}
use Rattle.qss_components.specs.ComponentTheorems.{NamedSendsOne}

pub one_sent : {Answers : ℤ → ℤ → ℤ → ℤ → Type 0} (m : Machine) (name : Option Rule) (rule : Rule) (var : ℕ) (line : Line) (tick : ℕ) (a b : Message) → name ≡ Some rule →
    SendsLevel m name Answers var line tick a → SendsLevel m name Answers var line tick b → a ≡ b
one_sent m name rule var line tick a b named one other =
    one.told ∙ ap (λ (level : ℤ). Level var level) (one.allowed.named rule named ∙ sym (other.allowed.named rule named)) ∙ sym other.told

-- what a rule's function may answer is not used
pub may_send : {Answers : ℤ → ℤ → ℤ → ℤ → Type 0} (m : Machine) (name : Option Rule) (var : ℕ) (line : Line) (tick : ℕ) (a : Message) → SendsLevel m name Answers var line tick a →
    SendsLevel m name (λ state old unit level. Unit {0}) var line tick a
may_send m name var line tick a sends = record { level = sends.level; allowed = sends.allowed; ruled = tt; told = sends.told }

pub named_sends_one : NamedSendsOne
named_sends_one m rule var line tick a b one other = one_sent m (Some rule) rule var line tick a b refl one other
