-- Views of component models as records, and integrators that received a message.
use Rattle.std.specs.Prelude.{◌≡◌, ℕ}
use Rattle.qss_components.specs.declared.crossing_model.CrossingModel.{CrossingModel}
use Rattle.qss_components.specs.declared.function_model.FunctionModel.{FunctionModel}
use Rattle.qss_components.specs.declared.integrator_model.IntegratorModel.{IntegratorModel}
use Rattle.qss_components.specs.declared.atomic.Message.{Message}
use Rattle.qss_components.specs.Integrators.{line_after_message}
use Rattle.qss_components.specs.FunctionInputs.{input_levels, input_discretes}
use Rattle.qss_components.specs.Functions.{FunctionState}
use Rattle.qss_components.specs.Crossings.{Crossing}

-- a function without the machine that it shares; levels and values that its row does not read are 0
abbrev pub function_state_of : FunctionModel → FunctionState
function_state_of s = record {
  row = s.row;
  tick = s.tick;
  levels = input_levels s.machine.value s.inputs.items;
  discretes = input_discretes s.machine.value s.inputs.items;
  changed = s.changed;
}

-- a crossing without the machine that it shares
abbrev pub crossing_of : CrossingModel → Crossing
crossing_of c = record { place = c.place; detector = c.detector; inputs = c.inputs.items; time = c.time; gamma = c.gamma }

-- the integrator after it received a message
pub record IsGivenLine {X : Type 0} {g : _} (s : IntegratorModel X g) (tick : ℕ) (message : Message) (t : IntegratorModel X g) : Type 0 where
  pub machine : t.machine.value ≡ s.machine.value
  pub rule : t.quantizer.value ≡ s.quantizer.value
  pub own : t.var ≡ s.var
  pub line : t.line ≡ line_after_message s.var s.line tick message
