-- A message whose level or slope is within its limit.
use Rattle.qss_components.proofs.Common
use Common.{◌≡◌, Discrete, false, HasSmallLevel, Level, Message, passes_limit, Slope, State, Truth}
use Rattle.mu_num.proofs.SizeTests.{passes-within}

pub level_small : (message : Message) → passes_limit message ≡ false → HasSmallLevel message
level_small (Slope var slope) e = tt
level_small (State var state) e = tt
level_small (Level var level) e = passes-within 43 level e
level_small (Discrete var value) e = tt
level_small (Truth place now) e = tt
