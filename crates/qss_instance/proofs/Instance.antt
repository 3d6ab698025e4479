-- The instance of the theorems on the example `decay`.
use Rattle.std.proofs.Common.{refl}
use Rattle.qss_instance.specs.DecayInstance.{DecayIsBounded}
use Rattle.qss_instance.proofs.Decay.{machine, certificate, accepted, near}
use Rattle.qss_instance.proofs.Source.{compiles}
use Rattle.qss_instance.proofs.Text.{is_text}

pub decay_is_bounded : DecayIsBounded
decay_is_bounded = record {
  machine = machine;
  is_decay = record {
    coefficient_bits = refl;
    tick_bits = refl;
    level_bits = refl;
    last_tick = refl;
    states = refl;
    discretes = refl;
    rows = refl;
    clauses = refl;
    relative = refl;
  };
  compiles = compiles;
  ends = refl;
  rows = refl;
  certificate = certificate;
  is_certificate = record {
    size = refl;
    form = refl;
    least = refl;
    decrease = refl;
    rate = refl;
    first_factor = refl;
    first_root = refl;
    second_factor = refl;
    second_root = refl;
    centre = refl;
    basin = refl;
    reach = refl;
    changes = refl;
    centre_gains = refl;
    apart = refl;
    pair_gains = refl;
    bound = refl;
    first_start = refl;
    second_start = refl;
    quantum = refl;
  };
  is_text = is_text;
  accepted = accepted;
  near = near;
}
