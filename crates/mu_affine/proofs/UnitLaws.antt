-- What accepted settings say of the units of a machine.
use Rattle.mu_affine.proofs.Common
use Common.{*ℤ-zero, [], ℕ, ℤ, ◌&&◌, ◌*ℤ◌, ◌+◌, ◌<◌, ◌^◌, ◌∷◌, ◌≡◌, ◌≤ℤ◌, ◌≤◌, and_parts, arith}
use Common.{bits_of, Bool, Check, first_failed, Fraction, int_le, ints, last_of, leb-true, List}
use Common.{nat_eq, nat_le, negsuc, None, pos, setting_checks, Settings, true, unsigned_abs}
use Rattle.std.proofs.Common.{◌<ℤ◌}
use Rattle.std.specs.Int.RustNames.{int_lt}
use Rattle.std.specs.Ordering.{int_eq}
use Rattle.mu_num.specs.Rounding.{IsCeiling}
use Rattle.mu_num.proofs.Integers.{mul-above, mul-from_zero}
use Rattle.mu_num.proofs.Quotients.{ceiling_meets}
use Rattle.mu_num.proofs.Tests.{int_lt-true}
use Rattle.mu_tree.specs.declared.tree.SettingName.TheVariants.{StartTime, StopTime, CoefBits}
use Rattle.mu_tree.specs.declared.tree.SettingName.TheVariants.{TickBits, LevelBits}
use Rattle.qss_machine.specs.MachineLimits.{HasUnits}
use Rattle.mu_affine.specs.declared.machine_fault.MachineErr.TheVariants.{Setting}
use Rattle.mu_affine.specs.Rounded.{rounded_up}
use Rattle.mu_affine.specs.MachineChecks.{is_bits}
use Rattle.mu_affine.proofs.Failing.{none_both}

ceiling_low : (n d q : ℤ) → pos 0 <ℤ d → pos 0 ≤ℤ n → IsCeiling n d q → pos 0 ≤ℤ q
ceiling_low n d (pos q) positive low h = omega (arith, ints)
ceiling_low n d (negsuc q) positive low h =
    let below = mul-above d (negsuc q) (pos 0) positive (omega (arith, ints)) in
    absurd (omega (arith, ints, below, *ℤ-zero d, h.at_least))

-- a number that is not below 0 is not when it is rounded up
pub rounded_up_low : (bits : ℕ) (r : Fraction) → 0 < r.den → pos 0 ≤ℤ r.num → pos 0 ≤ℤ rounded_up bits r
rounded_up_low bits r positive low =
    let n = r.num *ℤ pos (2 ^ bits) in
    let above : pos 0 <ℤ pos r.den = omega (arith, ints) in
    let scaled : pos 0 ≤ℤ n = mul-from_zero r.num (pos (2 ^ bits)) low (omega (arith, ints)) in
    ceiling_low n (pos r.den) (rounded_up bits r) above scaled (ceiling_meets n (pos r.den) above)

-- the bits of a setting are at most their limit
pub bits_low : (limit : ℕ) (r : Fraction) → is_bits limit r ≡ true → bits_of r ≤ limit
bits_low limit r e =
    let parts = and_parts (nat_eq r.den 1 && int_le (pos 0) r.num) (int_le r.num (pos limit)) e in
    let first = and_parts (nat_eq r.den 1) (int_le (pos 0) r.num) parts.0 in
    in_bits r.num limit first.1 parts.1
  where
    in_bits : (z : ℤ) (limit : ℕ) → int_le (pos 0) z ≡ true → int_le z (pos limit) ≡ true → unsigned_abs z ≤ limit
    in_bits z limit a b = grind (arith, ints)

-- ---- the checks of settings

module _ (s : Settings) where
  abbrev p : ℕ
  p = bits_of s.coef_bits

  abbrev k : ℕ
  k = bits_of s.tick_bits

  abbrev f : ℕ
  f = bits_of s.level_bits

  abbrev starts : Bool
  starts = int_eq s.start.num (pos 0)

  abbrev stops : Bool
  stops = int_le (pos 0) s.stop.num

  abbrev coefs : Bool
  coefs = is_bits 32 s.coef_bits

  abbrev ticks : Bool
  ticks = is_bits 20 s.tick_bits && nat_le (p + k) 44

  abbrev levels : Bool
  levels = is_bits 24 s.level_bits && nat_le (p + k + f) 62

  abbrev ends : Bool
  ends = int_lt (last_of s) (pos (2 ^ 32))

  -- the checks from the sixth, the fifth, .. on
  abbrev from_ends : List Check
  from_ends = record { holds = ends; fault = Setting StopTime s.stop } ∷ []

  abbrev from_levels : List Check
  from_levels = record { holds = levels; fault = Setting LevelBits s.level_bits } ∷ from_ends

  abbrev from_ticks : List Check
  from_ticks = record { holds = ticks; fault = Setting TickBits s.tick_bits } ∷ from_levels

  abbrev from_coefs : List Check
  from_coefs = record { holds = coefs; fault = Setting CoefBits s.coef_bits } ∷ from_ticks

  abbrev from_stops : List Check
  from_stops = record { holds = stops; fault = Setting StopTime s.stop } ∷ from_coefs

  -- where none fails, the units are those of a machine
  pub are_units : 0 < s.stop.den → first_failed (setting_checks s) ≡ None → HasUnits p k f (unsigned_abs (last_of s)) 0 × (pos (unsigned_abs (last_of s)) ≡ last_of s)
  are_units positive none =
      let one = none_both starts (Setting StartTime s.start) from_stops none in
      let two = none_both stops (Setting StopTime s.stop) from_coefs one.1 in
      let three = none_both coefs (Setting CoefBits s.coef_bits) from_ticks two.1 in
      let four = none_both ticks (Setting TickBits s.tick_bits) from_levels three.1 in
      let five = none_both levels (Setting LevelBits s.level_bits) from_ends four.1 in
      let six = none_both ends (Setting StopTime s.stop) [] five.1 in
      let tick = and_parts (is_bits 20 s.tick_bits) (nat_le (p + k) 44) four.0 in
      let level = and_parts (is_bits 24 s.level_bits) (nat_le (p + k + f) 62) five.0 in
      let sum = leb-true (p + k) 44 tick.1 in
      let all = leb-true (p + k + f) 62 level.1 in
      let low = rounded_up_low k s.stop positive (from_test s.stop.num two.0) in
      let high = int_lt-true (last_of s) (pos (2 ^ 32)) six.0 in (
        record {
          coefficient_bits = bits_low 32 s.coef_bits three.0;
          tick_bits = bits_low 20 s.tick_bits tick.0;
          unit_bits = sum;
          level_bits = bits_low 24 s.level_bits level.0;
          state_bits = omega (arith, all);
          last_tick = size_low (last_of s) low high;
          share = omega arith;
        },
        size_is (last_of s) low,
      )
    where
      from_test : (z : ℤ) → int_le (pos 0) z ≡ true → pos 0 ≤ℤ z
      from_test z e = grind (arith, ints)

      size_low : (z : ℤ) → pos 0 ≤ℤ z → z <ℤ pos (2 ^ 32) → unsigned_abs z < 2 ^ 32
      size_low z low high = omega (arith, ints)

      size_is : (z : ℤ) → pos 0 ≤ℤ z → pos (unsigned_abs z) ≡ z
      size_is z low = omega (arith, ints)
