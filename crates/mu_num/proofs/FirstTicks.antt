-- First ticks at which facts hold, under other facts and from later ticks.
use Rattle.mu_num.proofs.Common
use Common.{ℕ, ◌+◌, ◌-◌, ◌<◌, ◌≡◌, arith, Bool, false, if◌then◌else◌, nat_tests, None, Option, refl}
use Common.{Some, subst, sym, true}
use Rattle.std.proofs.Common.{nat_le}
use Rattle.mu_num.specs.Ticks.{FirstAfter, later_tick}
use Rattle.mu_num.specs.Limits.{tick_limit}

-- a first tick of P is one of Q, where both hold at the same ticks
pub first_after-same : (P Q : ℕ → Type 0) (from : ℕ) (found : Option ℕ) →
    ((n : ℕ) → from < n → P n → Q n) → ((n : ℕ) → from < n → Q n → P n) → FirstAfter P from found → FirstAfter Q from found
first_after-same P Q from None to back none = λ m later in_time q. none m later in_time (back m later q)
first_after-same P Q from (Some n) to back some = record {
  later = some.later;
  in_time = some.in_time;
  holds = to n some.later some.holds;
  first = λ m later before q. some.first m later before (back m later q);
}

-- what is found as ticks after a tick, is found from that tick on
found_later : (P : ℕ → Type 0) (from n : ℕ) (b : Bool) → nat_le (from + n) tick_limit ≡ b →
    FirstAfter (λ n. P (from + n)) 0 (Some n) → FirstAfter P from (if b then Some (from + n) else None)
found_later P from n true fits some = record {
  later = omega (arith, some.later);
  in_time = grind (arith, nat_tests);
  holds = some.holds;
  first = λ m later before p.
      let e : from + (m - from) ≡ m = omega arith in
      some.first (m - from) (omega arith) (omega arith) (subst P (sym e) p);
}
found_later P from n false fits some = λ m later in_time p.
    let past : tick_limit < from + n = grind (arith, nat_tests) in
    let e : from + (m - from) ≡ m = omega arith in
    some.first (m - from) (omega arith) (omega arith) (subst P (sym e) p)

pub first_after-later : (P : ℕ → Type 0) (from : ℕ) (ticks : Option ℕ) → FirstAfter (λ n. P (from + n)) 0 ticks → FirstAfter P from (later_tick from ticks)
first_after-later P from None none = λ m later in_time p.
    let e : from + (m - from) ≡ m = omega arith in
    none (m - from) (omega arith) (omega arith) (subst P (sym e) p)
first_after-later P from (Some n) some = found_later P from n (nat_le (from + n) tick_limit) refl some
