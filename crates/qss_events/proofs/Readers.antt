-- The rows and the conditions that read a variable, by their numbers.
use Rattle.qss_events.proofs.Common
use Common.{[], ℕ, ◌+◌, ◌<◌, ◌∙◌, ◌≡◌, ap, AreRisingBelow, arith, Condition, condition_at}
use Common.{conditions, is_listed, length, Less, Machine, pos, sym}
use Rattle.qss_machine.specs.Readers.{condition_reads, reading_conditions}
use Rattle.qss_machine.proofs.Among.{place_among}
use Rattle.qss_machine.proofs.KeptReaders.{places_rise, places_below}

-- the conditions that read a variable rise, and a condition is among them where it reads it
pub condition_numbers : (m : Machine) (var n : ℕ) → n ≡ length (conditions m) → AreRisingBelow n (reading_conditions m var)
condition_numbers m var n e = record {
  rising = places_rise (condition_reads var) 0 (conditions m);
  below = places_below (condition_reads var) 0 n (conditions m) (omega (arith, e));
}

pub among_conditions : (m : Machine) (var place : ℕ) → place < length (conditions m) → is_listed (reading_conditions m var) place ≡ condition_reads var (condition_at m place)
among_conditions m var place h =
    let none : Condition = record { form = record { entries = []; time = pos 0; gamma = pos 0 }; rel = Less } in
    let e : 0 + place ≡ place = omega arith in
    ap (is_listed (reading_conditions m var)) (sym e) ∙ place_among (condition_reads var) 0 (conditions m) place none h
