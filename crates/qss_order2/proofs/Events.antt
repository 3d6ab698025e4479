-- After an event a simulator is within its limits.
use Rattle.qss_order2.proofs.Common
use Common.{ℕ, ℤ, ◌+◌, ◌∙◌, ◌≡◌, ◌≤◌, ap, arith, Done, end_of, Events, first_exceeding_limit}
use Common.{IsNext2, IsStoreAt, Machine, motion_at, None, Option, Outcome2, Over, overflow_of, refl}
use Common.{Some, Store, tick_of, view_of}

none_over : (o : Option ℕ) (tick : ℕ) → 0 + 1 ≤ tick → ((var : ℕ) → o ≡ Some var → tick ≡ 0) →
    o ≡ None
none_over None tick later start = refl
none_over (Some var) tick later start = absurd (omega (arith, start var refl, later))

pub within_then : (Rule : ℤ → ℤ → ℤ → Type 0) (m : Machine) (from : ℕ) (s : Store)
    (outcome : Outcome2) (to : ℕ) (after : Store) →
    IsNext2 Rule (view_of m from s None) (view_of m to after (end_of outcome)) outcome →
    (end_of outcome ≡ None → IsStoreAt m (tick_of m.last outcome) after) → end_of outcome ≡ None →
    first_exceeding_limit m (motion_at m after.motion to).levels after.motion.changes.items ≡ None
within_then Rule m from s (Events tick) to after n is_store e =
    let there = is_store e in
    ap (λ (t : ℕ). first_exceeding_limit m (motion_at m after.motion t).levels
    after.motion.changes.items) n.1.here ∙ there.over
    ∙ none_over (overflow_of after.over) tick (omega (
      arith,
      n.1.is_next,
    )) there.at_start
within_then Rule m from s Done to after n is_store e = absurd (cc)
within_then Rule m from s (Over tick var) to after n is_store e = absurd (cc)
