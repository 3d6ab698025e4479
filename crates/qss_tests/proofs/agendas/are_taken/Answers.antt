-- What is due was given.
use Rattle.std.proofs.Common.{◌≡◌, ℕ, ◌<◌, ◌≤◌, inl, inr, ◌⊎◌, List, Option, Some, None, sym, ◌∙◌}
use Rattle.std.proofs.Common.{ap, arith}
use Rattle.std.proofs.lemmas.Bool.{cases_eq, cases_lt}
use Rattle.std.proofs.lemmas.List.{length-set, get_or-set_same, get_or-set_other, get_or_past}
use Rattle.std.specs.Prelude.{slice_set, length}
use Rattle.qss_sched.specs.Ranks.{due_at}
use Rattle.qss_tests.proofs.agendas.are_taken.Goals as goal

-- after a place is given a tick each due tick is that one, at that place, or was there before
given : (old new : List (Option ℕ)) (place tick other due : ℕ) → new ≡ slice_set old place (Some tick) → due_at new other ≡ Some due →
    ((other ≡ place) × (due ≡ tick)) ⊎ (due_at old other ≡ Some due)
given old new place tick other due put e =
    elim (cases_eq other place) [
      | inl same ↦ by_length same (cases_lt place (length old))
      | inr apart ↦ inr (sym (ap (λ l. due_at l other) put ∙ get_or-set_other old place other (Some tick) None apart) ∙ e)
    ]
  where
    at : (other ≡ place) → due_at new other ≡ due_at (slice_set old place (Some tick)) place
    at same = ap (due_at new) same ∙ ap (λ l. due_at l place) put

    by_length : (other ≡ place) → (place < length old) ⊎ (length old ≤ place) → ((other ≡ place) × (due ≡ tick)) ⊎ (due_at old other ≡ Some due)
    by_length same (inl inside) =
        let both : Some due ≡ Some tick = sym e ∙ (at same ∙ get_or-set_same old place (Some tick) None inside) in
        inl (same, cc)
    by_length same (inr past) =
        let none : due_at new other ≡ None =
        at same ∙ get_or_past (slice_set old place (Some tick)) place None (omega (arith, past, length-set old place (Some tick))) in
        absurd (cc)

pub take_all-requires-clause-none_before : goal.take_all-requires-clause-none_before
take_all-requires-clause-none_before c = λ place due e.
    elim (given c.set-3.new.self c.set-4.new.self c.args.last 7 place due c.set-4.ensures e) [
      | inl h ↦ omega (arith, h.1)
      | inr e3 ↦
          elim (given c.set-2.new.self c.set-3.new.self 3 9 place due c.set-3.ensures e3) [
            | inl h ↦ omega (arith, h.1)
            | inr e2 ↦
                elim (given c.set.new.self c.set-2.new.self 2 7 place due c.set-2.ensures e2) [
                  | inl h ↦ omega (arith, h.1)
                  | inr e1 ↦
                      elim (given c.in_ok-agenda.agenda c.set.new.self 70 7 place due c.set.ensures e1) [
                        | inl h ↦ omega (arith, h.1)
                        | inr e0 ↦ let none = c.in_ok-agenda.ensures.none place in absurd (cc)
                      ]
                ]
          ]
    ]

pub take_all-requires-clause-none_first : goal.take_all-requires-clause-none_first
take_all-requires-clause-none_first c = λ place few e. let due : ℕ = 7 in
    elim (given c.set-3.new.self c.set-4.new.self c.args.last 7 place due c.set-4.ensures e) [
      | inl h ↦ absurd (omega (arith, few, h.0, c.requires.after))
      | inr e3 ↦
          elim (given c.set-2.new.self c.set-3.new.self 3 9 place due c.set-3.ensures e3) [
            | inl h ↦ absurd (omega (arith, few, h.0, c.requires.after))
            | inr e2 ↦
                elim (given c.set.new.self c.set-2.new.self 2 7 place due c.set-2.ensures e2) [
                  | inl h ↦ absurd (omega (arith, few, h.0, c.requires.after))
                  | inr e1 ↦
                      elim (given c.in_ok-agenda.agenda c.set.new.self 70 7 place due c.set.ensures e1) [
                        | inl h ↦ absurd (omega (arith, few, h.0, c.requires.after))
                        | inr e0 ↦ let none = c.in_ok-agenda.ensures.none place in absurd (cc)
                      ]
                ]
          ]
    ]
