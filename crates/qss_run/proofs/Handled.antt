-- What the handlers of a tick did.
use Rattle.qss_run.proofs.Common
use Common.{[], ℕ, ℤ, ◌∙◌, ◌≡◌, ◌≤◌, ap, arith, Bool, clauses_stay, firing_flags, first_exceeding}
use Common.{HandlerState, handling_from, handling_of, is_some, length, List, Machine, None, Option}
use Common.{Row, row_room, rows_clauses, run_clauses, Some, sym, true, truths, Values}

module _ (m : Machine) (tick : ℕ) (x d : List ℤ) (at_arrival after_handlers : List Bool) where
  -- a state that exceeded its limit on arrival
  pub over_early : (o : Option ℕ) → is_some o ≡ true → o ≡ first_exceeding 88 x → o ≡ (handling_from m tick x d at_arrival after_handlers).overflow
  over_early None some e = absurd (cc)
  over_early (Some var) some e =
      let start : HandlerState = record { states = x; discretes = d; rows = []; overflow = first_exceeding 88 x } in
      e ∙ ap (λ (h : HandlerState). h.overflow) (sym (clauses_stay m tick d 0 start var m.clauses (firing_flags (truths m x d tick) at_arrival after_handlers) (sym e)))

  -- the handlers, where none did
  pub handled : (v : Values) (due : List Bool) → v.x ≡ x → v.d ≡ d → v.pre ≡ d → v.tick ≡ tick → v.log ≡ [] → due ≡ firing_flags (truths m x d tick) at_arrival after_handlers → first_exceeding 88 x ≡ None →
      run_clauses m v.tick v.pre 0 (handling_of v) m.clauses due ≡ handling_from m tick x d at_arrival after_handlers
  handled v due of_x of_d of_pre of_tick of_log flags calm =
      let flagged = firing_flags (truths m x d tick) at_arrival after_handlers in
      ap (λ t. run_clauses m t v.pre 0 (handling_of v) m.clauses due) of_tick
      ∙ ap (λ p. run_clauses m tick p 0 (handling_of v) m.clauses due) of_pre
      ∙ ap (λ f. run_clauses m tick d 0 (handling_of v) m.clauses f) flags
      ∙ ap (λ (y : List ℤ). run_clauses m tick d 0 (record { states = y; discretes = v.d; rows = v.log; overflow = None }) m.clauses flagged) of_x
      ∙ ap (λ (y : List ℤ). run_clauses m tick d 0 (record { states = x; discretes = y; rows = v.log; overflow = None }) m.clauses flagged) of_d
      ∙ ap (λ (y : List Row). run_clauses m tick d 0 (record { states = x; discretes = d; rows = y; overflow = None }) m.clauses flagged) of_log
      ∙ ap (λ (o : Option ℕ). run_clauses m tick d 0 (record { states = x; discretes = d; rows = []; overflow = o }) m.clauses flagged) (sym calm)

-- the rows of handlers have room
pub rows_handled : (m : Machine) (tick : ℕ) (x d : List ℤ) (at_arrival after_handlers : List Bool) → length (handling_from m tick x d at_arrival after_handlers).rows ≤ row_room m.clauses
rows_handled m tick x d at_arrival after_handlers =
    let start : HandlerState = record { states = x; discretes = d; rows = []; overflow = first_exceeding 88 x } in
    omega (arith, rows_clauses m tick d 0 start m.clauses (firing_flags (truths m x d tick) at_arrival after_handlers))
