-- The flags of due branches, those of one clause among all, and the rows of handlers as messages.
use Rattle.qss_devs.proofs.Common
use Common.{[], ℕ, ℤ, ◌++◌, ◌+◌, ◌-◌, ◌<◌, ◌∙◌, ◌∷◌, ◌≡◌, ◌≤◌, Action, All, All-push, ap, arith}
use Common.{Bool, cases_lt, clause_at, clauses_stay, conditions, discrete_count, drop, due_flags}
use Common.{exceeds, false, flag_at, flags_from, get_or_past, HandlerState, handling_of, if_cases}
use Common.{inl, inr, length, length-conditions, List, Machine, None, none_passes, passes-within}
use Common.{pos, refl, Row, row_room, run_clauses, run_first_due, set, Some, state_count, sum_by}
use Common.{sym, take, values_after, width_of}
use Rattle.std.proofs.Common.{◌&&◌}
use Rattle.std.specs.Prelude.{not}
use Rattle.qss_events.proofs.Flags.{length-due_flags, flag_at-due_flags}
use Rattle.std.proofs.lemmas.List.{get_or-take, get_or-drop, length-take, length-drop}
use Rattle.std.proofs.lemmas.List.Sums.{sum_by_more_le}
use Rattle.std.specs.List.{position}
use Rattle.qss_hand.specs.Values.{Values}
use Rattle.qss_devs.specs.Flags.{HaveFlags}
use Rattle.qss_devs.specs.declared.coupled_start.Truths.{Truths}
use Rattle.qss_hand.proofs.AfterStatements.{whole}
use Rattle.qss_hand.proofs.Turns.{next_turn, rows_clauses}
use Rattle.qss_devs.specs.CoupledSteps.{IsMessageOfRow}
use Rattle.qss_machine.specs.declared.machine_parts.Action.TheVariants.{Set, Reinit}
use Rattle.qss_machine.specs.Handlers.{assign, fire_row}
use Rattle.qss_machine.specs.MachineLimits.{IsAction}
use Rattle.qss_hand.proofs.Targets.{target_set, target_reinit}
use Rattle.qss_events.proofs.Kept.{after_clauses}
use Rattle.qss_machine.specs.declared.machine_parts.RowKind.TheVariants as kind

pub length-due : {count : ℕ} {t : Truths} → HaveFlags count t → length (due_flags t) ≡ count
length-due {count} {t} have =
    length-due_flags t.current.items t.at_arrival.items t.after_handlers.items
    (have.at_arrival ∙ sym have.current) (have.after_handlers ∙ sym have.current)
    ∙ have.current

-- a flag, from the three truth values of its condition
pub due_of : {count : ℕ} {t : Truths} → HaveFlags count t → (k : ℕ) → k < count → (n a s : Bool) →
    flag_at t.current.items k ≡ n → flag_at t.at_arrival.items k ≡ a →
    flag_at t.after_handlers.items k ≡ s → flag_at (due_flags t) k ≡ (n && not (a && s))
due_of {count} {t} have k h n a s is_n is_a is_s =
    flag_at-due_flags t.current.items t.at_arrival.items t.after_handlers.items k
    (have.at_arrival ∙ sym have.current) (have.after_handlers ∙ sym have.current)
    (omega (arith, h, have.current))
    ∙ rw (is_n, is_a, is_s) refl

-- no flag is set, also past the end
pub none_set : (flags : List Bool) → position (λ flag. flag) flags ≡ None → (k : ℕ) → flag_at flags k ≡ false
none_set flags e k = elim (cases_lt k (length flags)) [ inl below ↦ none_passes false (λ flag. flag) flags e k below | inr past ↦ get_or_past flags k false past ]

pub length-flags : (due : List Bool) (first width : ℕ) → first + width ≤ length due → length (flags_from first width due) ≡ width
length-flags due first width h =
    let e : (first + width) - first ≡ width = omega arith in
    ap (λ n. length (take n (drop first due))) e ∙ omega (arith, length-take width (drop first due), length-drop first due)

-- a flag of a clause by its branch
pub flag_from : (due : List Bool) (first width k : ℕ) → k < width → flag_at (flags_from first width due) k ≡ flag_at due (first + k)
flag_from due first width k h =
    let inside : k < (first + width) - first = omega (arith, h) in
    get_or-take ((first + width) - first) (drop first due) k false inside ∙ get_or-drop first due k false

-- the flags of a clause are among all
pub turn_within : (m : Machine) (i first : ℕ) → i < length m.clauses → first ≡ sum_by width_of (take i m.clauses) → first + width_of (clause_at m i) ≤ length (conditions m)
turn_within m i first h so_far = omega (arith, sum_by_more_le width_of m.clauses i (record { branches = [] }) h, length-conditions m.clauses, so_far)

module _ (m : Machine) (w0 w : Values) (due : List Bool) (i first : ℕ) (h : i < length m.clauses) (tick : w.tick ≡ w0.tick) (before : w.pre ≡ w0.pre) where
  abbrev pub turn : HandlerState
  turn = run_first_due m w.tick w.pre i 0 (handling_of w) (clause_at m i).branches (flags_from first (width_of (clause_at m i)) due)

  turn_is : turn ≡ run_first_due m w0.tick w0.pre i 0 (handling_of w) (clause_at m i).branches (take (width_of (clause_at m i)) (drop first due))
  turn_is =
      let e : (first + width_of (clause_at m i)) - first ≡ width_of (clause_at m i) = omega arith in
      rw (tick, before, e)

  pub turn_done : (next : Values) → next ≡ values_after w turn → None ≡ turn.overflow →
      run_clauses m w0.tick w0.pre i (handling_of w) (drop i m.clauses) (drop first due)
      ≡ run_clauses m w0.tick w0.pre (i + 1) (handling_of next) (drop (i + 1) m.clauses) (drop (first + width_of (clause_at m i)) due)
  turn_done next values calm =
      let after : handling_of next ≡ turn = ap handling_of values ∙ whole turn (sym calm) in
      next_turn m w0.tick w0.pre i first (handling_of w) (handling_of next) m.clauses due (record { branches = [] }) h refl (after ∙ turn_is)

  pub turn_over : (var : ℕ) → Some var ≡ turn.overflow → turn ≡ run_clauses m w0.tick w0.pre i (handling_of w) (drop i m.clauses) (drop first due)
  turn_over var over =
      sym (next_turn m w0.tick w0.pre i first (handling_of w) turn m.clauses due (record { branches = [] }) h refl turn_is
      ∙ clauses_stay m w0.tick w0.pre (i + 1) turn var (drop (i + 1) m.clauses) (drop (first + width_of (clause_at m i)) due) (sym over))

-- ---- the rows of handlers may be sent as messages

module _ (m : Machine) (tick : ℕ) where
  abbrev set_row : ℕ → ℤ → Row
  set_row var z = record { tick = tick; kind = kind.Set; var = var; level = z; state = pos 0 }

  abbrev reinit_row : ℕ → ℤ → Row
  reinit_row var z = record { tick = tick; kind = kind.Reinit; var = var; level = pos 0; state = z }

  messages_after_fire : (h : HandlerState) (clause branch : ℕ) → All (IsMessageOfRow m) h.rows → All (IsMessageOfRow m) (h.rows ++ fire_row tick clause branch ∷ [])
  messages_after_fire h clause branch messages = All-push (IsMessageOfRow m) h.rows (fire_row tick clause branch) messages (record { set = λ q. absurd (cc); reinit = λ q. absurd (cc) })

  messages_after_assignment : (h : HandlerState) (action : Action) (z : ℤ) → IsAction (state_count m) (discrete_count m) action → All (IsMessageOfRow m) h.rows → All (IsMessageOfRow m) (assign m tick h action z).rows
  messages_after_assignment h (Set var form) z known messages =
      let next : HandlerState = record h { discretes = set h.discretes (var - state_count m) z; rows = h.rows ++ set_row var z ∷ [] } in
      let inside = target_set (state_count m) (discrete_count m) var form known.target in
      if_cases (λ (g : HandlerState). All (IsMessageOfRow m) g.rows) (exceeds 43 z) (record h { overflow = Some var }) next (λ e. messages)
      (λ e. All-push (IsMessageOfRow m) h.rows (set_row var z) messages (record { set = λ q. (inside.0, inside.1, passes-within 43 z e); reinit = λ q. absurd (cc) }))
  messages_after_assignment h (Reinit var form) z known messages =
      let next : HandlerState = record h { states = set h.states var z; rows = h.rows ++ reinit_row var z ∷ [] } in
      if_cases (λ (g : HandlerState). All (IsMessageOfRow m) g.rows) (exceeds 88 z) (record h { overflow = Some var }) next (λ e. messages)
      (λ e. All-push (IsMessageOfRow m) h.rows (reinit_row var z) messages (record { set = λ q. absurd (cc); reinit = λ q. (target_reinit (state_count m) (discrete_count m) var form known.target, passes-within 88 z e) }))

  rows_are_messages : (before : List ℤ) (h : HandlerState) (due : List Bool) → All (IsMessageOfRow m) h.rows → All (IsMessageOfRow m) (run_clauses m tick before 0 h m.clauses due).rows
  rows_are_messages before h due messages = after_clauses m tick before (λ (g : HandlerState). All (IsMessageOfRow m) g.rows) messages_after_fire messages_after_assignment 0 h m.clauses due m.has_clauses.each messages

-- the rows of the handlers may be sent, and there is room for them
pub rows_fired : (m : Machine) (w new : Values) (due : List Bool) → w.log ≡ [] →
    new ≡ values_after w (run_clauses m w.tick w.pre 0 (handling_of w) m.clauses due) →
    All (IsMessageOfRow m) new.log × (length new.log ≤ row_room m.clauses)
rows_fired m w new due fresh values =
    let none : All (IsMessageOfRow m) w.log = rw fresh (λ k d h. absurd (omega (arith, h))) in (
      rw values (rows_are_messages m w.tick w.pre (handling_of w) due none),
      omega (
        arith,
        ap (λ (v : Values). length v.log) values,
        rows_clauses m w.tick w.pre 0 (handling_of w) m.clauses due,
        ap length fresh,
      ),
    )
