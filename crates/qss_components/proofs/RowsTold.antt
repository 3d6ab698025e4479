-- The rows of handlers list the effects of the handlers.
use Rattle.qss_components.proofs.Common
use Common.{[], ℕ, ℤ, ◌++◌, ◌-◌, ◌∙◌, ◌∷◌, ◌≡◌, ap, Discrete, discrete_count, exceeds, if_cases}
use Common.{List, Machine, pos, refl, set, Some, State, state_count, Values, values_after_message}
use Rattle.std.proofs.lemmas.List.Sums.{fold-append}
use Rattle.qss_machine.specs.declared.machine_parts.Action.{Action}
use Rattle.qss_machine.specs.declared.machine_parts.Action.TheVariants.{Set, Reinit}
use Rattle.qss_machine.specs.declared.machine_parts.Row.{Row}
use Rattle.qss_machine.specs.Handlers.{HandlerState, assign, fire_row}
use Rattle.qss_machine.specs.MachineLimits.{IsAction}
use Rattle.qss_events.proofs.Kept.{after_clauses}
use Rattle.qss_components.specs.ComponentTheorems.{values_after_row, values_after_rows}
use Rattle.qss_components.specs.ComponentTheorems.{RowsTellHandlers}
use Rattle.qss_machine.specs.declared.machine_parts.RowKind.TheVariants as kind

module _ (m : Machine) (tick : ℕ) (v : Values) where
  abbrev Tells : HandlerState → Type 0
  Tells h = values_after_rows m v h.rows ≡ record v { states = h.states; discretes = h.discretes }

  -- one row more
  one_more : (rows : List Row) (row : Row) → values_after_rows m v (rows ++ row ∷ []) ≡ values_after_row m (values_after_rows m v rows) row.kind row
  one_more rows row = fold-append (λ (values : Values) (r : Row). values_after_row m values r.kind r) v rows (row ∷ [])

  fires : (h : HandlerState) (clause branch : ℕ) → Tells h → Tells (record h { rows = h.rows ++ fire_row tick clause branch ∷ [] })
  fires h clause branch tells = one_more h.rows (fire_row tick clause branch) ∙ tells

  assigns : (h : HandlerState) (action : Action) (z : ℤ) → IsAction (state_count m) (discrete_count m) action → Tells h → Tells (assign m tick h action z)
  assigns h (Set var form) z known tells =
      let row : Row = record { tick = tick; kind = kind.Set; var = var; level = z; state = pos 0 } in
      let next : HandlerState = record h { discretes = set h.discretes (var - state_count m) z; rows = h.rows ++ row ∷ [] } in
      if_cases Tells (exceeds 43 z) (record h { overflow = Some var }) next (λ e. tells) (λ e. one_more h.rows row ∙ ap (λ (u : Values). values_after_message m u (Discrete var z)) tells)
  assigns h (Reinit var form) z known tells =
      let row : Row = record { tick = tick; kind = kind.Reinit; var = var; level = pos 0; state = z } in
      let next : HandlerState = record h { states = set h.states var z; rows = h.rows ++ row ∷ [] } in
      if_cases Tells (exceeds 88 z) (record h { overflow = Some var }) next (λ e. tells) (λ e. one_more h.rows row ∙ ap (λ (u : Values). values_after_message m u (State var z)) tells)

pub rows_tell_handlers : RowsTellHandlers
rows_tell_handlers m tick v over due =
    after_clauses m tick v.discretes (Tells m tick v) (fires m tick v) (assigns m tick v) 0 (record { states = v.states; discretes = v.discretes; rows = []; overflow = over }) m.clauses due m.has_clauses.each refl
