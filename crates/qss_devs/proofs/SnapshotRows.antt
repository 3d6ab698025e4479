-- The rows of states, from their integrators.
use Rattle.qss_devs.proofs.Common
use Common.{ℕ, ℤ, ◌++◌, ◌<◌, ◌≡◌, ◌≤◌, All, arith, get_or, get_or-map, IntegratorModel, length}
use Common.{length-map, Line, List, Machine, map, no_line, Option, pos, RowKind, Rule, snapshot_of}
use Common.{snapshot_rows, state_at, state_row, Store, StoreRepresents, subst}
use Rattle.qss_machine.specs.Runs.{state_rows, discrete_rows}

abbrev pub levels_in : {X : Type 0} {g : _} → List (IntegratorModel X g) → List ℤ
levels_in {X} {g} integrators = map (λ i. i.line.level) integrators

abbrev pub states_in : {X : Type 0} {g : _} → ℕ → List (IntegratorModel X g) → List ℤ
states_in {X} {g} tick integrators = map (λ i. state_at i.line tick) integrators

pub row_of : {X : Type 0} {g : _} (kind : RowKind) (tick j : ℕ) (integrators : List (IntegratorModel X g)) (d : IntegratorModel X g) → j < length integrators →
    record { tick = tick; kind = kind; var = j; level = (get_or integrators j d).line.level; state = state_at (get_or integrators j d).line tick }
    ≡ state_row kind tick (levels_in integrators) (states_in tick integrators) j
row_of {X} {g} kind tick j integrators d h =
    rw (
      get_or-map (λ (i : IntegratorModel X g). i.line.level) integrators j d (pos 0) h,
      get_or-map (λ (i : IntegratorModel X g). state_at i.line tick) integrators j d (pos 0) h,
    )

-- the rows of what is kept are those of its snapshot
pub rows_at : {X : Type 0} {g : _} (kind : RowKind) (tick : ℕ) (integrators : List (IntegratorModel X g)) (d : List ℤ) (s : Store X g) → integrators ≡ s.parts.integrators.items → d ≡ s.work.d →
    state_rows kind tick (levels_in integrators) (states_in tick integrators) ++ discrete_rows kind tick (length integrators) d ≡ snapshot_rows kind tick (snapshot_of tick s)
rows_at {X} {g} kind tick integrators d s is discretes =
    rw (is, discretes, length-map s.parts.integrators.items (λ (i : IntegratorModel X g). state_at i.line tick))

-- lines come from ticks up to now
pub lines_early : {X : Type 0} {g : _} (m : Machine) (name : Option Rule) (tick : ℕ) (s : Store X g) → StoreRepresents m name tick s → All (λ (i : IntegratorModel X g). i.line.tick ≤ tick) s.parts.integrators.items
lines_early {X} {g} m name tick s stands j d h =
    let own = (stands.stand.agree.integrators j (omega (arith, h, stands.fits.parts.integrators))).not_later in
    subst (λ (l : Line). l.tick ≤ tick) (get_or-map (λ (i : IntegratorModel X g). i.line) s.parts.integrators.items j d no_line h) own
