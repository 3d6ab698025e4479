-- The start values of a machine are within their limits.
use Rattle.qss_machine.proofs.Common
use Common.{[], ℕ, ◌<◌, All, DiscreteInfo, get_or, get_or-map, IsWithin, length, length-map, List}
use Common.{Machine, map, pos, start_discretes, start_states, StateInfo, subst, sym}

-- what holds of each element's image
pub all_map : {X Y : Type 0} (P : Y → Type 0) (f : X → Y) (xs : List X) (d : X) → ((k : ℕ) → k < length xs → P (f (get_or xs k d))) → All P (map f xs)
all_map P f xs d each k e h =
    let inside : k < length xs = subst (λ n. k < n) (length-map xs f) h in
    subst P (sym (get_or-map f xs k d e inside)) (each k inside)

pub discretes_start : (m : Machine) → All (IsWithin 43) (start_discretes m)
discretes_start m =
    let none : DiscreteInfo = record { name = []; d0 = pos 0 } in
    all_map (IsWithin 43) (λ (d : DiscreteInfo). d.d0) m.discretes none (λ k h. m.has_variables.each_discrete k none h)

pub states_start : (m : Machine) → All (IsWithin 88) (start_states m)
states_start m =
    let none : StateInfo = record { name = []; x0 = pos 0; quantum = pos 0 } in
    all_map (IsWithin 88) (λ (s : StateInfo). s.x0) m.states none (λ k h. (m.has_variables.each_state k none h).start)
