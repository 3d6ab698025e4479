-- States and levels are those of the next tick.
use Rattle.qss_own_traces.proofs.Common
use Common.{ℕ, ℤ, ◌+ℤ◌, ◌∙◌, ◌≡◌, ap, ap₂, Bool, flag_at, floor_of, Global, if◌then◌else◌, int_at}
use Common.{leaves_quantum, length, length-map-range_with_len, level_unit, List, list_any}
use Common.{moved_state, next_states, same_table, snapshot_of, state_count, tabulate, Vec}
use Rattle.qss_order2.specs.SecondSteps.{moved_level}
use Rattle.mu_num.proofs.Tables.{int_at-tabulate}
use Rattle.qss_own_traces.proofs.FirstSteps.{same_items}
use Rattle.qss_own_traces.proofs.SecondSteps.{any_left}
use Rattle.qss_own_traces.proofs.second_order_trace.SecondPlace.move_on.Goals as goal

pub move_levels-requires-clause-small_levels : goal.move_levels-requires-clause-small_levels
move_levels-requires-clause-small_levels c =
    rw c.move_states.ensures.kept.0 c.requires.stands.small_levels

pub move_levels-requires-clause-held : goal.move_levels-requires-clause-held
move_levels-requires-clause-held c = rw c.move_states.ensures.kept.1 c.requires.stands.held

pub returns : goal.returns
returns c =
    let m = c.args.m.now in
    let p = c.args.self.now in
    let on = c.move_states.new.self in
    let w = snapshot_of p in
    let n = state_count m in
    let moves = c.move_states.ensures in
    let kept = c.move_levels.ensures.kept in
    let f = λ (xs ms cs : List ℤ) (j : ℕ). if flag_at on.left.items j then floor_of (int_at xs j)
    (level_unit m) else int_at ms j +ℤ int_at cs j in
    let g = λ (j : ℕ). if leaves_quantum m w j then floor_of (moved_state m w j)
    (level_unit m) else moved_level w j in
    let levels : c.move_levels.new.self.levels.items ≡ tabulate n g =
    c.move_levels.ensures.levels
    ∙ ap (λ (xs : List ℤ). tabulate n (f xs on.levels.items on.changes.items)) moves.states
    ∙ ap₂ (λ (ms cs : List ℤ). tabulate n (f (next_states m w) ms cs)) (same_items moves.kept.0)
    (same_items moves.kept.1)
    ∙ same_table n (f (next_states m w) p.levels.items p.changes.items) g
    (λ j h. ap₂ (λ (x : ℤ) (b : Bool). if b then floor_of x (level_unit m) else moved_level w j)
    (int_at-tabulate n (moved_state m w) j h) (moves.left j h)) in
    record {
      states = same_items kept.0 ∙ moves.states;
      levels = levels;
      changes = kept.1 ∙ moves.kept.1;
      left = rw c.move_levels.ensures.left moves.left;
      value = c.is_any_left.ensures
          ∙ ap (list_any (λ (flag : Bool). flag)) (c.deref.ensures.value
          ∙ ap (λ (v : Vec Bool Global). v.items) c.move_levels.ensures.left)
          ∙ any_left m 0 w on.left.items moves.sized.left moves.left;
      sized = record {
        states = ap length (same_items kept.0) ∙ moves.sized.states;
        levels = ap length levels ∙ length-map-range_with_len g 0 n;
        changes = ap length (same_items kept.1) ∙ moves.sized.changes;
        left = rw c.move_levels.ensures.left moves.sized.left;
      };
    }
