-- An event step after the rule was applied.
use Rattle.qss_order2.proofs.Common
use Common.{ℕ, ℤ, ◌+◌, ◌∙◌, ◌≡◌, ap, AreChanges, arith, first_exceeding_limit, HasEach, is_listed}
use Common.{IsMovedOn, IsNear2, IsNextEvent, IsVisit2, last_second_snapshot, levels_after, List}
use Common.{Machine, Motion, motion_at, Moves, None, Ok, Option, refl, rows_of_left}
use Common.{second_snapshot_after, second_snapshot_unless, SecondSnapshot, snapshot_of, Some}
use Common.{state_count, subst, suc, sym, tick_rows2}
use Rattle.qss_order2.proofs.Arrivals.{IsEvent, levels_there, states2, levels2, has_rises2, sized2}
use Rattle.qss_order2.proofs.Looks.{moved_on}
use Rattle.qss_order2.proofs.Silent.{event_free_snapshots}
use Rattle.qss_order2.proofs.Visits.{visit, rows_are, near_there}
use Rattle.qss_order2.specs.declared.order2_rows.Kind2.TheVariants as kind

module _ {Rule : ℤ → ℤ → ℤ → Type 0} {m : Machine} {tick ticks : ℕ} {left affected : List ℕ}
    {q0 q1 q2 : Motion} {over : Option ℕ} {due : ℕ → Option ℕ} (event : IsEvent Rule m tick ticks
    left affected q0 q1 q2 over) (next : IsNextEvent m tick (snapshot_of (motion_at m q0 tick)) due
    (is_listed left) ticks) where
  abbrev w : SecondSnapshot
  w = snapshot_of (motion_at m q0 tick)

  abbrev states : List ℤ
  states = (second_snapshot_after m w ticks).states

  abbrev levels : List ℤ
  levels = levels_after m w (is_listed left) ticks

  abbrev v2 : SecondSnapshot
  v2 = snapshot_of (motion_at m q2 (tick + ticks))

  pub found : (k : ℕ) × (ticks ≡ suc k) × IsMovedOn m tick w k (is_listed left) states levels
  found = moved_on m tick w due (is_listed left) ticks states levels next refl refl

  each : HasEach m w
  each = record {
    states = event.arrival.moves.sized.states;
    levels = event.arrival.moves.sized.levels;
    changes = event.arrival.moves.sized.changes;
  }

  are : AreChanges Rule m (is_listed left) levels w.changes event.applied.changes
  are = rw (← levels_there event.arrival, ← event.arrival.arrived.changes) event.applied.are_changes

  is_over : over ≡ first_exceeding_limit m levels event.applied.changes
  is_over = event.applied.is_over ∙ ap (λ (ls : List ℤ). first_exceeding_limit m ls
      event.applied.changes) (levels_there event.arrival)

  there : over ≡ None → record { states = states; levels = levels; changes = event.applied.changes }
      ≡ v2
  there e = sym (rw (states2 event e, levels2 event e, event.applied.taken e))

  unless_same : (o : Option ℕ) (a b : SecondSnapshot) → (o ≡ None → a ≡ b) →
      second_snapshot_unless o a ≡ second_snapshot_unless o b
  unless_same None a b same = ap Ok (same refl)
  unless_same (Some var) a b same = refl

  pub visited : IsVisit2 Rule m tick w (event_free_snapshots m w found.0) (tick + ticks)
      (second_snapshot_unless over v2)
  visited =
      let next_is : tick + found.0 + 1 ≡ tick + ticks = omega (arith, found.1) in
      subst (IsVisit2 Rule m tick w (event_free_snapshots m w found.0) (tick + ticks))
      (unless_same over _ v2 there) (rw next_is at (visit Rule m tick w found.0 (is_listed left)
      states levels found.2 each event.applied.changes are over is_over))

  pub visited_rows : (t : ℕ) (to : SecondSnapshot) → rows_of_left kind.Level t to (is_listed left)
      (state_count m) ≡ tick_rows2 m t (last_second_snapshot w (event_free_snapshots m w found.0))
      to
  visited_rows t to = rows_are Rule m tick w found.0 (is_listed left) states levels found.2 each
      event.applied.changes are t to

  pub moves_on : over ≡ None → Moves m (motion_at m q2 (tick + ticks))
  moves_on e = record {
    sized = sized2 event e;
    near = subst (IsNear2 m) (there e) (near_there Rule m tick w found.0 (is_listed left) states
        levels found.2 each event.applied.changes are);
    within = ap (λ (v : SecondSnapshot). first_exceeding_limit m v.levels v.changes)
        (sym (there e)) ∙ sym is_over ∙ e;
    has_rises = has_rises2 event e;
  }
