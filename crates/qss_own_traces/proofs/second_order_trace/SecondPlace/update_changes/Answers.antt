-- One more change.
use Rattle.qss_own_traces.proofs.Common
use Common.{ℕ, ℤ, ◌<◌, ◌∙◌, ◌≡◌, ap, arith, change_after, fill_by_all, filled_more, FitsSigned}
use Common.{flag_at, if◌then◌else◌, int_at, length, level_unit, nearest_change, pos, rise_at}
use Common.{state_count, to_z-of_z, w128}
use Rattle.qss_own_traces.proofs.second_order_trace.SecondPlace.update_changes.Goals as goal

pub next_change-requires-clause-sized : goal.next_change-requires-clause-sized
next_change-requires-clause-sized c =
    let inv = c.loop-j.invariant in
    let sized = c.requires.sized in
    record {
      states = rw inv.kept.0 sized.states;
      levels = rw inv.kept.1 sized.levels;
      changes = inv.changes.as_many ∙ sized.changes;
      left = rw inv.kept.2 sized.left;
    }

pub next_change-requires-clause-size_limit : goal.next_change-requires-clause-size_limit
next_change-requires-clause-size_limit c = rw c.loop-j.invariant.kept.1 c.requires.size_limit

pub loop-j-preserved : goal.loop-j-preserved
loop-j-preserved c =
    let j = c.loop-j.j in
    let p = c.args.self.now in
    let now = c.loop-j.self in
    let m = c.args.m.now in
    let inv = c.loop-j.invariant in
    let f = λ (k : ℕ) (old : ℤ). if flag_at p.left.items k then nearest_change (level_unit m)
    (rise_at m k p.levels.items) else old in
    let fits : FitsSigned w128 c.next_change.result = record { sfits = c.next_change.type_inv } in
    let own : c.next_change.result ≡ f j (int_at now.changes.items j) =
    rw (inv.kept.1, inv.kept.2) at c.next_change.ensures in
    let inside : j < length p.changes.items =
    omega (arith, c.loop-j-test.true, c.requires.fits.same_size, c.requires.sized.changes) in
    let was : int_at now.changes.items j ≡ int_at p.changes.items j =
    inv.changes.others j (omega arith) in
    record {
      changes = filled_more (pos 0)
          (λ k z. z ≡ change_after m p k) p.changes.items now.changes.items j _ inside inv.changes
          (to_z-of_z w128 c.next_change.result fits ∙ own ∙ ap (f j) was);
      kept = inv.kept;
    }

pub returns-clause-changes : goal.returns-clause-changes
returns-clause-changes c =
    let p = c.args.self.now in
    let m = c.args.m.now in
    let inv = c.loop-j.invariant.changes in
    fill_by_all (change_after m p) c.loop-j.self.changes.items (state_count m) (pos 0)
    (inv.as_many ∙ c.requires.sized.changes)
    (λ k h. inv.each k (omega (arith, h, c.loop-j-test.false, c.requires.fits.same_size)))
