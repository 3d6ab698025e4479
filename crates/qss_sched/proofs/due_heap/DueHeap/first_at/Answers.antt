-- The first position holds the rank of the first place, which determines its tick.
use Rattle.qss_sched.proofs.Common
use Common.{◌<◌, ◌∙◌, ◌≡◌, arith, common_steps, get_or_default_zero, length, refl, slice_index}
use Rattle.qss_sched.proofs.Least.{first_at_tick, none_at_tick, none_before_first}
use Rattle.qss_sched.proofs.due_heap.DueHeap.first_at.Goals.{else-is_due_rank_at-via-then-is_due_rank_at+else-place-places}
use Rattle.qss_sched.proofs.due_heap.DueHeap.first_at.Goals.{else-is_due_rank_at-via-else-is_due_rank_at}
use Rattle.qss_sched.proofs.due_heap.DueHeap.first_at.Goals as goal

pub returns-then-place-places : goal.returns-then-place-places
returns-then-place-places c =
    let h = c.self.inside in
    let some : 0 < length h.ranks.items = grind (arith, common_steps) in
    let rank : c.index-rank.result.now ≡ slice_index h.ranks.items 0 = c.index-rank.ensures ∙ get_or_default_zero h.ranks.items 0 c.index-rank.result.now some in
    rw (← c.self.view_is) (
      c.if-place-places.true,
      first_at_tick h.due.items h.ranks.items h.positions.items c.self.invariant.heap c.args.tick c.index-rank.result.now c.place_of_due_rank-place.result some rank
          c.place_of_due_rank-place.ensures c.ranges.tick.fits (c.if-is_due_rank_at.ensures.0 refl),
    )

pub returns-else-is_due_rank_at : goal.returns-else-is_due_rank_at
returns-else-is_due_rank_at c =
    let h = c.self.inside in
    let some : 0 < length h.ranks.items = grind (arith, common_steps) in
    let rank : c.index-rank.result.now ≡ slice_index h.ranks.items 0 = c.index-rank.ensures ∙ get_or_default_zero h.ranks.items 0 c.index-rank.result.now some in
    rw (← c.self.view_is)
    (elim c.else-is_due_rank_at.branch [
      | else-is_due_rank_at-via-then-is_due_rank_at+else-place-places w ↦
          none_before_first h.due.items c.args.tick c.place_of_due_rank-place.result c.args.places
          (first_at_tick h.due.items h.ranks.items h.positions.items c.self.invariant.heap c.args.tick c.index-rank.result.now c.place_of_due_rank-place.result some rank
          c.place_of_due_rank-place.ensures c.ranges.tick.fits (w.if-is_due_rank_at.ensures.0 refl)) w.if-place-places.false
      | else-is_due_rank_at-via-else-is_due_rank_at w ↦
          none_at_tick h.due.items h.ranks.items h.positions.items c.self.invariant.heap c.args.tick c.index-rank.result.now c.place_of_due_rank-place.result c.args.places some rank
          c.place_of_due_rank-place.ensures (rw (← c.self.view_is) at c.requires) (λ b. let e = w.if-is_due_rank_at.ensures.1 b in cc)
    ])
