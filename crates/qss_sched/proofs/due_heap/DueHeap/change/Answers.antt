-- The place's rank in the heap is that of its new tick.
use Rattle.qss_sched.proofs.Common
use Common.{◌-◌, ◌/◌, ◌<◌, ◌^◌, ◌∙◌, ◌≡◌, ap, arith, get_or_default_zero, IsDueHeap, length, min}
use Common.{slice_index, take_at}
use Rattle.std.proofs.lemmas.List.{length-set}
use Rattle.qss_sched.proofs.DueHeaps.{heap_after}
use Rattle.qss_sched.proofs.Least.{next_of_first}
use Rattle.qss_sched.proofs.due_heap.DueHeap.change.Goals as goal

pub invariant_of-self : goal.invariant_of-self
invariant_of-self c =
    let due = c.put_due_tick.new.due in
    let ranks = c.replace_in_heap.new.ranks in
    let positions = c.replace_in_heap.new.positions in
    let many_due : length due ≡ c.self.inside.due.len = c.put_due_tick.auto.due ∙ c.deref_mut.ensures.len in
    let many : length ranks ≡ c.self.inside.ranks.len = c.replace_in_heap.auto.ranks ∙ c.deref_mut-2.ensures.len in
    let many_positions : length positions ≡ c.self.inside.positions.len = c.replace_in_heap.auto.positions ∙ c.deref_mut-3.ensures.len in
    let heap : IsDueHeap due ranks positions =
    heap_after c.self.inside.due.items due c.self.inside.ranks.items c.self.inside.positions.items ranks positions
    c.args.due c.args.place c.due_rank.result c.self.invariant.heap (rw c.self.view_is c.requires) (rw c.deref_mut.ensures.value at c.put_due_tick.ensures.put) c.put_due_tick.ensures.size_limit
    c.due_rank.ensures.rank c.due_rank.ensures.place (c.replace_in_heap.auto.ranks ∙ ap length c.deref_mut-2.ensures.value) c.replace_in_heap.ensures.indexed c.replace_in_heap.ensures.ordered c.replace_in_heap.ensures.takes
    (rw (c.deref_mut-2.ensures.value, c.deref_mut-3.ensures.value) at c.replace_in_heap.ensures.others) in
    let place : c.args.place < length c.self.inside.due.items = rw c.self.view_is c.requires in
    let still : length due ≡ length c.self.inside.due.items =
    ap length c.put_due_tick.ensures.put ∙ (length-set c.deref_mut.result.now c.args.place c.args.due ∙ ap length c.deref_mut.ensures.value) in
    let some : 0 < length ranks = omega (arith, place, still, heap.as_many) in
    let read = c.index.result.now in
    let rank : read ≡ slice_index ranks 0 = (rw (take_at ranks _ _ many) at c.index.ensures) ∙ get_or_default_zero ranks 0 read some in
    rw (take_at due _ _ many_due, take_at ranks _ _ many, take_at positions _ _ many_positions)
    (record {
      heap = heap;
      next = next_of_first due ranks positions heap (2 ^ 64 - 1) c.due_tick_before-self-inside.result some (omega arith) (c.due_tick_before-self-inside.ensures ∙ ap (λ r. min (r / 2 ^ 32) (2 ^ 64 - 1)) rank);
    })
