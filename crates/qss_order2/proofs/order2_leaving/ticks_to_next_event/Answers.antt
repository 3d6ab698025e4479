-- The next event is at the least due tick, or the next limit check at the end of the window.
use Rattle.qss_order2.proofs.Common
use Common.{ℕ, ◌-◌, ◌<◌, ◌∙◌, ◌≡◌, ap, arith, due_at, is_listed, length, Some, state_count, sym}
use Common.{until}
use Rattle.qss_order2.proofs.NextLooks.{until_least, next_later, same_due, due_inside, from_first}
use Rattle.qss_order2.proofs.NextLooks.{listed_is_due}
use Rattle.qss_order2.proofs.order2_leaving.ticks_to_next_event.Goals as goal

pub take_all-requires-clause-none_before : goal.take_all-requires-clause-none_before
take_all-requires-clause-none_before c = c.next_tick-next.ensures.none_before

pub take_all-requires-clause-none_first : goal.take_all-requires-clause-none_first
take_all-requires-clause-none_first c place h = absurd (omega (arith, h))

pub overflow_sub-result : goal.overflow_sub-result
overflow_sub-result c =
    let m = c.args.f.now.machine in
    let least = c.next_tick-next.ensures in
    let dues = c.args.dues.now in
    let has = c.requires.has_dues in
    let later = next_later m c.args.tick c.args.window has.0 dues has.1 c.next_tick-next.result
    (λ low. let found = least.reached low in (
      found.0,
      omega (arith, due_inside dues found.0 c.next_tick-next.result found.1, c.requires.dues),
      found.1,
    )) in
    omega (arith, later)

pub returns-clause-next : goal.returns-clause-next
returns-clause-next c w has =
    let m = c.args.f.now.machine in
    let least = c.next_tick-next.ensures in
    let next = c.next_tick-next.result in
    let tick = c.args.tick in
    let dues = c.args.dues.now in
    let taken = c.take_all.ensures.taken in
    let many : length c.as_slice.result.now ≡ state_count m = ap length c.as_slice.ensures in
    let reached : next < c.args.window → (j : ℕ) × (j < state_count m) ×
    (due_at dues j ≡ Some next) =
    λ low. let found = least.reached low in (
      found.0,
      omega (arith, due_inside dues found.0 next found.1, c.requires.dues),
      found.1,
    ) in
    let later = next_later m tick c.args.window w dues has next reached in
    record {
      reach = c.args.window - tick;
      is_window = has.is_window;
      within = omega (arith, least.at_most);
      each = has.each;
      none_before = λ j d h e. until_least tick next d (due_at dues j) e (λ t f.
          least.none_before j t f);
      reached = λ low. let found = reached (omega (arith, low)) in (
        found.0,
        found.1,
        ap (until tick) found.2,
      );
      flags = λ j h.
          listed_is_due next (due_at dues j) (is_listed c.take_all.new.taken.items j)
          (λ e. sym (from_first dues j) ∙ taken.own j e) (λ e. taken.all j (omega (arith, h, many))
          (from_first dues j ∙ e))
          ∙ same_due m tick c.args.window w dues has j next h later;
    }

pub returns-clause-within : goal.returns-clause-within
returns-clause-within c =
    let m = c.args.f.now.machine in
    let least = c.next_tick-next.ensures in
    let dues = c.args.dues.now in
    let has = c.requires.has_dues in
    let later = next_later m c.args.tick c.args.window has.0 dues has.1 c.next_tick-next.result
    (λ low. let found = least.reached low in (
      found.0,
      omega (arith, due_inside dues found.0 c.next_tick-next.result found.1, c.requires.dues),
      found.1,
    )) in
    omega (arith, later, least.at_most)

pub returns-clause-numbers : goal.returns-clause-numbers
returns-clause-numbers c =
    let numbers = c.take_all.ensures.taken.numbers in
    let many : length c.as_slice.result.now ≡ state_count c.args.f.now.machine =
    ap length c.as_slice.ensures in
    record { rising = numbers.rising; below = λ k d h. omega (arith, numbers.below k d h, many) }

pub returns-clause-count : goal.returns-clause-count
returns-clause-count c = c.take_all.ensures.taken.out.as_many ∙ c.requires.dues

pub returns-clause-others : goal.returns-clause-others
returns-clause-others c j e = sym (from_first c.take_all.new.self j)
    ∙ c.take_all.ensures.taken.out.others j e ∙ from_first c.args.dues.now j
