-- The model represents its snapshot just before the next event step.
use Rattle.qss_devs.proofs.Common
use Common.{ℕ, ◌+◌, ◌-◌, ◌<◌, ◌∙◌, ◌≡◌, ap, AreEventFree, arith, arrived_then, Bool, Global}
use Common.{if◌then◌else◌, IsAllowedLevel, nat_lt, quiet_worlds, refl, snapshot_of, Store}
use Common.{StoreRepresents, subst, sym, Vec, with_items, with_items_is}
use Rattle.qss_events.proofs.Silences.{arrived_if}
use Rattle.qss_devs.proofs.Coasting.{Dues, with_arrived, snapshot_then, stands_then, silent_then}
use Rattle.qss_devs.proofs.coupled_events.skip_event_free_ticks.Goals as goal

pub overflow_sub-result : goal.overflow_sub-result
overflow_sub-result g c = omega (arith, c.next_step_tick-next.ensures.later)

pub returns : goal.returns
returns g c =
    let m = c.args.m.now in
    let name = c.args.q.now.name in
    let s : Store _ _ = c.args.s.now in
    let tick = c.args.tick in
    let next = c.next_step_tick-next.result in
    let later : tick < next = c.next_step_tick-next.ensures.later in
    let k : ℕ = (next - 1) - tick in
    let e : tick + k ≡ next - 1 = omega (arith, later) in
    let there : tick + k + 1 ≡ next = omega (arith, e, later) in
    let before : tick + k < m.last = omega (arith, e, later, c.next_step_tick-next.ensures.at_most) in
    let dues : 0 < k → Dues m name tick s c.requires.represents_snapshot (tick + k + 1) =
    λ some. let found = c.next_step_tick-next.ensures.dues (omega (arith, some, there)) in
    subst (Dues m name tick s c.requires.represents_snapshot) (sym there) (record { due = found.0; are = found.1; none = found.2 }) in
    let at_arrival : Vec Bool Global = with_items s.truths.at_arrival c.copy_truths_if_still.new.at_arrival in
    let is : at_arrival.items ≡ arrived_then k s.truths.at_arrival.items s.truths.after_handlers.items =
    with_items_is s.truths.at_arrival c.copy_truths_if_still.new.at_arrival (c.copy_truths_if_still.auto.at_arrival ∙ c.deref_mut.ensures.len)
    ∙ c.copy_truths_if_still.ensures
    ∙ ap (λ b. if nat_lt (tick + 1) next then b else c.deref_mut.result.now) c.deref.ensures.value
    ∙ ap (λ a. if nat_lt (tick + 1) next then s.truths.after_handlers.items else a) c.deref_mut.ensures.value
    ∙ arrived_if tick next k s.truths.at_arrival.items s.truths.after_handlers.items e later in
    let snapshot = snapshot_then m name tick s c.requires.represents_snapshot k at_arrival is in
    record {
      later = omega (arith, later);
      before = omega (arith, later, c.next_step_tick-next.ensures.at_most);
      silent = (
        quiet_worlds m (snapshot_of tick s) k,
        subst (λ t. AreEventFree (IsAllowedLevel name) m tick (snapshot_of tick s) (quiet_worlds m (snapshot_of tick s) k) t (snapshot_of t (with_arrived s at_arrival))) e
            (subst (AreEventFree (IsAllowedLevel name) m tick (snapshot_of tick s) (quiet_worlds m (snapshot_of tick s) k) (tick + k)) (sym snapshot)
            (silent_then m name tick s c.requires.represents_snapshot (IsAllowedLevel name) k before dues)),
      );
      represents_snapshot = subst (λ t. StoreRepresents m name t (with_arrived s at_arrival)) e
          (stands_then m name tick s c.requires.represents_snapshot k at_arrival before dues is
          (λ j n h is_next. omega (arith, c.next_step_tick-next.ensures.lines j n h is_next, there))
          (λ place n h is_next. omega (arith, c.next_step_tick-next.ensures.crossings place n h is_next, there)));
      room = refl;
    }
