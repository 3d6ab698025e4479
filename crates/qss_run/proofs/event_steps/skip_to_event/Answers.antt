-- The store is valid just before the next event step.
use Rattle.qss_run.proofs.Common
use Common.{ℕ, ◌+◌, ◌-◌, ◌<◌, ◌∙◌, ◌≡◌, ◌≤◌, ap, AreAlikeBut, AreEventFree, arith, arrived_then}
use Common.{Bool, Conditions, due_at, flag_at, Global, IsAllowedLevel, IsStoreAt, length, PlaceList}
use Common.{quiet_worlds, refl, snapshot_of, Some, Store, subst, sym, Vec}
use Rattle.qss_run.proofs.Jumps.{next_later, with_arrived, world_then, stands_then, silent_then}
use Rattle.qss_events.proofs.Silences.{arrived_if}
use Rattle.qss_run.proofs.event_steps.skip_to_event.Goals as goal

pub overflow_sub-result : goal.overflow_sub-result
overflow_sub-result c =
    let later = next_later c.args.m.now c.args.tick c.args.s.now c.earliest_due_tick-next.result c.args.m.now.last c.requires.stands c.requires.in_time c.earliest_due_tick-next.ensures.at_most c.earliest_due_tick-next.ensures.reached in
    omega (arith, later)

pub copy_settled-requires : goal.copy_settled-requires
copy_settled-requires c =
    let own = c.requires.stands.fits.own_conditions in
    record { as_many = own.at_arrival ∙ sym own.after_handlers; count = own.flipped ∙ sym own.after_handlers; alike = c.requires.stands.alike }

pub returns : goal.returns
returns c =
    let m = c.args.m.now in
    let s : Store = c.args.s.now in
    let tick = c.args.tick in
    let next = c.earliest_due_tick-next.result in
    let own = c.requires.stands.fits.own_conditions in
    let later : tick < next = next_later m tick s next m.last c.requires.stands c.requires.in_time c.earliest_due_tick-next.ensures.at_most c.earliest_due_tick-next.ensures.reached in
    let k : ℕ = (next - 1) - tick in
    let e : tick + k ≡ next - 1 = omega (arith, later) in
    let before : tick + k < m.last = omega (arith, e, later, c.earliest_due_tick-next.ensures.at_most) in
    let nothing : (place t : ℕ) → due_at s.agenda place ≡ Some t → tick + k + 1 ≤ t = λ place t due. let least : next ≤ t = c.earliest_due_tick-next.ensures.none_before place t due in omega (arith, e, least, later) in
    let left : Conditions = c.copy_settled.new.self in
    let at_arrival : Vec Bool Global = left.at_arrival in
    let is : at_arrival.items ≡ arrived_then k s.conditions.at_arrival.items s.conditions.after_handlers.items = c.copy_settled.ensures.at_arrival ∙ arrived_if tick next k s.conditions.at_arrival.items s.conditions.after_handlers.items e later in
    let flipped : PlaceList = left.flipped in
    let rest : left ≡ record s.conditions { at_arrival = at_arrival; flipped = flipped } = c.copy_settled.ensures.rest in
    let snapshot = world_then m tick k s at_arrival flipped c.requires.stands is in
    let settled : left.after_handlers.items ≡ s.conditions.after_handlers.items = ap (λ (v : Conditions). v.after_handlers.items) rest in
    let alike : AreAlikeBut flipped.places at_arrival.items s.conditions.after_handlers.items = λ place none. c.copy_settled.ensures.flipped.alike place none ∙ ap (λ flags. flag_at flags place) settled in
    let count = c.copy_settled.ensures.flipped.count ∙ ap length settled ∙ own.after_handlers ∙ sym own.flipped in
    record {
      later = omega (arith, later);
      before = omega (arith, later, c.earliest_due_tick-next.ensures.at_most);
      reached = λ early.
          let there : (next - 1) + 1 ≡ next = omega (arith, later) in
          let found = c.earliest_due_tick-next.ensures.reached (omega (arith, early, there)) in
          (found.0, found.1 ∙ ap (λ (t : ℕ). Some t) (sym there));
      silent = λ name. (
        quiet_worlds m (snapshot_of tick s) k,
        subst (λ all. AreEventFree (IsAllowedLevel name) m tick (snapshot_of tick s) (quiet_worlds m (snapshot_of tick s) k) (next - 1) (snapshot_of (next - 1) (record s { conditions = all }))) (sym rest)
            (subst (λ t. AreEventFree (IsAllowedLevel name) m tick (snapshot_of tick s) (quiet_worlds m (snapshot_of tick s) k) t (snapshot_of t (with_arrived s at_arrival flipped))) e
            (subst (AreEventFree (IsAllowedLevel name) m tick (snapshot_of tick s) (quiet_worlds m (snapshot_of tick s) k) (tick + k)) (sym snapshot)
            (silent_then (IsAllowedLevel name) m tick k s c.requires.stands before nothing))),
      );
      stands = subst (λ all. IsStoreAt m (next - 1) (record s { conditions = all })) (sym rest)
          (subst (λ t. IsStoreAt m t (with_arrived s at_arrival flipped)) e (stands_then m tick k s at_arrival flipped c.requires.stands before nothing is count alike));
      room = refl;
    }
