-- What is kept represents the start.
use Rattle.qss_devs.proofs.Common
use Common.{◌∙◌, ◌≤◌, All, ap, arith, CrossingModel, DiscreteInfo, IntegratorModel, length}
use Common.{length-map, Line, List, Machine, map, Quantizer, snapshot_rows, StateInfo, Store, subst}
use Common.{sym}
use Rattle.qss_hand.specs.Values.{Values}
use Rattle.qss_devs.proofs.SnapshotRows.{rows_at}
use Rattle.qss_devs.proofs.Begun.{held, AreFirst, first_snapshot, first_stands}
use Rattle.qss_machine.specs.declared.machine_parts.RowKind.TheVariants as kind
use Rattle.qss_devs.proofs.coupled_start.start_coupled_store.Goals as goal

pub start_coupled_parts-requires : goal.start_coupled_parts-requires
start_coupled_parts-requires g c = record {
  same = c.requires;
  states = ap (λ (v : Values). v.x) c.in_ok-work.ensures;
  discretes = ap (λ (v : Values). v.d) c.in_ok-work.ensures;
}

pub set_snapshot_rows-requires : goal.set_snapshot_rows-requires
set_snapshot_rows-requires g c =
    let m : Machine = c.args.m.now in
    record {
      not_later =
          subst (All (λ (i : IntegratorModel _ _). i.line.tick ≤ 0)) (sym c.deref-4.ensures.value)
          (λ j d h. let own = ap (λ (l : Line). l.tick) (c.in_ok-parts.ensures.integrators j d h).line in omega (arith, own));
      count_limit =
          omega (
            arith,
            ap length c.deref-4.ensures.value,
            c.in_ok-parts.ensures.parts.integrators,
            ap length c.deref-5.ensures.value,
            ap (λ (v : Values). length v.d) c.work.view_is,
            ap (λ (v : Values). length v.d) c.in_ok-work.ensures,
            length-map m.discretes (λ (d : DiscreteInfo). d.d0),
            m.has_variables.few,
          );
      tick_limit = omega arith;
      room =
          omega (
            arith,
            ap length c.deref-4.ensures.value,
            c.in_ok-parts.ensures.parts.integrators,
            ap length c.deref-5.ensures.value,
            c.in_ok-rows.ensures.capacity,
            c.len.ensures,
            c.len-2.ensures,
            c.work.inside.x.ok.0,
            c.work.inside.d.ok.0,
            ap (λ (v : Values). length v.x) c.work.view_is,
            ap (λ (v : Values). length v.d) c.work.view_is,
            ap (λ (v : Values). length v.x) c.in_ok-work.ensures,
            length-map m.states (λ (s : StateInfo). s.x0),
          );
    }

pub returns : goal.returns
returns g c =
    let m : Machine = c.args.m.now in
    let q : Quantizer _ _ = c.args.q.now.value in
    let s : Store _ _ = record {
      parts = c.in_ok-parts.parts;
      work = c.in_ok-work.work;
      truths = record { current = c.in_ok-current.current; at_arrival = c.in_ok-at_arrival.at_arrival; after_handlers = c.in_ok-after_handlers.after_handlers };
      rows = c.set_snapshot_rows.new.rows;
    } in
    let first : AreFirst m q s = record {
      parts = c.in_ok-parts.ensures.parts;
      integrators = c.in_ok-parts.ensures.integrators;
      functions = c.in_ok-parts.ensures.functions;
      crossings = c.in_ok-parts.ensures.crossings;
      work = c.in_ok-work.ensures;
      current = c.in_ok-current.ensures ∙ ap (λ (ks : List CrossingModel). map held ks) c.deref.ensures.value;
      at_arrival = c.in_ok-at_arrival.ensures ∙ ap (λ (ks : List CrossingModel). map held ks) c.deref-2.ensures.value;
      after_handlers = c.in_ok-after_handlers.ensures ∙ ap (λ (ks : List CrossingModel). map held ks) c.deref-3.ensures.value;
      room = omega (
        arith,
        c.set_snapshot_rows.ensures.room,
        c.in_ok-rows.ensures.capacity,
        c.capacity.ensures,
        c.len.ensures,
        c.len-2.ensures,
        c.work.inside.x.ok.0,
        c.work.inside.d.ok.0,
        ap (λ (v : Values). v.room) c.work.view_is,
        ap (λ (v : Values). length v.x) c.work.view_is,
        ap (λ (v : Values). length v.d) c.work.view_is,
        ap (λ (v : Values). v.room) c.in_ok-work.ensures,
        ap (λ (v : Values). length v.x) c.in_ok-work.ensures,
        ap (λ (v : Values). length v.d) c.in_ok-work.ensures,
        length-map m.states (λ (i : StateInfo). i.x0),
        length-map m.discretes (λ (d : DiscreteInfo). d.d0),
      );
    } in
    let snapshot = first_snapshot m q s first in
    record {
      represents_snapshot = first_stands m q s first;
      snapshot = snapshot;
      rows = c.set_snapshot_rows.ensures.rows
          ∙ rows_at kind.Start 0 c.deref-4.result.now c.deref-5.result.now s c.deref-4.ensures.value (c.deref-5.ensures.value ∙ ap (λ (v : Values). v.d) c.work.view_is)
          ∙ ap (snapshot_rows kind.Start 0) snapshot;
    }
