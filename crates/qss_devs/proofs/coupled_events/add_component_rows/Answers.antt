-- One more row.
use Rattle.qss_devs.proofs.Common
use Common.{◌∙◌, ◌≤◌, ap, arith, IntegratorModel, state_at, state_row, subst, sym}
use Rattle.qss_events.proofs.EndRows.{row_more}
use Rattle.qss_devs.proofs.SnapshotRows.{levels_in, states_in, row_of}
use Rattle.qss_devs.proofs.coupled_events.add_component_rows.Goals as goal

pub component_state_row-requires-clause-not_later : goal.component_state_row-requires-clause-not_later
component_state_row-requires-clause-not_later g c =
    subst (λ (i : IntegratorModel _ _). i.line.tick ≤ c.args.tick) (sym c.index-integrators-j.is) (c.requires.not_later c.loop-j.j c.index-integrators-j.result c.loop-j-test.true)

pub loop-j-preserved : goal.loop-j-preserved
loop-j-preserved g c =
    let j = c.loop-j.j in
    let inv = c.loop-j.invariant in
    let integrators = c.args.integrators.now in
    record {
      rows = row_more (state_row c.args.kind c.args.tick (levels_in integrators) (states_in c.args.tick integrators)) c.args.rows.now.items c.loop-j.rows.items c.push_reserved.new.self.items j _ inv.rows c.push_reserved.ensures.items
          (c.component_state_row.ensures
          ∙ ap (λ (i : IntegratorModel _ _). record { tick = c.args.tick; kind = c.args.kind; var = j; level = i.line.level; state = state_at i.line c.args.tick }) c.index-integrators-j.is
          ∙ row_of c.args.kind c.args.tick j integrators c.index-integrators-j.result c.loop-j-test.true);
      as_many = omega (arith, c.push_reserved.ensures.len, inv.as_many);
      room = c.push_reserved.ensures.capacity ∙ inv.room;
    }
