-- One more state.
use Rattle.qss_order2.proofs.Common
use Common.{ℕ, ◌<◌, ◌∙◌, arith, FitsSigned, get_or, length, to_z-of_z, w128, written_all}
use Common.{written_more}
use Rattle.qss_order2.proofs.Motions.{still_moves, moved_once, risen_once}
use Rattle.qss_order2.proofs.order2_motion.Motion.advance.Goals as goal

pub rise_at-rise-requires : goal.rise_at-rise-requires
rise_at-rise-requires c = record {
  moves = still_moves c.loop-state.invariant c.requires.moves;
  state = omega (
    arith,
    c.requires.list c.loop-state.state-index 0 c.loop-state-test.true,
    c.loop-state.invariant.places.as_many,
  );
}

pub place_at-requires : goal.place_at-requires
place_at-requires c = record {
  moves = still_moves c.loop-state.invariant c.requires.moves;
  state = omega (
    arith,
    c.requires.list c.loop-state.state-index 0 c.loop-state-test.true,
    c.loop-state.invariant.places.as_many,
  );
}

pub loop-state-preserved : goal.loop-state-preserved
loop-state-preserved c =
    let i = c.loop-state.state-index in
    let inv = c.loop-state.invariant in
    let h : i < length c.args.list.now = c.loop-state-test.true in
    let j : ℕ = get_or c.args.list.now i 0 in
    let inside = c.requires.list i 0 h in
    let fits : FitsSigned w128 c.rise_at-rise.result = record { sfits = c.rise_at-rise.type_inv } in
    record {
      changes = inv.changes;
      bends = inv.bends;
      places = written_more _ _ _ _ _ _ _ h (omega (arith, inside, inv.places.as_many)) inv.places
          (c.place_at.ensures ∙ moved_once inv j);
      rises = written_more _ _ _ _ _ _ _ h (omega (
        arith,
        inside,
        inv.rises.as_many,
        c.requires.moves.as_many_rises,
      )) inv.rises (to_z-of_z w128 c.rise_at-rise.result fits ∙ c.rise_at-rise.ensures
          ∙ risen_once inv j);
    }

pub returns : goal.returns
returns c =
    let inv = c.loop-state.invariant in
    record {
      changes = inv.changes;
      bends = inv.bends;
      places = written_all _ _ _ _ _ _ c.loop-state-test.false inv.places;
      rises = written_all _ _ _ _ _ _ c.loop-state-test.false inv.rises;
    }
