-- One more state and its flag.
use Rattle.qss_own_traces.proofs.Common
use Common.{ℤ, ◌+ℤ◌, ◌<◌, ◌∙◌, ◌≡◌, all_of, ap, ap₂, arith, false, fill_by_all, filled_more}
use Common.{FitsSigned, get_or_read, int_at, ints, IsWithin, leaves_quantum, length, moved_state}
use Common.{pos, rise_at, snapshot_of, state_count, subst, sym, to_z-of_z, w128}
use Rattle.qss_own_traces.specs.SecondPlaces.{leaves_from}
use Rattle.std.proofs.lemmas.List.{length-set}
use Rattle.qss_order2.proofs.FixedFacts.{wide}
use Rattle.qss_own_traces.proofs.second_order_trace.SecondPlace.move_states.Goals as goal

pub rise-requires : goal.rise-requires
rise-requires c =
    let stands = c.requires.stands in
    let kept = c.loop-j.invariant.kept in
    record {
      fits = c.requires.fits;
      levels = rw kept.0 stands.sized.levels;
      size_limit = rw kept.0 stands.small_levels;
      state = omega (arith, c.loop-j-test.true, c.requires.fits.same_size);
    }

pub risen-x-requires-clause-state : goal.risen-x-requires-clause-state
risen-x-requires-clause-state c =
    let j = c.loop-j.j in
    let p = c.args.self.now in
    let inv = c.loop-j.invariant.states in
    let inside : j < length p.states.items =
    omega (arith, c.loop-j-test.true, c.requires.fits.same_size, c.requires.stands.sized.states) in
    let small : IsWithin 108 c.index.result.now =
    rw (get_or_read c.loop-j.self.states.items j _
    (omega (arith, inside, inv.as_many)) c.index.ensures (pos 0) ∙ inv.others j (omega arith))
    (c.requires.stands.small_states j (pos 0) inside) in
    let of_x : FitsSigned w128 c.index.result.now = wide _ (omega (arith, small)) in
    simp to_z-of_z small

pub leaves_level-requires-clause-sized : goal.leaves_level-requires-clause-sized
leaves_level-requires-clause-sized c =
    let inv = c.loop-j.invariant in
    let sized = c.requires.stands.sized in
    record {
      states = length-set c.loop-j.self.states.items c.loop-j.j _ ∙ inv.states.as_many
          ∙ sized.states;
      levels = rw inv.kept.0 sized.levels;
      changes = rw inv.kept.1 sized.changes;
      left = inv.left.as_many ∙ sized.left;
    }

pub leaves_level-requires-clause-level : goal.leaves_level-requires-clause-level
leaves_level-requires-clause-level c =
    let stands = c.requires.stands in
    rw c.loop-j.invariant.kept.0
    (stands.small_levels c.loop-j.j (pos 0)
    (omega (arith, c.loop-j-test.true, c.requires.fits.same_size, stands.sized.levels)))

pub leaves_level-requires-clause-change : goal.leaves_level-requires-clause-change
leaves_level-requires-clause-change c =
    rw c.loop-j.invariant.kept.1
    (c.requires.stands.held c.loop-j.j
    (omega (arith, c.loop-j-test.true, c.requires.fits.same_size)))

pub loop-j-preserved : goal.loop-j-preserved
loop-j-preserved c =
    let j = c.loop-j.j in
    let inv = c.loop-j.invariant in
    let p = c.args.self.now in
    let now = c.loop-j.self in
    let w = snapshot_of p in
    let m = c.args.m.now in
    let sized = c.requires.stands.sized in
    let fits : FitsSigned w128 c.risen-x.result = record { sfits = c.risen-x.type_inv } in
    let of_rise : FitsSigned w128 c.rise.result = record { sfits = c.rise.type_inv } in
    let inside : j < length p.states.items =
    omega (arith, c.loop-j-test.true, c.requires.fits.same_size, sized.states) in
    let was : c.index.result.now ≡ int_at p.states.items j =
    get_or_read now.states.items j _ (omega (arith, inside, inv.states.as_many)) c.index.ensures
    (pos 0) ∙ inv.states.others j (omega arith) in
    let of_x : FitsSigned w128 c.index.result.now =
    rw was (omega (arith, ints, c.requires.stands.small_states j (pos 0) inside)) in
    let sum : c.risen-x.result ≡ c.index.result.now +ℤ c.rise.result =
    simp to_z-of_z at c.risen-x.ensures.value in
    let slope : c.rise.result ≡ rise_at m j p.levels.items =
    rw inv.kept.0 at c.rise.ensures.value in
    let value : c.risen-x.result ≡ moved_state m w j = sum ∙ ap₂ (λ (x y : ℤ). x +ℤ y) was slope in
    let stored = to_z-of_z w128 c.risen-x.result fits in
    let flag : c.leaves_level.result ≡ leaves_from m j c.risen-x.result (int_at p.levels.items j)
    (int_at p.changes.items j) =
    rw (inv.kept.0, inv.kept.1) at (simp to_z-of_z at c.leaves_level.ensures) in
    record {
      states = filled_more (pos 0)
          (λ k z. (z ≡ moved_state m w k) × IsWithin 119 z) p.states.items now.states.items j _
          inside inv.states
          (stored ∙ value, subst (IsWithin 119) (sym stored) c.risen-x.ensures.bound);
      left = filled_more false (λ k z. z ≡ leaves_quantum m w k) p.left.items now.left.items j _
          (omega (arith, c.loop-j-test.true, c.requires.fits.same_size, sized.left)) inv.left
          (flag ∙ ap (λ (x : ℤ). leaves_from m j x (int_at p.levels.items j)
          (int_at p.changes.items j)) value);
      kept = inv.kept;
    }

pub returns : goal.returns
returns c =
    let p = c.args.self.now in
    let m = c.args.m.now in
    let inv = c.loop-j.invariant in
    let sized = c.requires.stands.sized in
    record {
      states = fill_by_all (moved_state m (snapshot_of p)) c.loop-j.self.states.items
          (state_count m) (pos 0) (inv.states.as_many ∙ sized.states)
          (λ k h. (inv.states.each k
          (omega (arith, h, c.loop-j-test.false, c.requires.fits.same_size))).0);
      bound = all_of (IsWithin 119) c.loop-j.self.states.items (state_count m)
          (inv.states.as_many ∙ sized.states)
          (λ k h. (inv.states.each k
          (omega (arith, h, c.loop-j-test.false, c.requires.fits.same_size))).1);
      left = λ k h. inv.left.each k
          (omega (arith, h, c.loop-j-test.false, c.requires.fits.same_size));
      sized = record {
        states = inv.states.as_many ∙ sized.states;
        levels = rw inv.kept.0 sized.levels;
        changes = rw inv.kept.1 sized.changes;
        left = inv.left.as_many ∙ sized.left;
      };
      kept = inv.kept;
    }
