-- One more moved state takes its level. What the moved states do is what all states do.
use Rattle.qss_states.proofs.Common
use Common.{ℕ, ℤ, ◌++◌, ◌+◌, ◌<◌, ◌∙◌, ◌≡◌, All, all_within, among_at, ap, AreRequantized, arith}
use Common.{DiffersOnlyAt, exceeds, false, few_numbers, first_exceeding, FitsSigned, get_or}
use Common.{HasLeft, int_at, ints, IsAllowedLevel, IsNextLevel, IsWithin, length, level_rows, List}
use Common.{not_before, Option, overflow_of, pos, refl, Row, row_of, rules, set, state_count, subst}
use Common.{sym, take, to_z-of_z, w128, w64}
use Rattle.qss_states.proofs.DueLevels.{levels_over, levels_allowed, rows_of_moved, written_off}
use Rattle.qss_states.proofs.Taken.{none_taken, taken_more, taken_all}
use Rattle.qss_states.proofs.requantization.set_new_levels.Goals as goal

pub loop-state-init : goal.loop-state-init
loop-state-init g c =
    let at = c.args.at.now in
    record {
      taken = (c.args.levels.now, none_taken at.machine.now c.args.q.now.name at.tick c.args.at.now.states.now c.args.levels.now c.args.rows.now.items);
      few = omega arith;
      room = refl;
    }

pub next_level-fresh-requires : goal.next_level-fresh-requires
next_level-fresh-requires g c =
    let i = c.loop-state.state-index in
    let m = c.args.at.now.machine.now in
    let moved : List ℕ = c.args.at.now.moved.now in
    let j : ℕ = get_or moved i 0 in
    let h : i < length moved = c.loop-state-test.true in
    let inside : j < state_count m = c.requires.moved.below i 0 h in
    let same : int_at c.loop-state.levels j ≡ int_at c.args.levels.now j = c.loop-state.invariant.taken.1.off.others j (not_before moved i c.requires.moved.rising h) in
    let small : IsWithin 43 (int_at c.loop-state.levels j) = subst (IsWithin 43) (sym same) (c.requires.small_levels j (pos 0) (omega (arith, c.requires.levels, inside))) in
    let fits : FitsSigned w64 (int_at c.loop-state.levels j) = omega (arith, ints, small) in
    record {
      state = inside;
      states = c.requires.states;
      small_state = c.requires.small_states j (among_at moved i h);
      small_level = rw (to_z-of_z w64 (int_at c.loop-state.levels j) fits) small;
      unit = search rules;
      left = λ calm.
          subst (HasLeft m j (int_at c.args.at.now.states.now j)) (sym (to_z-of_z w64 (int_at c.loop-state.levels j) fits ∙ same)) (c.requires.left calm j (among_at moved i h));
    }

pub take_within_limit-past-requires : goal.take_within_limit-past-requires
take_within_limit-past-requires g c =
    let i = c.loop-state.state-index in
    let moved = c.args.at.now.moved.now in
    let inv = c.loop-state.invariant in
    let few = few_numbers (state_count c.args.at.now.machine.now) moved c.requires.moved in
    record {
      state = omega (arith, c.requires.moved.below i 0 c.loop-state-test.true, c.requires.states);
      small_state = c.requires.small_states _ (among_at moved i c.loop-state-test.true);
      room = omega (arith, inv.few, inv.room, c.requires.room, c.loop-state-test.true, few);
    }

pub loop-state-preserved : goal.loop-state-preserved
loop-state-preserved g c =
    let i = c.loop-state.state-index in
    let moved : List ℕ = c.args.at.now.moved.now in
    let j : ℕ = get_or moved i 0 in
    let m = c.args.at.now.machine.now in
    let name = c.args.q.now.name in
    let tick = c.args.at.now.tick in
    let states : List ℤ = c.args.at.now.states.now in
    let olds : List ℤ = c.args.levels.now in
    let inv = c.loop-state.invariant in
    let rising = c.requires.moved.rising in
    let h : i < length moved = c.loop-state-test.true in
    let inside : j < state_count m = c.requires.moved.below i 0 h in
    let same : int_at c.loop-state.levels j ≡ int_at olds j = inv.taken.1.off.others j (not_before moved i rising h) in
    let small_level : IsWithin 43 (int_at c.loop-state.levels j) = subst (IsWithin 43) (sym same) (c.requires.small_levels j (pos 0) (omega (arith, c.requires.levels, inside))) in
    let level : FitsSigned w64 (int_at c.loop-state.levels j) = omega (arith, ints, small_level) in
    let fresh : ℤ = c.next_level-fresh.result in
    let fresh_fits : FitsSigned w128 fresh = record { sfits = c.next_level-fresh.type_inv } in
    let next : IsNextLevel (IsAllowedLevel name) m j (int_at states j) (int_at olds j) fresh =
    subst (λ (old : ℤ). IsNextLevel (IsAllowedLevel name) m j (int_at states j) old fresh) (to_z-of_z w64 (int_at c.loop-state.levels j) level ∙ same) c.next_level-fresh.ensures in
    let past : exceeds 43 fresh ≡ c.take_within_limit-past.result = sym (rw (to_z-of_z w128 fresh fresh_fits) at c.take_within_limit-past.ensures.past) in
    let row : c.take_within_limit-past.result ≡ false → c.take_within_limit-past.new.rows.items ≡ c.loop-state.rows.items ++ row_of tick j (int_at olds j) fresh (int_at states j) = λ e.
    (c.take_within_limit-past.ensures.taken e).rows_are
    ∙ ap (λ z. c.loop-state.rows.items ++ row_of tick j (int_at c.loop-state.levels j) z (int_at states j)) (to_z-of_z w128 fresh fresh_fits)
    ∙ ap (λ z. c.loop-state.rows.items ++ row_of tick j z fresh (int_at states j)) same in
    record {
      taken = (
        set inv.taken.0 j fresh,
        subst (λ (first : Option ℕ). AreRequantized m name tick states (take (i + 1) moved) olds (set c.loop-state.levels j c.take_within_limit-past.new.level) (set inv.taken.0 j fresh) c.args.rows.now.items
            c.take_within_limit-past.new.rows.items first) (sym c.first_past-first.ensures)
            (taken_more m name tick states olds c.args.rows.now.items moved i c.loop-state.levels inv.taken.0 c.loop-state.rows.items c.take_within_limit-past.new.rows.items (overflow_of c.loop-state.first) fresh
            c.take_within_limit-past.new.level c.take_within_limit-past.result h rising (omega (arith, inside, c.requires.levels)) inv.taken.1 next past
            (λ e. (c.take_within_limit-past.ensures.taken e).level_is ∙ to_z-of_z w128 fresh fresh_fits) row),
      );
      few = omega (arith, inv.few, c.take_within_limit-past.ensures.one_more.few);
      room = c.take_within_limit-past.ensures.one_more.room ∙ inv.room;
    }

pub returns : goal.returns
returns g c =
    let at = c.args.at.now in
    let m = at.machine.now in
    let tick = at.tick in
    let moved = at.moved.now in
    let x : List ℤ = at.states.now in
    let old : List ℤ = c.args.levels.now in
    let taken = c.loop-state.invariant.taken in
    let new : List ℤ = taken.0 in
    let first : Option ℕ = overflow_of c.loop-state.first in
    let done = taken_all m c.args.q.now.name tick x old c.args.rows.now.items moved
    c.loop-state.state-index c.loop-state.levels new c.loop-state.rows.items first
    c.loop-state-test.false taken.1 in
    let off : DiffersOnlyAt moved old new = written_off moved _ old old new refl done.allowed in
    let over : first ≡ first_exceeding 43 new =
    levels_over m moved x old new c.requires.moved c.requires.levels off first
    c.requires.small_levels done.found in
    record {
      taken = (
        new,
        record {
          over_is = over;
          allowed = λ states are. levels_allowed m moved x old new c.requires.moved c.requires.levels off states are (IsAllowedLevel c.args.q.now.name) done.allowed.each;
          others = off;
          levels = done.levels;
        },
      );
      size_limit = λ none. subst (All (IsWithin 43)) (sym (done.levels none)) (all_within 43 new (sym over ∙ none));
      rows = λ none states are.
          done.own_rows none
          ∙ ap (λ (more : List Row). c.args.rows.now.items ++ more)
          (rows_of_moved m moved x old new c.requires.moved c.requires.levels off states are tick ∙ ap (λ (l : List ℤ). level_rows tick old l states) (sym (done.levels none)));
      room = c.loop-state.invariant.room;
    }
