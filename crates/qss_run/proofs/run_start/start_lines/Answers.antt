-- One more line goes on.
use Rattle.qss_run.proofs.Common
use Common.{ℕ, ℤ, ◌<◌, ◌∙◌, ◌≡◌, ◌≢◌, ap, arith, CanStart, due_at, fill_by_all, FitsSigned, int_at}
use Common.{ints, IsRestartedFrom, IsWithin, length, length-set, Line, List, Machine, of_z, pos}
use Common.{refl, same_length, slope_at, state_at, state_count, Store, subst, sym, to_z, to_z-of_z}
use Common.{Values, w128, w64, with_items_is}
use Rattle.qss_events.proofs.Firsts.{one_more}
use Rattle.qss_events.proofs.Lines.{line_here}
use Rattle.qss_events.proofs.LightRows.{row_is_light}
use Rattle.qss_states.proofs.GoingOn.{is_true, goes_on_more, near_along}
use Rattle.qss_run.proofs.run_start.start_lines.Goals as goal

abbrev line_of : ℤ → ℤ → ℤ → Line
line_of x slope level = record { tick = 0; x = x; slope = slope; level = level }

-- lines may start at equal lists
can_start : (m : Machine) (x y levels now d e : List ℤ) → y ≡ x → now ≡ levels → e ≡ d → CanStart m x levels d → CanStart m y now e
can_start m x y levels now d e of_x of_levels of_d can =
    subst (λ z. CanStart m z now e) (sym of_x) (subst (λ l. CanStart m x l e) (sym of_levels) (subst (CanStart m x levels) (sym of_d) can))

-- the state and the level of a state that may start fit their types
module _ (m : Machine) (x levels d : List ℤ) (can : CanStart m x levels d) (j : ℕ) (inside : j < state_count m) where
  small_x : IsWithin 88 (int_at x j)
  small_x = can.values.small_states j (pos 0) (omega (arith, can.values.states, inside))

  small_level : IsWithin 43 (int_at levels j)
  small_level = can.small_levels j (pos 0) (omega (arith, can.one_each, inside))

  x_is : to_z w128 (of_z w128 (int_at x j)) ≡ int_at x j
  x_is = to_z-of_z w128 (int_at x j) (omega (arith, ints, small_x))

  level_is : to_z w64 (of_z w64 (int_at levels j)) ≡ int_at levels j
  level_is = to_z-of_z w64 (int_at levels j) (omega (arith, ints, small_level))

pub loop-j-init : goal.loop-j-init
loop-j-init c =
    let s : Store = c.args.s.now in
    let of_x = c.as_slice-x.ensures.value ∙ ap (λ (v : Values). v.x) c.work.view_is in
    let of_d = c.as_slice-d.ensures.value ∙ ap (λ (v : Values). v.d) c.work.view_is in
    record {
      ready = can_start c.args.m.now s.work.x _ s.states.levels.items _ s.work.d _ of_x c.as_slice-levels.ensures.value of_d c.requires.ready;
      all = ap length c.as_mut_slice-lines.ensures.value ∙ c.requires.one_each.lines;
      slope_count = ap length c.as_mut_slice-slopes.ensures.value ∙ c.requires.one_each.slopes;
      own_slopes = λ k h. absurd (omega (arith, h));
      line_count = ap length c.as_mut_slice-lines.ensures.value ∙ c.requires.one_each.lines;
      are_on = λ k h. absurd (omega (arith, h));
      place_count = refl;
      dues_kept = λ place h. refl;
    }

pub slope-slope-requires-clause-modes : goal.slope-slope-requires-clause-modes
slope-slope-requires-clause-modes c =
    let ready = c.loop-j.invariant.ready in
    let lines = c.loop-j.invariant.all in
    is_true _ (row_is_light c.args.m.now c.as_slice-levels.result.now c.as_slice-d.result.now ready.light c.loop-j.j (omega (arith, lines, c.loop-j-test.true))).modes

pub start_line-requires-clause-slope : goal.start_line-requires-clause-slope
start_line-requires-clause-slope c =
    let ready = c.loop-j.invariant.ready in
    let lines = c.loop-j.invariant.all in
    let fits : FitsSigned w128 c.slope-slope.result = record { sfits = c.slope-slope.type_inv } in
    rw (to_z-of_z w128 c.slope-slope.result fits)
    (subst (IsWithin 88) (sym c.slope-slope.ensures.value)
    (row_is_light c.args.m.now c.as_slice-levels.result.now c.as_slice-d.result.now ready.light c.loop-j.j (omega (arith, lines, c.loop-j-test.true))).slope)

pub start_line-requires-clause-near : goal.start_line-requires-clause-near
start_line-requires-clause-near c =
    let ready = c.loop-j.invariant.ready in
    let lines = c.loop-j.invariant.all in
    let j = c.loop-j.j in
    near_along c.args.m.now j _ (int_at c.as_slice-x.result.now j) _ (int_at c.as_slice-levels.result.now j) (x_is c.args.m.now c.as_slice-x.result.now c.as_slice-levels.result.now c.as_slice-d.result.now ready j (omega (arith, lines, c.loop-j-test.true))) (level_is c.args.m.now c.as_slice-x.result.now c.as_slice-levels.result.now c.as_slice-d.result.now ready j (omega (arith, lines, c.loop-j-test.true)))
    (ready.near j (omega (arith, lines, c.loop-j-test.true)))

pub invariant_of-here : goal.invariant_of-here
invariant_of-here c =
    let ready = c.loop-j.invariant.ready in
    let lines = c.loop-j.invariant.all in
    let j = c.loop-j.j in
    let slope : FitsSigned w128 c.slope-slope.result = record { sfits = c.slope-slope.type_inv } in
    let is_slope = to_z-of_z w128 c.slope-slope.result slope ∙ c.slope-slope.ensures.value in
    record {
      in_time = omega arith;
      small_state = subst (IsWithin 89) (sym (x_is c.args.m.now c.as_slice-x.result.now c.as_slice-levels.result.now c.as_slice-d.result.now ready j (omega (arith, lines, c.loop-j-test.true)))) (omega (arith, ints, small_x c.args.m.now c.as_slice-x.result.now c.as_slice-levels.result.now c.as_slice-d.result.now ready j (omega (arith, lines, c.loop-j-test.true))));
      small_slope = subst (IsWithin 88) (sym is_slope) (row_is_light c.args.m.now c.as_slice-levels.result.now c.as_slice-d.result.now ready.light j (omega (arith, lines, c.loop-j-test.true))).slope;
      small_level = subst (IsWithin 43) (sym (level_is c.args.m.now c.as_slice-x.result.now c.as_slice-levels.result.now c.as_slice-d.result.now ready j (omega (arith, lines, c.loop-j-test.true)))) (small_level c.args.m.now c.as_slice-x.result.now c.as_slice-levels.result.now c.as_slice-d.result.now ready j (omega (arith, lines, c.loop-j-test.true)));
    }

pub loop-j-preserved : goal.loop-j-preserved
loop-j-preserved c =
    let ready = c.loop-j.invariant.ready in
    let lines = c.loop-j.invariant.all in
    let j = c.loop-j.j in
    let m = c.args.m.now in
    let inv = c.loop-j.invariant in
    let slope : FitsSigned w128 c.slope-slope.result = record { sfits = c.slope-slope.type_inv } in
    let is_slope = to_z-of_z w128 c.slope-slope.result slope ∙ c.slope-slope.ensures.value in
    let line : c.start_line.new.line ≡ record { tick = 0; x = int_at c.as_slice-x.result.now j; slope = slope_at m j c.as_slice-levels.result.now c.as_slice-d.result.now; level = int_at c.as_slice-levels.result.now j } =
    c.start_line.ensures.line
    ∙ ap (λ z. line_of z (to_z w128 (of_z w128 c.slope-slope.result)) (to_z w64 (of_z w64 (int_at c.as_slice-levels.result.now j)))) (x_is c.args.m.now c.as_slice-x.result.now c.as_slice-levels.result.now c.as_slice-d.result.now ready j (omega (arith, lines, c.loop-j-test.true)))
    ∙ ap (λ z. line_of (int_at c.as_slice-x.result.now j) z (to_z w64 (of_z w64 (int_at c.as_slice-levels.result.now j)))) is_slope
    ∙ ap (line_of (int_at c.as_slice-x.result.now j) (slope_at m j c.as_slice-levels.result.now c.as_slice-d.result.now)) (level_is c.args.m.now c.as_slice-x.result.now c.as_slice-levels.result.now c.as_slice-d.result.now ready j (omega (arith, lines, c.loop-j-test.true))) in
    let own_tick : c.start_line.new.line.tick ≡ 0 = ap (λ (l : Line). l.tick) line in
    let goes_on : IsRestartedFrom m 0 (int_at c.as_slice-x.result.now j) (int_at c.as_slice-levels.result.now j) (slope_at m j c.as_slice-levels.result.now c.as_slice-d.result.now) j c.start_line.new.line (due_at c.start_line.new.agenda j) =
    record {
      not_later = omega (arith, own_tick);
      here = ap (λ (l : Line). state_at l 0) line ∙ line_here 0 (int_at c.as_slice-x.result.now j) (slope_at m j c.as_slice-levels.result.now c.as_slice-d.result.now) (int_at c.as_slice-levels.result.now j);
      own_slope = ap (λ (l : Line). l.slope) line;
      own_level = ap (λ (l : Line). l.level) line;
      is_due = c.start_line.ensures.due;
    } in
    let inside : j < length c.loop-j.lines = omega (arith, lines, inv.line_count, c.loop-j-test.true) in
    let within : j < length c.loop-j.slopes = omega (arith, lines, inv.slope_count, c.loop-j-test.true) in
    record {
      ready = ready;
      all = lines;
      slope_count = length-set c.loop-j.slopes j _ ∙ inv.slope_count;
      own_slopes = one_more (pos 0) (λ k. slope_at m k c.as_slice-levels.result.now c.as_slice-d.result.now) c.loop-j.slopes j _ within inv.own_slopes is_slope;
      line_count = length-set c.loop-j.lines j c.start_line.new.line ∙ inv.line_count;
      are_on = goes_on_more m 0 c.as_slice-x.result.now c.as_slice-levels.result.now c.as_slice-d.result.now c.loop-j.lines c.loop-j.agenda c.start_line.new.agenda j c.start_line.new.line inside inv.are_on c.start_line.ensures.others goes_on;
      place_count = c.start_line.ensures.same_length ∙ inv.place_count;
      dues_kept = λ place above. let ne : place ≢ j = omega (arith, above) in c.start_line.ensures.others place ne ∙ inv.dues_kept place (omega (arith, above));
    }

pub returns-clause-set_out : goal.returns-clause-set_out
returns-clause-set_out c =
    let m = c.args.m.now in
    let s : Store = c.args.s.now in
    let slopes : List ℤ = c.loop-j.slopes in
    let after : List Line = c.loop-j.lines in
    let all = c.loop-j.invariant.all in
    let of_x : c.as_slice-x.result.now ≡ s.work.x = c.as_slice-x.ensures.value ∙ ap (λ (v : Values). v.x) c.work.view_is in
    let of_d : c.as_slice-d.result.now ≡ s.work.d = c.as_slice-d.ensures.value ∙ ap (λ (v : Values). v.d) c.work.view_is in
    let of_slopes = with_items_is s.states.slopes slopes (c.loop-j.auto.slopes ∙ c.as_mut_slice-slopes.ensures.len) in
    let of_lines = with_items_is s.states.lines after (c.loop-j.auto.lines ∙ c.as_mut_slice-lines.ensures.len) in
    rw (of_slopes, of_lines, ← of_x, ← c.as_slice-levels.ensures.value, ← of_d)
    (record {
      slopes = fill_by_all (λ j. slope_at m j c.as_slice-levels.result.now c.as_slice-d.result.now) slopes (state_count m) (pos 0) c.loop-j.invariant.slope_count
          (λ k h. c.loop-j.invariant.own_slopes k (omega (arith, h, all, c.loop-j-test.false)));
      lines = λ k h. c.loop-j.invariant.are_on k (omega (arith, h, all, c.loop-j-test.false));
    })

pub returns-clause-one_each : goal.returns-clause-one_each
returns-clause-one_each c =
    let s : Store = c.args.s.now in
    let one_each = c.requires.one_each in
    record {
      slopes = same_length s.states.slopes c.loop-j.slopes ∙ one_each.slopes;
      lines = same_length s.states.lines c.loop-j.lines ∙ one_each.lines;
      places = omega (arith, c.loop-j.invariant.place_count, one_each.places);
    }
