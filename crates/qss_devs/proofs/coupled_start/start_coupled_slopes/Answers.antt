-- One more slope.
use Rattle.qss_devs.proofs.Common
use Common.{◌<◌, ◌∙◌, ◌≡◌, ap, arith, count_start, discretes_start, FitsSigned, length}
use Common.{levels_start, no_row, slope_at, state_count, sym, tabulate, to_z-of_z, w128}
use Rattle.std.proofs.lemmas.List.FromFn.{map-range_with_len_more}
use Rattle.qss_devs.proofs.Begun.{start_each, start_row}
use Rattle.qss_devs.proofs.coupled_start.start_coupled_slopes.Goals as goal

pub overflow_cast-row : goal.overflow_cast-row
overflow_cast-row c = omega (arith, c.loop-j-test.true, ap length c.requires.levels, count_start c.args.m.now, c.args.m.now.has_variables.few)

pub slope-slope-requires : goal.slope-slope-requires
slope-slope-requires c =
    let m = c.args.m.now in
    let h : c.loop-j.j < state_count m =
    omega (arith, c.loop-j-test.true, ap length c.requires.levels, count_start m) in
    record {
      row = h;
      levels = ap length c.requires.levels ∙ count_start m;
      discretes = ap length c.requires.discretes ∙ (start_each m).discretes;
      small_levels = rw c.requires.levels (levels_start m);
      small_discretes = rw c.requires.discretes (discretes_start m);
      modes = rw c.requires.discretes (m.has_rows.modes c.loop-j.j no_row (start_row m c.loop-j.j h));
    }

pub loop-j-preserved : goal.loop-j-preserved
loop-j-preserved c =
    let m = c.args.m.now in
    let j = c.loop-j.j in
    let inv = c.loop-j.invariant in
    let slope : FitsSigned w128 c.slope-slope.result = record { sfits = c.slope-slope.type_inv } in
    record {
      so_far = c.push_reserved.ensures.items
          ∙ rw (to_z-of_z w128 c.slope-slope.result slope, c.slope-slope.ensures.value, inv.so_far)
          (sym (map-range_with_len_more (λ i. slope_at m i c.args.levels.now c.args.d.now) 0 j j (omega arith)));
      as_many = omega (arith, c.push_reserved.ensures.len, inv.as_many);
      within = omega (arith, c.loop-j-test.true);
      room = omega (arith, c.push_reserved.ensures.capacity, inv.room);
    }

pub returns : goal.returns
returns c =
    let m = c.args.m.now in
    let all : c.loop-j.j ≡ state_count m = omega (arith, c.loop-j-test.false, c.loop-j.invariant.within, ap length c.requires.levels, count_start m) in
    c.loop-j.invariant.so_far ∙ ap (λ n. tabulate n (λ j. slope_at m j c.args.levels.now c.args.d.now)) all
