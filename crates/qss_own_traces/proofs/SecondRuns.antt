-- Second-order runs under the nearest rule, tick by tick.
use Rattle.qss_own_traces.proofs.Common
use Common.{[], ℕ, ℤ, ◌*ℤ◌, ◌++◌, ◌+◌, ◌-◌, ◌<◌, ◌∙◌, ◌∷◌, ◌≡◌, ◌≤◌, All, All-append, All-cons}
use Common.{All-nil, ap, append-nil, append_assoc, ap₂, AreHeld, arith, Bool, change_after}
use Common.{changes_after, Err, false, fine_levels, first_exceeding_limit, first_wide, flag_at}
use Common.{get_or as slice_index_or, if◌then◌else◌, inl, inr, int_at, ints, IsNarrow}
use Common.{IsSecondRefusal, IsWithin, length, length-append, level_unit, List, Machine}
use Common.{nearest_change, None, Ok, Option, Over, Past, pos, refl, replicate, Result, rise_at}
use Common.{Run2, same_table, second_order_run, second_snapshots, second_start, second_step}
use Common.{SecondSnapshot, Some, state_count, subst, suc, sym, take, take-append_seam, true, zero}
use Rattle.qss_order2.specs.SecondRuns.{snapshots_from, snapshots_with, snapshots_unless}
use Rattle.qss_own_traces.specs.SecondCourses.{run2_after}
use Rattle.qss_own_traces.specs.declared.second_order_trace.SecondPlace.{SecondPlace}
use Rattle.std.proofs.lemmas.List.{get_or_at, get_or-replicate}
use Rattle.cert_matrix.proofs.Rows.{get_or-zeros}

-- ---- one snapshot more of a list

pub narrow_one : (w : SecondSnapshot) → IsNarrow w → All IsNarrow (w ∷ [])
narrow_one w e = All-cons IsNarrow w [] e (All-nil IsNarrow)

pub narrow_more : (ws : List SecondSnapshot) (next : SecondSnapshot) → All IsNarrow ws →
    IsNarrow next → All IsNarrow (ws ++ next ∷ [])
narrow_more ws next before e = All-append IsNarrow ws (next ∷ []) before (narrow_one next e)

module _ (m : Machine) (tick : ℕ) (w : SecondSnapshot) (snapshots : List SecondSnapshot) where
  -- what is left of the run
  abbrev pub left : Run2
  left = run2_after (second_start nearest_change m) snapshots (snapshots_from nearest_change m (m.last - tick) tick w)

  abbrev left_after : Result SecondSnapshot ℕ → Run2
  left_after result = run2_after (second_start nearest_change m) snapshots (snapshots_with result (tick + 1) (λ next. snapshots_from nearest_change m (m.last - (tick + 1)) (tick + 1) next))

  one_tick : tick < m.last → left ≡ left_after (second_step nearest_change m (tick + 1) w)
  one_tick h =
      let e : m.last - tick ≡ suc (m.last - (tick + 1)) = omega arith in
      ap (λ (k : ℕ). run2_after (second_start nearest_change m) snapshots (snapshots_from nearest_change m k tick w)) e

  pub left_more : (next : SecondSnapshot) → tick < m.last → second_order_run m ≡ left → second_step nearest_change m (tick + 1) w ≡ Ok next →
      second_order_run m ≡ run2_after (second_start nearest_change m) (snapshots ++ next ∷ []) (snapshots_from nearest_change m (m.last - (tick + 1)) (tick + 1) next)
  left_more next h so_far e =
      let rest = snapshots_from nearest_change m (m.last - (tick + 1)) (tick + 1) next in
      so_far ∙ one_tick h ∙ ap left_after e
      ∙ ap (λ (ws : List SecondSnapshot). record { start = second_start nearest_change m; snapshots = ws; overflow = rest.1 }) (sym (append_assoc snapshots (next ∷ []) rest.0))

  pub left_none : m.last ≤ tick → second_order_run m ≡ left → second_order_run m ≡ record { start = second_start nearest_change m; snapshots = snapshots; overflow = None }
  left_none h so_far =
      let e : m.last - tick ≡ zero = omega arith in
      so_far ∙ ap (λ (k : ℕ). run2_after (second_start nearest_change m) snapshots (snapshots_from nearest_change m k tick w)) e
      ∙ ap (λ (ws : List SecondSnapshot). record { start = second_start nearest_change m; snapshots = ws; overflow = None }) (append-nil snapshots)

  -- the run overflows
  pub left_over : (var : ℕ) → tick < m.last → All IsNarrow (second_start nearest_change m ∷ snapshots) → second_order_run m ≡ left →
      second_step nearest_change m (tick + 1) w ≡ Err var → IsSecondRefusal m (Over (tick + 1) var)
  left_over var h narrow so_far e =
      let past : Option Past = Some (record { tick = tick + 1; var = var }) in
      let whole : second_order_run m ≡ record { start = second_start nearest_change m; snapshots = snapshots; overflow = past } =
      so_far ∙ one_tick h ∙ ap left_after e ∙ ap (λ (ws : List SecondSnapshot). record { start = second_start nearest_change m; snapshots = ws; overflow = past }) (append-nil snapshots) in
      inl (record {
        overflow = ap (λ (run : Run2). run.overflow) whole;
        before = subst (λ (run : Run2). All IsNarrow (run.start ∷ run.snapshots)) (sym whole) narrow;
      })

  -- a snapshot is too wide
  pub left_wide : (next : SecondSnapshot) (var : ℕ) → tick < m.last → length snapshots ≡ tick → All IsNarrow (second_start nearest_change m ∷ snapshots) → second_order_run m ≡ left →
      second_step nearest_change m (tick + 1) w ≡ Ok next → first_wide next ≡ Some var → IsSecondRefusal m (Over (tick + 1) var)
  left_wide next var h count narrow so_far e wide =
      let rest = snapshots_from nearest_change m (m.last - (tick + 1)) (tick + 1) next in
      let ws = second_start nearest_change m ∷ snapshots in
      let whole : second_snapshots m ≡ ws ++ next ∷ rest.0 = ap (λ (run : Run2). run.start ∷ run.snapshots) (so_far ∙ one_tick h ∙ ap left_after e) in
      let many : length ws ≡ tick + 1 = omega (arith, count) in
      let there : slice_index_or (second_snapshots m) (tick + 1) (second_order_run m).start ≡ next =
      ap₂ (λ (l : List SecondSnapshot) (k : ℕ). slice_index_or l k (second_order_run m).start) whole
      (sym many) ∙ get_or_at ws next rest.0 (second_order_run m).start (length ws) refl in
      let front : take (tick + 1) (second_snapshots m) ≡ ws = ap₂ (λ (l : List SecondSnapshot) (k : ℕ). take k l) whole (sym many) ∙ take-append_seam ws (next ∷ rest.0) in
      inr (record {
        inside = omega (arith, ap length whole, length-append ws (next ∷ rest.0), many);
        least = ap first_wide there ∙ wide;
        before = subst (All IsNarrow) (sym front) narrow;
      })

-- ---- tick 0

-- changes of 0 give a state nothing
pub zeros_held : (m : Machine) → AreHeld m (replicate (state_count m) (pos 0))
zeros_held m j h =
    let e : level_unit m *ℤ int_at (replicate (state_count m) (pos 0)) j ≡ pos 0 =
    ap (λ (z : ℤ). level_unit m *ℤ z) (get_or-zeros (state_count m) j) ∙ omega (arith, ints) in
    subst (IsWithin 95) (sym e) (omega (arith, ints))

-- where all states left, all have the nearest changes
pub all_changed : (m : Machine) (p : SecondPlace) → p.left.items ≡ replicate (state_count m) true →
    p.levels.items ≡ fine_levels m → changes_after m p ≡ (second_start nearest_change m).changes
all_changed m p left levels =
    same_table (state_count m) (change_after m p)
    (λ j. nearest_change (level_unit m) (rise_at m j (fine_levels m)))
    (λ j h. ap₂ (λ (b : Bool) (ms : List ℤ). if b then nearest_change (level_unit m)
    (rise_at m j ms) else int_at p.changes.items j)
    (ap (λ (l : List Bool). flag_at l j) left ∙ get_or-replicate (state_count m) j true false h)
    levels)

abbrev run_unless : Machine → Option ℕ → Run2
run_unless m over =
    let after = snapshots_unless 0 over (snapshots_from nearest_change m m.last 0 (second_start nearest_change m)) in
    record { start = second_start nearest_change m; snapshots = after.0; overflow = after.1 }

pub start_over : (m : Machine) (var : ℕ) → first_wide (second_start nearest_change m) ≡ None → first_exceeding_limit m (second_start nearest_change m).levels (second_start nearest_change m).changes ≡ Some var → IsSecondRefusal m (Over 0 var)
start_over m var narrow over =
    let whole : second_order_run m ≡ run_unless m (Some var) = ap (run_unless m) over in
    inl (record {
      overflow = ap (λ (run : Run2). run.overflow) whole;
      before = subst (λ (run : Run2). All IsNarrow
          (run.start ∷ run.snapshots)) (sym whole)
          (narrow_one (second_start nearest_change m) narrow);
    })

pub start_left : (m : Machine) (w : SecondSnapshot) → first_exceeding_limit m (second_start nearest_change m).levels (second_start nearest_change m).changes ≡ None → w ≡ second_start nearest_change m →
    second_order_run m ≡ run2_after (second_start nearest_change m) [] (snapshots_from nearest_change m (m.last - 0) 0 w)
start_left m w none is =
    let all : m.last ≡ m.last - 0 = omega arith in
    ap (run_unless m) none ∙ ap₂ (λ (k : ℕ) (v : SecondSnapshot). run2_after (second_start nearest_change m) [] (snapshots_from nearest_change m k 0 v)) all (sym is)
