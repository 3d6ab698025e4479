-- The start of a run.
use Rattle.qss_order2.proofs.Common
use Common.{[], ℕ, ℤ, ◌++◌, ◌<◌, ◌∙◌, ◌≡◌, All, ap, AreChanges, AreRisingBelow, arith}
use Common.{discrete_rows2, first_exceeding_limit, Global, int_at, is_listed, IsRuled2, List}
use Common.{Motion, motion_at, Moves, None, overflow_of, Place, place_rows, range_with_len, refl}
use Common.{rise_at, Row2, SecondSnapshot, snapshot_of, start_place, state_count, subst, sym}
use Common.{tabulate, true, Vec}
use Rattle.std.specs.Prelude.{flat_map}
use Rattle.qss_order2.proofs.Motions.{sized_at, small_here, small_rise_here, movable}
use Rattle.qss_order2.proofs.RowLists.{listed_rows}
use Rattle.qss_order2.proofs.Settled.{listed_below}
use Rattle.qss_order2.proofs.Starts.{start_near, start_since, start_states_are, start_levels_are}
use Rattle.qss_order2.proofs.Starts.{start_rises_are, start_place_is, all_listed, all_rising}
use Rattle.qss_order2.proofs.Starts.{rows_of_all}
use Rattle.mu_num.proofs.InPlace.{same_length}
use Rattle.qss_order2.specs.declared.order2_rows.Kind2.TheVariants as kind
use Rattle.qss_order2.proofs.order2_start.begin_order2_store.Goals as goal

pub begin_rises-s-requires-clause-all : goal.begin_rises-s-requires-clause-all
begin_rises-s-requires-clause-all g c =
    let n = state_count c.args.f.now.machine in
    subst (λ (l : List ℕ). All (λ j. j < n) l) (sym (c.deref.ensures.value ∙ c.requires.left))
    (all_rising n).below

pub begin_rises-s-requires-clause-each : goal.begin_rises-s-requires-clause-each
begin_rises-s-requires-clause-each g c j h =
    ap (λ (l : List ℕ). is_listed l j) (c.deref.ensures.value ∙ c.requires.left)
    ∙ all_listed (state_count c.args.f.now.machine) j h

pub begin_rises-s-requires-clause-here : goal.begin_rises-s-requires-clause-here
begin_rises-s-requires-clause-here g c = start_since c.args.f.now.machine
    c.args.s.now.motion.places.items
    c.requires.at_rest.places

pub begin_rises-s-requires-clause-start : goal.begin_rises-s-requires-clause-start
begin_rises-s-requires-clause-start g c = start_levels_are c.args.f.now.machine
    c.args.s.now.motion.places.items c.requires.at_rest.places c.args.s.now.motion.changes.items

pub returns-clause-start : goal.returns-clause-start
returns-clause-start g c =
    let m = c.args.f.now.machine in
    let q : Motion = c.begin_rises-s.new.q in
    let places : q.places.items ≡ tabulate (state_count m) (start_place m) =
    ap (λ (v : Vec Place Global). v.items) c.begin_rises-s.ensures.places
    ∙ c.requires.at_rest.places in
    let levels = start_levels_are m q.places.items places q.changes.items in
    record {
      states = start_states_are m q.places.items places q.rises.items q.bends.items;
      levels = levels;
      changes = subst (λ (ls : List ℤ). AreChanges (IsRuled2 c.args.rule.now.nearest) m (λ j. true)
          ls [] q.changes.items) (sym levels) c.begin_rises-s.ensures.changes;
    }

pub returns-clause-is_store : goal.returns-clause-is_store
returns-clause-is_store g c =
    let m = c.args.f.now.machine in
    let n = state_count m in
    let fits = c.requires.fits in
    let q : Motion = c.begin_rises-s.new.q in
    let places : q.places.items ≡ tabulate n (start_place m) =
    ap (λ (v : Vec Place Global). v.items) c.begin_rises-s.ensures.places
    ∙ c.requires.at_rest.places in
    let levels = start_levels_are m q.places.items places q.changes.items in
    let states = start_states_are m q.places.items places q.rises.items q.bends.items in
    let lists = c.begin_rises-s.ensures.lists in
    let since = start_since m q.places.items places in
    let over : first_exceeding_limit m (motion_at m q 0).levels q.changes.items
    ≡ overflow_of c.begin_rises-s.result =
    ap (λ (ls : List ℤ). first_exceeding_limit m ls q.changes.items) levels
    ∙ sym c.begin_rises-s.ensures.overflow in
    let moves : overflow_of c.begin_rises-s.result ≡ None → Moves m (motion_at m q 0) = λ e. record {
      sized = sized_at m q 0 lists;
      near = start_near m (snapshot_of (motion_at m q 0)) states levels;
      within = over ∙ e;
      has_rises = record {
        rises = start_rises_are m q.places.items places q.rises.items q.bends.items lists.rises
            ∙ c.begin_rises-s.ensures.rises e ∙ ap (λ (ls : List ℤ). tabulate n (λ j. rise_at m j
            ls))
            (sym levels);
        bends = c.begin_rises-s.ensures.bends e;
        held = c.begin_rises-s.ensures.held e;
      };
    } in
    record {
      fits = record {
        lists = lists;
        dues = fits.dues;
        left = fits.left;
        affected = fits.affected;
        safe_bound = fits.safe_bound;
        levels = same_length c.args.s.now.levels c.begin_rises-s.new.levels ∙ fits.levels;
        rows = omega (arith, c.set_left_rows.ensures.room, c.add_discretes.ensures.room, fits.rows);
      };
      over = over;
      at_start = λ var e. refl;
      goes = λ e. record {
        moves = moves e;
        movable = movable m q 0 (moves e) c.args.s.now.window (λ j h. omega (
          arith,
          since j h,
        )) (λ j h. omega (arith, c.requires.window))
            (λ j h. (
              small_here m q 0 (moves e) j h (since j h),
              small_rise_here m q 0 (moves e) j h
                  (since j h),
            ));
        in_window = omega arith;
        bounded = λ is_bounded. absurd (cc (c.requires.unbounded, is_bounded));
        bounded_slopes = λ is_bounded. absurd (cc (c.requires.unbounded, is_bounded));
        here = λ j e. absurd (cc (rw c.requires.affected at e));
      };
      dues = λ e before. absurd (omega (arith, before, c.requires.window));
    }

pub returns-clause-rows : goal.returns-clause-rows
returns-clause-rows g c =
    let m = c.args.f.now.machine in
    let n = state_count m in
    let q : Motion = c.begin_rises-s.new.q in
    let w : SecondSnapshot = snapshot_of (motion_at m q 0) in
    let places : q.places.items ≡ tabulate n (start_place m) =
    ap (λ (v : Vec Place Global). v.items) c.begin_rises-s.ensures.places
    ∙ c.requires.at_rest.places in
    let levels = start_levels_are m q.places.items places q.changes.items in
    let states = start_states_are m q.places.items places q.rises.items q.bends.items in
    let all : List ℕ = range_with_len 0 n in
    let numbers = all_rising n in
    let low : (j : ℕ) → is_listed all j ≡ true → j < n =
    λ j e. listed_below n all numbers.below j e in
    let rows =
    c.set_left_rows.ensures.rows
    ∙ ap (λ (l : List ℕ). flat_map (place_rows kind.Start 0 q.places.items q.changes.items) l)
    (c.deref-2.ensures.value ∙ c.requires.left)
    ∙ listed_rows kind.Start 0 n q.places.items q.changes.items w all numbers
    (λ j e. ap (λ (p : Place). p.level) (start_place_is m q.places.items places j (low j e))
    ∙ ap (λ (ls : List ℤ). int_at ls j) (sym levels))
    (λ j e. ap (λ (p : Place). p.state) (start_place_is m q.places.items places j (low j e))
    ∙ ap (λ (xs : List ℤ). int_at xs j) (sym states)) (λ j e. refl)
    ∙ rows_of_all m w (is_listed all) (all_listed n) in
    c.add_discretes.ensures.rows ∙ ap (λ (r : List Row2). r ++ discrete_rows2 kind.Start 0 m) rows

pub set_left_rows-requires-clause-left : goal.set_left_rows-requires-clause-left
set_left_rows-requires-clause-left g c =
    let n = state_count c.args.f.now.machine in
    subst (λ (k : ℕ). AreRisingBelow k c.deref-2.result.now)
    (sym c.begin_rises-s.ensures.lists.places)
    (subst (λ (l : List ℕ). AreRisingBelow n l) (sym (c.deref-2.ensures.value ∙ c.requires.left))
    (all_rising n))
