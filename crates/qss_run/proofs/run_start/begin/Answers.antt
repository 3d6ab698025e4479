-- A store with the initial values represents tick 0.
use Rattle.qss_run.proofs.Common
use Common.{◌++◌, ◌+◌, ◌∙◌, ◌≡◌, All, ap, AreWeights, arith, count_start, discrete_rows}
use Common.{firing_flags, FitsMachine, flag_at, if◌then◌else◌, int_at, IsStoreAt, IsWithin, length}
use Common.{levels_start, light_at, list_any, None, pos, settled_twice, snapshot_of, Some}
use Common.{start_discretes, start_states, state_rows, Store, subst, sym, truths, Values}
use Rattle.qss_events.proofs.Starts.{levels_at_start}
use Rattle.qss_run.proofs.AfterHandlers.{same_worlds}
use Rattle.qss_run.proofs.Visits.{stands_again}
use Rattle.qss_machine.specs.declared.machine_parts.RowKind.TheVariants as kind
use Rattle.qss_run.proofs.run_start.begin.Goals as goal

pub start-requires-clause-levels : goal.start-requires-clause-levels
start-requires-clause-levels c =
    let fits = c.requires.fits in
    let rest = c.start_lines_and_detectors.ensures.rest in
    let of_d = c.deref-2.ensures.value ∙ ap (λ (v : Values). v.d) c.work.view_is ∙ ap (λ (z : Store). z.work.d) rest in
    let of_levels = c.deref.ensures.value ∙ ap (λ (z : Store). z.states.levels.items) rest in
    record {
      levels = ap length of_levels ∙ fits.levels;
      discretes = ap length of_d ∙ fits.values.discretes;
      small_levels = subst (All (IsWithin 43)) (sym (of_levels ∙ c.requires.levels)) (levels_start c.args.m.now);
      small_discretes = subst (All (IsWithin 43)) (sym of_d) fits.values.small_discretes;
    }

pub start-requires-clause-light : goal.start-requires-clause-light
start-requires-clause-light c =
    let rest = c.start_lines_and_detectors.ensures.rest in
    light_at c.args.m.now c.deref.result.now c.deref-2.result.now
    (c.deref.ensures.value ∙ ap (λ (z : Store). z.states.levels.items) rest ∙ c.requires.levels)
    (c.deref-2.ensures.value ∙ ap (λ (v : Values). v.d) c.work.view_is ∙ ap (λ (z : Store). z.work.d) rest ∙ c.requires.discretes)

pub returns : goal.returns
returns c =
    let m = c.args.m.now in
    let s : Store = c.args.s.now in
    let blank = c.requires in
    let fits = blank.fits in
    let did = c.start_lines_and_detectors.ensures in
    let left : Store = c.start_lines_and_detectors.new.s in
    let next : Store = record s {
      states = record s.states {
        lines = left.states.lines;
        slopes = left.states.slopes;
        weights = c.start.new.self;
      };
      conditions = left.conditions;
      agenda = left.agenda;
      rows = c.set_all_rows.new.rows;
    } in
    let same : record left { states = record left.states { weights = next.states.weights }; rows = next.rows } ≡ next = ap (λ (z : Store). record z { states = record z.states { weights = next.states.weights }; rows = next.rows }) did.rest in
    let good : FitsMachine m next = record {
      own_conditions = did.fits;
      uses = fits.uses;
      lines = did.one_each.lines;
      levels = fits.levels;
      slopes = did.one_each.slopes;
      weights = c.start.ensures.weights.as_many;
      places = did.places ∙ fits.places;
      values = fits.values;
      before = fits.before;
      lists = fits.lists;
      log = fits.log;
      rows = omega (arith, c.set_all_rows.ensures.room, ap (λ (z : Store). z.rows.cap) did.rest, fits.rows);
    } in
    let levels = c.deref.ensures.value ∙ ap (λ (z : Store). z.states.levels.items) did.rest in
    let levels_again = c.deref-3.ensures.value ∙ ap (λ (z : Store). z.states.levels.items) did.rest ∙ blank.levels in
    let of_d = c.deref-2.ensures.value ∙ ap (λ (v : Values). v.d) c.work.view_is ∙ ap (λ (z : Store). z.work.d) did.rest in
    let arrived : next.conditions.at_arrival.items ≡ next.conditions.after_handlers.items = did.at_arrival in
    let again = stands_again m 0 next s.work.x fits.values.states good
    (λ j inside. subst (λ l. IsWithin 43 (int_at l j)) (sym blank.levels) (levels_start m j (pos 0) (omega (arith, inside, count_start m))))
    (light_at m next.states.levels.items next.work.d blank.levels blank.discretes)
    did.set_out.slopes
    (subst (λ d. AreWeights m s.states.levels.items d next.states.weights) of_d (subst (λ l. AreWeights m l c.deref-2.result.now next.states.weights) levels c.start.ensures.weights))
    did.set_out.lines
    did.after_handlers
    did.detectors
    (blank.not_rising ∙ sym (ap (λ a. list_any (λ flag. flag) (firing_flags next.conditions.after_handlers.items a next.conditions.after_handlers.items)) arrived ∙ settled_twice next.conditions.after_handlers.items))
    (did.rising ∙ sym (ap (λ b. if b then Some (0 + 1) else None) blank.not_rising))
    (λ place none. ap (λ flags. flag_at flags place) arrived) in
    let after_handlers : next.conditions.after_handlers.items ≡ truths m (start_states m) (start_discretes m) 0 = did.after_handlers ∙ ap (λ x. truths m x next.work.d 0) blank.states ∙ ap (λ d. truths m (start_states m) d 0) blank.discretes in
    record {
      stands = subst (IsStoreAt m 0) (sym same) again.1;
      snapshot = ap (snapshot_of 0) same ∙ same_worlds (snapshot_of 0 next) _ (again.0 ∙ blank.states) blank.levels blank.discretes (arrived ∙ after_handlers) after_handlers;
      rows = c.set_all_rows.ensures.rows
          ∙ ap (λ l. state_rows kind.Start 0 l left.work.x ++ discrete_rows kind.Start 0 (length left.work.x) left.work.d) levels_again
          ∙ ap (λ x. state_rows kind.Start 0 (levels_at_start m) x ++ discrete_rows kind.Start 0 (length x) left.work.d) (ap (λ (z : Store). z.work.x) did.rest ∙ blank.states)
          ∙ ap (λ d. state_rows kind.Start 0 (levels_at_start m) (start_states m) ++ discrete_rows kind.Start 0 (length (start_states m)) d) (ap (λ (z : Store). z.work.d) did.rest ∙ blank.discretes);
    }
