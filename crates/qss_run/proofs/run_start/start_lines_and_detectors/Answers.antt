-- The values of the start are within the limits.
use Rattle.qss_run.proofs.Common
use Common.{ℕ, ℤ, ◌+◌, ◌<◌, ◌∙◌, ◌≡◌, All, ap, AreConditionsOf, arith, Bool, Conditions, conditions}
use Common.{detector_at, DiscreteInfo, discretes_start, due_at, Global, int_at, IsDetectorAt}
use Common.{IsLineWithinQuantum, IsRestartedFrom, IsWithin, length, length-map, level_unit}
use Common.{levels_start, light_at, line_at, List, Machine, quantum_of, refl, same_length, slope_at}
use Common.{slopes_small, start_discretes, start_states, state_count, StateInfo, states_start}
use Common.{Store, subst, sym, truths, Values, Vec, with_items, with_items_is}
use Rattle.qss_states.specs.Variables.{AreWithin}
use Rattle.qss_machine.proofs.Near.{start_near}
use Rattle.qss_run.proofs.OwnConditions.{arrived_anew}
use Rattle.qss_run.proofs.run_start.start_lines_and_detectors.Goals as goal

-- the values of the start, which are these, are within the limits
start_within : (m : Machine) (x d : List ℤ) → x ≡ start_states m → d ≡ start_discretes m → AreWithin m x d
start_within m x d of_x of_d = record {
  states = ap length of_x ∙ length-map m.states (λ (s : StateInfo). s.x0);
  discretes = ap length of_d ∙ length-map m.discretes (λ (i : DiscreteInfo). i.d0);
  small_states = subst (All (IsWithin 88)) (sym of_x) (states_start m);
  small_discretes = subst (All (IsWithin 43)) (sym of_d) (discretes_start m);
}

pub start_lines-requires-clause-ready : goal.start_lines-requires-clause-ready
start_lines-requires-clause-ready c =
    let m = c.args.m.now in
    let s : Store = c.args.s.now in
    let blank = c.requires in
    let near_by : List ℤ → List ℤ → Type 0 = λ x l. (j : ℕ) → j < state_count m → IsLineWithinQuantum (level_unit m) (int_at x j) (int_at l j) (quantum_of m j (int_at l j)) in
    record {
      values = blank.fits.values;
      one_each = blank.fits.levels;
      small_levels = subst (All (IsWithin 43)) (sym blank.levels) (levels_start m);
      light = light_at m s.states.levels.items s.work.d blank.levels blank.discretes;
      near = subst (λ x. near_by x s.states.levels.items) (sym blank.states) (subst (near_by (start_states m)) (sym blank.levels) (start_near m));
    }

pub start_lines-requires-clause-one_each : goal.start_lines-requires-clause-one_each
start_lines-requires-clause-one_each c =
    let fits = c.requires.fits in record { slopes = fits.slopes; lines = fits.lines; places = omega (arith, fits.places) }

pub set_all_detectors-requires : goal.set_all_detectors-requires
set_all_detectors-requires c =
    let m = c.args.m.now in
    let s : Store = c.args.s.now in
    let blank = c.requires in
    let rest = c.start_lines.ensures.rest in
    let of_x = c.deref.ensures.value ∙ ap (λ (v : Values). v.x) c.work.view_is ∙ ap (λ (z : Store). z.work.x) rest ∙ blank.states in
    let of_d = c.deref-2.ensures.value ∙ ap (λ (v : Values). v.d) c.work.view_is ∙ ap (λ (z : Store). z.work.d) rest ∙ blank.discretes in
    record {
      fits = subst (AreConditionsOf m) (sym (ap (λ (z : Store). z.conditions) rest)) blank.fits.own_conditions;
      point = record {
        values = start_within m c.deref.result.now c.deref-2.result.now of_x of_d;
        slopes = record {
          as_many = ap length c.deref-3.ensures.value ∙ c.start_lines.ensures.one_each.slopes;
          small = slopes_small m s.states.levels.items s.work.d s.work.d c.deref-3.result.now (light_at m s.states.levels.items s.work.d blank.levels blank.discretes) refl
              (c.deref-3.ensures.value ∙ c.start_lines.ensures.set_out.slopes);
        };
        in_time = omega arith;
      };
      places = omega (arith, c.start_lines.ensures.places, blank.fits.places);
    }

pub copy_from_slice-requires : goal.copy_from_slice-requires
copy_from_slice-requires c =
    ap length c.as_mut_slice.ensures.value ∙ c.set_all_detectors.ensures.fits.at_arrival ∙ sym c.set_all_detectors.ensures.fits.after_handlers ∙ sym (ap length c.deref-4.ensures.value)

pub returns : goal.returns
returns c =
    let m = c.args.m.now in
    let s : Store = c.args.s.now in
    let blank = c.requires in
    let left : Store = c.start_lines.new.s in
    let own : Conditions = c.set_all_detectors.new.self in
    let dues = c.set_all_detectors.new.agenda in
    let arrived : Vec Bool Global = with_items own.at_arrival c.copy_from_slice.new.self in
    let all : Conditions = record own { at_arrival = arrived } in
    let rest : record left { conditions = all; agenda = dues } ≡ record s { conditions = all; states = record s.states { lines = left.states.lines; slopes = left.states.slopes }; agenda = dues } = ap (λ (z : Store). record z { conditions = all; agenda = dues }) c.start_lines.ensures.rest in
    let of_x : c.deref.result.now ≡ s.work.x = c.deref.ensures.value ∙ ap (λ (v : Values). v.x) c.work.view_is ∙ ap (λ (z : Store). z.work.x) c.start_lines.ensures.rest in
    let of_d : c.deref-2.result.now ≡ s.work.d = c.deref-2.ensures.value ∙ ap (λ (v : Values). v.d) c.work.view_is ∙ ap (λ (z : Store). z.work.d) c.start_lines.ensures.rest in
    let behind : ℕ = state_count m + length (conditions m) in
    record {
      set_out = record {
        slopes = c.start_lines.ensures.set_out.slopes;
        lines = λ j h.
            subst (IsRestartedFrom m 0 (int_at s.work.x j) (int_at s.states.levels.items j) (slope_at m j s.states.levels.items s.work.d) j (line_at left.states.lines.items j)) (sym (c.set_all_detectors.ensures.others j h))
            (c.start_lines.ensures.set_out.lines j h);
      };
      at_arrival = with_items_is own.at_arrival c.copy_from_slice.new.self (c.copy_from_slice.ensures.len ∙ c.as_mut_slice.ensures.len) ∙ c.copy_from_slice.ensures.after ∙ c.deref-4.ensures.value;
      after_handlers = c.set_all_detectors.ensures.after_handlers ∙ ap (λ x. truths m x c.deref-2.result.now 0) of_x ∙ ap (λ d. truths m s.work.x d 0) of_d;
      detectors = λ place h.
          subst (λ x. IsDetectorAt m 0 x s.work.d left.states.slopes.items place (detector_at own.detectors.items place) (due_at dues (state_count m + place))) of_x
          (subst (λ d. IsDetectorAt m 0 c.deref.result.now d left.states.slopes.items place (detector_at own.detectors.items place) (due_at dues (state_count m + place))) of_d
          (subst (λ v. IsDetectorAt m 0 c.deref.result.now c.deref-2.result.now v place (detector_at own.detectors.items place) (due_at dues (state_count m + place))) c.deref-3.ensures.value
          (c.set_all_detectors.ensures.detectors place h)));
      rising = c.set_all_detectors.ensures.beyond behind (omega arith) ∙ c.start_lines.ensures.others behind (omega arith) ∙ blank.no_dues behind;
      fits = arrived_anew m own arrived own.flipped c.set_all_detectors.ensures.fits (same_length own.at_arrival c.copy_from_slice.new.self ∙ c.set_all_detectors.ensures.fits.at_arrival) refl;
      one_each = record {
        slopes = c.start_lines.ensures.one_each.slopes;
        lines = c.start_lines.ensures.one_each.lines;
        places = omega (arith, c.set_all_detectors.ensures.places, c.start_lines.ensures.one_each.places);
      };
      places = c.set_all_detectors.ensures.places ∙ c.start_lines.ensures.places;
      rest = rest;
    }
