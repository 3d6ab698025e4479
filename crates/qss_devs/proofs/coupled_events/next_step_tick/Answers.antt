-- The least of the next transitions.
use Rattle.qss_devs.proofs.Common
use Common.{ℕ, ◌<◌, ◌∙◌, ◌≡◌, ◌≤◌, All, ap, arith, conditions, crossing_at, CrossingModel}
use Common.{DetectorView, false, FunctionModel, get_or, IntegratorModel, IsCrossingNext, IsLineNext}
use Common.{length, line_at, List, None, rises, snapshot_of, Some, state_count, Store, subst, sym}
use Rattle.qss_devs.proofs.Lists.{some_element}
use Rattle.qss_devs.proofs.Coasting.{detector_of, summing_of_place, due_of, none_before, are_next}
use Rattle.qss_devs.proofs.OneTransition.{integrator_at, of_line, to_model}
use Rattle.qss_devs.proofs.coupled_events.next_step_tick.Goals as goal

pub has_event_condition_risen-requires : goal.has_event_condition_risen-requires
has_event_condition_risen-requires g c = ap length c.deref.ensures.value ∙ c.requires.represents_snapshot.fits.flags.at_arrival ∙ sym (ap length c.deref-2.ensures.value ∙ c.requires.represents_snapshot.fits.flags.after_handlers)

pub returns-then-has_event_condition_risen : goal.returns-then-has_event_condition_risen
returns-then-has_event_condition_risen g c = record {
  later = omega arith;
  at_most = omega arith;
  lines = λ j n h is. omega (arith, c.requires.represents_snapshot.lines j n h is);
  crossings = λ place n h is. omega (arith, c.requires.represents_snapshot.crossings place n h is);
  dues = λ more. absurd (omega (arith, more));
}

pub returns : goal.returns
returns g c =
    let m = c.args.m.now in
    let s : Store _ _ = c.args.s.now in
    let stands = c.requires.represents_snapshot in
    let parts = stands.fits.parts in
    let tick = c.args.tick in
    let w = snapshot_of tick s in
    let first = c.least_integrator_leaving-first.ensures in
    let second = c.least_advance-second.ensures in
    let third = c.least_advance.ensures in
    let after_lines : (j n : ℕ) → j < state_count m → IsLineNext m j (line_at s.parts j) (Some n) → c.least_advance.result ≤ n =
    λ j n h is.
    let inside : j < length s.parts.integrators.items = omega (arith, h, parts.integrators) in
    let d : IntegratorModel _ _ = some_element s.parts.integrators.items j inside in
    let own = to_model (integrator_at parts j d inside) (λ k var l. IsLineNext k var l (Some n)) is in
    let before = subst (All (λ (i : IntegratorModel _ _). (next : ℕ) → IsLineNext i.machine.value i.var i.line (Some next) → c.least_integrator_leaving-first.result ≤ next)) c.deref-3.ensures.value first.not_past in
    omega (arith, before j d inside n own, third.within, second.within) in
    let after_crossings : (place n : ℕ) → place < length (conditions m) → IsCrossingNext (crossing_at s.parts place).detector (Some n) → c.least_advance.result ≤ n =
    λ place n h is.
    let inside : place < length s.parts.crossings.items = omega (arith, h, parts.crossings) in
    let d : CrossingModel = some_element s.parts.crossings.items place inside in
    let before = subst (All (λ (k : CrossingModel). (next : ℕ) → IsCrossingNext k.detector (Some next) → c.least_advance.result ≤ next)) c.deref-5.ensures.value third.not_past in
    before place d inside n (subst (λ (w : DetectorView). IsCrossingNext w (Some n)) (detector_of s.parts place d inside) is) in
    record {
      later =
          let lines : All (λ (i : IntegratorModel _ _). (next : ℕ) → IsLineNext i.machine.value i.var i.line (Some next) → tick < next) c.deref-3.result.now =
          subst (All (λ (i : IntegratorModel _ _). (next : ℕ) → IsLineNext i.machine.value i.var i.line (Some next) → tick < next)) (sym c.deref-3.ensures.value)
          (λ j d h n is. stands.lines j n (omega (arith, h, parts.integrators)) (of_line (integrator_at parts j d h) (λ k var l. IsLineNext k var l (Some n)) is)) in
          let functions : All (λ (f : FunctionModel). (next : ℕ) → f.changed ≡ Some next → tick < next) c.deref-4.result.now =
          subst (All (λ (f : FunctionModel). (next : ℕ) → f.changed ≡ Some next → tick < next)) (sym c.deref-4.ensures.value)
          (λ j d h n is.
          let none : (get_or s.parts.functions.items j d).changed ≡ None = sym (summing_of_place s.parts j d h) ∙ stands.stand.sent j (omega (arith, h, parts.functions)) in
          absurd (cc)) in
          let crossings : All (λ (k : CrossingModel). (next : ℕ) → IsCrossingNext k.detector (Some next) → tick < next) c.deref-5.result.now =
          subst (All (λ (k : CrossingModel). (next : ℕ) → IsCrossingNext k.detector (Some next) → tick < next)) (sym c.deref-5.ensures.value)
          (λ place d h n is. stands.crossings place n (omega (arith, h, parts.crossings)) (subst (λ (w : DetectorView). IsCrossingNext w (Some n)) (sym (detector_of s.parts place d h)) is)) in
          third.later tick (second.later tick (first.later tick c.requires.tick_limit lines) functions) crossings;
      at_most = omega (arith, third.within, second.within, first.within);
      lines = after_lines;
      crossings = after_crossings;
      dues = λ more.
          let dl = first.dues in
          let dc = third.dues in
          let many : length dl.0 ≡ state_count m = dl.1 ∙ ap length c.deref-3.ensures.value ∙ parts.integrators in
          let count : length dc.0 ≡ length (conditions m) = dc.1 ∙ ap length c.deref-5.ensures.value ∙ parts.crossings in
          let own_lines : (j : ℕ) → j < state_count m → IsLineNext m j (line_at s.parts j) (get_or dl.0 j None) =
          λ j h.
          let inside : j < length s.parts.integrators.items = omega (arith, h, parts.integrators) in
          let d : IntegratorModel _ _ = some_element s.parts.integrators.items j inside in
          of_line (integrator_at parts j d inside) (λ k var l. IsLineNext k var l (get_or dl.0 j None))
          (subst (λ (xs : List (IntegratorModel _ _)). (h : j < length xs) → IsLineNext (get_or xs j d).machine.value (get_or xs j d).var (get_or xs j d).line (get_or dl.0 j None)) c.deref-3.ensures.value (dl.2 j d) inside) in
          let own_crossings : (place : ℕ) → place < length (conditions m) → IsCrossingNext (crossing_at s.parts place).detector (get_or dc.0 place None) =
          λ place h.
          let inside : place < length s.parts.crossings.items = omega (arith, h, parts.crossings) in
          let d : CrossingModel = some_element s.parts.crossings.items place inside in
          subst (λ (w : DetectorView). IsCrossingNext w (get_or dc.0 place None)) (sym (detector_of s.parts place d inside))
          (subst (λ (xs : List CrossingModel). (h : place < length xs) → IsCrossingNext (get_or xs place d).detector (get_or dc.0 place None)) c.deref-5.ensures.value (dc.2 place d) inside) in
          let calm : rises w ≡ false =
          sym (rw (c.deref.ensures.value, c.deref-2.ensures.value) at c.has_event_condition_risen.ensures)
          ∙ c.if-has_event_condition_risen.false in (
            due_of m tick w s.parts dl.0 dc.0 many count own_lines own_crossings,
            are_next m tick w s.parts dl.0 dc.0 many count own_lines own_crossings calm stands.lines stands.crossings,
            none_before m tick w s.parts dl.0 dc.0 many count own_lines own_crossings c.least_advance.result
                after_lines after_crossings,
          );
    }
