-- One more model.
use Rattle.qss_components.proofs.Common
use Common.{[], ℕ, ◌++◌, ◌+◌, ◌<◌, ◌∷◌, ◌≡◌, ◌≤◌, All, arith, EachAt, get_or}
use Common.{get_or as slice_index_or, get_or_append_left, get_or_at, length, length-append, List}
use Common.{None, Option, Some, subst, sym, take, take_all}
use Rattle.std.proofs.lemmas.List.{length-take-le, take_more}
use Rattle.std.proofs.lemmas.List.Elements.{All-push}
use Rattle.qss_components.proofs.Places.{each_more}
use Rattle.qss_components.proofs.atomic.least_advance.Goals as goal

pub loop-place-init : goal.loop-place-init
loop-place-init g c = record {
  within = omega arith;
  inside = omega arith;
  not_past = λ k d h. absurd (omega (arith, h));
  later = λ tick below all. below;
  dues = ([], omega arith, λ k d h. absurd (omega (arith, h)));
}

pub loop-place-preserved : goal.loop-place-preserved
loop-place-preserved g c =
    let models = c.args.models.now in
    let place = c.loop-place.place in
    let d = c.index-models-place.result in
    let x = get_or models place d in
    let inv = c.loop-place.invariant in
    let h : place < length models = c.loop-place-test.true in
    let more : take (place + 1) models ≡ take place models ++ x ∷ [] = take_more models place d h in
    let due = c.earlier_atomic_advance-least.ensures.due in
    let old : List (Option ℕ) = inv.dues.0 in
    let dues : List (Option ℕ) = old ++ due.0 ∷ [] in
    let so_many : length (take place models) ≡ place = length-take-le place models (omega (arith, h)) in
    record {
      within = omega (arith, c.earlier_atomic_advance-least.ensures.within, inv.within);
      inside = omega (arith, h);
      not_past = subst (All (λ a. (next : ℕ) → g.A.Atomic.is_next a (Some next) → c.earlier_atomic_advance-least.result ≤ next)) (sym more)
          (All-push (λ a. (next : ℕ) → g.A.Atomic.is_next a (Some next) → c.earlier_atomic_advance-least.result ≤ next) (take place models) x
          (λ k e below n is. omega (arith, inv.not_past k e below n is, c.earlier_atomic_advance-least.ensures.within))
          (subst (λ a. (next : ℕ) → g.A.Atomic.is_next a (Some next) → c.earlier_atomic_advance-least.result ≤ next) c.index-models-place.is c.earlier_atomic_advance-least.ensures.not_past));
      later = λ tick below all. c.earlier_atomic_advance-least.ensures.later tick (inv.later tick below all) (subst (λ a. (next : ℕ) → g.A.Atomic.is_next a (Some next) → tick < next) (sym c.index-models-place.is) (all place d h));
      dues = (
        dues,
        omega (arith, length-append old (due.0 ∷ []), inv.dues.1),
        each_more (λ k a. g.A.Atomic.is_next a (slice_index_or dues k None)) place (take place models) (take (place + 1) models) x more so_many
            (λ k e below. subst (λ (o : Option ℕ). g.A.Atomic.is_next (get_or (take place models) k e) o) (sym (get_or_append_left old (due.0 ∷ []) None k (omega (arith, below, so_many, inv.dues.1)))) (inv.dues.2 k e below))
            (subst (λ (o : Option ℕ). g.A.Atomic.is_next x o) (sym (get_or_at old due.0 [] None place inv.dues.1)) (subst (λ a. g.A.Atomic.is_next a due.0) c.index-models-place.is due.1)),
      );
    }

pub returns-clause-not_past : goal.returns-clause-not_past
returns-clause-not_past g c =
    let end : take c.loop-place.place c.args.models.now ≡ c.args.models.now = take_all c.loop-place.place c.args.models.now (omega (arith, c.loop-place-test.false)) in
    subst (All (λ a. (next : ℕ) → g.A.Atomic.is_next a (Some next) → c.loop-place.least ≤ next)) end c.loop-place.invariant.not_past

pub returns-clause-later : goal.returns-clause-later
returns-clause-later g c = c.loop-place.invariant.later

pub returns-clause-dues : goal.returns-clause-dues
returns-clause-dues g c =
    let dues = c.loop-place.invariant.dues in
    let end : take c.loop-place.place c.args.models.now ≡ c.args.models.now = take_all c.loop-place.place c.args.models.now (omega (arith, c.loop-place-test.false)) in (
      dues.0,
      omega (arith, dues.1, c.loop-place-test.false, c.loop-place.invariant.inside),
      subst (EachAt (λ place a. g.A.Atomic.is_next a (slice_index_or dues.0 place None))) end dues.2,
    )
