-- The absolute row sums are those at the levels before.
use Rattle.qss_states.proofs.Common
use Common.{[], ℕ, ℤ, ◌∙◌, ◌∷◌, ◌≡◌, ap, arith, Bool, eqb-true, exceeds_row_limits, false}
use Common.{first_exceeding, HasLeft, int_at, length, List, None, not, Option, option_or}
use Common.{overflow_of, pos, position, refl, rules, Some, state_count, subst, sym, true}
use Common.{with_items_is}
use Rattle.std.specs.Prelude.{is_some, Err}
use Rattle.qss_events.proofs.Overs.{clash}
use Rattle.qss_hand.specs.Values.{Values}
use Rattle.qss_states.proofs.Shifting.{handled_fits}
use Rattle.qss_states.proofs.DueLevels.{moved_inside}
use Rattle.qss_states.proofs.states.States.requantize.Goals as goal

not_false : (b : Bool) → not b ≡ false → b ≡ true
not_false true e = refl
not_false false e = absurd (cc)

nothing : {R : Type 0} (rows : List R) → length rows ≡ 0 → rows ≡ []
nothing [] e = refl
nothing (row ∷ rows) e = absurd (omega (arith, e))

-- the first of two overflows
over_first : (o a b : Option ℕ) → is_some o ≡ true → o ≡ a → o ≡ option_or a b
over_first None a b some e = absurd (cc)
over_first (Some v) a b some e = ap (λ x. option_or x b) e

over_second : (o a b : Option ℕ) → a ≡ None → o ≡ b → o ≡ option_or a b
over_second o a b none e = e ∙ ap (λ x. option_or x b) (sym none)

pub set_new_levels-requires : goal.set_new_levels-requires
set_new_levels-requires g c =
    let m = c.args.at.now.machine.now in
    let moved : List ℕ = c.args.at.now.moved.now in
    let known = c.requires.ready.moved in
    let held = c.requires.held in
    let values = c.requires.ready.values in
    let of_x = c.handler_result-handled.ensures.states in
    let of_levels = c.as_mut_slice.ensures.value in
    let of_log : c.as_slice-2.result.now ≡ c.args.at.now.work.now.log =
    c.as_slice-2.ensures.value ∙ ap (λ (v : Values). v.log) c.work.view_is in
    record {
      states = ap length of_x ∙ values.states;
      levels = ap length of_levels ∙ held.levels;
      moved = known;
      small_states = λ j among.
          let inside = moved_inside (state_count m) moved known j among in
          rw of_x (values.small_states j (pos 0) (omega (arith, inside, values.states)));
      small_levels = rw of_levels held.of_lines.small;
      left = λ calm j among.
          let empty = sym c.is_empty.ensures ∙ not_false c.is_empty.result calm in
          let none = nothing c.as_slice-2.result.now (eqb-true (length c.as_slice-2.result.now) 0 empty) in
          subst (λ (xs : List ℤ). HasLeft m j (int_at xs j) (int_at c.as_mut_slice.result.now j)) (sym of_x)
          (subst (λ (ls : List ℤ). HasLeft m j (int_at c.args.at.now.work.now.x j) (int_at ls j)) (sym of_levels)
          (c.requires.left (sym of_log ∙ none) j among));
      room = search rules;
    }

pub update_weights_after_handlers-requires : goal.update_weights_after_handlers-requires
update_weights_after_handlers-requires g c =
    let ready = c.requires.ready in
    let held = c.requires.held in
    let levels = c.as_slice-3.ensures.value
    ∙ with_items_is c.args.self.now.levels c.set_new_levels.new.levels
    (c.set_new_levels.auto.levels ∙ c.as_mut_slice.ensures.len) in
    let of_levels = c.as_mut_slice.ensures.value in
    let of_lines = c.as_slice-lines.ensures.value in
    let pre = c.handler_result-handled.ensures.before in
    let none : overflow_of c.set_new_levels.result ≡ None =
    ap overflow_of c.in_ok-set_new_levels.was in
    let taken = rw of_levels at c.set_new_levels.ensures.taken.1 in
    record {
      allowed = record {
        new = record {
          uses = ready.uses;
          moved = ready.moved;
          levels = ap length (levels ∙ taken.levels none) ∙ taken.others.as_many ∙ held.levels;
          small_levels = rw levels (c.set_new_levels.ensures.size_limit none);
        };
        handled = handled_fits c.args.at.now c.handler_result-handled.result
            c.handler_result-handled.ensures ready;
        many_lines = ap length of_lines ∙ held.lines;
      };
      before = (
        c.args.self.now.levels.items,
        record {
          levels = record {
            off = rw (levels ∙ taken.levels none) taken.others;
            of_lines = rw (of_lines, pre) held.of_lines;
          };
          own = rw pre held.weights;
        },
      );
    }

pub returns-in_err-set_new_levels : goal.returns-in_err-set_new_levels
returns-in_err-set_new_levels g c =
    let m = c.args.at.now.machine.now in
    let found : Option ℕ = overflow_of c.from_residual.result in
    let given : c.from_residual.result ≡ Err c.in_err-set_new_levels.field-0.0 = search rules in
    let some : is_some found ≡ true = ap is_some (ap overflow_of given) in
    let new = c.set_new_levels.ensures.taken.0 in
    let taken = rw (c.handler_result-handled.ensures.states, c.as_mut_slice.ensures.value) at c.set_new_levels.ensures.taken.1 in
    record {
      taken = (
        new,
        record {
          over_is = over_first found (first_exceeding 43 new)
              (position (exceeds_row_limits m new c.args.at.now.work.now.d) m.rows) some
              (ap overflow_of given ∙ ap overflow_of (sym c.in_err-set_new_levels.was) ∙ taken.over_is);
          allowed = taken.allowed;
          others = taken.others;
          levels = λ none. clash found some none;
        },
      );
      size_limit = λ none. clash found some none;
      weights = λ none. clash found some none;
      rows = λ none. clash found some none;
      room = c.set_new_levels.ensures.room ∙ c.begin_rows.ensures.room;
      same = refl;
    }

pub returns-clause-taken : goal.returns-clause-taken
returns-clause-taken g c =
    let m = c.args.at.now.machine.now in
    let d = c.args.at.now.work.now.d in
    let left = c.handler_result-handled.ensures in
    let levels = c.as_slice-3.ensures.value
    ∙ with_items_is c.args.self.now.levels c.set_new_levels.new.levels
    (c.set_new_levels.auto.levels ∙ c.as_mut_slice.ensures.len) in
    let none : overflow_of c.set_new_levels.result ≡ None =
    ap overflow_of c.in_ok-set_new_levels.was in
    let new : List ℤ = c.set_new_levels.ensures.taken.0 in
    let taken = rw (left.states, c.as_mut_slice.ensures.value) at c.set_new_levels.ensures.taken.1 in
    let of_new : c.as_slice-3.result.now ≡ new = levels ∙ taken.levels none in
    let over : Option ℕ = overflow_of c.update_weights_after_handlers.result in
    let weighed : over ≡ position (exceeds_row_limits m new d) m.rows =
    rw (of_new, left.discretes) at c.update_weights_after_handlers.ensures.overflow in (
      new,
      record {
        over_is = over_second over (first_exceeding 43 new)
            (position (exceeds_row_limits m new d) m.rows) (sym taken.over_is ∙ none) weighed;
        allowed = taken.allowed;
        others = taken.others;
        levels = λ calm. sym c.as_slice-3.ensures.value ∙ of_new;
      },
    )
