-- One more level, and the shifts that it causes.
use Rattle.qss_order2.proofs.Common
use Common.{ℕ, ℤ, ◌*ℤ◌, ◌+ℤ◌, ◌-ℤ◌, ◌<◌, ◌∙◌, ◌≡◌, All, ap, arith, cases_Bool, coefficient_of}
use Common.{column_at, Entry, FitsSigned, floor_place, get_or, get_or-set_other, get_or-set_same}
use Common.{inl, inr, int_at, int_wrap, ints, is_listed, length, level_unit, List, no_place, Place}
use Common.{place_in, refl, rules, set, start_coefficient, state_count, subst, sym, take, to_z-of_z}
use Common.{w128, written_all, written_more}
use Rattle.qss_order2.proofs.ColumnSums.{gain_none, column_gain}
use Rattle.qss_order2.proofs.FixedFacts.{column_is}
use Rattle.qss_order2.proofs.order2_motion.take_motion_levels.Goals as goal

pub loop-state-init : goal.loop-state-init
loop-state-init c = record {
  places = record { as_many = refl; each = λ j e. absurd (cc); others = λ j e. refl };
  many_rises = refl;
  rises = λ i z h is.
      let none = gain_none (state_count c.args.f.now.machine)
      (start_coefficient c.args.f.now.machine i) (λ j. (place_in c.args.places.now j).level) in
      is ∙ ap (int_wrap w128) (omega (arith, ints, none));
}

pub add_fixed_column_multiple-requires : goal.add_fixed_column_multiple-requires
add_fixed_column_multiple-requires c =
    let f = c.args.f.now in
    let i = c.loop-state.state-index in
    let j : ℕ = get_or c.args.list.now i 0 in
    let h : j < state_count f.machine = c.requires.list i 0 c.loop-state-test.true in
    let is : c.as_slice.result.now ≡ column_at f.columns.items j = c.as_slice.ensures
    ∙ column_is f j h c.index.result.now c.index.ensures in
    subst (λ (l : List Entry). All (λ entry. entry.var < length c.loop-state.rises) l) (sym is)
    (λ k d low. omega (
      arith,
      (f.has_columns.each j h).known k d low,
      c.loop-state.invariant.many_rises,
      c.requires.rises,
    ))

pub loop-state-preserved : goal.loop-state-preserved
loop-state-preserved c =
    let a = c.args in
    let f = a.f.now in
    let m = f.machine in
    let i = c.loop-state.state-index in
    let now : List Place = c.loop-state.places in
    let inv = c.loop-state.invariant in
    let unit = level_unit m in
    let before : i < length a.list.now = c.loop-state-test.true in
    let j : ℕ = get_or a.list.now i 0 in
    let h : j < state_count m = c.requires.list i 0 before in
    let inside : j < length now = omega (arith, h, inv.places.as_many, c.requires.places) in
    let once : floor_place (place_in now j) unit ≡ floor_place (place_in a.places.now j) unit =
    elim (cases_Bool (is_listed (take i a.list.now) j)) [
      | inl e ↦ ap (λ (p : Place). floor_place p unit) (inv.places.each j e)
      | inr e ↦ ap (λ (p : Place). floor_place p unit) (inv.places.others j e)
    ] in
    let p : Place = c.floor_motion_place-new.result in
    let is : c.as_slice.result.now ≡ column_at f.columns.items j = c.as_slice.ensures
    ∙ column_is f j h c.index.result.now c.index.ensures in
    let of_new : FitsSigned w128 p.level = search rules in
    let of_old : FitsSigned w128 (place_in now j).level = search rules in
    let of_d : FitsSigned w128 c.motion_difference.result = record { sfits = c.motion_difference.type_inv } in
    let difference : c.motion_difference.result
    ≡ int_wrap w128 (p.level -ℤ (place_in now j).level) =
    simp to_z-of_z at c.motion_difference.ensures in
    let added = simp to_z-of_z at c.add_fixed_column_multiple.ensures in
    let here : (place_in (set now j p) j).level ≡ p.level =
    ap (λ (q : Place). q.level) (get_or-set_same now j p no_place inside) in
    record {
      places = written_more _ _ _ _ _ _ _ before inside inv.places (c.floor_motion_place-new.ensures
          ∙ once);
      many_rises = c.add_fixed_column_multiple.auto.sums ∙ inv.many_rises;
      rises = λ k z low start.
          column_gain m f.columns.items k j (λ l. (place_in a.places.now l).level)
          (λ l. (place_in now l).level) (λ l. (place_in (set now j p) l).level)
          (int_at c.loop-state.rises k) (int_at c.add_fixed_column_multiple.new.sums k) z
          c.motion_difference.result
          f.has_columns h low (λ l known ne. ap (λ (q : Place). q.level)
          (get_or-set_other now j l p no_place ne))
          (difference ∙ ap (λ (y : ℤ). int_wrap w128 (y -ℤ (place_in now j).level)) (sym here))
          (inv.rises k z low start)
          (λ w e. added k w (omega (arith, low, inv.many_rises, c.requires.rises)) e
          ∙ ap (λ (l : List Entry). int_wrap w128 (w +ℤ coefficient_of l k *ℤ
          c.motion_difference.result))
          is);
    }

pub returns-clause-places : goal.returns-clause-places
returns-clause-places c = written_all _ _ _ _ _ _ c.loop-state-test.false
    c.loop-state.invariant.places

pub returns-clause-rises : goal.returns-clause-rises
returns-clause-rises c = c.loop-state.invariant.rises
