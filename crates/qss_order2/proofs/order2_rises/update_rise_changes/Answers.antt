-- One more level slope, and the shifts that it causes.
use Rattle.qss_order2.proofs.Common
use Common.{ℕ, ℤ, ◌*ℤ◌, ◌+ℤ◌, ◌-ℤ◌, ◌<◌, ◌∙◌, ◌≡◌, All, among_at, ap, arith, coefficient_of}
use Common.{column_at, Entry, FitsSigned, get_or, get_or-set_other, get_or-set_same, Global, int_at}
use Common.{int_wrap, ints, IsAnswer, IsWithin, length, level_unit, List, of_z, Place, pos, refl}
use Common.{rules, set, start_coefficient, state_count, subst, sym, to_z, to_z-of_z, Vec, w128}
use Common.{with_items, with_items_is, written_all, written_more}
use Rattle.qss_order2.proofs.order2_rises.update_rise_changes.Goals.{After-index}
use Rattle.qss_order2.proofs.Bounds.{at_index}
use Rattle.qss_order2.proofs.ColumnSums.{gain_none, column_gain}
use Rattle.qss_order2.proofs.FixedFacts.{asked, answered, column_is}
use Rattle.qss_order2.proofs.order2_rises.update_rise_changes.Goals as goal
use Rattle.qss_order2.proofs.order2_rises.update_rise_changes.Given as given

pub loop-state-init : goal.loop-state-init
loop-state-init g c = record {
  places = refl;
  rises = refl;
  changes = record { as_many = refl; each = λ j e. absurd (cc); others = λ j e. refl };
  many_bends = refl;
  bends = λ i z h is.
      let none = gain_none (state_count c.args.f.now.machine)
      (start_coefficient c.args.f.now.machine i) (int_at c.args.q.now.changes.items) in
      is ∙ ap (int_wrap w128) (omega (arith, ints, none));
}

pub index-old-requires : goal.index-old-requires
index-old-requires g c =
    let s = c.loop-state in
    omega (
      arith,
      c.requires.list s.state-index 0 c.loop-state-test.true,
      s.invariant.changes.as_many,
      c.requires.lists.changes,
    )

pub index-requires : goal.index-requires
index-requires g c =
    let s = c.loop-state in
    rw s.invariant.rises (omega (
      arith,
      c.requires.list s.state-index 0 c.loop-state-test.true,
      c.requires.lists.rises,
    ))

-- the slope that is read
slope : (g : given.Over) (c : After-index g) → (j : ℕ) → j ≡ get_or c.args.list.now
    c.loop-state.state-index 0 → c.loop-state.state-index < length c.args.list.now →
    (c.index.result.now ≡ int_at c.args.q.now.rises.items j) × IsWithin 95 c.index.result.now
slope g c j here before =
    let is : c.index.result.now ≡ int_at c.args.q.now.rises.items j = rw (
      here,
      ← c.loop-state.invariant.rises,
    ) (at_index c.loop-state.q.rises.items _
    (length c.loop-state.q.rises.items) c.index.result.now refl
    (rw c.loop-state.invariant.rises (omega (
      arith,
      c.requires.list c.loop-state.state-index 0 before,
      c.requires.lists.rises,
    ))) c.index.ensures) in (
      is,
      rw (is, here) (c.requires.size_limit _ (among_at c.args.list.now c.loop-state.state-index
          before)),
    )

pub change-new-requires : goal.change-new-requires
change-new-requires g c = asked c.args.f.now c.index.result.now (slope g
    (goal.at.change-new-requires
    g c).After-index _ refl c.loop-state-test.true).1

pub add_fixed_column_multiple-requires : goal.add_fixed_column_multiple-requires
add_fixed_column_multiple-requires g c =
    let f = c.args.f.now in
    let i = c.loop-state.state-index in
    let j : ℕ = get_or c.args.list.now i 0 in
    let h : j < state_count f.machine = c.requires.list i 0 c.loop-state-test.true in
    let is : c.as_slice.result.now ≡ column_at f.columns.items j = c.as_slice.ensures
    ∙ column_is f j h c.index-in-loop-state.result.now c.index-in-loop-state.ensures in
    subst (λ (l : List Entry). All (λ entry. entry.var < length c.deref_mut.result.now) l) (sym is)
    (λ k d low. omega (
      arith,
      (f.has_columns.each j h).known k d low,
      ap length c.deref_mut.ensures.value,
      c.loop-state.invariant.many_bends,
      c.requires.lists.bends,
    ))

pub loop-state-preserved : goal.loop-state-preserved
loop-state-preserved g c =
    let a = c.args in
    let f = a.f.now in
    let m = f.machine in
    let n = state_count m in
    let q = a.q.now in
    let nearest = a.rule.now.nearest in
    let i = c.loop-state.state-index in
    let s = c.loop-state.q in
    let now : List ℤ = s.changes.items in
    let inv = c.loop-state.invariant in
    let before : i < length a.list.now = c.loop-state-test.true in
    let j : ℕ = get_or a.list.now i 0 in
    let h : j < n = c.requires.list i 0 before in
    let many : length now ≡ n = inv.changes.as_many ∙ c.requires.lists.changes in
    let inside : j < length now = omega (arith, h, many) in
    let read = slope g (goal.at.loop-state-preserved g c).After-index j refl before in
    let fits : FitsSigned w128 c.change-new.result = record { sfits = c.change-new.type_inv } in
    let there : IsAnswer nearest (int_at q.rises.items j) (level_unit m) c.change-new.result =
    rw read.0 at (answered f c.index.result.now read.1 nearest c.change-new.result
    c.change-new.ensures.answer) in
    let v : ℤ = to_z w128 (of_z w128 c.change-new.result) in
    let same : v ≡ c.change-new.result = to_z-of_z w128 c.change-new.result fits in
    let is : c.as_slice.result.now ≡ column_at f.columns.items j = c.as_slice.ensures
    ∙ column_is f j h c.index-in-loop-state.result.now c.index-in-loop-state.ensures in
    let was : c.index-old.result.now ≡ int_at now j =
    at_index now j n c.index-old.result.now many h c.index-old.ensures in
    let of_old : FitsSigned w128 c.index-old.result.now = search rules in
    let of_d : FitsSigned w128 c.motion_difference.result = record { sfits = c.motion_difference.type_inv } in
    let difference : c.motion_difference.result
    ≡ int_wrap w128 (c.change-new.result -ℤ c.index-old.result.now) =
    simp to_z-of_z at c.motion_difference.ensures in
    let added = simp to_z-of_z at c.add_fixed_column_multiple.ensures in
    let here : int_at (set now j v) j ≡ c.change-new.result = get_or-set_same now j v (pos 0) inside
    ∙ same in
    let sums : List ℤ = c.add_fixed_column_multiple.new.sums in
    let bent : (with_items s.bends sums).items ≡ sums =
    with_items_is s.bends sums (c.add_fixed_column_multiple.auto.sums ∙ c.deref_mut.ensures.len) in
    let bends : c.deref_mut.result.now ≡ s.bends.items = c.deref_mut.ensures.value in
    let length_is : length sums ≡ length q.bends.items = c.add_fixed_column_multiple.auto.sums
    ∙ ap length bends ∙ inv.many_bends in
    record {
      places = inv.places;
      rises = inv.rises;
      changes = written_more _ _ _ _ _ _ _ before inside inv.changes (rw same there);
      many_bends = ap length bent ∙ length_is;
      bends = λ k z low start.
          ap (λ (l : List ℤ). int_at l k) bent
          ∙ column_gain m f.columns.items k j (int_at q.changes.items) (int_at now)
          (int_at (set now j v)) (int_at c.deref_mut.result.now k) (int_at sums k)
          z c.motion_difference.result
          f.has_columns h low (λ l known ne. get_or-set_other now j l v (pos 0) ne)
          (difference ∙ ap (λ (y : ℤ). int_wrap w128 (c.change-new.result -ℤ y)) was
          ∙ ap (λ (y : ℤ). int_wrap w128 (y -ℤ int_at now j)) (sym here))
          (ap (λ (l : List ℤ). int_at l k) bends ∙ inv.bends k z low start)
          (λ w e. added k w (omega (
            arith,
            low,
            ap length bends,
            inv.many_bends,
            c.requires.lists.bends,
          )) e
          ∙ ap (λ (l : List Entry). int_wrap w128 (w +ℤ coefficient_of l k *ℤ
          c.motion_difference.result))
          is);
    }

pub returns : goal.returns
returns g c =
    let a = c.args in
    let l = c.requires.lists in
    let s = c.loop-state.q in
    let inv = c.loop-state.invariant in
    record {
      lists = record {
        places = ap (λ (v : Vec Place Global). length v.items) inv.places ∙ l.places;
        changes = inv.changes.as_many ∙ l.changes;
        rises = ap (λ (v : Vec ℤ Global). length v.items) inv.rises ∙ l.rises;
        bends = inv.many_bends ∙ l.bends;
      };
      places = inv.places;
      rises = inv.rises;
      changes = written_all _ _ _ _ _ _ c.loop-state-test.false inv.changes;
      bends = inv.bends;
    }
