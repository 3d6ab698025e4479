-- The readers of one more state.
use Rattle.qss_order2.proofs.Common
use Common.{ℕ, ◌||◌, ◌∙◌, ◌≡◌, among_at, ap, arith, cases_lt, column_at, get_or, inl, inr}
use Common.{is_listed, List, or_cases, or_left, or_right, PlaceList, rows_in, sym, true}
use Rattle.qss_order2.proofs.QuietStates.{quiet_states, reads_listed}
use Rattle.qss_order2.proofs.touching.touch.Goals as goal

pub touch_states-requires : goal.touch_states-requires
touch_states-requires c k d h = omega (
  arith,
  c.requires.left k d h,
  c.requires.count,
  ap (λ (s : PlaceList). s.count) c.clear.ensures,
)

pub loop-state-init : goal.loop-state-init
loop-state-init c = record {
  count = c.touch_states.ensures.count ∙ ap (λ (s : PlaceList). s.count) c.clear.ensures;
  own = λ j e. c.touch_states.ensures.places j ∙ or_right (is_listed c.clear.new.self.places j)
      (is_listed c.args.left.now j) e;
  readers = λ k j h e. absurd (omega (arith, h));
  only = λ j e. inl (ap (λ (s : PlaceList). is_listed s.places j || is_listed c.args.left.now j)
      (sym c.clear.ensures) ∙ sym (c.touch_states.ensures.places j) ∙ e);
}

pub touch_readers-requires-clause-state : goal.touch_readers-requires-clause-state
touch_readers-requires-clause-state c = c.requires.left c.loop-state.state-index 0
    c.loop-state-test.true

pub touch_readers-requires-clause-count : goal.touch_readers-requires-clause-count
touch_readers-requires-clause-count c = c.loop-state.invariant.count ∙ c.requires.count

pub loop-state-preserved : goal.loop-state-preserved
loop-state-preserved c =
    let f = c.args.f.now in
    let m = f.machine in
    let i = c.loop-state.state-index in
    let inv = c.loop-state.invariant in
    let left : List ℕ = c.args.left.now in
    let var : ℕ = get_or left i 0 in
    let rows : List ℕ = rows_in (column_at f.columns.items var) in
    let before : ℕ → _ = λ (j : ℕ). is_listed c.loop-state.affected.places j in
    let more = c.touch_readers.ensures.places in
    record {
      count = c.touch_readers.ensures.count ∙ inv.count;
      own = λ j e. more j ∙ or_left (before j) (is_listed rows j) (inv.own j e);
      readers = λ k j h e. elim (cases_lt k i) [
        | inl low ↦ more j ∙ or_left (before j) (is_listed rows j) (inv.readers k j low e)
        | inr high ↦
            let here : k ≡ i = omega (arith, h, high) in
            let reads : is_listed rows j ≡ true =
            ap (λ (n : ℕ). is_listed (rows_in (column_at f.columns.items (get_or left n 0))) j)
            (sym here) ∙ e in
            more j ∙ or_right (before j) (is_listed rows j) reads
      ];
      only = λ j e. elim (or_cases (before j) (is_listed rows j) (sym (more j) ∙ e)) [
        | inl b ↦ inv.only j b
        | inr r ↦ inr (
          var,
          among_at left i c.loop-state-test.true,
          reads_listed m f.columns.items var j f.has_columns
              (c.requires.left i 0 c.loop-state-test.true) r,
        )
      ];
    }

pub returns-clause-count : goal.returns-clause-count
returns-clause-count c = c.loop-state.invariant.count ∙ c.requires.count

pub returns-clause-quiet : goal.returns-clause-quiet
returns-clause-quiet c =
    let inv = c.loop-state.invariant in
    let f = c.args.f.now in
    quiet_states f.machine f.columns.items c.args.left.now (is_listed c.loop-state.affected.places)
    f.has_columns c.requires.left inv.own
    (λ k j h e. inv.readers k j (omega (arith, h, c.loop-state-test.false)) e)
