-- There are no more rows than items, since each clause has a branch.
use Rattle.qss_hand.proofs.Common
use Common.{[], ℕ, ℤ, ◌+◌, ◌∙◌, ◌∷◌, ◌≡◌, ◌≤◌, All, ap, arith, BranchInfo, ClauseInfo, int_at}
use Common.{IsClause, item_count, length, List, Row, row_room, suc, sum_by, sum_by-cons, sym}
use Common.{vec_capacity}
use Rattle.qss_machine.specs.Machines.{start_states, start_discretes}
use Rattle.qss_hand.proofs.work.Work.new.Goals as goal

one_more : {X : Type 0} (f : X → ℕ) (xs : List X) → sum_by (λ x. 1 + f x) xs ≡ length xs + sum_by f xs
one_more f [] = omega arith
one_more f (x ∷ xs) = omega (arith, sum_by-cons (λ y. 1 + f y) x xs, sum_by-cons f x xs, one_more f xs)

few_rows : (n g : ℕ) (clauses : List ClauseInfo) → All (IsClause n g) clauses → row_room clauses ≤ item_count clauses
few_rows n g [] all = omega arith
few_rows n g (clause ∷ clauses) all =
    let statements = λ (branch : BranchInfo). length branch.actions in
    omega (
      arith,
      sum_by-cons (λ (c : ClauseInfo). 1 + sum_by statements c.branches) clause clauses,
      sum_by-cons (λ (c : ClauseInfo). sum_by (λ (branch : BranchInfo). 1 + length branch.actions) c.branches) clause clauses,
      one_more statements clause.branches,
      (all 0 clause (omega arith)).some_branch,
      few_rows n g clauses (λ k d h. all (suc k) d (omega arith)),
    )

pub work_row_room-requires : goal.work_row_room-requires
work_row_room-requires c = rw c.as_slice.ensures (omega (arith, few_rows _ _ c.args.m.now.clauses c.args.m.now.has_clauses.each, c.args.m.now.has_clauses.few))

pub returns : goal.returns
returns c =
    ap (λ (x : List ℤ). record { x = x; d = c.in_ok-d.d.items; pre = c.in_ok-pre.pre.items; tick = 0; log = c.in_ok-log.log.items; room = vec_capacity c.in_ok-log.log }) c.in_ok-x.ensures
    ∙ ap (λ (d : List ℤ). record { x = start_states c.args.m.now; d = d; pre = c.in_ok-pre.pre.items; tick = 0; log = c.in_ok-log.log.items; room = vec_capacity c.in_ok-log.log }) c.in_ok-d.ensures
    ∙ ap (λ (d : List ℤ). record { x = start_states c.args.m.now; d = start_discretes c.args.m.now; pre = d; tick = 0; log = c.in_ok-log.log.items; room = vec_capacity c.in_ok-log.log }) c.in_ok-pre.ensures
    ∙ ap (λ (log : List Row). record { x = start_states c.args.m.now; d = start_discretes c.args.m.now; pre = start_discretes c.args.m.now; tick = 0; log = log; room = vec_capacity c.in_ok-log.log }) c.in_ok-log.ensures.items
    ∙ ap (λ (room : ℕ). record { x = start_states c.args.m.now; d = start_discretes c.args.m.now; pre = start_discretes c.args.m.now; tick = 0; log = []; room = room }) (c.in_ok-log.ensures.exact ∙ c.work_row_room.ensures ∙ ap row_room c.as_slice.ensures)

pub invariant_of-result : goal.invariant_of-result
invariant_of-result c = record {
  as_many = ap length c.in_ok-pre.ensures ∙ sym (ap length c.in_ok-d.ensures);
  below = λ k d h. absurd (omega (arith, h, ap length c.in_ok-assigned.ensures.items));
  same = λ place none. ap (λ l. int_at l place) (c.in_ok-pre.ensures ∙ sym c.in_ok-d.ensures);
  few = omega (arith, c.in_ok-assigned.ensures.len);
  has_room = omega (arith, c.in_ok-assigned.ensures.capacity, c.capacity.ensures);
}
