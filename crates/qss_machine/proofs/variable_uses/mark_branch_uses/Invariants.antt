use Rattle.qss_machine.proofs.Common
use Common.{◌++◌, ◌≡◌, BranchInfo, Collects, Condition, condition_reads, length, List, map, take}
use Rattle.qss_machine.proofs.variable_uses.mark_branch_uses.Given as goal

-- the places so far, after any conditions before
abbrev pub invariant-loop-place : goal.invariant-loop-place
invariant-loop-place l = record {
  as_many : length l.lists.items ≡ length l.initial.lists.items;
  marks : (before : List Condition) → length before ≡ l.first → Collects condition_reads before (length l.initial.lists.items) (map (λ list. list.items) l.initial.lists.items) →
      Collects condition_reads (before ++ map (λ (branch : BranchInfo). branch.condition) (take l.place l.branches)) (length l.initial.lists.items) (map (λ list. list.items) l.lists.items);
}
