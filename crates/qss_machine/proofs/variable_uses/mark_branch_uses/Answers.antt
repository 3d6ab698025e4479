use Rattle.qss_machine.proofs.Common
use Common.{◌++◌, ◌+◌, All-get_or, arith, BranchInfo, Collects, condition_reads, Entry, has_entry}
use Common.{IsConditionOf, length, length-map, List, map, MarksBy, refl, subst, take_all}
use Rattle.qss_machine.proofs.Marking.{collect_branch, items_of, condition_of}
use Rattle.qss_machine.proofs.variable_uses.mark_branch_uses.Goals as goal

pub mark_entry_uses-requires : goal.mark_entry_uses-requires
mark_entry_uses-requires c =
    let here = All-get_or (λ (branch : BranchInfo). IsConditionOf (length c.args.lists.now.items) branch.condition) c.args.branches.now c.loop-place.place c.index-branches-place.result c.loop-place-test.true c.requires.known in
    rw (c.as_slice.ensures, c.loop-place.invariant.as_many) here

pub loop-place-preserved : goal.loop-place-preserved
loop-place-preserved c =
    let old = map items_of c.loop-place.lists.items in
    let new = map items_of c.mark_entry_uses.new.lists.items in
    let marks : MarksBy old new (c.args.first + c.loop-place.place) (λ v. has_entry v c.as_slice.result.now) = c.in_ok-mark_entry_uses.ensures in
    let same = subst (λ (entries : List Entry). MarksBy old new (c.args.first + c.loop-place.place) (λ v. has_entry v entries)) c.as_slice.ensures marks in
    record {
      as_many = omega (arith, marks.as_many, length-map c.loop-place.lists.items items_of, length-map c.mark_entry_uses.new.lists.items items_of, c.loop-place.invariant.as_many);
      marks = λ before from start.
          collect_branch (length c.args.lists.now.items) old new before c.args.branches.now c.loop-place.place c.args.first c.index-branches-place.result c.loop-place-test.true from same
          (c.loop-place.invariant.marks before from start);
    }

pub returns : goal.returns
returns c = record {
  next = refl;
  same_length = c.loop-place.invariant.as_many;
  marks = λ before from start.
      subst (λ (branches : List BranchInfo). Collects condition_reads (before ++ map condition_of branches) (length c.args.lists.now.items) (map items_of c.loop-place.lists.items))
      (take_all c.loop-place.place c.args.branches.now c.loop-place-test.false) (c.loop-place.invariant.marks before from start);
}
