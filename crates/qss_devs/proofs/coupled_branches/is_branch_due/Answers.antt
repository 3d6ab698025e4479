-- A branch is due as the three truth values of its condition say.
use Rattle.qss_devs.proofs.Common
use Common.{ℕ, ◌<◌, ◌∙◌, ◌≡◌, Bool, false, flag_at, get_or, get_or_default, length, List, refl, sym}
use Common.{true}
use Rattle.qss_devs.proofs.DueFlags.{due_of}
use Rattle.qss_devs.proofs.coupled_branches.is_branch_due.Goals.{then-index-2, else-index-2}
use Rattle.qss_devs.proofs.coupled_branches.is_branch_due.Goals as goal

element_is : (xs : List Bool) (k : ℕ) (flag : Bool) → k < length xs → flag ≡ get_or xs k flag →
    flag_at xs k ≡ flag
element_is xs k flag h is = get_or_default xs k false flag h ∙ sym is

pub returns-after-index-2 : goal.returns-after-index-2
returns-after-index-2 c =
    let t = c.args.truths.now in
    let place = c.args.place in
    let flags = c.requires.flags in
    let h : place < length t.current.items = c.requires.place in
    let current = element_is _ place _ h c.index.ensures ∙ c.if-index.true in
    let arrived = element_is _ place _ (rw flags.at_arrival h) c.index-then-index.ensures in
    elim c.if-index-2.branch [
      | then-index-2 w ↦
          let settled =
          element_is _ place _ (rw flags.after_handlers h) w.index-then-index-2.ensures in
          let due = due_of flags place h true true _ current (arrived ∙ w.if-index-2.true) settled in
          let own = w.result-is in
          cc
      | else-index-2 w ↦
          let due = due_of flags place h true false _ current (arrived ∙ w.if-index-2.false) refl in
          let own = w.result-is in
          cc
    ]

pub returns-else-index : goal.returns-else-index
returns-else-index c =
    let place = c.args.place in
    let h : place < length c.args.truths.now.current.items = c.requires.place in
    let current = element_is _ place _ h c.index.ensures ∙ c.if-index.false in
    c.if-index.false ∙ sym (due_of c.requires.flags place h false _ _ current refl refl)
