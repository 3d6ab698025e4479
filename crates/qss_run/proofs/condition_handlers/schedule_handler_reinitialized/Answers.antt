-- Each row of a state puts that state into the event queue.
use Rattle.qss_run.proofs.Common.{◌+◌, ◌<◌, ◌∙◌, arith, get_or, length, pos, Row, subst, sym, take}
use Rattle.qss_run.proofs.Reinitialized.{AreGiven, reinitialized_at, given_same, given_more}
use Rattle.qss_run.proofs.condition_handlers.schedule_handler_reinitialized.Goals.{then-is_handler_reinitialization}
use Rattle.qss_run.proofs.condition_handlers.schedule_handler_reinitialized.Goals.{else-is_handler_reinitialization}
use Rattle.qss_machine.specs.declared.machine_parts.RowKind.TheVariants as kind
use Rattle.qss_run.proofs.condition_handlers.schedule_handler_reinitialized.Goals as goal

no_row : Row
no_row = record { tick = 0; kind = kind.Start; var = 0; level = pos 0; state = pos 0 }

pub set-requires : goal.set-requires
unfolding no_row
set-requires c =
    let e = sym c.is_handler_reinitialization.ensures ∙ c.if-is_handler_reinitialization.true in
    omega (arith, c.requires _ (reinitialized_at c.args.log.now c.loop-row.row-index no_row c.loop-row-test.true e), c.loop-row.invariant.as_many)

pub loop-row-preserved : goal.loop-row-preserved
unfolding no_row
loop-row-preserved c =
    let i = c.loop-row.row-index in
    let log = c.args.log.now in
    let inv = c.loop-row.invariant in
    let before : AreGiven c.args.tick (take i log) c.args.agenda.now c.loop-row.agenda = record { as_many = inv.as_many; given = inv.given; others = inv.others } in
    let given : AreGiven c.args.tick (take (i + 1) log) c.args.agenda.now c.if-is_handler_reinitialization.agenda =
    elim c.if-is_handler_reinitialization.branch [
      | then-is_handler_reinitialization w ↦
          let e = sym c.is_handler_reinitialization.ensures ∙ w.if-is_handler_reinitialization.true in
          let inside : (get_or log i no_row).var < length c.loop-row.agenda = omega (arith, c.requires _ (reinitialized_at log i no_row c.loop-row-test.true e), inv.as_many) in
          subst (AreGiven c.args.tick (take (i + 1) log) c.args.agenda.now) (sym (w.agenda-is ∙ w.set.ensures))
          (given_more log i no_row c.loop-row-test.true c.args.tick c.args.agenda.now c.loop-row.agenda before e inside)
      | else-is_handler_reinitialization w ↦
          subst (AreGiven c.args.tick (take (i + 1) log) c.args.agenda.now) (sym w.agenda-is)
          (given_same log i no_row c.loop-row-test.true c.args.tick c.args.agenda.now c.loop-row.agenda before (sym c.is_handler_reinitialization.ensures ∙ w.if-is_handler_reinitialization.false))
    ] in
    record { as_many = given.as_many; given = given.given; others = given.others }
