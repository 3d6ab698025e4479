-- The conditions that one more reinitialized state touches are settled.
use Rattle.qss_run.proofs.Common
use Common.{ℕ, ◌++◌, ◌+◌, ◌<◌, ◌∙◌, ◌≡◌, ap, AreSettledAlong, arith, Conditions, get_or, is_reinit}
use Common.{length, List, Option, pos, reinitialized_of, Row, subst, sym, take, touched_by}
use Common.{touched_of, true, Values}
use Rattle.qss_run.proofs.OwnConditions.{along_more}
use Rattle.qss_run.proofs.Reinitialized.{reinitialized_at, reinitialized_same, reinitialized_more}
use Rattle.qss_run.proofs.Settling.{touched_more}
use Rattle.qss_run.proofs.run_conditions.Conditions.settle_reinitialized_detectors.Goals.{then-is_handler_reinitialization}
use Rattle.qss_run.proofs.run_conditions.Conditions.settle_reinitialized_detectors.Goals.{else-is_handler_reinitialization}
use Rattle.qss_machine.specs.declared.machine_parts.RowKind.TheVariants as kind
use Rattle.qss_run.proofs.run_conditions.Conditions.settle_reinitialized_detectors.Goals as goal

no_row : Row
no_row = record { tick = 0; kind = kind.Start; var = 0; level = pos 0; state = pos 0 }

pub settle_touched_detectors_of-requires-clause-known : goal.settle_touched_detectors_of-requires-clause-known
unfolding no_row
settle_touched_detectors_of-requires-clause-known c =
    let i : ℕ = c.loop-index.index in
    let log : List Row = c.args.work.now.log in
    let read : c.as_slice.result.now ≡ log = c.as_slice.ensures.value ∙ ap (λ (v : Values). v.log) c.work-in-loop-index.view_is ∙ ap (λ (v : Values). v.log) c.loop-index.invariant.work in
    let inside : i < length log = omega (arith, c.loop-index-test.true, c.len-index-end.ensures, c.work.inside.log.ok.0, ap (λ (v : Values). length v.log) c.work.view_is) in
    let e = subst (λ rows. is_reinit (get_or rows i no_row).kind ≡ true) read (sym c.is_handler_reinitialization.ensures ∙ c.if-is_handler_reinitialization.true) in
    omega (arith, ap (λ (rows : List Row). (get_or rows i no_row).var) read, c.requires.known _ (reinitialized_at log i no_row inside e))

pub loop-index-preserved : goal.loop-index-preserved
unfolding no_row
loop-index-preserved c =
    let at = c.args.at.now in
    let m = at.machine.now in
    let i : ℕ = c.loop-index.index in
    let log : List Row = c.args.work.now.log in
    let row : Row = get_or log i no_row in
    let past : List ℕ = reinitialized_of (take i log) in
    let read : c.as_slice.result.now ≡ log = c.as_slice.ensures.value ∙ ap (λ (v : Values). v.log) c.work-in-loop-index.view_is ∙ ap (λ (v : Values). v.log) c.loop-index.invariant.work in
    let inside : i < length log = omega (arith, c.loop-index-test.true, c.len-index-end.ensures, c.work.inside.log.ok.0, ap (λ (v : Values). length v.log) c.work.view_is) in
    let reinits : is_reinit row.kind ≡ c.is_handler_reinitialization.result = sym (c.is_handler_reinitialization.ensures ∙ ap (λ rows. is_reinit (get_or rows i no_row).kind) read) in
    let Done = λ (work : Values) (all : Conditions) (due : List (Option ℕ)).
    AreSettledAlong at (touched_by m (reinitialized_of (take (i + 1) log))) c.args.self.now all c.args.agenda.now due c.args.work.now work in
    elim c.if-is_handler_reinitialization.branch [
      | then-is_handler_reinitialization w ↦
          let list : touched_by m (reinitialized_of (take (i + 1) log)) ≡ touched_by m past ++ touched_of m row.var = ap (touched_by m) (reinitialized_more log i no_row inside (reinits ∙ w.if-is_handler_reinitialization.true)) ∙ touched_more m past row.var in
          subst (λ work. Done work c.if-is_handler_reinitialization.self c.if-is_handler_reinitialization.agenda) (sym w.work-is)
          (subst (λ all. Done w.settle_touched_detectors_of.new.work all c.if-is_handler_reinitialization.agenda) (sym w.self-is)
          (subst (Done w.settle_touched_detectors_of.new.work w.settle_touched_detectors_of.new.self) (sym w.agenda-is)
          (along_more at (touched_by m past) (touched_of m row.var) _ _ _ _ _ _ _ _ _ _ _ c.loop-index.invariant (ap (λ (rows : List Row). touched_of m (get_or rows i no_row).var) read) list w.settle_touched_detectors_of.ensures)))
      | else-is_handler_reinitialization w ↦
          let list : touched_by m (reinitialized_of (take (i + 1) log)) ≡ touched_by m past = ap (touched_by m) (reinitialized_same log i no_row inside (reinits ∙ w.if-is_handler_reinitialization.false)) in
          subst (λ work. Done work c.if-is_handler_reinitialization.self c.if-is_handler_reinitialization.agenda) (sym w.work-is)
          (subst (λ all. Done c.loop-index.work all c.if-is_handler_reinitialization.agenda) (sym w.self-is)
          (subst (Done c.loop-index.work c.loop-index.self) (sym w.agenda-is)
          (subst (λ (places : List ℕ). AreSettledAlong at places c.args.self.now c.loop-index.self c.args.agenda.now c.loop-index.agenda c.args.work.now c.loop-index.work) (sym list) c.loop-index.invariant)))
    ]
