use Rattle.qss_top.proofs.Common.{command_of, inl, inr, map, refl, writes_as_it_goes}
use Rattle.qss_top.proofs.Calls.{true_to_reads}
use Rattle.qss_top.proofs.TopFacts.{leaves_of, outcome_is, status_is}
use Rattle.qss_top.specs.declared.command_outcome.Outcome.TheVariants as outcome
use Rattle.qss_top.specs.declared.status.Status.TheVariants as ends
use Rattle.qss_top.proofs.top.qss_main.Goals as goal

pub returns-clause-reads : goal.returns-clause-reads
returns-clause-reads g c =
    let did = c.answer-outcome.ensures in
    let (line, reported, on_err) = c.report.ensures.line in
    true_to_reads (λ k. g.O.Sink.written k) c.args.out.now c.answer-outcome.new.out line _ _ _ _ _ _
    on_err (command_of (map (λ word. word.now) c.args.words.now)) did.shelf.adds_readings
    c.report.result c.answer-outcome.result c.report.ensures.status reported did.output.untouched
    did.no_command did.reads

pub returns-clause-usage : goal.returns-clause-usage
returns-clause-usage g c e = c.answer-outcome.ensures.usage (outcome_is c.report.result
    c.answer-outcome.result c.report.ensures.status ends.Usage e (λ d. cc d) (λ d. cc d))

pub returns-clause-no_command : goal.returns-clause-no_command
returns-clause-no_command g c none =
    let is = status_is c.report.result c.answer-outcome.result c.report.ensures.status in
    elim (c.answer-outcome.ensures.no_command none) [
      | inl e ↦ inl (is outcome.Usage e refl)
      | inr e ↦ inr (is outcome.Memory e refl)
    ]

pub returns-clause-readings : goal.returns-clause-readings
returns-clause-readings g c = c.answer-outcome.ensures.shelf.adds_readings

pub returns-clause-last_reading_failed : goal.returns-clause-last_reading_failed
returns-clause-last_reading_failed g c e =
    c.answer-outcome.ensures.shelf.fault_was_last (outcome_is c.report.result
    c.answer-outcome.result c.report.ensures.status ends.ReadFault e (λ d. cc d) (λ d. cc d))

pub returns-clause-no_read_fault : goal.returns-clause-no_read_fault
returns-clause-no_read_fault g c other = c.answer-outcome.ensures.shelf.no_read_fault
    (λ e. other (status_is c.report.result c.answer-outcome.result c.report.ensures.status
    outcome.ReadFault e refl))

pub returns-clause-fault_was_last : goal.returns-clause-fault_was_last
returns-clause-fault_was_last g c e =
    c.answer-outcome.ensures.output.fault_was_last (outcome_is c.report.result
    c.answer-outcome.result c.report.ensures.status ends.WriteFault e (λ d. cc d) (λ d. cc d))

pub returns-clause-no_new_fault : goal.returns-clause-no_new_fault
returns-clause-no_new_fault g c other = c.answer-outcome.ensures.output.no_new_fault
    (λ e. other (status_is c.report.result c.answer-outcome.result c.report.ensures.status
    outcome.WriteFault e refl))

pub returns-clause-untouched : goal.returns-clause-untouched
returns-clause-untouched g c e = c.answer-outcome.ensures.output.untouched (leaves_of
    c.report.result c.answer-outcome.result
    (writes_as_it_goes (command_of (map (λ word. word.now) c.args.words.now)))
    c.report.ensures.status e)

pub returns-clause-err_unchanged : goal.returns-clause-err_unchanged
returns-clause-err_unchanged g c e = c.report.ensures.err_unchanged (outcome_is c.report.result
    c.answer-outcome.result c.report.ensures.status ends.Ok e (λ d. cc d) (λ d. cc d))
