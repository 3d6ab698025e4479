use Rattle.qss_top.proofs.Common.{◌∙◌, sym}
use Rattle.qss_top.proofs.AnswerOutcomes.{summary_some, ends_writes, done_written}
use Rattle.qss_top.proofs.byte_answers.check_machine.Goals as goal

pub returns-clause-answered : goal.returns-clause-answered
returns-clause-answered g c = rw c.from.ensures (ends_writes c.check_trace_text.result
    (summary_some c.args.text.m.now c.args.text.bytes.now) c.check_trace_text.ensures.answered)

pub returns-clause-legitimate : goal.returns-clause-legitimate
returns-clause-legitimate g c e =
    let (t, text, run, all) = c.check_trace_text.ensures.accepted
    (done_written c.check_trace_text.result (sym c.from.ensures ∙ e)) in
    (t, text, run)
