use Rattle.cert_propose.proofs.Common.{◌∙◌, ap, length, refl, sym}
use Rattle.cert_matrix.proofs.Rows.{length-zeros}
use Rattle.cert_propose.proofs.Candidates.{form-length}
use Rattle.cert_propose.proofs.Rounds.{repeated-step, repeated-stop, repeated-end}
use Rattle.cert_propose.proofs.candidate_form.repeat_form_rounds.Goals as goal

pub loop-round-init : goal.loop-round-init
loop-round-init c = record {
  size = ap length c.new-p.ensures ∙ length-zeros _ ∙ c.size.ensures.size;
  rounds = rw (c.new-p.ensures, c.size.ensures.size) refl;
}

pub form_round-requires-clause-size : goal.form_round-requires-clause-size
form_round-requires-clause-size c = sym c.loop-round.invariant.size

pub form_round-requires-clause-columns : goal.form_round-requires-clause-columns
form_round-requires-clause-columns c = rw c.loop-round.invariant.size c.requires.columns

pub loop-round-preserved : goal.loop-round-preserved
loop-round-preserved c =
    let next = rw c.loop-round.invariant.size at (sym c.form_round.ensures ∙ c.in-Some.is) in
    record {
      size = form-length (length c.args.phi.now) c.args.q _ _ _ next;
      rounds = c.loop-round.invariant.rounds ∙ repeated-step 4096 c.loop-round._round _ _ _ c.loop-round-test.true next;
    }

pub returns-in-None : goal.returns-in-None
returns-in-None c =
    let next = rw c.loop-round.invariant.size at (sym c.form_round.ensures ∙ c.in-None.is) in
    sym (c.loop-round.invariant.rounds ∙ repeated-stop 4096 c.loop-round._round _ _ c.loop-round-test.true next)

pub returns : goal.returns
returns c = sym (c.loop-round.invariant.rounds ∙ repeated-end 4096 c.loop-round._round _ _ c.loop-round-test.false)
