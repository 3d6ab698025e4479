use Rattle.qss_top.proofs.Common
use Common.{ℕ, ◌∙◌, ◌≡◌, ◌≢◌, ap, arith, length, Machine, refl, rejected, rejection, suc, sym, zero}
use Rattle.cert_check.proofs.Clauses.{clauses-few}
use Rattle.qss_top.specs.MachineAnswers.{run2_answer}
use Rattle.qss_top.proofs.FrameFacts.{rejection_writes}
use Rattle.qss_answers.specs.declared.refusal.Refusal.TheVariants as reasons
use Rattle.qss_top.proofs.second_order_run.second_machine.Goals as goal

-- a machine with clauses is rejected
clauses_rejected : (m : Machine) (n : ℕ) → length m.clauses ≡ n → n ≢ 0
    → rejection (reasons.Clauses n) ≡ run2_answer m
clauses_rejected m zero count some = absurd (some refl)
clauses_rejected m (suc n) count some = rw count refl

pub overflow_cast-result : goal.overflow_cast-result
overflow_cast-result g c = omega (arith, clauses-few c.args.m, ap length c.as_slice-clauses.ensures)

pub returns-then-clauses-eq0 : goal.returns-then-clauses-eq0
returns-then-clauses-eq0 g c =
    let none : length c.args.m.clauses ≡ 0 =
    ap length (sym c.as_slice-clauses.ensures) ∙ c.if-clauses-eq0.true in
    rw none c.run_second.ensures

pub returns-else-clauses-eq0 : goal.returns-else-clauses-eq0
returns-else-clauses-eq0 g c = rejection_writes (rejected (reasons.Clauses _)) refl
    (clauses_rejected c.args.m _ (ap length (sym c.as_slice-clauses.ensures))
    c.if-clauses-eq0.false) refl
