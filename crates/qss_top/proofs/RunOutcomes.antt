-- The outcomes of runs that are written.
use Rattle.qss_top.proofs.Common
use Common.{[], ℕ, ◌∙◌, ◌∷◌, ◌≡◌, Answer, ap, Appends, Appends-nil, Bool, inl, inr}
use Common.{IsOutOfMemoryPrefix, List, Machine, Option, refl, subst, sym, true, WritesAnswer}
use Rattle.std.specs.Prelude.{filter}
use Rattle.std.proofs.lemmas.List.Elements.{filter-append}
use Rattle.qss_machine.specs.Runs.{run_rows}
use Rattle.qss_events.specs.RunTexts.{run_by_rule, IsRunCutShort, IsRunWritten}
use Rattle.qss_order2.specs.SecondRowLines.{fields2_of}
use Rattle.qss_order2.specs.SecondRunTexts.{second_order_run, IsSecondRunCutShort}
use Rattle.qss_order2.specs.SecondRunTexts.{IsSecondRunWritten}
use Rattle.qss_rows.specs.Filters.{passes}
use Rattle.qss_rows.specs.RowTexts.{fields_of}
use Rattle.qss_rows.specs.declared.simulation_rows.RunResult.{RunResult}
use Rattle.qss_cli.specs.Commands.{RunOptions}
use Rattle.qss_top.specs.MachineAnswers.{printed_run_answer, second_run_answer}
use Rattle.qss_top.specs.CertificateOutcomes.{outcome_of_run}
use Rattle.qss_top.proofs.FrameFacts.{answer_writes, fault_writes}
use Rattle.qss_top.proofs.OutcomeFacts.{stops_at_line}
use Rattle.qss_rows.specs.declared.simulation_rows.RunResult.TheVariants as played
use Rattle.qss_top.specs.declared.command_outcome.Outcome.TheVariants as outcome

module _ {K : Type 0} (written : K → Option (List ℕ)) {old new : K} where
  -- nothing was written
  unwritten : new ≡ old → Appends (written old) (written new) []
  unwritten same = subst (λ (k : K). Appends (written old) (written k) []) (sym same)
      (Appends-nil (written old))

  -- a run that stopped out of memory
  run_cut : (options : RunOptions) (m : Machine)
      → IsRunCutShort written options.only m (run_by_rule options.rule m) old new
      → IsOutOfMemoryPrefix (written old) (written new) (printed_run_answer options m)
  run_cut options m (inl same) = inl (unwritten same)
  run_cut options m (inr (inl s)) =
      let passing = filter (passes options.only m) in
      let parts = sym (filter-append (passes options.only m) s.front (s.row ∷ s.rest))
      ∙ ap passing s.parts in
      inr (inl (stops_at_line (fields_of m) (passing s.front) (passing s.rest) s.row
      (passing (run_rows m (run_by_rule options.rule m))) (rw s.passed at parts) s.appended))
  run_cut options m (inr (inr (overflowed, all))) = inr (inr (rw (overflowed.1) refl, all))

  second_cut : (m : Machine) → IsSecondRunCutShort written m (second_order_run m) old new
      → IsOutOfMemoryPrefix (written old) (written new) (second_run_answer m)
  second_cut m (inl same) = inl (unwritten same)
  second_cut m (inr (inl s)) = inr (inl
      (stops_at_line (fields2_of m) s.front s.rest s.row _ s.parts s.appended))
  second_cut m (inr (inr (overflowed, all))) = inr (inr (rw (overflowed.1) refl, all))

module _ {K : Type 0} {written : K → Option (List ℕ)} {faults : K → ℕ} {failed : K → Bool}
    {old new : K} where
  -- an allocation failed after complete lines
  cut_writes : (a : Answer) → IsOutOfMemoryPrefix (written old) (written new) a
      → faults new ≡ faults old
      → WritesAnswer written faults failed true (λ b. b ≡ a) outcome.Memory old new
  cut_writes a cut calm = record {
    answered = inr (record {
      answer = a;
      such = refl;
      outcome = cut;
    });
    output = record {
      not_usage = λ e. cc e;
      not_read = λ e. cc e;
      frame = record {
        untouched = λ e. absurd (cc e);
        no_new_fault = λ e. calm;
        fault_was_last = λ e. absurd (cc e);
      };
    };
  }

  -- the run by a rule, restricted to the name of a filter
  pub run_writes : (options : RunOptions) (m : Machine) (end : RunResult)
      → IsRunWritten written faults failed m (run_by_rule options.rule m) options.only end old new
      → WritesAnswer written faults failed true (λ a. a ≡ printed_run_answer options m)
      (outcome_of_run end) old new
  run_writes options m played.Ended h = answer_writes (printed_run_answer options m) refl refl
      (rw (h.end) refl) (rw (h.end) refl) (h.whole refl) (h.calm (λ e. cc e))
      (λ e. absurd (cc e))
  run_writes options m (played.Overflowed name tick) h =
      let (var, overflow, name_is, tick_is) = h.end in
      answer_writes (printed_run_answer options m) refl refl (rw overflow refl)
      (rw (overflow, name_is, tick_is) refl) (h.whole refl) (h.calm (λ e. cc e))
      (λ e. absurd (cc e))
  run_writes options m played.Fault h =
      fault_writes (printed_run_answer options m) refl (λ e. cc e) h.prefix (h.last refl)
  run_writes options m played.Memory h = cut_writes (printed_run_answer options m)
      (run_cut written options m (h.short refl)) (h.calm (λ e. cc e))

  -- the second-order run
  pub second_writes : (m : Machine) (end : RunResult)
      → IsSecondRunWritten written faults failed m (second_order_run m) end old new
      → WritesAnswer written faults failed true (λ a. a ≡ second_run_answer m)
      (outcome_of_run end) old new
  second_writes m played.Ended h = answer_writes (second_run_answer m) refl refl (rw (h.end) refl)
      (rw (h.end) refl) (h.whole refl) (h.calm (λ e. cc e)) (λ e. absurd (cc e))
  second_writes m (played.Overflowed name tick) h =
      let (var, overflow, name_is) = h.end in
      answer_writes (second_run_answer m) refl refl (rw overflow refl)
      (rw (overflow, name_is) refl) (h.whole refl) (h.calm (λ e. cc e)) (λ e. absurd (cc e))
  second_writes m played.Fault h =
      fault_writes (second_run_answer m) refl (λ e. cc e) h.prefix (h.last refl)
  second_writes m played.Memory h = cut_writes (second_run_answer m)
      (second_cut written m (h.short refl)) (h.calm (λ e. cc e))
