-- A call of a first-order simulator, and a run from its start.
use Rattle.qss_events.proofs.Common
use Common.{[], ℕ, ◌++◌, ◌+◌, ◌<◌, ◌∙◌, ◌≡◌, All, All-head, ap, arith, Bool, discrete_count}
use Common.{EndsFrom, Events, first_view, get_or, HasVariable, inl, inr, length, level_by, line_of}
use Common.{List, Machine, Option, Outcome, Over, passes, pos, refl, remaining_rows, remaining_run}
use Common.{Row, row_lines, rows_left, Rule, run_by_rule, run_rows, RunView, state_count, subst}
use Common.{sym, text_in}
use Rattle.qss_rows.specs.RowTexts.{header}
use Rattle.qss_rows.specs.declared.simulation_rows.RunResult.{RunResult}
use Rattle.qss_rows.specs.declared.simulation_rows.RunEnd.{RunEnd}
use Rattle.qss_events.specs.RemainingRows.{outcome_of}
use Rattle.qss_events.specs.RunTexts.{run_text, IsRunResult, IsRunCutShort, IsRunWritten}
use Rattle.qss_rows.specs.Simulations.{HasResult, IsCutAtLine, IsSimulated}
use Rattle.qss_rows.proofs.WrittenLines.{writes_none}
use Rattle.qss_events.proofs.FromStart.{rows_are, run_is}
use Rattle.qss_rows.proofs.KnownParts.{all_front, all_back}
use Rattle.qss_rows.proofs.RowLines.{lines_by-append, length-by}
use Rattle.qss_events.proofs.RunLines.{row_text, stops_before}
use Rattle.qss_events.proofs.RunEnds.{IsCall, same_end, event_end}
use Rattle.qss_machine.specs.declared.machine_parts.RowKind.TheVariants as kind
use Rattle.qss_rows.specs.declared.simulation_rows.RunResult.TheVariants as played
use Rattle.qss_rows.specs.declared.simulation_rows.RunEnd.TheVariants as end

module _ (rule : Rule) (now new : RunView) (same : new.machine ≡ now.machine) (ahead : rows_left (level_by rule) now ≡ remaining_rows rule new) where
  -- the rows to come are of variables of the machine
  pub known_on : All (HasVariable now.machine) (remaining_rows rule now) → All (HasVariable new.machine) (remaining_rows rule new)
  known_on known =
      subst (λ (m : Machine). All (HasVariable m) (remaining_rows rule new)) (sym same)
      (subst (All (HasVariable now.machine)) ahead (all_back (HasVariable now.machine) now.rows (rows_left (level_by rule) now) known))

  -- the lines to come are those of the event, and all after it
  pub lines_on : (only : Option (List ℕ)) →
      row_lines only now.machine (rows_left (level_by rule) now) ≡ row_lines only new.machine new.rows ++ row_lines only new.machine (rows_left (level_by rule) new)
  lines_on only =
      ap (row_lines only now.machine) ahead
      ∙ ap (λ (m : Machine). row_lines only m (remaining_rows rule new)) (sym same)
      ∙ lines_by-append (passes only new.machine) (line_of new.machine) new.rows (rows_left (level_by rule) new)

-- a row, where any will do
abbrev pub some_row : Row
some_row = record { tick = 0; kind = kind.Start; var = 0; level = pos 0; state = pos 0 }

-- a row of the last event is of a variable of the machine
pub row_known : (only : Option (List ℕ)) (rule : Rule) (s : RunView) (m : Machine) (rows : List Row) (i : ℕ) → m ≡ s.machine → rows ≡ s.rows → All (HasVariable s.machine) (remaining_rows rule s) →
    i < length (row_lines only s.machine s.rows) → HasVariable m (get_or rows i some_row)
row_known only rule s m rows i same own known inside =
    let here : i < length s.rows = omega (arith, inside, length-by (passes only s.machine) (line_of s.machine) s.rows) in
    subst (λ (k : Machine). HasVariable k (get_or rows i some_row)) (sym same)
    (subst (λ (l : List Row). HasVariable s.machine (get_or l i some_row)) (sym own) (all_front (HasVariable s.machine) s.rows (rows_left (level_by rule) s) known i some_row here))

-- a run that goes on ends as before
pub ends_on : (rule : Rule) (now new : RunView) (tick : ℕ) → IsCall rule now new (Events tick) → (outcome : Outcome) → EndsFrom outcome new.tick (remaining_run rule new) → EndsFrom outcome now.tick (remaining_run rule now)
ends_on rule now new tick call outcome e = same_end outcome new.tick now.tick (remaining_run rule new) (remaining_run rule now) (sym (event_end rule now new tick call)) e

-- a variable that overflows is one of the machine
pub over_in : (rule : Rule) (now new : RunView) (tick var : ℕ) → IsCall rule now new (Over tick var) → All (HasVariable new.machine) (remaining_rows rule new) → var < state_count now.machine + discrete_count now.machine
over_in rule now new tick var call known =
    subst (λ (m : Machine). var < state_count m + discrete_count m) call.machine
    (All-head (HasVariable new.machine) _ [] (subst (All (HasVariable new.machine)) call.next.1.own_rows (all_front (HasVariable new.machine) new.rows (rows_left (level_by rule) new) known)) refl)

-- ---- from the start

-- the lines and the end of a simulator
abbrev lines_at : Option (List ℕ) → Rule → RunView → List (Option (List ℕ))
lines_at only rule s = row_lines only s.machine s.rows ++ row_lines only s.machine (rows_left (level_by rule) s)

abbrev EndsAt : Rule → RunView → RunEnd → Type 0
EndsAt rule s e = EndsFrom (outcome_of e) s.tick (remaining_run rule s)

module _ (only : Option (List ℕ)) (rule : Rule) (m : Machine) where
  lines_are : lines_at only rule (first_view m) ≡ row_lines only m (run_rows m (run_by_rule rule m))
  lines_are =
      sym (lines_by-append (passes only m) (line_of m) (first_view m).rows (rows_left (level_by rule) (first_view m))) ∙ ap (row_lines only m) (rows_are rule m)

  text_is : header ++ text_in (lines_at only rule (first_view m)) ≡ run_text only m (run_by_rule rule m)
  text_is = ap (λ (l : List ℕ). header ++ l) (ap text_in lines_are ∙ row_text only m (run_rows m (run_by_rule rule m)))

  ends_are : (e : RunEnd) → EndsAt rule (first_view m) e → EndsFrom (outcome_of e) 0 (run_by_rule rule m)
  ends_are e h = subst (EndsFrom (outcome_of e) 0) (run_is rule m) h

  told_so : (result : RunResult) → HasResult m (EndsAt rule (first_view m)) result → IsRunResult m (run_by_rule rule m) result
  told_so played.Ended e = ends_are end.Done e
  told_so (played.Overflowed name tick) e =
      let is = ends_are (end.Over tick e.0) e.1 in
      (e.0, is.0, e.2, omega (arith, is.1))
  told_so played.Fault e = tt
  told_so played.Memory e = tt

  module _ {K : Type 0} (written : K → Option (List ℕ)) (faults : K → ℕ) (failed : K → Bool) (result : RunResult) (old new : K) where
    cut_short : IsCutAtLine written (EndsAt rule (first_view m)) (lines_at only rule (first_view m)) old new → IsRunCutShort written only m (run_by_rule rule m) old new
    cut_short (inl s) = inr (inl (stops_before written header m old new only (run_rows m (run_by_rule rule m)) (rw (sym lines_are) s)))
    cut_short (inr (over, all)) = inr (inr ((over.1, (ends_are (end.Over over.0 over.1) over.2).0), rw (sym text_is) all))

    first_played : IsSimulated written faults failed m (EndsAt rule (first_view m)) (lines_at only rule (first_view m)) result old new → IsRunWritten written faults failed m (run_by_rule rule m) only result old new
    first_played p = record {
      end = told_so result p.end;
      whole = λ e. rw (sym text_is) (p.whole e);
      prefix = rw (sym text_is) p.prefix;
      short = λ e. cut_short (p.short e);
      calm = p.calm;
      last = p.last;
    }

-- a simulator at the start of the run of a machine played it
pub plays : {K : Type 0} (written : K → Option (List ℕ)) (faults : K → ℕ) (failed : K → Bool) (rule : Rule) (m : Machine) (course : RunView) (filter only : Option (List ℕ)) (result : RunResult) (old new : K) →
    course ≡ first_view m → filter ≡ only → IsSimulated written faults failed course.machine (EndsAt rule course) (lines_at filter rule course) result old new → IsRunWritten written faults failed m (run_by_rule rule m) only result old new
plays written faults failed rule m course filter only result old new start kept p =
    first_played only rule m written faults failed result old new
    (subst (λ (o : Option (List ℕ)). IsSimulated written faults failed m (EndsAt rule (first_view m)) (lines_at o rule (first_view m)) result old new) kept
    (subst (λ (s : RunView). IsSimulated written faults failed s.machine (EndsAt rule s) (lines_at filter rule s) result old new) start p))

-- nothing was written, since allocation failed
pub plays_nothing : {K : Type 0} (written : K → Option (List ℕ)) (faults : K → ℕ) (failed : K → Bool) (only : Option (List ℕ)) (rule : Rule) (m : Machine) (sink : K) → IsRunWritten written faults failed m (run_by_rule rule m) only played.Memory sink sink
plays_nothing written faults failed only rule m sink = record {
  end = tt;
  whole = λ e. absurd (cc);
  prefix = (writes_none written faults failed sink (run_text only m (run_by_rule rule m))).prefix;
  short = λ e. inl refl;
  calm = λ e. refl;
  last = λ e. absurd (cc);
}
