-- A call of a second-order simulator, and a run from its start.
use Rattle.qss_order2.proofs.Common
use Common.{[], ℕ, ◌++◌, ◌+◌, ◌-◌, ◌<◌, ◌∙◌, ◌≡◌, All, ap, Bool, discrete_count, EndsAs, Events}
use Common.{first_exceeding_limit, HasVariable2, inl, inr, IsAble, IsNext2, IsRuled2, IsStarted}
use Common.{line2_of, List, Machine, nearest_change, Option, Outcome2, Over, overflow_ahead, refl}
use Common.{row2_lines, rows2_after, rows2_left, run2_rows, second_order_run, SecondRunView}
use Common.{snapshots_from, snapshots_unless, Some, state_count, subst, sym, text_in, true}
use Rattle.std.proofs.lemmas.List.Elements.{All-head}
use Rattle.qss_order2.specs.Events.{unless_ended2}
use Rattle.qss_rows.specs.declared.simulation_rows.RunResult.{RunResult}
use Rattle.qss_rows.specs.declared.simulation_rows.RunEnd.{RunEnd}
use Rattle.qss_order2.specs.RemainingSecondRows.{remaining_second_rows, outcome2_of}
use Rattle.qss_order2.specs.SecondRunTexts.{second_run_text, IsSecondRunResult, IsSecondRunCutShort}
use Rattle.qss_order2.specs.SecondRunTexts.{IsSecondRunWritten}
use Rattle.qss_rows.specs.Simulations.{HasResult, IsCutAtLine, IsSimulated}
use Rattle.qss_rows.proofs.WrittenLines.{writes_none}
use Rattle.qss_order2.proofs.Ahead.{able_before, event_end, start_over, all_rows}
use Rattle.qss_rows.proofs.KnownParts.{all_front, all_back}
use Rattle.qss_order2.proofs.KnownRows2.{run_known}
use Rattle.qss_rows.proofs.RowLines.{lines_by-append}
use Rattle.qss_order2.proofs.SecondLines.{row2_text, stops_before2}
use Rattle.qss_rows.specs.RowTexts.{header}
use Rattle.qss_rows.specs.declared.simulation_rows.RunResult.TheVariants as played
use Rattle.qss_rows.specs.declared.simulation_rows.RunEnd.TheVariants as end

module _ (now new : SecondRunView) (same : new.machine ≡ now.machine)
    (ahead : rows2_left nearest_change now ≡ remaining_second_rows new) where
  -- the rows to come are of variables of the machine
  pub known_on : All (HasVariable2 now.machine) (remaining_second_rows now) →
      All (HasVariable2 new.machine) (remaining_second_rows new)
  known_on known =
      subst (λ (m : Machine). All (HasVariable2 m) (remaining_second_rows new)) (sym same)
      (subst (All (HasVariable2 now.machine)) ahead (all_back (HasVariable2 now.machine) now.rows
      (rows2_left nearest_change now) known))

-- what a call of a simulator under the nearest rule does
pub call_of : (nearest : Bool) (now new : SecondRunView) (what outcome : Outcome2) →
    nearest ≡ true → what ≡ outcome → IsNext2 (IsRuled2 nearest) now new what →
    IsNext2 (IsRuled2 true) now new outcome
call_of nearest now new what outcome e is n =
    subst (λ (o : Outcome2). IsNext2 (IsRuled2 true) now new o) is
    (subst (λ (b : Bool). IsNext2 (IsRuled2 b) now new what) e n)

-- no rows are left of a run that has ended
pub none_left : (s : SecondRunView) (end : Outcome2) → s.end ≡ Some end →
    rows2_left nearest_change s ≡ []
none_left s end e =
    ap (λ (o : Option Outcome2).
    let after = snapshots_unless s.tick (first_exceeding_limit s.machine s.snapshot.levels
    s.snapshot.changes) (snapshots_from nearest_change s.machine (s.machine.last - s.tick)
    s.tick s.snapshot) in
    unless_ended2 o (rows2_after s.machine s.tick s.snapshot after.0 after.1)) e

-- the run of a simulator ends so
abbrev EndsAt : SecondRunView → RunEnd → Type 0
EndsAt s e = IsAble s × EndsAs (outcome2_of e) (overflow_ahead s)

-- a run that goes on ends as before
pub ends_on : (now new : SecondRunView) (tick : ℕ) → new.machine ≡ now.machine →
    IsNext2 (IsRuled2 true) now new (Events tick) → (e : RunEnd) → EndsAt new e → EndsAt now e
ends_on now new tick same n e h = (
  able_before now new (Events tick) n,
  subst (EndsAs (outcome2_of e)) (sym (event_end now new tick same n h.0)) h.1,
)

-- a variable that overflows is one of the machine
pub over_in : (now new : SecondRunView) (tick var : ℕ) → new.machine ≡ now.machine →
    IsNext2 (IsRuled2 true) now new (Over tick var) → All (HasVariable2 new.machine)
    (remaining_second_rows new) →
    var < state_count now.machine + discrete_count now.machine
over_in now new tick var same n known =
    subst (λ (m : Machine). var < state_count m + discrete_count m) same
    (All-head (HasVariable2 new.machine) _ [] (subst (All (HasVariable2 new.machine)) n.0.own_rows
    (all_front (HasVariable2 new.machine) new.rows (rows2_left nearest_change new) known)))

-- ---- from the start

-- the lines of a simulator
abbrev lines_at : Machine → SecondRunView → List (Option (List ℕ))
lines_at m s = row2_lines m s.rows ++ row2_lines m (rows2_left nearest_change s)

module _ (m : Machine) (s : SecondRunView) (started : IsStarted (IsRuled2 true) m s) where
  pub known_ahead : All (HasVariable2 s.machine) (remaining_second_rows s)
  known_ahead = subst (λ (k : Machine). All (HasVariable2 k) (remaining_second_rows s))
      (sym started.machine) (subst (All (HasVariable2 m)) (sym (all_rows m s started))
      (run_known m))

  lines_are : lines_at m s ≡ row2_lines m (run2_rows m (second_order_run m))
  lines_are = sym (lines_by-append (λ row. true) (line2_of m) s.rows (rows2_left nearest_change s))
      ∙ ap (row2_lines m) (all_rows m s started)

  text_is : header ++ text_in (lines_at m s) ≡ second_run_text m (second_order_run m)
  text_is = ap (λ (l : List ℕ). header ++ l) (ap text_in lines_are
      ∙ row2_text m (run2_rows m (second_order_run m)))

  ends_are : (e : RunEnd) → EndsAt s e → EndsAs (outcome2_of e) (second_order_run m).overflow
  ends_are e h = subst (EndsAs (outcome2_of e)) (start_over m s started) h.1

  told_so : (result : RunResult) → HasResult m (EndsAt s) result →
      IsSecondRunResult m (second_order_run m) result
  told_so played.Ended e = ends_are end.Done e
  told_so (played.Overflowed name tick) e = (e.0, ends_are (end.Over tick e.0) e.1, e.2)
  told_so played.Fault e = tt
  told_so played.Memory e = tt

  module _ {K : Type 0} (written : K → Option (List ℕ)) (faults : K → ℕ) (failed : K →
      Bool) (result : RunResult) (old new : K) where
    cut_short : IsCutAtLine written (EndsAt s) (lines_at m s) old new →
        IsSecondRunCutShort written m (second_order_run m) old new
    cut_short (inl at) = inr (inl (stops_before2 written header m old new
        (run2_rows m (second_order_run m)) (rw (sym lines_are) at)))
    cut_short (inr (over, all)) = inr (inr (
      (
        record { tick = over.0; var = over.1 },
        ends_are (end.Over over.0 over.1) over.2,
      ),
      rw (sym text_is) all,
    ))

    second_played : IsSimulated written faults failed m (EndsAt s) (lines_at m s) result old new →
        IsSecondRunWritten written faults failed m (second_order_run m) result old new
    second_played p = record {
      end = told_so result p.end;
      whole = λ e. rw (sym text_is) (p.whole e);
      prefix = rw (sym text_is) p.prefix;
      short = λ e. cut_short (p.short e);
      calm = p.calm;
      last = p.last;
    }

    -- a simulator at the start of the run of a machine played it
    pub plays : IsSimulated written faults failed s.machine (EndsAt s) (lines_at s.machine s)
        result old new → IsSecondRunWritten written faults failed m (second_order_run m)
        result old new
    plays p = second_played (subst (λ (k : Machine). IsSimulated written faults failed k (EndsAt s)
        (lines_at k s) result old new) started.machine p)

-- nothing was written, since an allocation failed
pub plays_nothing : {K : Type 0} (written : K → Option (List ℕ)) (faults : K → ℕ) (failed : K →
    Bool) (m : Machine) (sink : K) → IsSecondRunWritten written faults failed m (second_order_run m)
    played.Memory sink sink
plays_nothing written faults failed m sink = record {
  end = tt;
  whole = λ e. absurd (cc);
  prefix = (writes_none written faults failed sink (second_run_text m (second_order_run m))).prefix;
  short = λ e. inl refl;
  calm = λ e. refl;
  last = λ e. absurd (cc);
}
