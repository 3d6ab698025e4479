-- The frame conditions of calls.
use Rattle.qss_top.proofs.Common
use Common.{[], ℕ, ◌++◌, ◌∙◌, ◌≡◌, ◌≢◌, ◌⊎◌, AddsReadings, Answer, ap, append_assoc, Appends}
use Common.{Appends-nil, arith, Bool, command_on, command_with, false, Files, HasOneMoreFault, inl}
use Common.{inr, IsAnsweredBy, IsFileFrame, IsMessageText, IsOf, leaves_out, line_text, List}
use Common.{Message, Option, Outcome, Reading, refl, refusal, Some, status_of, subst, sym, Task}
use Common.{true, TwoFileTask, writes_as_it_goes, WritesAnswer}
use Rattle.std.proofs.lemmas.List.Elements.{All-nil, All-append}
use Rattle.mu_io.specs.Sinks.{AppendsPrefix, EndsByFault}
use Rattle.qss_top.specs.Tasks.{task_goes}
use Rattle.qss_top.specs.Frames.{IsOutputFrame}
use Rattle.qss_top.proofs.OutcomeFacts.{is_answer, whole_outcome}
use Rattle.qss_cli.specs.declared.request.Task.TheVariants as tasks
use Rattle.qss_cli.specs.declared.request.TwoFileTask.TheVariants as two
use Rattle.qss_top.specs.declared.command_outcome.Outcome.TheVariants as outcome

-- ---- the output

module _ {K : Type 0} (faults : K → ℕ) (failed : K → Bool) where
  -- nothing is written
  pub unwritten_output : (goes : Bool) (what : Outcome) (k : K) → what ≢ outcome.WriteFault
      → IsOutputFrame faults failed goes what k k
  unwritten_output goes what k write = record
      { untouched = λ e. refl; no_new_fault = λ e. refl; fault_was_last = λ e. absurd (write e) }

module _ {K : Type 0} {written : K → Option (List ℕ)} {faults : K → ℕ} {failed : K → Bool}
    {goes : Bool} {Is : Answer → Type 0} where
  -- an allocation failed, and nothing was written
  pub memory_writes : {k : K} → WritesAnswer written faults failed goes Is outcome.Memory k k
  memory_writes {k} = record {
    answered = inl (refl, Appends-nil (written k));
    output = record {
      not_usage = λ e. cc e;
      not_read = λ e. cc e;
      frame = unwritten_output faults failed goes outcome.Memory k (λ e. cc e);
    };
  }

  -- the whole text of an answer was written
  pub answer_writes : {what : Outcome} {old new : K} (a : Answer) → is_answer what ≡ true → Is a
      → status_of what ≡ a.status → IsMessageText a.line (line_text what)
      → Appends (written old) (written new) a.out → faults new ≡ faults old
      → (leaves_out goes (status_of what) ≡ true → new ≡ old)
      → WritesAnswer written faults failed goes Is what old new
  answer_writes {what} {old} {new} a told is status line all calm untouched = record {
    answered = inr (record {
      answer = a;
      such = is;
      outcome = whole_outcome a what (written old) (written new) told
          (record { status = status; line = line; text = all });
    });
    output = record {
      not_usage = other outcome.Usage refl;
      not_read = other outcome.ReadFault refl;
      frame = record {
        untouched = untouched;
        no_new_fault = λ e. calm;
        fault_was_last = λ e. absurd (other outcome.WriteFault refl e);
      };
    };
  }
    where
      other : (x : Outcome) → is_answer x ≡ false → what ≢ x
      other x none e = let same = ap is_answer e in cc (told, none, same)

  -- an input is rejected
  pub rejection_writes : {what : Outcome} {k : K} (line : Message) → is_answer what ≡ true
      → Is (refusal (status_of what) line) → IsMessageText line (line_text what)
      → WritesAnswer written faults failed goes Is what k k
  rejection_writes {what} {k} line told is said = answer_writes (refusal (status_of what) line) told
      is refl said (Appends-nil (written k)) refl (λ e. refl)

  -- a write failed in a text that is not empty
  pub fault_writes : {old new : K} (a : Answer) → Is a → a.out ≢ []
      → AppendsPrefix (written old) (written new) a.out → EndsByFault faults failed old new
      → WritesAnswer written faults failed goes Is outcome.WriteFault old new
  fault_writes {old} {new} a is some prefix last = record {
    answered = inr (record {
      answer = a;
      such = is;
      outcome = record { prefix = prefix; some_text = some };
    });
    output = record {
      not_usage = λ e. cc e;
      not_read = λ e. cc e;
      frame = record {
        untouched = λ e. absurd (cc e);
        no_new_fault = λ e. absurd (e refl);
        fault_was_last = λ e. last;
      };
    };
  }

-- the answers are also such answers
pub map_answers : {K : Type 0} {written : K → Option (List ℕ)} {faults : K → ℕ}
    {failed : K → Bool} {goes : Bool} {Is Others : Answer → Type 0} {what : Outcome} {old new : K}
    → ((a : Answer) → Is a → Others a) → WritesAnswer written faults failed goes Is what old new
    → WritesAnswer written faults failed goes Others what old new
map_answers {written = written} {Others = Others} {what} {old} {new} step h = record {
  answered = elim h.answered as (λ x. ((what ≡ outcome.Memory)
      × Appends (written old) (written new) [])
      ⊎ IsAnsweredBy Others what (written old) (written new)) [
        | inl none ↦ inl none
        | inr is ↦ inr
            (record { answer = is.answer; such = step is.answer is.such; outcome = is.outcome })
      ];
  output = h.output;
}

-- ---- the files

-- the readings of two calls, one after the other
joined : (files middle : Option Files) (old mid new : List Reading) → middle ≡ files
    → AddsReadings files old mid → AddsReadings middle mid new → AddsReadings files old new
joined files middle old mid new same first second = record {
  added = second.added ++ first.added;
  parts = second.parts ∙ ap (λ (rs : List Reading). second.added ++ rs) first.parts
      ∙ sym (append_assoc second.added first.added old);
  possible = λ known e. All-append (IsOf known) second.added first.added
      (second.possible known (same ∙ e)) (first.possible known e);
}

module _ {S : Type 0} (known : S → Option Files) (counts : S → List ℕ → ℕ)
    (readings : S → List Reading) (what : Outcome) where
  -- no file is read
  pub unread : what ≢ outcome.ReadFault → (shelf : S)
      → IsFileFrame known counts readings what shelf shelf
  unread not_read shelf = record {
    same_files = refl;
    counts_never_fall = λ name. omega arith;
    adds_readings = record {
      added = [];
      parts = refl;
      possible = λ files e. All-nil (IsOf files);
    };
    no_read_fault = λ e name. refl;
    fault_was_last = λ e. absurd (not_read e);
  }

  -- files are read without a fault, and then others
  pub read_on : (first : Outcome) → first ≢ outcome.ReadFault → (old mid new : S)
      → IsFileFrame known counts readings first old mid
      → IsFileFrame known counts readings what mid new
      → IsFileFrame known counts readings what old new
  read_on first not_read old mid new one two = record {
    same_files = two.same_files ∙ one.same_files;
    counts_never_fall = λ name.
        omega (arith, one.counts_never_fall name, two.counts_never_fall name);
    adds_readings = joined (known old) (known mid) (readings old) (readings mid) (readings new)
        one.same_files one.adds_readings two.adds_readings;
    no_read_fault = λ e name. two.no_read_fault e name ∙ one.no_read_fault not_read name;
    fault_was_last = λ e. let last = two.fault_was_last e in record {
      name = last.name;
      bytes = last.bytes;
      earlier = last.earlier;
      last = last.last;
      incremented = subst (λ (n : ℕ). HasOneMoreFault n (counts new last.name))
          (one.no_read_fault not_read last.name) last.incremented;
      others = λ other apart. last.others other apart ∙ one.no_read_fault not_read other;
    };
  }

-- ---- which calls write while they run

pub task_goes_on : (task : Task) (model : List ℕ) → task_goes task ≡ writes_as_it_goes
    (Some (command_with task model))
task_goes_on (tasks.Run options) model = refl
task_goes_on tasks.Propose model = refl
task_goes_on tasks.Second model = refl
task_goes_on tasks.Coupled model = refl

pub two_files_write_at_end : (task : TwoFileTask) (model text : List ℕ) → false ≡ writes_as_it_goes
    (Some (command_on task model text))
two_files_write_at_end (two.Certify share) model text = refl
two_files_write_at_end two.Upgrade model text = refl
two_files_write_at_end two.Check model text = refl
two_files_write_at_end (two.Compare sides) model text = refl
