-- The first places are counted from none on.
use Rattle.qss_run.proofs.Common.{ℕ, ◌+◌, ◌∙◌, ◌≡◌, ap, arith, due_at, sym}
use Rattle.qss_run.proofs.event_steps.take_due_states.Goals as goal

counted : (j : ℕ) → 0 + j ≡ j
counted j = omega arith

pub returns-clause-due : goal.returns-clause-due
returns-clause-due c =
    let taken = c.take_all.ensures.taken in
    record {
      numbers = record { rising = taken.numbers.rising; below = taken.numbers.below };
      own = λ j e. sym (ap (due_at c.args.agenda.now) (counted j)) ∙ taken.own j e;
      all = λ j h e. taken.all j h (ap (due_at c.args.agenda.now) (counted j) ∙ e);
    }

pub returns-clause-out : goal.returns-clause-out
returns-clause-out c =
    let out = c.take_all.ensures.taken.out in
    record {
      without = record {
        as_many = out.as_many;
        none = λ j e. sym (ap (due_at c.take_all.new.self) (counted j)) ∙ out.none j e;
        others = λ j e. sym (ap (due_at c.take_all.new.self) (counted j)) ∙ out.others j e ∙ ap (due_at c.args.agenda.now) (counted j);
      };
      room = c.take_all.ensures.room;
    }
