-- Only due ticks are new, of the affected states.
use Rattle.qss_order2.proofs.Common
use Common.{ℕ, ◌-◌, ◌∙◌, ap, arith, cases_Bool, inl, inr, is_listed, IsDue2, List, motion_at}
use Common.{Option, snapshot_of, subst, sym, until}
use Rattle.qss_order2.proofs.order2_events.prepare_event.Goals as goal

pub set_leaving_dues-requires-clause-list : goal.set_leaving_dues-requires-clause-list
set_leaving_dues-requires-clause-list c k d h = omega (
  arith,
  c.places.ensures.below k d h,
  c.open_event_window.ensures.fits.affected,
)

pub set_leaving_dues-requires-clause-here : goal.set_leaving_dues-requires-clause-here
set_leaving_dues-requires-clause-here c j e = (c.open_event_window.ensures.goes.here j
    (sym (ap (λ (l : List ℕ). is_listed l j) c.places.ensures.places) ∙ e)).1

pub set_leaving_dues-requires-clause-tick : goal.set_leaving_dues-requires-clause-tick
set_leaving_dues-requires-clause-tick c = omega (
  arith,
  c.requires.tick_limit,
  c.args.f.now.machine.has_units.last_tick,
)

pub set_leaving_dues-requires-clause-some : goal.set_leaving_dues-requires-clause-some
set_leaving_dues-requires-clause-some c = c.open_event_window.ensures.keeps.is_window.some

pub set_leaving_dues-requires-clause-count_limit : goal.set_leaving_dues-requires-clause-count_limit
set_leaving_dues-requires-clause-count_limit c = c.open_event_window.ensures.keeps.is_window.few

pub returns-clause-ready : goal.returns-clause-ready
returns-clause-ready c =
    let m = c.args.f.now.machine in
    let s1 = c.open_event_window.new.s in
    let keeps = c.open_event_window.ensures.keeps in
    let w = snapshot_of (motion_at m s1.motion c.args.tick) in
    let reach : ℕ = s1.window - c.args.tick in
    record {
      goes = (let goes = c.open_event_window.ensures.goes in record {
        moves = goes.moves;
        movable =
            goes.movable;
        in_window = goes.in_window;
        bounded = goes.bounded;
        bounded_slopes = goes.bounded_slopes;
        here = goes.here;
      });
      dues = record {
        is_window = keeps.is_window;
        each = λ j h. elim (cases_Bool (is_listed s1.affected.places j)) [
          | inl e ↦ c.set_leaving_dues.ensures.each j (ap (λ (l : List ℕ). is_listed l j)
              c.places.ensures.places ∙ e)
          | inr not ↦
              subst (λ (o : Option ℕ). IsDue2 m w reach j (until c.args.tick o))
              (sym (c.set_leaving_dues.ensures.others j (ap (λ (l : List ℕ). is_listed l j)
              c.places.ensures.places ∙ not))) (keeps.quiet j h not)
        ];
      };
    }

pub returns-clause-fits : goal.returns-clause-fits
returns-clause-fits c =
    let fits = c.open_event_window.ensures.fits in
    record {
      lists = fits.lists;
      dues = c.set_leaving_dues.ensures.as_many ∙ fits.dues;
      left =
          fits.left;
      affected = fits.affected;
      safe_bound = fits.safe_bound;
      levels = fits.levels;
      rows = fits.rows;
    }
