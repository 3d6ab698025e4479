-- All places are of the tick.
use Rattle.qss_order2.proofs.Common
use Common.{ℕ, ℤ, ◌<◌, ◌∙◌, ◌≡◌, ap, arith, Global, int_at, length, levels_on, List, motion_at}
use Common.{Place, place_in, place_there, rise_on, rises_on, state_count, states_on, Vec}
use Rattle.qss_order2.proofs.Motions.{can_move, same_motion, levels_all, states_all, rises_all}
use Rattle.qss_order2.proofs.order2_events.move_all_at_event.Goals as goal

pub advance-requires-clause-moves : goal.advance-requires-clause-moves
advance-requires-clause-moves c =
    rw c.requires.lists.places (can_move c.requires.lists c.requires.movable c.args.tick
    (omega arith) (omega arith))

pub advance-requires-clause-list : goal.advance-requires-clause-list
advance-requires-clause-list c k d h = omega (arith, c.requires.all k d h, c.requires.lists.places)

pub returns : goal.returns
returns c =
    let m = c.args.f.now.machine in
    let n = state_count m in
    let q = c.args.q.now in
    let l = c.requires.lists in
    let tick = c.args.tick in
    let new = c.advance.new.self in
    let is = c.advance.ensures in
    let ps : List Place = new.places.items in
    let rs : List ℤ = new.rises.items in
    let changes : new.changes.items ≡ q.changes.items =
    ap (λ (v : Vec ℤ Global). v.items) is.changes in
    let bends : new.bends.items ≡ q.bends.items = ap (λ (v : Vec ℤ Global). v.items) is.bends in
    let each : (j : ℕ) → j < n → place_in ps j ≡ place_there tick q j =
    λ j h. is.places.each j (c.requires.each j h) in
    let own : (j : ℕ) → j < n → int_at rs j ≡ rise_on (place_in q.places.items j)
    (int_at q.rises.items j) (int_at q.bends.items j) tick =
    λ j h. is.rises.each j (c.requires.each j h) in
    record {
      lists = record {
        places = is.places.as_many ∙ l.places;
        changes = ap length changes ∙ l.changes;
        rises = is.rises.as_many ∙ l.rises;
        bends = ap length bends ∙ l.bends;
      };
      same = same_motion (motion_at m new tick) (motion_at m q tick)
          (ap (λ (xs : List ℤ). states_on n ps rs xs tick) bends ∙ states_all m q tick ps rs each)
          (ap (λ (xs : List ℤ). levels_on n ps xs tick) changes ∙ levels_all m q tick ps rs each)
          changes
          (ap (λ (xs : List ℤ). rises_on n ps rs xs tick) bends
          ∙ rises_all m q tick ps rs each own) bends;
      here = λ j h. ap (λ (p : Place). p.since) (each j h);
    }
