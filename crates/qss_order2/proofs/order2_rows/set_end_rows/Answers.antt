-- Rows at the places of the end.
use Rattle.qss_order2.proofs.Common
use Common.{ℕ, ℤ, ◌++◌, ◌∙◌, ◌≡◌, ap, discrete_rows2, int_at, length, level_row, List, motion_at}
use Common.{place_there, Row2, snapshot_of, state_count, sym, tabulate}
use Rattle.qss_order2.proofs.Motions.{at_states, at_levels}
use Rattle.mu_num.proofs.Tables.{tabulate-same}
use Rattle.qss_order2.specs.declared.order2_rows.Kind2.TheVariants as kind
use Rattle.qss_order2.proofs.order2_rows.set_end_rows.Goals as goal

pub add_levels-requires-clause-moves : goal.add_levels-requires-clause-moves
add_levels-requires-clause-moves c = rw c.requires.lists.places c.requires.moves

pub returns : goal.returns
returns c =
    let m = c.args.f.now.machine in
    let n = state_count m in
    let q = c.args.q.now in
    let tick = c.args.tick in
    let row_of : ℕ → ℤ → ℤ → Row2 = λ j level state. record {
      tick = tick;
      kind = kind.End;
      var = j;
      level = level;
      state = state;
    } in
    let moved : ℕ → Row2 = λ j. row_of j (place_there tick q j).level (place_there tick q j).state
    in
    let w = snapshot_of (motion_at m q tick) in
    let same : tabulate n moved ≡ tabulate n (level_row kind.End tick w) =
    tabulate-same (moved 0) n moved (level_row kind.End tick w) (λ j h.
    ap (λ (l : ℤ). row_of j l (place_there tick q j).state)
    (sym (at_levels n q.places.items q.changes.items tick j h))
    ∙ ap (λ (x : ℤ). row_of j (int_at w.levels j) x)
    (sym (at_states n q.places.items q.rises.items q.bends.items tick j h))) in
    let rows : c.add_levels.new.rows.items ≡ tabulate n (level_row kind.End tick w) =
    c.add_levels.ensures.rows
    ∙ ap (λ (front : List Row2). front ++ tabulate (length q.places.items) moved)
    c.clear.ensures.items
    ∙ ap (λ (k : ℕ). tabulate k moved) c.requires.lists.places ∙ same in
    c.add_discretes.ensures.rows ∙ ap (λ (r : List Row2). r ++ discrete_rows2 kind.End tick m) rows
