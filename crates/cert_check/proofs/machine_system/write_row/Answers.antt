use Rattle.cert_check.proofs.Common
use Common.{ℕ, ℤ, ◌<◌, ◌∙◌, ◌≡◌, ◌≢◌, ap, arith, changed-square, FitsSigned, length, length-changed}
use Common.{Machine, mode_coefficient, row_at, rules, SlopeRow, start_coefficient, start_discretes}
use Common.{state_count, to_z-of_z, w128}
use Rattle.cert_check.proofs.Rowwise.{filled}
use Rattle.cert_check.proofs.StartRows.{row-is}
use Rattle.cert_check.proofs.Tables.{changed-elsewhere}
use Rattle.cert_check.proofs.machine_system.write_row.Goals as goal

-- the mode coefficient in a row, at the start
abbrev in-row : Machine → SlopeRow → ℕ → ℤ
in-row m row k = mode_coefficient m.f (state_count m) row (start_discretes m) k

coefficient-at : (m : Machine) (j : ℕ) (row : SlopeRow) (k : ℕ) (coefficient : ℤ) →
    coefficient ≡ in-row m row k → row ≡ row_at m j → coefficient ≡ start_coefficient m j k
coefficient-at m j row k coefficient own same = own ∙ ap (λ (r : SlopeRow). in-row m r k) same

pub loop-k-preserved : goal.loop-k-preserved
loop-k-preserved c =
    let m = c.args.m.now in
    let v = c.start_mode_coefficient-coefficient.result in
    let fits : FitsSigned w128 c.start_mode_coefficient-coefficient.result = search rules in
    let changed = simp to_z-of_z at c.set.ensures in
    let i< : c.args.j < length c.loop-k.coef = omega (arith, c.loop-k.invariant.size, c.requires.row) in
    let k< : c.loop-k.k < length c.loop-k.coef = omega (arith, c.loop-k.invariant.size, c.loop-k-test.true, c.size-k-end.ensures.size, c.requires.size) in
    let row = c.index-as_slice-from.result in
    let place = rw c.from.ensures at c.index-as_slice-from.is in
    let right_side =
    row-is m c.as_slice.result.now c.args.j row c.as_slice.ensures c.requires.row place in
    let own : c.start_mode_coefficient-coefficient.result ≡ in-row m row c.loop-k.k =
    rw c.from-in-loop-k.ensures at c.start_mode_coefficient-coefficient.ensures in
    let value = coefficient-at m c.args.j row c.loop-k.k v own right_side in
    record {
      size = rw changed (length-changed c.loop-k.coef c.args.j c.loop-k.k v ∙ c.loop-k.invariant.size);
      square = rw changed (changed-square c.loop-k.coef c.args.j c.loop-k.k v i< c.loop-k.invariant.square);
      row = rw changed (filled c.loop-k.coef c.args.j c.loop-k.k v (start_coefficient m c.args.j) c.loop-k.invariant.square i< k< c.loop-k.invariant.row value);
      others = λ i h l q.
          let other : i ≢ c.args.j = omega arith in
          rw changed (changed-elsewhere c.loop-k.coef c.args.j c.loop-k.k i h v other ∙ c.loop-k.invariant.others i h l q);
    }
