-- The value of a number token from what its parts were read as.
use Rattle.mu_num.proofs.Common
use Common.{ℕ, ◌+◌, ◌^◌, ◌∙◌, ◌≡◌, ◌≤◌, ap, arith, count_by, false, is_digit, is_exponent_mark}
use Common.{is_minus, is_point, List, list_any, min, number_of, scaled, Significand, significand}
use Common.{take, true, value_read}
use Rattle.std.proofs.Common.{drop}
use Rattle.std.specs.List.{position_or_len}
use Rattle.mu_num.proofs.Reading.{scaled_cut_number, scaled_cut_up, scaled_cut_down}

-- the parts of a token, and what was read of them
pub record IsRead (bs : List ℕ) (i j n z k e : ℕ) : Type 0 where
  pub mark : i ≡ position_or_len is_exponent_mark bs
  pub point : j ≡ position_or_len is_point (take i bs)
  pub number : n ≡ min (significand (take i bs)).number (2 ^ 64)
  pub zeros : z ≡ (significand (take i bs)).zeros
  pub places : k ≡ count_by is_digit (drop (j + 1) (take i bs))
  pub power : e ≡ min (number_of (drop (i + 1) bs)) (2 ^ 64)

-- a power of ten down
pub decimal_down : (bs : List ℕ) (mark point number zeros places power : ℕ) → IsRead bs mark point number zeros places power → list_any is_minus (drop (mark + 1) bs) ≡ true → zeros + 20 ≤ 2 ^ 64
    → scaled number zeros (places + power) ≡ value_read bs
unfolding value_read
decimal_down bs mark point number zeros places power r minus room =
    let s : Significand = significand (take mark bs) in
    let start : scaled number zeros (places + power) ≡ scaled (min s.number (2 ^ 64)) zeros (places + min (number_of (drop (mark + 1) bs)) (2 ^ 64)) =
    ap (λ x. scaled x zeros (places + power)) r.number ∙ ap (λ x. scaled (min s.number (2 ^ 64)) zeros (places + x)) r.power in
    let cut = scaled_cut_number s.number zeros (places + min (number_of (drop (mark + 1) bs)) (2 ^ 64)) ∙ scaled_cut_down s.number zeros (number_of (drop (mark + 1) bs)) places room in
    let names : scaled s.number zeros (places + number_of (drop (mark + 1) bs)) ≡ scaled s.number (s.zeros + 0) (count_by is_digit (drop (point + 1) (take mark bs)) + number_of (drop (mark + 1) bs)) =
    ap (λ x. scaled s.number x (places + number_of (drop (mark + 1) bs))) (let e : zeros ≡ s.zeros + 0 = omega (arith, r.zeros) in e)
    ∙ ap (λ x. scaled s.number (s.zeros + 0) (x + number_of (drop (mark + 1) bs))) r.places in
    rw (← r.mark, ← r.point, minus) (start ∙ cut ∙ names)

-- a power of ten up
pub decimal_up : (bs : List ℕ) (mark point number zeros places power : ℕ) → IsRead bs mark point number zeros places power → list_any is_minus (drop (mark + 1) bs) ≡ false → places + 20 ≤ 2 ^ 64
    → scaled number (zeros + power) places ≡ value_read bs
unfolding value_read
decimal_up bs mark point number zeros places power r minus room =
    let s : Significand = significand (take mark bs) in
    let start : scaled number (zeros + power) places ≡ scaled (min s.number (2 ^ 64)) (zeros + min (number_of (drop (mark + 1) bs)) (2 ^ 64)) places =
    ap (λ x. scaled x (zeros + power) places) r.number ∙ ap (λ x. scaled (min s.number (2 ^ 64)) (zeros + x) places) r.power in
    let cut = scaled_cut_number s.number (zeros + min (number_of (drop (mark + 1) bs)) (2 ^ 64)) places ∙ scaled_cut_up s.number zeros (number_of (drop (mark + 1) bs)) places room in
    let names : scaled s.number (zeros + number_of (drop (mark + 1) bs)) places ≡ scaled s.number (s.zeros + number_of (drop (mark + 1) bs)) (count_by is_digit (drop (point + 1) (take mark bs)) + 0) =
    ap (λ x. scaled s.number (x + number_of (drop (mark + 1) bs)) places) r.zeros
    ∙ ap (λ x. scaled s.number (s.zeros + number_of (drop (mark + 1) bs)) x) (let e : places ≡ count_by is_digit (drop (point + 1) (take mark bs)) + 0 = omega (arith, r.places) in e) in
    rw (← r.mark, ← r.point, minus) (start ∙ cut ∙ names)
