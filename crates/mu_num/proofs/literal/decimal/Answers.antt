use Rattle.mu_num.proofs.Common
use Common.{◌+◌, ◌<◌, ◌^◌, ◌∙◌, ◌≤◌, ap, arith, count_by, is_digit, is_minus, length, list_any, min}
use Common.{number_of, rules, sym, take}
use Rattle.std.proofs.Common.{length-take, length-drop}
use Rattle.std.proofs.lemmas.List.Sums.{count_by-le-length}
use Rattle.mu_num.proofs.Decimals.{value_read_is}
use Rattle.mu_num.proofs.Tokens.{IsRead, decimal_down, decimal_up}
use Rattle.mu_num.proofs.literal.decimal.Goals as goal

pub returns-then-has_literal_minus : goal.returns-then-has_literal_minus
returns-then-has_literal_minus c =
    let read : IsRead c.args.digits.now c.find_literal_exponent-mark.result c.find_literal_point-point.result c.read_literal_digits-read.result.number c.read_literal_digits-read.result.zeros c.count_literal_digits-places.result c.read_literal_number-power.result = record {
      mark = c.find_literal_exponent-mark.ensures.place;
      point = c.find_literal_point-point.ensures.place;
      number = c.read_literal_digits-read.ensures.number;
      zeros = c.read_literal_digits-read.ensures.zeros;
      places = c.count_literal_digits-places.ensures ∙ ap (count_by is_digit) c.literal_bytes_after.ensures;
      power = c.read_literal_number-power.ensures.value ∙ ap (λ bs. min (number_of bs) (2 ^ 64)) c.literal_bytes_after-exponent.ensures;
    } in
    let short : length c.args.digits.now < 2 ^ 63 = search rules in
    let few : c.read_literal_digits-read.result.zeros + 20 ≤ 2 ^ 64 = omega (arith, c.read_literal_digits-read.ensures.count_limit, length-take c.find_literal_exponent-mark.result c.args.digits.now, short) in
    c.scale_literal_to_ratio.ensures ∙ decimal_down _ _ _ _ _ _ _ read (sym (ap (list_any is_minus) c.literal_bytes_after-exponent.ensures) ∙ sym c.has_literal_minus.ensures ∙ c.if-has_literal_minus.true) few ∙ value_read_is c.args.digits.now

pub returns-else-has_literal_minus : goal.returns-else-has_literal_minus
returns-else-has_literal_minus c =
    let read : IsRead c.args.digits.now c.find_literal_exponent-mark.result c.find_literal_point-point.result c.read_literal_digits-read.result.number c.read_literal_digits-read.result.zeros c.count_literal_digits-places.result c.read_literal_number-power.result = record {
      mark = c.find_literal_exponent-mark.ensures.place;
      point = c.find_literal_point-point.ensures.place;
      number = c.read_literal_digits-read.ensures.number;
      zeros = c.read_literal_digits-read.ensures.zeros;
      places = c.count_literal_digits-places.ensures ∙ ap (count_by is_digit) c.literal_bytes_after.ensures;
      power = c.read_literal_number-power.ensures.value ∙ ap (λ bs. min (number_of bs) (2 ^ 64)) c.literal_bytes_after-exponent.ensures;
    } in
    let short : length c.args.digits.now < 2 ^ 63 = search rules in
    let few : c.count_literal_digits-places.result + 20 ≤ 2 ^ 64 = omega (arith, c.count_literal_digits-places.ensures, count_by-le-length is_digit c.literal_bytes_after.result.now, ap length c.literal_bytes_after.ensures, length-drop (c.find_literal_point-point.result + 1) (take c.find_literal_exponent-mark.result c.args.digits.now), length-take c.find_literal_exponent-mark.result c.args.digits.now, short) in
    c.scale_literal_to_ratio-else-has_literal_minus.ensures ∙ decimal_up _ _ _ _ _ _ _ read (sym (ap (list_any is_minus) c.literal_bytes_after-exponent.ensures) ∙ sym c.has_literal_minus.ensures ∙ c.if-has_literal_minus.false) few ∙ value_read_is c.args.digits.now
