use Rattle.mu_num.proofs.Common.{◌∙◌, sym}
use Rattle.mu_num.proofs.Reading.{continued_number}
use Rattle.mu_num.proofs.literal.continue_literal_digits.Goals as goal

pub returns-clause-number : goal.returns-clause-number
returns-clause-number c =
    continued_number c.args.digits.number c.args.digits.zeros c.args.byte c.shift_literal_digits.result c.append_decimal_digit.result
    (sym c.is_literal_digit.ensures ∙ c.if-not-is_literal_digit.false) c.if-byte-eq48.false c.shift_literal_digits.ensures.value c.append_decimal_digit.ensures.value
