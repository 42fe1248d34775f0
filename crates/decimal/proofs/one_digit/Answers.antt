-- `decimal::one_digit`: the bytes from 48 to 57 are digits, and no others.
use Rattle.decimal.proofs.Reading.{digit_byte, other_byte}
use Rattle.decimal.proofs.one_digit.Goals as goal

pub returns-then-is_ascii_digit : goal.returns-then-is_ascii_digit
returns-then-is_ascii_digit c = digit_byte _ _ c.if-is_ascii_digit.ensures.cases c.from.ensures

pub returns-else-is_ascii_digit : goal.returns-else-is_ascii_digit
returns-else-is_ascii_digit c = other_byte _ c.if-is_ascii_digit.ensures.cases
