use Rattle.report_text.proofs.Digits.{are_hex_digits}
use Rattle.report_text.proofs.laws.addresses_are_hexadecimal.Goals as goal

pub returns : goal.returns
returns c = are_hex_digits
