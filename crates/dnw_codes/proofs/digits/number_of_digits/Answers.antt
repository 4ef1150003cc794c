use Rattle.std.proofs.Common.{rules}
use Rattle.dnw_codes.proofs.DigitsLemmas.{number_of_digits-parsed, number_of_digits-plus}
use Rattle.dnw_codes.proofs.digits.number_of_digits.Goals as goal

pub returns : goal.returns
returns c = search (rules, number_of_digits-parsed, number_of_digits-plus)
