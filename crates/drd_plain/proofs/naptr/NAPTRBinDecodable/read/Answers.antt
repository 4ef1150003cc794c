use Rattle.std.proofs.Common.{◌≡◌, true}
use Rattle.drd_plain.specs.Fields.{naptr_fields}
use Rattle.drd_words.specs.Word.{are_alphanumeric}
use Rattle.drd_fields.proofs.NoneLaws.{none_valid}
use Rattle.drd_plain.proofs.naptr.NAPTRBinDecodable.read.Goals as goal

pub returns-clause-none : goal.returns-clause-none
returns-clause-none c = none_valid naptr_fields (λ naptr. are_alphanumeric naptr.flags.items ≡ true) c.args.decoder.now.octets c.args.decoder.now.index c.read_value.result c.read_value.ensures.none
