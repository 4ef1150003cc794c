-- The records that are answered in place of a blocked name's, one by one.
use Rattle.std.specs.Prelude.{◌≡◌, ℕ, List, [], ◌∷◌, ◌++◌, Option, Some, None}
use Rattle.zst_request.specs.Blocking.{BlockedAnswer, IsText, sinkhole}
use Rattle.zst_request.specs.Handling.{ShowsBlocked}
use Rattle.zst_request.specs.Views.{Blocklist}
use Rattle.zst_request.specs.dnw_codes.declared.dns_class.DNSClass.TheVariants.{IN}
use Rattle.zst_request.specs.dnw_codes.declared.record_type.RecordType.{RecordType}
use Rattle.zst_request.specs.dnw_name.DomainName.{DomainName, lowercase_name}
use Rattle.zst_request.specs.drd_rdata.declared.rdata.RData.{RData}
use Rattle.zst_request.specs.zst_handler.declared.auth_lookup.AuthLookup.{AuthLookup}
use Rattle.zst_request.specs.zst_record.Records.{record_with}
use Rattle.zst_request.specs.zst_record.declared.records.Record.{Record}

-- The address to which a blocked name leads, under the name in lower case.
abbrev pub address_record : Blocklist → DomainName → RecordType → Record
address_record blocklist name record_type =
    record_with (lowercase_name name) IN blocklist.ttl (sinkhole blocklist record_type)

-- What a list answers to a name that it blocks.
abbrev pub answer_of : Blocklist → DomainName → RecordType → BlockedAnswer
answer_of blocklist name record_type = record {
  address = address_record blocklist name record_type;
  message = blocklist.block_message;
}

-- Behind the records stands a text of these octets.
pub record PutsText (owner : DomainName) (ttl : ℕ) (octets : List ℕ) (old new : List Record) :
    Type 0 where
  pub value : RData
  pub text : IsText octets value
  pub behind : new ≡ old ++ record_with owner IN ttl value ∷ []

-- The answer to a blocked name, or that none is.
abbrev pub ShowsIf : Option BlockedAnswer → Option AuthLookup → Type 0
ShowsIf None found = found ≡ None
ShowsIf (Some answer) found =
    (shown : AuthLookup) × (found ≡ Some shown) × ShowsBlocked answer shown
