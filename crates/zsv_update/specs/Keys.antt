-- The keys that a server shares with others (RFC 8945), as functions of what they are given.
use Rattle.std.specs.Prelude.{ℕ, List, Option, None}
use Rattle.zsv_chains.specs.zst_request.Updating.{SigningContext}
use Rattle.zsv_chains.specs.zst_request.dnw_codes.declared.dns_class.DNSClass.{DNSClass}
use Rattle.zsv_chains.specs.zst_request.dnw_name.DomainName.{DomainName}
use Rattle.zsv_chains.specs.zst_request.zst_codes.declared.settings.TsigVerdict.{TsigVerdict}
use Rattle.zsv_chains.specs.zst_request.zst_codes.declared.settings.TsigVerdict.TheVariants as verdicts
use Rattle.zsv_reply.specs.zsv_message.zsv_parts.Signatures.{Signed, signed_of}
use Rattle.zsv_reply.specs.zsv_message.zsv_parts.declared.tsig.TsigRecord.{TsigRecord}

-- What a TSIG record says (RFC 8945, section 4.2), its octets as lists.
pub record Signature : Type 0 where
  pub name : DomainName
  pub dns_class : DNSClass
  pub ttl : ℕ
  pub algorithm : DomainName
  pub signed : Signed

abbrev pub signature_of : TsigRecord → Signature
signature_of r = record {
  name = r.name;
  dns_class = r.dns_class;
  ttl = r.ttl;
  algorithm = r.rdata.algorithm;
  signed = signed_of r.rdata;
}

-- The verdict on the signature of a message for a zone, over all octets of the message and at a
-- moment (RFC 8945, section 5.2); and the signature of a reply with these octets, if there is a key
-- for it (RFC 8945, section 5.3).
pub record Keys : Type 0 where
  pub verdict : DomainName → Signature → List ℕ → ℕ → TsigVerdict
  pub signature : SigningContext → List ℕ → Option Signature

-- No keys: every key is unknown, and none signs.
abbrev pub no_keys : Keys
no_keys = record {
  verdict = λ zone signature octets moment. verdicts.UnknownKey;
  signature = λ context octets. None;
}
