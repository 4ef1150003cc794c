-- The options of replies: RFC 6891, sections 6 and 7; RFC 5001.
use Rattle.std.specs.Prelude.{◌≡◌, ℕ, Bool, false, List, [], ◌∷◌, Option, Some, None, nat_lt, ◌==◌, unwrap_or, option_map, if◌then◌else◌}
use Rattle.std.specs.List.{list_any}
use Rattle.drd_types.specs.declared.EdnsCode.TheVariants.{NSID}
use Rattle.drd_types.specs.declared.EdnsOption.TheVariants as option_with
use Rattle.drd_types.specs.drd_opt.Entries.{Entry, raw_of}
use Rattle.zsv_reply.specs.zsv_message.zst_edns.declared.edns.Edns.{Edns}
use Rattle.zsv_reply.specs.zsv_message.zsv_parts.zst_codes.ResponseCode.{high_bits}
use Rattle.zsv_reply.specs.zsv_message.zsv_parts.zst_codes.declared.response_code.ResponseCode.{ResponseCode}

-- EDNS of another version than 0 (RFC 6891, section 6.1.3).
abbrev pub has_other_version : Option Edns → Bool
has_other_version edns = unwrap_or (option_map (λ e. nat_lt 0 e.version) edns) false

-- An option of code 3 asks for the server's NSID, which the reply has if the server has one (RFC
-- 5001, section 2).
abbrev pub asks_for_nsid : Edns → Bool
asks_for_nsid edns = list_any (λ entry. (raw_of entry).code == 3) edns.options.options.items

abbrev pub identifier : Edns → Option (List ℕ) → List Entry
identifier asked None = []
identifier asked (Some payload) =
    if asks_for_nsid asked then (NSID, option_with.NSID payload) ∷ [] else []

-- The options of a reply (RFC 6891, sections 6.1.3 and 6.2.3; RFC 3225, section 3): the upper bits
-- of its code, version 0, DO as in the request, no other flag, the payload of the request, which is
-- 512 at least, and no options but the NSID.
pub record IsReplyEdns (asked : Edns) (nsid : Option (List ℕ)) (code : ResponseCode) (edns : Edns) :
    Type 0 where
  pub rcode_high : edns.rcode_high ≡ high_bits code
  pub version : edns.version ≡ 0
  pub dnssec_ok : edns.flags.dnssec_ok ≡ asked.flags.dnssec_ok
  pub other_flags : edns.flags.z ≡ 0
  pub max_payload : edns.max_payload ≡ asked.max_payload
  pub options : edns.options.options.items ≡ identifier asked nsid

-- A reply has an OPT record exactly where the request has one (RFC 6891, section 6.1.1).
abbrev pub AnswersEdns : Option Edns → Option (List ℕ) → ResponseCode → Option Edns → Type 0
AnswersEdns None nsid code None = Unit {0}
AnswersEdns (Some asked) nsid code (Some edns) = IsReplyEdns asked nsid code edns
AnswersEdns None nsid code (Some edns) = ⊥
AnswersEdns (Some asked) nsid code None = ⊥

-- Replies to EDNS of another version have no NSID.
abbrev pub nsid_for : Option Edns → Option (List ℕ) → Option (List ℕ)
nsid_for edns nsid = if has_other_version edns then None else nsid
