-- The options of a reply read back.
use Rattle.std.proofs.Common.{◌≡◌, ◌<◌, ◌≤◌, ◌^◌, ℕ, refl, subst, sym, inl, inr, arith}
use Rattle.std.proofs.lemmas.List.{length-append}
use Rattle.std.proofs.lemmas.List.Elements.{All-nil, All-cons}
use Rattle.std.specs.Prelude.{Bool, true, false, cond, ◌⊎◌, List, [], ◌∷◌, length, Option, Some, None, IfSome}
use Rattle.drd_types.specs.declared.EdnsCode.TheVariants.{NSID}
use Rattle.drd_types.specs.declared.EdnsOption.TheVariants as option_with
use Rattle.drd_types.specs.drd_opt.Entries.{Entry, FitsLengths, entries_octets, raw_option}
use Rattle.drd_types.specs.drd_opt.Reading.{HoldsEntries}
use Rattle.zsv_reply.specs.zsv_message.zst_edns.Writing.{EdnsReadsBack}
use Rattle.zsv_reply.specs.zsv_message.zst_edns.declared.edns.Edns.{Edns}
use Rattle.zsv_reply.specs.zsv_message.zsv_parts.zst_codes.declared.response_code.ResponseCode.{ResponseCode}
use Rattle.zsv_update.specs.Options.{IsReplyEdns, asks_for_nsid, identifier}

-- These options read back, and 16 bits count their octets.
record OptionsBack (entries : List Entry) : Type 0 where
  pub options : (entries ≡ []) ⊎ HoldsEntries (entries_octets entries) entries
  pub counted : length (entries_octets entries) < 2 ^ 16

one_option : (payload : List ℕ) → length payload ≤ 65531 → OptionsBack ((NSID, option_with.NSID payload) ∷ [])
one_option payload short = record {
  options = inr (inl (record {
    raws = raw_option 3 payload ∷ [];
    fit = All-cons FitsLengths (raw_option 3 payload) [] (record { code = omega arith; octets = omega (arith, short) }) (All-nil FitsLengths);
    whole = refl;
    entries_of = (record { code = refl; option = (refl, refl) }, tt);
  }));
  counted = omega (arith, short, length-append payload []);
}

-- The RDATA of an OPT record have room for the NSID, after its code and its length (RFC 6891, section 6.1.2; RFC 5001, section
-- 2.3).
abbrev pub FitsOption : Option (List ℕ) → Type 0
FitsOption nsid = IfSome nsid (λ octets. length octets ≤ 65531)

identifier_back : (asked : Edns) (nsid : Option (List ℕ)) → (asks_for_nsid asked ≡ true → FitsOption nsid) → OptionsBack (identifier asked nsid)
identifier_back asked None fits = record { options = inl refl; counted = omega arith }
identifier_back asked (Some payload) fits = by (asks_for_nsid asked) fits
  where
    by : (b : Bool) → (b ≡ true → FitsOption (Some payload)) → OptionsBack (cond b ((NSID, option_with.NSID payload) ∷ []) [])
    by true short = one_option payload (short refl)
    by false short = record { options = inl refl; counted = omega arith }

pub edns_back : (asked : Edns) (nsid : Option (List ℕ)) (code : ResponseCode) (edns : Edns) → (asks_for_nsid asked ≡ true → FitsOption nsid) → IsReplyEdns asked nsid code edns → EdnsReadsBack edns
edns_back asked nsid code edns fits answers =
    let back = subst OptionsBack (sym answers.options) (identifier_back asked nsid fits) in
    record { flags = omega (arith, answers.other_flags); options = back.options; counted = back.counted }
