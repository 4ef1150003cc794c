-- Why a lookup has no records.
use Rattle.std.specs.Prelude.{Bool, false}
use Rattle.zst_codes.specs.ResponseCode.{same_response_code}
use Rattle.zst_codes.specs.declared.lookup_error.LookupError.{LookupError}
use Rattle.zst_codes.specs.declared.lookup_error.LookupError.TheVariants.{ResponseCode}
use Rattle.zst_codes.specs.declared.response_code.ResponseCode.TheVariants.{NXDomain}

-- The name is absent (RFC 2308 2.1).
abbrev pub is_nx_domain : LookupError → Bool
is_nx_domain (ResponseCode code) = same_response_code code NXDomain
is_nx_domain other = false
