-- What lists of blocked names answer, computed on worked rows.
use Rattle.std.proofs.Common.{◌≡◌, ℕ, true, false, List, [], ◌∷◌, refl}
use Rattle.std.specs.Prelude.{codes, None, Some}
use Rattle.zst_denial.specs.dnw_codes.declared.dns_class.DNSClass.TheVariants.{IN}
use Rattle.zst_denial.specs.dnw_codes.declared.record_type.RecordType.TheVariants as types
use Rattle.zst_denial.specs.dnw_name.DomainName.{DomainName, domain_name}
use Rattle.zst_denial.specs.drd_rdata.declared.rdata.RData.TheVariants as rdata
use Rattle.zst_denial.specs.zst_record.Records.{record_with}
use Rattle.zst_request.specs.Blocking.{BlockedAnswer, blocked_answer, is_blocked, unspecified_ipv4}
use Rattle.zst_request.specs.Views.{Blocklist}
use Rattle.zst_request.specs.declared.blocklist.BlocklistConsultAction.TheVariants.{Disabled}

abbrev name_of : List (List ℕ) → DomainName
name_of labels = domain_name true labels

abbrev top : DomainName
top = name_of (codes "com" ∷ [])

abbrev below : List ℕ → DomainName → DomainName
below first name = name_of (first ∷ name.labels)

abbrev foo : DomainName
foo = below (codes "foo") top

abbrev www : DomainName
www = below (codes "www") foo

-- A list with wildcards of so many labels at least.
abbrev listed : ℕ → List DomainName → Blocklist
listed depth names = record {
  origin = name_of [];
  names = names;
  wildcard_match = true;
  min_wildcard_depth = depth;
  sinkhole_ipv4 = None;
  sinkhole_ipv6 = None;
  ttl = 86400;
  block_message = None;
  consult_action = Disabled;
}

abbrev star_foo : Blocklist
star_foo = listed 2 (below (codes "*") foo ∷ [])

-- A name that is listed is blocked, in capitals too.
itself : is_blocked (listed 2 (foo ∷ [])) (below (codes "Foo") top) ≡ true
itself = refl

not_below : is_blocked (listed 2 (foo ∷ [])) www ≡ false
not_below = refl

-- A wildcard stands for what is below its parent, however deep, and not for the parent.
wild : is_blocked star_foo www ≡ true
wild = refl

wild_deep : is_blocked star_foo (below (codes "www") (below (codes "com") foo)) ≡ true
wild_deep = refl

not_parent : is_blocked star_foo foo ≡ false
not_parent = refl

not_wild : is_blocked (record star_foo { wildcard_match = false }) www ≡ false
not_wild = refl

-- One over fewer labels than the depth stands for nothing.
too_wide : is_blocked (listed 2 (below (codes "*") top ∷ [])) www ≡ false
too_wide = refl

wide : is_blocked (listed 0 (below (codes "*") top ∷ [])) www ≡ true
wide = refl

widest : is_blocked (listed 0 (name_of (codes "*" ∷ []) ∷ [])) www ≡ true
widest = refl

abbrev www_answer : BlockedAnswer
www_answer = record {
  address = record_with www IN 86400 (rdata.A (record { 0 = unspecified_ipv4 }));
  message = None;
}

-- The answer stands under the name in lower case.
answered : blocked_answer star_foo (below (codes "WWW") foo) types.TXT ≡ Some www_answer
answered = refl
