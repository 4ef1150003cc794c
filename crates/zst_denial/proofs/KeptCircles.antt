-- A zone stays secured where its owners, their types and the records of its circle stay.
use Rattle.std.proofs.Common.{◌≡◌, not, ◌&&◌, ◌||◌, refl, sym, ap, ◌∙◌, nat_lt, length}
use Rattle.std.specs.Prelude.{option_map, Option, Some, None, IsSomeAnd}
use Rattle.zst_handler.specs.Zones.{Zone, rrset_at}
use Rattle.zst_handler.specs.dnw_codes.declared.record_type.RecordType.{RecordType}
use Rattle.zst_handler.specs.dnw_codes.declared.record_type.RecordType.TheVariants as kind
use Rattle.zst_handler.specs.dnw_codes.RecordType.{same_record_type}
use Rattle.zst_handler.specs.dnw_name.DomainName.{DomainName, is_at_or_below}
use Rattle.zst_handler.specs.zst_record.RecordSets.{RRset}
use Rattle.zst_hash.specs.zst_key.Ancestors.{up}
use Rattle.zst_denial.specs.Circles.{Follows, IsAuthoritativeName, IsCutOff, IsNsecSet, IsSecured, is_delegation, is_listed}
use Rattle.zst_denial.specs.Kept.{HaveSameCircle}

-- ---- two zones the other way round
pub turned : (old new : Zone) → HaveSameCircle old new → HaveSameCircle new old
turned old new same = record {
  origin = sym same.origin;
  owned = λ name t. sym (same.owned name t);
  records = λ name t circle. sym (same.records name t circle);
}

-- ---- which names are on the circle
pub same_delegation : (old new : Zone) → HaveSameCircle old new → (name : DomainName) → is_delegation new name ≡ is_delegation old name
same_delegation old new same name =
    λ i. (is_at_or_below name (same.origin i) && nat_lt (length (same.origin i).labels) (length name.labels)) && same.owned name kind.NS i

cut_off : (old new : Zone) → HaveSameCircle old new → (name : DomainName) → IsCutOff old name → IsCutOff new name
cut_off old new same name cut = record { levels = cut.levels; proper = cut.proper; cut = same_delegation old new same (up name cut.levels) ∙ cut.cut }

pub still_authoritative : (circle : RecordType) (old new : Zone) → HaveSameCircle old new → (name : DomainName) → IsAuthoritativeName circle old name → IsAuthoritativeName circle new name
still_authoritative circle old new same name on = record {
  record_type = on.record_type;
  other = on.other;
  owns = same.owned name on.record_type ∙ on.owns;
  in_zone = ap (λ (o : DomainName). is_at_or_below name o) same.origin ∙ on.in_zone;
  uncut = λ cut. on.uncut (cut_off new old (turned old new same) name cut);
}

follows_still : (circle : RecordType) (old new : Zone) → HaveSameCircle old new → (owner next : DomainName) → Follows circle old owner next → Follows circle new owner next
follows_still circle old new same owner next f = record {
  on = still_authoritative circle old new same next f.on;
  none = λ name on. f.none name (still_authoritative circle new old (turned old new same) name on);
}

-- ---- what they own
listed_still : (old new : Zone) → HaveSameCircle old new → (name : DomainName) (t : RecordType) → is_listed new name t ≡ is_listed old name t
listed_still old new same name t =
    λ i. same_record_type t kind.RRSIG || (same_record_type t kind.NSEC || (same.owned name t i
    && (not (same_delegation old new same name i) || (same_record_type t kind.NS || same_record_type t kind.DS))))

-- From a predicate of the old set to one of the new set, which has the same records.
pub moved : (P Q : RRset → Type 0) (old new : Option RRset) → option_map (λ (s : RRset). s.records) new ≡ option_map (λ (s : RRset). s.records) old
    → ((s r : RRset) → r.records ≡ s.records → P s → Q r) → IsSomeAnd old P → IsSomeAnd new Q
moved P Q None new e f is = absurd is
moved P Q (Some s) None e f is = absurd (cc e)
moved P Q (Some s) (Some r) e f is = let same : r.records ≡ s.records = cc e in f s r same is

nsec_still : (old new : Zone) → HaveSameCircle old new → (owner : DomainName) (s r : RRset) → r.records ≡ s.records → IsNsecSet old owner s → IsNsecSet new owner r
nsec_still old new same owner s r e n = record {
  only = n.only;
  one = e ∙ n.one;
  octets = n.octets;
  held = n.held;
  next = n.next;
  types = n.types;
  are = n.are;
  following = n.following;
  labels = n.labels;
  follows = follows_still kind.NSEC old new same owner n.following n.follows;
  lists = λ t small. n.lists t small ∙ sym (listed_still old new same owner t);
}

pub secured_still : (old new : Zone) → HaveSameCircle old new → IsSecured old → IsSecured new
secured_still old new same secured = record {
  each = λ name on.
      moved (IsNsecSet old name) (IsNsecSet new name) (rrset_at old.sets name kind.NSEC) (rrset_at new.sets name kind.NSEC)
      (same.records name kind.NSEC refl) (nsec_still old new same name)
      (secured.each name (still_authoritative kind.NSEC new old (turned old new same) name on));
  only = λ name owns. still_authoritative kind.NSEC old new same name (secured.only name (sym (same.owned name kind.NSEC) ∙ owns));
}
