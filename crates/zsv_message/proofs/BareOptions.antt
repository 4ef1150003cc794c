-- Options of the root, and none in them, in eleven octets.
use Rattle.std.proofs.Common.{◌≡◌, true, false, ◌+◌, inl, ℕ, Bool, List, [], ◌∷◌, ◌++◌, ◌||◌, refl, sym, subst, arith}
use Rattle.std.specs.Prelude.{None}
use Rattle.zsv_sections.specs.zst_record.dnw_codes.DNSClass.{class_number, class_of}
use Rattle.zsv_sections.specs.zst_record.dnw_codes.declared.dns_class.DNSClass.{DNSClass}
use Rattle.zsv_sections.specs.zst_record.dnw_decoder.Octets.{Stands, octets_16, octets_32}
use Rattle.zsv_sections.specs.zst_record.dnw_decoder.Spelling.{at_end}
use Rattle.zsv_sections.proofs.zst_record_lemmas.dnw_decoder_lemmas.Standing.{length-octets_32, stands_split, stands_within}
use Rattle.zsv_sections.specs.zst_record.dnw_name.DomainName.{domain_name}
use Rattle.zsv_sections.specs.zst_record.drd_rdata.declared.rdata.RData.{RData}
use Rattle.zsv_sections.specs.zst_record.drd_rdata.declared.rdata.RData.TheVariants as rdata
use Rattle.zsv_sections.specs.zst_record.declared.records.Record.{Record}
use Rattle.zsv_sections.specs.Sections.{is_opt, is_root, misplaced, past}
use Rattle.zsv_sections.specs.declared.placing.Placing.{Placing}
use Rattle.zst_edns.specs.Edns.{IsEdnsOf}
use Rattle.zst_edns.specs.declared.edns.Edns.{Edns}
use Rattle.zsv_message.specs.Gathering.{IsBareOpt}
use Rattle.zsv_message.specs.Messages.{OptAt}

-- The record.
abbrev bare_record : DNSClass → ℕ → Edns → Record
bare_record class ttl edns = record {
  name = domain_name true [];
  dns_class = class;
  ttl = ttl;
  rdata = rdata.OPT edns.options;
}

pub bare_options : (message : List ℕ) (place number ttl end : ℕ) (class : DNSClass) (edns : Edns) → IsBareOpt message place number ttl end → (class ≡ class_of number) × (class_number class ≡ number) → IsEdnsOf (class_number class) ttl edns → edns.options.options.items ≡ [] → OptAt message place edns end
bare_options message place number ttl end class edns bare of says none =
    let rest = octets_16 41 ++ (octets_16 number ++ (octets_32 ttl ++ octets_16 0)) in
    let owner = stands_split message place (0 ∷ []) rest end bare.there in
    let typed = stands_split message (place + 1) (octets_16 41) (octets_16 number ++ (octets_32 ttl ++ octets_16 0)) end owner.1 in
    let classed = stands_split message (place + 3) (octets_16 number) (octets_32 ttl ++ octets_16 0) end (subst (λ (p : ℕ). Stands message p (octets_16 number ++ (octets_32 ttl ++ octets_16 0)) end) (omega arith) typed.1) in
    let timed = stands_split message (place + 5) (octets_32 ttl) (octets_16 0) end (subst (λ (p : ℕ). Stands message p (octets_32 ttl ++ octets_16 0) end) (omega arith) classed.1) in
    let counted = subst (λ (p : ℕ). Stands message p (octets_16 0) end) (omega (arith, length-octets_32 ttl)) timed.1 in
    record {
      standing = bare_record class ttl edns;
      there = record {
        owner_end = place + 1;
        type_end = place + 3;
        class_end = place + 5;
        ttl_end = place + 9;
        first = end;
        len = 0;
        owner = record {
          full = refl;
          spelled = at_end (omega (arith, stands_within message place (0 ∷ []) (place + 1) (omega arith) owner.0)) owner.0;
          size = omega arith;
        };
        record_type = record {
          number = 41;
          small = omega arith;
          there = subst (λ (p : ℕ). Stands message (place + 1) (octets_16 41) p) (omega arith) typed.0;
          means = refl;
        };
        dns_class = record {
          number = number;
          small = bare.small_class;
          there = subst (λ (p : ℕ). Stands message (place + 3) (octets_16 number) p) (omega arith) classed.0;
          means = of.0;
        };
        ttl = subst (λ (p : ℕ). Stands message (place + 5) (octets_32 ttl) p) (omega (arith, length-octets_32 ttl)) timed.0;
        small_ttl = bare.small_ttl;
        count = counted;
        small_len = omega arith;
        rdata = inl (refl, (edns.options, refl, none));
        filled = omega arith;
      };
      owner = refl;
      says = (refl, says);
    }

-- Where options may stand, they do.
pub may_stand : (at : Placing) (r : Record) (edns : Edns) → at.is_signed ≡ false → at.is_additional ≡ true → at.has_options ≡ false → is_root r.name ≡ true → r.rdata ≡ rdata.OPT edns.options → misplaced at r ≡ None
may_stand at r edns unsigned additional first root is =
    subst (λ (v : RData). misplaced at (record r { rdata = v }) ≡ None) (sym is)
    (rw unsigned (rw additional (rw first (rw root refl))))

abbrev first_placing : Bool → Bool → Bool → Bool → Placing
first_placing update additional signed has = record { is_update = update; is_additional = additional; is_signed = signed; has_options = has }

-- Behind them.
pub past_options : (at : Placing) (r : Record) (edns : Edns) → at.is_signed ≡ false → r.rdata ≡ rdata.OPT edns.options → record at { has_options = true } ≡ past at r
past_options at r edns unsigned is =
    subst (λ (v : RData). record at { has_options = true } ≡ past at (record r { rdata = v })) (sym is)
    (either at.is_signed at.has_options at.is_update at.is_additional)
  where
    either : (signed has update additional : Bool) → first_placing update additional signed true ≡ first_placing update additional (signed || false) (has || true)
    either true true update additional = refl
    either true false update additional = refl
    either false true update additional = refl
    either false false update additional = refl

pub opt_is : (r : Record) (edns : Edns) → r.rdata ≡ rdata.OPT edns.options → is_opt r ≡ true
opt_is r edns is = subst (λ (v : RData). is_opt (record r { rdata = v }) ≡ true) (sym is) refl
