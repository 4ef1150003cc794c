-- What a record denies depends on its owner and its NSEC octets alone.
use Rattle.zst_denial.specs.drd_denial.declared.nsec.NsecData.{NsecData}
use Rattle.std.specs.Prelude.{IfErr, IfOk, MatchBool, MatchOption, Result, Ok, Err, length}
use Rattle.std.proofs.Common.{◌≡◌, ◌==◌, ◌<◌, ◌≤◌, ◌⊎◌, ◌&&◌, ◌++◌, not, get_or, zero, suc, arith, ℕ, Bool, true, false, List, [], ◌∷◌, refl, sym, ap, subst, inl, inr, ◌∙◌, true≢false}
use Rattle.std.specs.Prelude.{Option, Some, None}
use Rattle.std.specs.List.{list_any}
use Rattle.zsv_sections.specs.zst_record.dnw_codes.declared.record_type.RecordType.{RecordType}
use Rattle.zsv_sections.specs.zst_record.dnw_codes.RecordType.{record_type_number}
use Rattle.zsv_sections.specs.zst_record.dnw_name.DomainName.{DomainName, name_cmp, name_eq}
use Rattle.zsv_reply.specs.zst_record.declared.records.Record.{Record}
use Rattle.zsv_reply.specs.zsv_message.Messages.{IsMessage, Message, ReadsMessage, RefusesMessage, no_additionals, no_answers, no_authorities, no_header, no_questions}
use Rattle.zsv_sections.specs.zst_record.dnw_codes.declared.error.DecodeError.{DecodeError}
use Rattle.zsv_sections.specs.zst_record.dnw_codes.declared.error.DecodeError.TheVariants as reads
use Rattle.zsv_sections.specs.zst_record.dnw_decoder.Reading.{IsWantOfMemory}
use Rattle.zsv_reply.specs.zsv_message.zsv_parts.zst_codes.declared.response_code.ResponseCode.TheVariants as codes
use Rattle.authority_denial.specs.Denials.{TellsName, TellsType, DeniesName, DeniesType, HasNoNsec}
use Rattle.zst_denial.specs.Denials.{Covers, HasNsec, Lacks, SomeOf}
use Rattle.zst_denial.specs.Octets.{nsec_octets}
use Rattle.zst_denial.specs.drd_denial.Between.{is_between}
use Rattle.zst_denial.specs.drd_denial.Nsec.{IsNsecData}
use Rattle.zst_denial.proofs.drd_denial_lemmas.NsecLaws.{nsec_once}
use Rattle.authority_denial.proofs.Once.{AllAlike, AreSeenAlike, MessagesAlike, message_once}

-- ---- one record
same_some : (a b : List ℕ) (o : Option (List ℕ)) → o ≡ Some a → o ≡ Some b → a ≡ b
same_some a b o p q = cc

pub has_once : (r : Record) (next other : DomainName) (types others : List ℕ) → HasNsec r next types → HasNsec r other others → (next ≡ other) × (types ≡ others)
has_once r next other types others p q =
    let same = same_some q.octets p.octets (nsec_octets r.rdata) q.held p.held in
    nsec_once p.octets next other types others p.are (subst (λ (o : List ℕ). IsNsecData o other others) same q.are)

pub covers_not : (name : DomainName) (r : Record) (next : DomainName) (types : List ℕ) → HasNsec r next types → is_between name_cmp r.name name next ≡ false → Covers name r → ⊥
covers_not name r next types has apart c =
    true≢false (sym c.between ∙ ap (λ (n : DomainName). is_between name_cmp r.name name n) (sym (has_once r next c.next types c.types has c.nsec).0) ∙ apart)

pub lacks_not_owned : (name : DomainName) (t : RecordType) (r : Record) → name_eq r.name name ≡ false → Lacks name t r → ⊥
lacks_not_owned name t r apart c = true≢false (sym c.owner ∙ apart)

pub lacks_not : (name : DomainName) (t : RecordType) (r : Record) (next : DomainName) (types : List ℕ) → HasNsec r next types → list_any (λ code. code == record_type_number t) types ≡ true → Lacks name t r → ⊥
lacks_not name t r next types has owned c =
    true≢false (sym owned ∙ ap (list_any (λ code. code == record_type_number t)) (has_once r next c.next types c.types has c.nsec).1 ∙ c.lacks)

-- ---- records of the same owner and the same NSEC octets
has_alike : (a b : Record) (next : DomainName) (types : List ℕ) → AreSeenAlike a b → HasNsec a next types → HasNsec b next types
has_alike a b next types same has = record { octets = has.octets; held = sym same.octets ∙ has.held; are = has.are }

covers_alike : (name : DomainName) (a b : Record) → AreSeenAlike a b → Covers name a → Covers name b
covers_alike name a b same c = record {
  next = c.next;
  types = c.types;
  nsec = has_alike a b c.next c.types same c.nsec;
  between = ap (λ (n : DomainName). is_between name_cmp n name c.next) (sym same.name) ∙ c.between;
}

lacks_alike : (name : DomainName) (t : RecordType) (a b : Record) → AreSeenAlike a b → Lacks name t a → Lacks name t b
lacks_alike name t a b same c = record {
  next = c.next;
  types = c.types;
  nsec = has_alike a b c.next c.types same c.nsec;
  owner = ap (λ (n : DomainName). name_eq n name) (sym same.name) ∙ c.owner;
  lacks = c.lacks;
}

some_alike : (P : Record → Type 0) → ((a b : Record) → AreSeenAlike a b → P a → P b) → (us vs : List Record) → AllAlike us vs → SomeOf P us → SomeOf P vs
unfolding AllAlike
some_alike P turn [] vs all some = absurd some
some_alike P turn (a ∷ us) [] all some = absurd all
some_alike P turn (a ∷ us) (b ∷ vs) all (inl here) = inl (turn a b all.0 here)
some_alike P turn (a ∷ us) (b ∷ vs) all (inr later) = inr (some_alike P turn us vs all.1 later)

none_alike : (us vs : List Record) → AllAlike us vs → us ≡ [] → vs ≡ []
unfolding AllAlike
none_alike [] [] all e = refl
none_alike [] (b ∷ vs) all e = absurd all
none_alike (a ∷ us) vs all e = absurd (cc e)

-- ---- a reply denies what its message does
pub denies_read : (reply : List ℕ) (name : DomainName) (m : Message) → IsMessage reply m → (d : DeniesName reply name) → (m.metadata.response_code ≡ d.message.metadata.response_code) × SomeOf (Covers name) m.authorities
denies_read reply name m is d =
    let same = message_once reply d.message m d.is is in
    (sym same.code, some_alike (Covers name) (covers_alike name) d.message.authorities m.authorities same.authorities d.denies.1)

pub denies_type_read : (reply : List ℕ) (name : DomainName) (t : RecordType) (m : Message) → IsMessage reply m → (d : DeniesType reply name t)
    → (m.metadata.response_code ≡ d.message.metadata.response_code) × (m.answers ≡ []) × SomeOf (Lacks name t) m.authorities
denies_type_read reply name t m is d =
    let same = message_once reply d.message m d.is is in (
      sym same.code,
      none_alike d.message.answers m.answers same.answers d.denies.1,
      some_alike (Lacks name t) (lacks_alike name t) d.message.authorities m.authorities same.authorities d.denies.2,
    )

-- ---- one record as it was decoded
pub seen : {E : Type 0} (r : Record) (octets : List ℕ) (res : Result (Option NsecData) E) → Some octets ≡ nsec_octets r.rdata
    → IfOk res (λ found. MatchOption found ((next : DomainName) (types : List ℕ) → IsNsecData octets next types → ⊥) (λ n. IsNsecData octets n.next n.types))
    → IfOk res (λ found. MatchOption found (HasNoNsec r) (λ n. HasNsec r n.next n.types))
seen r octets (Err e) is h = tt
seen r octets (Ok None) is h = λ next types has.
    h next types (subst (λ (o : List ℕ). IsNsecData o next types) (same_some has.octets octets (nsec_octets r.rdata) has.held (sym is)) has.are)
seen r octets (Ok (Some n)) is h = record { octets = octets; held = sym is; are = h }

covers_when : (name : DomainName) (r : Record) (n : NsecData) (b : Bool) → HasNsec r n.next n.types → b ≡ is_between name_cmp r.name name n.next → MatchBool b (Covers name r) (Covers name r → ⊥)
covers_when name r n true has is = record { next = n.next; types = n.types; nsec = has; between = sym is }
covers_when name r n false has is = covers_not name r n.next n.types has (sym is)

pub covers_by : (name : DomainName) (r : Record) (found : Option NsecData) (n : NsecData) (b : Bool) → found ≡ Some n → MatchOption found (HasNoNsec r) (λ n. HasNsec r n.next n.types) → b ≡ is_between name_cmp r.name name n.next → MatchBool b (Covers name r) (Covers name r → ⊥)
covers_by name r None n b e h is = absurd (cc e)
covers_by name r (Some m) n b e h is =
    let same : m ≡ n = cc e in
    covers_when name r n b (subst (λ (x : NsecData). HasNsec r x.next x.types) same h) is

pub covers_none : (name : DomainName) (r : Record) (found : Option NsecData) → found ≡ None → MatchOption found (HasNoNsec r) (λ n. HasNsec r n.next n.types) → Covers name r → ⊥
covers_none name r None e h = λ c. h c.next c.types c.nsec
covers_none name r (Some m) e h = absurd (cc e)

and_both : (a b : Bool) → true ≡ (a && not b) → (a ≡ true) × (b ≡ false)
and_both true true e = absurd (true≢false e)
and_both true false e = (refl, refl)
and_both false b e = absurd (true≢false e)

lacks_when : (name : DomainName) (t : RecordType) (r : Record) (n : NsecData) (b : Bool) → HasNsec r n.next n.types → b ≡ (name_eq r.name name && not (list_any (λ code. code == record_type_number t) n.types)) → MatchBool b (Lacks name t r) (Lacks name t r → ⊥)
lacks_when name t r n true has is =
    let both = and_both (name_eq r.name name) (list_any (λ code. code == record_type_number t) n.types) is in
    record { next = n.next; types = n.types; nsec = has; owner = both.0; lacks = both.1 }
lacks_when name t r n false has is = λ c.
    let types = (has_once r n.next c.next n.types c.types has c.nsec).1 in
    let lacking : list_any (λ code. code == record_type_number t) n.types ≡ false = ap (list_any (λ code. code == record_type_number t)) types ∙ c.lacks in
    true≢false (sym (is ∙ (λ i. c.owner i && not (lacking i))))

pub lacks_by : (name : DomainName) (t : RecordType) (r : Record) (found : Option NsecData) (n : NsecData) (b : Bool) → found ≡ Some n → MatchOption found (HasNoNsec r) (λ n. HasNsec r n.next n.types)
    → b ≡ (name_eq r.name name && not (list_any (λ code. code == record_type_number t) n.types)) → MatchBool b (Lacks name t r) (Lacks name t r → ⊥)
lacks_by name t r None n b e h is = absurd (cc e)
lacks_by name t r (Some m) n b e h is =
    let same : m ≡ n = cc e in
    lacks_when name t r n b (subst (λ (x : NsecData). HasNsec r x.next x.types) same h) is

pub lacks_none : (name : DomainName) (t : RecordType) (r : Record) (found : Option NsecData) → found ≡ None → MatchOption found (HasNoNsec r) (λ n. HasNsec r n.next n.types) → Lacks name t r → ⊥
lacks_none name t r None e h = λ c. h c.next c.types c.nsec
lacks_none name t r (Some m) e h = absurd (cc e)

-- ---- one of some
pub none_more : {X : Type 0} (P : X → Type 0) (xs : List X) (x : X) → (SomeOf P xs → ⊥) → (P x → ⊥) → SomeOf P (xs ++ x ∷ []) → ⊥
none_more P [] x none never (inl here) = never here
none_more P [] x none never (inr later) = absurd later
none_more P (y ∷ ys) x none never (inl here) = none (inl here)
none_more P (y ∷ ys) x none never (inr later) = none_more P ys x (λ some. none (inr some)) never later

pub some_at : {X : Type 0} (P : X → Type 0) (xs : List X) (i : ℕ) (x : X) → i < length xs → x ≡ get_or xs i x → P x → SomeOf P xs
some_at P [] i x within is p = absurd (omega (arith, within))
some_at P (y ∷ ys) zero x within is p = inl (subst P is p)
some_at P (y ∷ ys) (suc i) x within is p = inr (some_at P ys i x (omega (arith, within)) is p)

pub when_true : (P Q : Type 0) (b : Bool) → b ≡ true → MatchBool b P Q → P
when_true P Q true e h = h
when_true P Q false e h = absurd (true≢false (sym e))

pub when_false : (P Q : Type 0) (b : Bool) → b ≡ false → MatchBool b P Q → Q
when_false P Q true e h = absurd (true≢false e)
when_false P Q false e h = h

-- ---- from the message to the reply
pub told_name : {E : Type 0} (r : Result Bool E) (m : Message) (name : DomainName) → m.metadata.response_code ≡ codes.NXDomain → IfOk r (λ yes. MatchBool yes (SomeOf (Covers name) m.authorities) (SomeOf (Covers name) m.authorities → ⊥))
    → IfOk r (λ yes. MatchBool yes (TellsName m name) (TellsName m name → ⊥))
told_name (Err e) m name code h = tt
told_name (Ok true) m name code h = (code, h)
told_name (Ok false) m name code h = λ t. h t.1

pub told_type : {E : Type 0} (r : Result Bool E) (m : Message) (name : DomainName) (t : RecordType) → m.metadata.response_code ≡ codes.NoError → m.answers ≡ [] → IfOk r (λ yes. MatchBool yes (SomeOf (Lacks name t) m.authorities) (SomeOf (Lacks name t) m.authorities → ⊥))
    → IfOk r (λ yes. MatchBool yes (TellsType m name t) (TellsType m name t → ⊥))
told_type (Err e) m name t code none h = tt
told_type (Ok true) m name t code none h = (code, none, h)
told_type (Ok false) m name t code none h = λ x. h x.2

pub denies_if : {E : Type 0} (r : Result Bool E) (reply : List ℕ) (m : Message) (name : DomainName) → IsMessage reply m → IfOk r (λ yes. MatchBool yes (TellsName m name) (TellsName m name → ⊥)) → IfOk r (λ yes. MatchBool yes (DeniesName reply name) (DeniesName reply name → ⊥))
denies_if (Err e) reply m name is h = tt
denies_if (Ok true) reply m name is h = record { message = m; is = is; denies = h }
denies_if (Ok false) reply m name is h = λ d. let p = denies_read reply name m is d in h (p.0 ∙ d.denies.0, p.1)

pub denies_type_if : {E : Type 0} (r : Result Bool E) (reply : List ℕ) (m : Message) (name : DomainName) (t : RecordType) → IsMessage reply m → IfOk r (λ yes. MatchBool yes (TellsType m name t) (TellsType m name t → ⊥)) → IfOk r (λ yes. MatchBool yes (DeniesType reply name t) (DeniesType reply name t → ⊥))
denies_type_if (Err e) reply m name t is h = tt
denies_type_if (Ok true) reply m name t is h = record { message = m; is = is; denies = h }
denies_type_if (Ok false) reply m name t is h = λ d. let p = denies_type_read reply name t m is d in h (p.0 ∙ d.denies.0, p.1, p.2)

pub is_found : (P : Message → Type 0) (Q : Type 0) (o : Option Message) (m : Message) → o ≡ Some m → MatchOption o Q P → P m
is_found P Q None m e h = absurd (cc e)
is_found P Q (Some n) m e h = let same : n ≡ m = cc e in subst P same h

pub is_none : (P : Message → Type 0) (Q : Type 0) (o : Option Message) → o ≡ None → MatchOption o Q P → Q
is_none P Q None e h = h
is_none P Q (Some n) e h = absurd (cc e)

-- ---- out of memory
memory_long : (octets : List ℕ) → (IsWantOfMemory reads.Memory × (12 ≤ length octets)) ⊎ RefusesMessage octets reads.Memory → 12 ≤ length octets
memory_long octets (inl memory) = memory.1
memory_long octets (inr refused) = long refused
  where
    long : RefusesMessage octets reads.Memory → 12 ≤ length octets
    long (no_header cut) = absurd (cc cut.0)
    long (no_questions whole cause) = whole
    long (no_answers whole asked place there cause) = whole
    long (no_authorities whole asked answers first place there more cause) = whole
    long (no_additionals whole asked answers authorities first second place there more last cause) = whole

wanted_long : (octets : List ℕ) (e : DecodeError) → ReadsMessage octets (Err e) → IsWantOfMemory e → 12 ≤ length octets
wanted_long octets reads.Memory r wanted = memory_long octets r.0
wanted_long octets other r wanted = absurd wanted

pub unread_long : {T E : Type 0} (r : Result T E) (octets : List ℕ) (e : DecodeError) → ReadsMessage octets (Err e) → IfErr r (λ x. IsWantOfMemory e) → IfErr r (λ x. 12 ≤ length octets)
unread_long (Ok x) octets e refuses told = told
unread_long (Err x) octets e refuses told = wanted_long octets e refuses told

pub told_long : {T E : Type 0} (r : Result T E) (octets : List ℕ) (m : Message) → IsMessage octets m → IfErr r (λ x. 12 ≤ length octets)
told_long (Ok x) octets m is = tt
told_long (Err x) octets m is = is.long
