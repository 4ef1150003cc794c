-- The definitions computed on worked rows: a zone with a start of authority, a cut and one address, and what it is asked.
use Rattle.std.proofs.Common.{◌≡◌, ℕ, Bool, true, false, List, [], ◌∷◌, ◌++◌, refl, sym, ◌∙◌, ap, subst, arith}
use Rattle.std.specs.Prelude.{codes, pos, Option, Some, None, unwrap_or}
use Rattle.std.proofs.lemmas.Option.{none-some}
use Rattle.std.proofs.lemmas.Bool.{false≢true, true≢false}
use Rattle.zsv_catalog.specs.zsv_answer.zst_request.dnw_codes.declared.record_type.RecordType.{RecordType}
use Rattle.zsv_catalog.specs.zsv_answer.zst_request.dnw_codes.RecordType.{same_record_type}
use Rattle.zsv_catalog.specs.zsv_answer.zst_request.dnw_codes.declared.record_type.RecordType.TheVariants as types
use Rattle.zsv_catalog.specs.zsv_answer.zst_request.dnw_codes.declared.dns_class.DNSClass.TheVariants as classes
use Rattle.zsv_catalog.specs.zsv_answer.zsv_reply.drd_rdata.declared.rdata.RData.TheVariants as rdata
use Rattle.zsv_catalog.specs.zsv_answer.zsv_reply.zst_record.declared.records.Record.{Record}
use Rattle.zsv_catalog.specs.zsv_answer.zst_request.zst_codes.declared.settings.ZoneType.TheVariants as kinds
use Rattle.zsv_catalog.specs.zsv_answer.zst_request.zst_codes.declared.settings.AxfrPolicy.TheVariants as policies
use Rattle.zsv_catalog.specs.zsv_answer.zsv_reply.zsv_message.zsv_parts.declared.header.MessageType.TheVariants as messages
use Rattle.zsv_catalog.specs.zsv_answer.zsv_reply.zsv_message.zsv_parts.declared.header.OpCode.TheVariants as operations
use Rattle.zsv_catalog.specs.zsv_answer.zsv_reply.zsv_message.zsv_parts.zst_codes.declared.response_code.ResponseCode.{ResponseCode}
use Rattle.zsv_catalog.specs.zsv_answer.zsv_reply.zsv_message.zsv_parts.zst_codes.declared.response_code.ResponseCode.TheVariants as responses
use Rattle.zsv_catalog.specs.zsv_answer.zsv_reply.zsv_message.zsv_parts.declared.header.Metadata.{Metadata}
use Rattle.zsv_catalog.specs.zsv_answer.zsv_reply.zsv_message.zsv_parts.declared.question.Query.{Query}
use Rattle.zsv_catalog.specs.zsv_answer.zst_request.dnw_name.DomainName.{DomainName, name_cmp, name_octets, name_eq, is_at_or_below}
use Rattle.std.specs.declared.cmp.Ordering.TheVariants.{Less, Greater}
use Rattle.std.specs.Net.Addr.{ipv4_bits}
use Rattle.zsv_catalog.specs.zsv_answer.zsv_reply.zsv_message.zsv_parts.dnw_decoder.Octets.{octets_16, octets_32}
use Rattle.zsv_catalog.specs.zsv_answer.zsv_reply.zsv_message.zsv_parts.Headers.{header_of}
use Rattle.zsv_catalog.specs.zsv_answer.zsv_reply.drd_rdata.Writing.{written_octets}
use Rattle.zsv_catalog.specs.zsv_answer.zsv_reply.zst_record.Records.{plain}
use Rattle.zsv_catalog.specs.zsv_answer.zsv_reply.zsv_message.zsv_parts.dnw_decoder.Spelling.{NameAt, at_end, at_label}
use Rattle.zsv_catalog.specs.zsv_answer.zsv_reply.zsv_message.Messages.{Message}
use Rattle.zsv_catalog.specs.zsv_answer.zsv_reply.zsv_message.zsv_parts.Questions.{QuestionAt}
use Rattle.zsv_catalog.specs.zsv_answer.zsv_reply.zst_record.RecordSets.{RRset}
use Rattle.zsv_catalog.specs.zsv_answer.zsv_reply.Replies.{ReplyParts}
use Rattle.zsv_catalog.specs.zsv_answer.zst_request.zst_handler.Chains.{IsAliasChain, NoneTwice, asked_names, leads}
use Rattle.zsv_catalog.specs.zsv_answer.zst_request.zst_handler.Found.{found}
use Rattle.zsv_catalog.specs.zsv_answer.zst_request.zst_handler.Lookups.{IsLookup, LookupFrom, Outcome, additionals, answered, is_flattened, name_exists, name_error, out_of_zone}
use Rattle.zsv_catalog.specs.zsv_answer.zst_request.zst_handler.Zones.{Zone, AreInOrder, set_cmp}
use Rattle.zsv_catalog.specs.Catalogs.{PartsOf, QueryParts, QuestionParts}
use Rattle.zsv_catalog.specs.zsv_update.Options.{AnswersEdns}
use Rattle.zsv_catalog.specs.Chains.{chain_for}
use Rattle.zsv_catalog.specs.zsv_answer.Parts.{AtOrigin, AuthoritativeParts, ChainParts, PartsAs}
use Rattle.zsv_catalog.specs.zsv_answer.Resolution.{Resolution, Resolves, outcome_shown}
use Rattle.zsv_catalog.specs.zsv_answer.zsv_reply.Writing.{with_edns}
use Rattle.zsv_catalog.specs.zsv_answer.zst_request.Updating.{Asked}
use Rattle.zsv_catalog.specs.zsv_answer.zst_request.Views.{Stored, View, zone_type_of}

abbrev example : DomainName
example = record { fqdn = true; labels = codes "example" ∷ codes "com" ∷ [] }

abbrev below : List ℕ → DomainName
below first = record { fqdn = true; labels = first ∷ codes "example" ∷ codes "com" ∷ [] }

abbrev two_below : List ℕ → List ℕ → DomainName
two_below first second = record { fqdn = true; labels = first ∷ second ∷ codes "example" ∷ codes "com" ∷ [] }

abbrev elsewhere : DomainName
elsewhere = record { fqdn = true; labels = codes "example" ∷ codes "org" ∷ [] }

abbrev start : Record
start = record {
  name = example;
  dns_class = classes.IN;
  ttl = 3600;
  rdata = rdata.SOA (record { mname = below (codes "ns"); rname = below (codes "admin"); serial = 1; refresh = pos 3600; retry = pos 1800; expire = pos 604800; minimum = 86400 });
}

abbrev address : Record
address = record { name = below (codes "www"); dns_class = classes.IN; ttl = 3600; rdata = rdata.A (record { 0 = record { octets = 192 ∷ 0 ∷ 2 ∷ 1 ∷ [] } }) }

abbrev server : Record
server = record { name = below (codes "sub"); dns_class = classes.IN; ttl = 3600; rdata = rdata.NS (record { 0 = two_below (codes "ns") (codes "sub") }) }

abbrev glue : Record
glue = record { name = two_below (codes "ns") (codes "sub"); dns_class = classes.IN; ttl = 3600; rdata = rdata.A (record { 0 = record { octets = 192 ∷ 0 ∷ 2 ∷ 2 ∷ [] } }) }

abbrev set_of_start : RRset
set_of_start = record { name = example; dns_class = classes.IN; record_type = types.SOA; records = start ∷ []; signatures = [] }

abbrev set_of_address : RRset
set_of_address = record { name = below (codes "www"); dns_class = classes.IN; record_type = types.A; records = address ∷ []; signatures = [] }

abbrev set_of_servers : RRset
set_of_servers = record { name = below (codes "sub"); dns_class = classes.IN; record_type = types.NS; records = server ∷ []; signatures = [] }

abbrev set_of_glue : RRset
set_of_glue = record { name = two_below (codes "ns") (codes "sub"); dns_class = classes.IN; record_type = types.A; records = glue ∷ []; signatures = [] }

abbrev zone : Zone
zone = record {
  origin = example;
  zone_type = kinds.Primary;
  axfr_policy = policies.AllowAll;
  nx_proof_kind = None;
  guard = None;
  sets = set_of_start ∷ set_of_servers ∷ set_of_glue ∷ set_of_address ∷ [];
}

-- Twelve octets of header, and a question for the address of www.example.com.
abbrev question : List ℕ
question = 18 ∷ 52 ∷ 0 ∷ 0 ∷ 0 ∷ 1 ∷ 0 ∷ 0 ∷ 0 ∷ 0 ∷ 0 ∷ 0 ∷ 3 ∷ 119 ∷ 119 ∷ 119 ∷ 7 ∷ 101 ∷ 120 ∷ 97 ∷ 109 ∷ 112 ∷ 108 ∷ 101 ∷ 3 ∷ 99 ∷ 111 ∷ 109 ∷ 0 ∷ 0 ∷ 1 ∷ 0 ∷ 1 ∷ []

abbrev plain_metadata : Metadata
plain_metadata = record {
  id = 4660;
  message_type = messages.Query;
  op_code = operations.Query;
  authoritative = false;
  truncation = false;
  recursion_desired = false;
  recursion_available = false;
  authentic_data = false;
  checking_disabled = false;
  response_code = responses.NoError;
}

-- The header of the question.
question_header : header_of question ≡ record { metadata = plain_metadata; counts = record { queries = 1; answers = 0; authorities = 0; additionals = 0 } }
question_header = refl

-- A header with every flag: a4 10 is a response of operation 4 with AA and CD, 85 80 one with AA, RD and RA.
flags_of_notify : (header_of (0 ∷ 0 ∷ 164 ∷ 16 ∷ [])).metadata ≡ record {
  id = 0;
  message_type = messages.Response;
  op_code = operations.Notify;
  authoritative = true;
  truncation = false;
  recursion_desired = false;
  recursion_available = false;
  authentic_data = false;
  checking_disabled = true;
  response_code = responses.NoError;
}
flags_of_notify = refl

-- Names are equal up to case, and lie below what their labels end in.
names_in_another_case : name_eq (below (codes "WwW")) (below (codes "www")) ≡ true
names_in_another_case = refl

www_below_the_zone : is_at_or_below (below (codes "www")) example ≡ true
www_below_the_zone = refl

the_zone_not_below_www : is_at_or_below example (below (codes "www")) ≡ false
the_zone_not_below_www = refl

elsewhere_not_below : is_at_or_below elsewhere example ≡ false
elsewhere_not_below = refl

-- Its sets stand in order, and so do no others.
sets_in_order : AreInOrder zone.sets
sets_in_order = ((refl, (refl, (refl, tt))), ((refl, (refl, tt)), ((refl, tt), (tt, tt))))

address_behind_start : set_cmp set_of_address set_of_start ≡ Greater
address_behind_start = refl

-- A set that is found and leads nowhere answers alone.
abbrev one_set : RRset → List RRset → Outcome
one_set set more = answered (record { answers = set ∷ []; additionals = more })

module _ (name : DomainName) (t : RecordType) (set : RRset) (more : List RRset) (at : found zone.sets name t ≡ Some set) (last : leads t set ≡ None) where
  chain_of_one : IsAliasChain zone.sets name t (set ∷ [])
  chain_of_one = record {
    links = (at, tt);
    once = (refl, subst (λ (next : Option DomainName). NoneTwice (name ∷ []) (asked_names t next [])) (sym last) tt);
    short = omega arith;
    ends = λ next e. let h : ⊥ = cc in absurd h;
  }

  lookup_of_one : same_record_type t types.ANY ≡ false → is_flattened t set ≡ false → additionals zone.sets set ≡ more → IsLookup zone name t (one_set set more)
  lookup_of_one one whole beside = record {
    any = λ e. absurd (true≢false (sym e ∙ one));
    one = λ _. subst (λ (first : Option RRset). LookupFrom zone name t first (one_set set more)) (sym at)
        (record { answers = set ∷ []; additionals = more }, refl, (λ e. absurd (true≢false (sym e ∙ whole)), λ _. (chain_of_one, sym beside)));
  }

-- The zone's answers.
an_address : IsLookup zone (below (codes "wWw")) types.A (one_set set_of_address [])
an_address = lookup_of_one (below (codes "wWw")) types.A set_of_address [] refl refl refl refl refl

a_missing_type : IsLookup zone (below (codes "www")) types.AAAA name_exists
a_missing_type = record { any = λ e. absurd (false≢true e); one = λ _. refl }

a_missing_name : IsLookup zone (below (codes "z")) types.A name_error
a_missing_name = record { any = λ e. absurd (false≢true e); one = λ _. refl }

outside : IsLookup zone elsewhere types.A out_of_zone
outside = record { any = λ e. absurd (false≢true e); one = λ _. refl }

-- Below a cut its name servers answer, with the address of the first one.
below_a_cut : IsLookup zone (two_below (codes "www") (codes "sub")) types.A (one_set set_of_servers (set_of_glue ∷ []))
below_a_cut = lookup_of_one (two_below (codes "www") (codes "sub")) types.A set_of_servers (set_of_glue ∷ []) refl refl refl refl refl

-- The address record takes 31 octets, four of them data.
address_octets : name_octets address.name ++ (octets_16 1 ++ octets_16 1 ++ octets_32 address.ttl ++ octets_16 4) ++ written_octets address.rdata ≡ name_octets (below (codes "www")) ++ (0 ∷ 1 ∷ 0 ∷ 1 ∷ 0 ∷ 0 ∷ 14 ∷ 16 ∷ 0 ∷ 4 ∷ 192 ∷ 0 ∷ 2 ∷ 1 ∷ [])
unfolding octets_32 ipv4_bits
address_octets = refl

address_size : plain address ≡ 31
unfolding octets_32
address_size = refl

-- The start of authority takes 78 octets, 55 of them data.
start_size : plain start ≡ 78
unfolding octets_32
start_size = refl

-- The name asked for is spelled from octet 12 on, and ends at 29.
name_asked : NameAt question 12 (below (codes "www")) 29
name_asked = record {
  full = refl;
  spelled = at_label (omega arith) (record { some = omega arith; few = omega arith }) (record { there = refl; behind = refl })
      (at_label (omega arith) (record { some = omega arith; few = omega arith }) (record { there = refl; behind = refl })
      (at_label (omega arith) (record { some = omega arith; few = omega arith }) (record { there = refl; behind = refl })
      (at_end (omega arith) (record { there = refl; behind = refl }))));
  size = omega arith;
}

question_asked : QuestionAt question 12 (record { name = below (codes "www"); query_type = types.A; query_class = classes.IN }) 33
question_asked = record {
  middle = 29;
  last = 31;
  name = name_asked;
  query_type = record { number = 1; small = omega arith; there = record { there = refl; behind = refl }; means = refl };
  query_class = record { number = 1; small = omega arith; there = record { there = refl; behind = refl }; means = refl };
}

abbrev asks : Metadata → List Query → Message
asks m qs = record { metadata = m; asked = record { questions = qs; octets = [] }; answers = []; authorities = []; additionals = []; edns = None; signature = None }

abbrev one : DomainName → Query
one name = record { name = name; query_type = types.A; query_class = classes.IN }

abbrev answer_metadata : Bool → ResponseCode → Metadata
answer_metadata authoritative code = record {
  id = 4660;
  message_type = messages.Response;
  op_code = operations.Query;
  authoritative = authoritative;
  truncation = false;
  recursion_desired = false;
  recursion_available = false;
  authentic_data = false;
  checking_disabled = false;
  response_code = code;
}

-- The zone alone in its chain, under its own name.
abbrev chain : List View
chain = Stored zone ∷ []

abbrev chains : List (DomainName × List View)
chains = (example, chain) ∷ []

-- Whatever the handlers of a zone are asked for a transfer of it.
module _ (asks_for : Query → DomainName → Asked) where
  -- What full replies hold.
  abbrev Gives : List Query → ReplyParts → Type 0
  Gives qs parts = PartsOf chains None asks_for (asks plain_metadata qs) parts

  gives : (qs : List Query) (parts : ReplyParts) → parts ≡ with_edns None parts → QueryParts chains plain_metadata false asks_for qs parts → Gives qs parts
  gives qs parts none is = record {
    plain = with_edns None parts;
    gives = record { other_version = λ e. absurd (false≢true e); answered = λ _. subst (QueryParts chains plain_metadata false asks_for qs) none is };
    edns = subst (λ (p : ReplyParts). AnswersEdns None None p.metadata.response_code p.edns) (sym none) tt;
    whole = none ∙ ap (λ (p : ReplyParts). with_edns p.edns (with_edns None parts)) (sym none);
  }

  by_chain : (name : DomainName) (parts : ReplyParts) (outcome : Outcome) → IsLookup zone name types.A outcome → AuthoritativeParts (Stored zone) plain_metadata false name types.A (outcome_shown false outcome) parts → ChainParts chain plain_metadata false name types.A parts
  by_chain name parts outcome is shown = record {
    nobody = λ none. let h : ⊥ = cc in absurd h;
    somebody = λ view at.
        subst (λ (v : View). (resolution : Resolution) × Resolves chain v name types.A false resolution × PartsAs (zone_type_of v) v plain_metadata false name types.A resolution parts)
        (ap (λ (o : Option View). unwrap_or o (Stored zone)) at) (outcome_shown false outcome, (outcome, is, refl), shown);
  }

  looked_up : (name : DomainName) (parts : ReplyParts) (outcome : Outcome) → chain_for chains name ≡ Some chain → IsLookup zone name types.A outcome → AuthoritativeParts (Stored zone) plain_metadata false name types.A (outcome_shown false outcome) parts → QuestionParts chains plain_metadata false (asks_for (one name)) (one name) parts
  looked_up name parts outcome inside is shown = record {
    no_chain = λ none. absurd (none-some chain (sym none ∙ inside));
    transfer = λ e. absurd (false≢true e);
    looked_up = λ other at e. subst (λ (c : List View). ChainParts c plain_metadata false name types.A parts) (ap (λ (o : Option (List View)). unwrap_or o chain) (sym inside ∙ at)) (by_chain name parts outcome is shown);
  }

  address_parts : Gives (one (below (codes "www")) ∷ []) (record { metadata = answer_metadata true responses.NoError; answers = address ∷ []; authorities = []; additionals = []; edns = None; signature = None })
  address_parts = gives _ _ refl (looked_up (below (codes "www")) _ (one_set set_of_address []) refl (lookup_of_one (below (codes "www")) types.A set_of_address [] refl refl refl refl refl) ([], (λ e. absurd (false≢true e), λ _. refl), refl))

  at_start : AtOrigin (Stored zone) false types.SOA (start ∷ [])
  at_start = (one_set set_of_start [], lookup_of_one example types.SOA set_of_start [] refl refl refl refl refl, refl)

  missing_parts : Gives (one (below (codes "z")) ∷ []) (record { metadata = answer_metadata true responses.NXDomain; answers = []; authorities = start ∷ []; additionals = []; edns = None; signature = None })
  missing_parts = gives _ _ refl (looked_up (below (codes "z")) _ name_error refl a_missing_name ([], start ∷ [], refl, at_start, refl))

  outside_parts : Gives (one elsewhere ∷ []) (record { metadata = answer_metadata false responses.Refused; answers = []; authorities = []; additionals = []; edns = None; signature = None })
  outside_parts = gives _ _ refl (record { no_chain = λ _. refl; transfer = λ e. absurd (false≢true e); looked_up = λ other at e. let h : ⊥ = cc in absurd h })

  no_question_parts : Gives [] (record { metadata = answer_metadata false responses.FormErr; answers = []; authorities = []; additionals = []; edns = None; signature = None })
  no_question_parts = gives _ _ refl refl

  -- A referral's name servers are authority, with their addresses as additional data.
  referral_parts : Gives (one (two_below (codes "www") (codes "sub")) ∷ []) (record { metadata = answer_metadata true responses.NoError; answers = []; authorities = server ∷ []; additionals = glue ∷ []; edns = None; signature = None })
  referral_parts = gives _ _ refl (looked_up (two_below (codes "www") (codes "sub")) _ (one_set set_of_servers (set_of_glue ∷ [])) refl below_a_cut ([], (λ e. absurd (false≢true e), λ _. refl), refl))

-- Names rise in the canonical order: the nine names of RFC 4034, section 6.1.
abbrev named : List (List ℕ) → DomainName
named labels = record { fqdn = true; labels = labels }

abbrev rises : List (List ℕ) → List (List ℕ) → Type 0
rises a b = name_cmp (named a) (named b) ≡ Less

canonical_order :
    rises (codes "example" ∷ []) (codes "a" ∷ codes "example" ∷ [])
    × rises (codes "a" ∷ codes "example" ∷ []) (codes "yljkjljk" ∷ codes "a" ∷ codes "example" ∷ [])
    × rises (codes "yljkjljk" ∷ codes "a" ∷ codes "example" ∷ []) (codes "Z" ∷ codes "a" ∷ codes "example" ∷ [])
    × rises (codes "Z" ∷ codes "a" ∷ codes "example" ∷ []) (codes "zABC" ∷ codes "a" ∷ codes "EXAMPLE" ∷ [])
    × rises (codes "zABC" ∷ codes "a" ∷ codes "EXAMPLE" ∷ []) (codes "z" ∷ codes "example" ∷ [])
    × rises (codes "z" ∷ codes "example" ∷ []) ((1 ∷ []) ∷ codes "z" ∷ codes "example" ∷ [])
    × rises ((1 ∷ []) ∷ codes "z" ∷ codes "example" ∷ []) (codes "*" ∷ codes "z" ∷ codes "example" ∷ [])
    × rises (codes "*" ∷ codes "z" ∷ codes "example" ∷ []) ((200 ∷ []) ∷ codes "z" ∷ codes "example" ∷ [])
canonical_order = (refl, refl, refl, refl, refl, refl, refl, refl)
