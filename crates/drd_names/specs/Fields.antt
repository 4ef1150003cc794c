-- The fields of record data that are names and numbers.
use Rattle.std.specs.Prelude.{List, [], ◌∷◌}
use Rattle.std.specs.Int.{w32, cast_unsigned}
use Rattle.drd_fields.specs.Fields.{Field, short, long, name, Kind, a_short, a_long, a_name}
use Rattle.drd_names.specs.declared.mx.MX.{MX}
use Rattle.drd_names.specs.declared.aname.ANAME.{ANAME}
use Rattle.drd_names.specs.declared.cname.CNAME.{CNAME}
use Rattle.drd_names.specs.declared.ns.NS.{NS}
use Rattle.drd_names.specs.declared.ptr.PTR.{PTR}
use Rattle.drd_names.specs.declared.soa.SOA.{SOA}
use Rattle.drd_names.specs.declared.srv.SRV.{SRV}

-- RFC 1035 3.3.1: the canonical name of the owner.
abbrev pub cname_fields : CNAME → List Field
cname_fields cname = name cname.0 ∷ []

-- RFC 1035 3.3.11: a host that is to be authoritative for the zone.
abbrev pub ns_fields : NS → List Field
ns_fields ns = name ns.0 ∷ []

-- RFC 1035 3.3.12: a name elsewhere in the tree.
abbrev pub ptr_fields : PTR → List Field
ptr_fields ptr = name ptr.0 ∷ []

-- draft-ietf-dnsop-aname-04 3.1: the target.
abbrev pub aname_fields : ANAME → List Field
aname_fields aname = name aname.0 ∷ []

-- The data of these four are one name.
abbrev pub one_name : List Kind
one_name = a_name ∷ []

-- RFC 1035 3.3.9: a preference and the exchange.
abbrev pub mx_fields : MX → List Field
mx_fields mx = short mx.preference ∷ name mx.exchange ∷ []

abbrev pub mx_kinds : List Kind
mx_kinds = a_short ∷ a_name ∷ []

-- RFC 2782: priority, weight, port and target.
abbrev pub srv_fields : SRV → List Field
srv_fields srv = short srv.priority ∷ short srv.weight ∷ short srv.port ∷ name srv.target ∷ []

abbrev pub srv_kinds : List Kind
srv_kinds = a_short ∷ a_short ∷ a_short ∷ a_name ∷ []

-- RFC 1035 3.3.13: the serial number and four intervals. Three of the intervals are held as signed
-- numbers, whose 32 bits stand here.
abbrev pub soa_numbers : SOA → List Field
soa_numbers soa =
    long soa.serial ∷ long (cast_unsigned w32 soa.refresh) ∷ long (cast_unsigned w32 soa.retry)
    ∷ long (cast_unsigned w32 soa.expire) ∷ long soa.minimum ∷ []

-- Before them the primary server and the mailbox.
abbrev pub soa_fields : SOA → List Field
soa_fields soa = name soa.mname ∷ name soa.rname ∷ soa_numbers soa

abbrev pub soa_kinds : List Kind
soa_kinds = a_name ∷ a_name ∷ a_long ∷ a_long ∷ a_long ∷ a_long ∷ a_long ∷ []
