-- Serial numbers of zones (RFC 1982 3.1).
use Rattle.std.specs.Prelude.{◌+◌, ◌%◌, ◌^◌}
use Rattle.drd_names.specs.declared.soa.SOA.{SOA}

-- The same data, with the serial number behind this one: numbers of 32 bits go round.
abbrev pub next_serial : SOA → SOA
next_serial soa = record {
  mname = soa.mname;
  rname = soa.rname;
  serial = (soa.serial + 1) % 2 ^ 32;
  refresh = soa.refresh;
  retry = soa.retry;
  expire = soa.expire;
  minimum = soa.minimum;
}
