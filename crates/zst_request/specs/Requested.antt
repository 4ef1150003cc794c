-- A request for a handler, and what a reply is signed with, as values.
use Rattle.std.specs.Prelude.{Option, option_map}
use Rattle.zst_request.specs.Updating.{Asked, SignedBy, SigningContext}
use Rattle.zst_request.specs.declared.request.RequestTsig.{RequestTsig}
use Rattle.zst_request.specs.declared.request.TSigResponseContext.{TSigResponseContext}
use Rattle.zst_request.specs.declared.request.ZoneRequest.{ZoneRequest}

abbrev pub signed_by : RequestTsig → SignedBy
signed_by tsig = record {
  key_name = tsig.key_name.now;
  algorithm = tsig.algorithm.now;
  mac = tsig.mac.now;
}

abbrev pub asked_of : ZoneRequest → Asked
asked_of request = record {
  name = request.name.now;
  query_type = request.query_type;
  id = request.id;
  source = request.source;
  signed = option_map signed_by request.tsig;
  verdict = request.verdict;
  prerequisites = request.prerequisites.now;
  updates = request.updates.items;
}

abbrev pub context_of : TSigResponseContext → SigningContext
context_of context = record {
  request_id = context.request_id;
  time = context.time;
  key_name = context.key_name;
  algorithm = context.algorithm;
  request_mac = context.request_mac.items;
  error = context.error;
}
