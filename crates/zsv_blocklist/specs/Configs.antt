-- The settings of a list that nobody set.
use Rattle.std.specs.Prelude.{true, None}
use Rattle.zst_request.specs.declared.blocklist.BlocklistConsultAction.TheVariants.{Disabled}
use Rattle.zsv_blocklist.specs.declared.config.BlocklistConfig.{BlocklistConfig}

abbrev pub default_config : BlocklistConfig
default_config = record {
  wildcard_match = true;
  min_wildcard_depth = 2;
  sinkhole_ipv4 = None;
  sinkhole_ipv6 = None;
  ttl = 86400;
  block_message = None;
  consult_action = Disabled;
  log_clients = true;
}
