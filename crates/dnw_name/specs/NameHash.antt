-- What a name feeds a hasher.
use Rattle.std.specs.Prelude.{◌++◌}
use Rattle.std.specs.Hash as fed
use Rattle.std.specs.Hash.{HashWrites}
use Rattle.dnw_net.specs.dnw_label.LabelHash.{label_writes}
use Rattle.dnw_name.specs.DomainName.{DomainName}

-- The flag, and each label.
abbrev pub name_writes : DomainName → HashWrites
name_writes name = fed.bool name.fqdn ++ fed.slice label_writes name.labels
