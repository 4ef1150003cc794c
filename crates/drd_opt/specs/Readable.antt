-- Which options under their codes stand in some record data of type OPT (RFC 6891 6.1.2).
use Rattle.std.specs.Prelude.{◌≡◌, ◌==◌, true, drop, length}
use Rattle.std.specs.List.{list_all}
use Rattle.drd_opt.specs.Options.{HasNoForm}
use Rattle.drd_opt.specs.Subnets.{address_octets, address_size, prefix_size}
use Rattle.drd_opt.specs.declared.subnet.ClientSubnet.{ClientSubnet}
use Rattle.drd_opt.specs.declared.option.EdnsOption.{EdnsOption}
use Rattle.drd_opt.specs.declared.option.EdnsOption.TheVariants.{Subnet, Unknown}
use Rattle.drd_opt.specs.Entries.{Entry, RawOption, FitsLengths}
use Rattle.drd_opt.specs.Reading.{IsEntryOf}

-- Some option, as it is written, is read as this one under this code.
pub record StandsSomewhere (entry : Entry) : Type 0 where
  pub written : RawOption
  pub fits : FitsLengths written
  pub is : IsEntryOf written entry

-- The octets of the address behind those of the prefix are zero (RFC 7871 6).
pub record IsPadded (subnet : ClientSubnet) : Type 0 where
  pub size : length (address_octets subnet.address) ≡ address_size subnet.address
  pub zeros : list_all (λ octet. octet == 0)
      (drop (prefix_size subnet.address subnet.source_prefix) (address_octets subnet.address))
      ≡ true

-- A subnet is padded, and a code and octets are kept as they are only where they have no form of
-- their own.
abbrev pub HasOwnForm : EdnsOption → Type 0
HasOwnForm (Subnet subnet) = IsPadded subnet
HasOwnForm (Unknown number octets) = HasNoForm number octets.items
HasOwnForm other = Unit {0}
