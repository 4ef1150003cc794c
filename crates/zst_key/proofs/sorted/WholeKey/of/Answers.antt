use Rattle.std.proofs.Common.{◌<◌, ◌==◌, Bool, true, false, cond, length, ◌∙◌, ap, arith}
use Rattle.dnw_name.specs.DomainName.{IsDomainName, labels_len, name_len}
use Rattle.dnw_name.specs.DomainName.{DomainName}
use Rattle.zst_key.specs.NameKeys.{name_of_key}
use Rattle.zst_key.proofs.KeyLemmas.{name-read, is-key}
use Rattle.zst_key.proofs.sorted.WholeKey.of.Goals as goal

-- A name has at most 255 octets.
short-name : (name : DomainName) → IsDomainName name → name_len name < 256
short-name name is = by (length name.labels == 0)
  where
    by : (b : Bool) → cond b 1 (labels_len name.labels) < 256
    by true = omega arith
    by false = omega (arith, is.short)

pub unreachable-requires : goal.unreachable-requires
unreachable-requires c =
    let no : ⊥ = cc (c.in-Err.ensures.short (short-name c.args.name.now c.len-size.ensures.name)) in no

pub invariant_of-result : goal.invariant_of-result
invariant_of-result c = is-key c.in-Ok.octets.items c.args.name.now c.in-Ok.ensures.key

pub returns : goal.returns
returns c = ap name_of_key c.in-Ok.ensures.key ∙ name-read c.args.name.now
