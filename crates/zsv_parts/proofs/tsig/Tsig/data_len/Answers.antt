use Rattle.std.proofs.Common.{◌≡◌, ◌+◌, ◌≤◌, ℕ, List, length, ap, arith}
use Rattle.dnw_encoder.specs.dnw_name.DomainName.{DomainName, IsDomainName, name_octets}
use Rattle.dnw_encoder.specs.dnw_label.Labels.{label_octets}
use Rattle.dnw_encoder.proofs.NameLaws.{length-name_octets, length-octets}
use Rattle.zsv_parts.proofs.SignatureWriting.{tsig_size}
use Rattle.zsv_parts.proofs.tsig.Tsig.data_len.Goals as goal

-- The octets of a name's labels are few.
labels_few : (name : DomainName) (octets : List ℕ) → octets ≡ label_octets name.labels → IsDomainName name → length octets ≤ 254
labels_few name octets same is = omega (arith, ap length same, length-octets name, length-name_octets name, is.short)

-- With the octet of the end they are the name's.
labels_all : (name : DomainName) (octets : List ℕ) → octets ≡ label_octets name.labels → length octets + 1 ≡ length (name_octets name)
labels_all name octets same = omega (arith, ap length same, length-octets name)

pub overflow_add-len : goal.overflow_add-len
overflow_add-len c =
    let few = labels_few c.args.self.now.algorithm c.as_octets-name.result.now c.as_octets-name.ensures.octets c.as_octets-name.ensures.name in
    omega (arith, few)

pub overflow_add-len-2 : goal.overflow_add-len-2
overflow_add-len-2 c =
    let few = labels_few c.args.self.now.algorithm c.as_octets-name.result.now c.as_octets-name.ensures.octets c.as_octets-name.ensures.name in
    omega (arith, few, c.from.ensures)

pub overflow_add-len-3 : goal.overflow_add-len-3
overflow_add-len-3 c =
    let few = labels_few c.args.self.now.algorithm c.as_octets-name.result.now c.as_octets-name.ensures.octets c.as_octets-name.ensures.name in
    omega (arith, few, c.from.ensures, c.from-2.ensures)

pub returns-in-Ok : goal.returns-in-Ok
returns-in-Ok c =
    let all = labels_all c.args.self.now.algorithm c.as_octets-name.result.now c.as_octets-name.ensures.octets in
    omega (arith, all, tsig_size c.args.self.now, c.from.ensures, c.from-2.ensures, c.in-Ok.ensures)

pub returns-in-Err : goal.returns-in-Err
returns-in-Err c =
    let all = labels_all c.args.self.now.algorithm c.as_octets-name.result.now c.as_octets-name.ensures.octets in
    omega (arith, all, tsig_size c.args.self.now, c.from.ensures, c.from-2.ensures, c.in-Err.ensures)
