use Rattle.std.proofs.Common.{◌≡◌, ◌∙◌, ap, w16, w32}
use Rattle.std.specs.Int.{to_be_bytes}
use Rattle.drd_denial.specs.Rrsig.{Signing, front_octets, signing}
use Rattle.drd_denial.proofs.Fronts.{front_is, front_of}
use Rattle.drd_denial.proofs.rrsig.ZoneSignature.front.Goals as goal

pub returns-clause-octets : goal.returns-clause-octets
returns-clause-octets c =
    let of = c.self.inside in
    let s : Signing = signing of.algorithm of.key_tag of.signer of.inception of.expiration of.octets.items in
    let ttl : c.to_be_bytes.result ≡ to_be_bytes w32 c.args.original_ttl = c.to_be_bytes.ensures in
    let end : c.to_be_bytes-2.result ≡ to_be_bytes w32 of.expiration = c.to_be_bytes-2.ensures in
    let start : c.to_be_bytes-3.result ≡ to_be_bytes w32 of.inception = c.to_be_bytes-3.ensures in
    let tag : c.to_be_bytes-4.result ≡ to_be_bytes w16 of.key_tag = c.to_be_bytes-4.ensures in
    (λ i. front_of of.algorithm c.args.labels (ttl i) (end i) (start i) (tag i))
    ∙ front_is c.args.labels c.args.original_ttl s
    ∙ ap (λ (x : Signing). front_octets c.args.labels c.args.original_ttl x) c.self.view_is
