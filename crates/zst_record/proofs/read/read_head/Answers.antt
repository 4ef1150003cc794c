use Rattle.std.proofs.Common.{ℕ, ◌^◌, ◌<◌, length, ap, subst, arith}
use Rattle.std.proofs.lemmas.Result.{err_from_is_err_and}
use Rattle.drd_rdata.proofs.dnw_decoder_lemmas.Standing.{length-octets_32}
use Rattle.zst_record.proofs.ReadingLaws.{head_whole}
use Rattle.zst_record.proofs.read.read_head.Goals as goal

pub returns-in_err-read_u16-clause-cut : goal.returns-in_err-read_u16-clause-cut
returns-in_err-read_u16-clause-cut c =
    let p = err_from_is_err_and c.from_residual-in_err-read_u16.result c.from_residual-in_err-read_u16.ensures.1 in
    let lacks = c.in_err-read_u16.ensures.err in
    let time = c.in_ok-read_u32.ensures.ok in
    rw (p.1, p.2) (
      lacks.cause,
      omega (
        arith,
        lacks.short,
        ap length time.same,
        ap length c.in_ok-dns_class.ensures.same,
        ap length c.in_ok-record_type.ensures.same,
        c.in_ok-record_type.ensures.ok.there.behind,
        c.in_ok-dns_class.ensures.ok.there.behind,
        time.there.behind,
        length-octets_32 c.in_ok-read_u32.field-0,
      ),
    )

pub returns-clause-ok : goal.returns-clause-ok
returns-clause-ok c =
    rw (c.unverified-ttl.ensures, c.unverified-len.ensures)
    (head_whole c.args.decoder.now.octets c.read.new.decoder.octets c.read-2.new.decoder.octets c.read_u32.new.self.octets c.args.decoder.now.index c.read.new.decoder.index c.read-2.new.decoder.index c.read_u32.new.self.index c.read_u16.new.self.index
    c.in_ok-record_type.record_type c.in_ok-dns_class.dns_class c.in_ok-read_u32.field-0 c.in_ok-read_u16.field-0 c.in_ok-record_type.ensures.same c.in_ok-dns_class.ensures.same c.in_ok-read_u32.ensures.ok.same
    c.in_ok-record_type.ensures.ok c.in_ok-dns_class.ensures.ok c.in_ok-read_u32.ensures.ok.there c.in_ok-read_u16.ensures.ok.there
    (subst (λ (n : ℕ). n < 2 ^ 32) c.unverified-ttl.ensures c.unverified-ttl.type_inv) (subst (λ (n : ℕ). n < 2 ^ 16) c.unverified-len.ensures c.unverified-len.type_inv)).0

pub returns-clause-end : goal.returns-clause-end
returns-clause-end c =
    omega (arith, c.in_ok-record_type.ensures.ok.there.behind, c.in_ok-dns_class.ensures.ok.there.behind, c.in_ok-read_u32.ensures.ok.there.behind, c.in_ok-read_u16.ensures.ok.there.behind, length-octets_32 c.in_ok-read_u32.field-0)
