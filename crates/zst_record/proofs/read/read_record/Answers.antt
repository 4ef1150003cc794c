use Rattle.std.proofs.Common.{ℕ, List, subst, inr}
use Rattle.std.proofs.lemmas.Result.{err_from_is_err_and}
use Rattle.zst_record.specs.Reading.{RefusesBehind}
use Rattle.zst_record.proofs.ReadingLaws.{none_record}
use Rattle.zst_record.proofs.read.read_record.Goals as goal

pub returns-in_err-dns_class-clause-refused : goal.returns-in_err-dns_class-clause-refused
returns-in_err-dns_class-clause-refused c =
    let p = err_from_is_err_and c.from_residual-in_err-dns_class.result c.from_residual-in_err-dns_class.ensures.1 in
    rw (p.1, p.2) (inr (
    record {
      owner = c.in_ok-name.name;
      behind = c.read.new.decoder.index;
      there = c.in_ok-name.ensures.ok;
      cause = subst (λ (m : List ℕ). RefusesBehind m c.read.new.decoder.index c.in_err-dns_class.field-0.0) c.in_ok-name.ensures.same c.in_err-dns_class.ensures.refused;
    }
    ))

pub returns-in_err-dns_class-clause-none : goal.returns-in_err-dns_class-clause-none
returns-in_err-dns_class-clause-none c =
    let p = err_from_is_err_and c.from_residual-in_err-dns_class.result c.from_residual-in_err-dns_class.ensures.1 in
    rw (p.1, p.2) (none_record c.args.decoder.now.octets c.read.new.decoder.octets c.args.decoder.now.index c.read.new.decoder.index c.in_ok-name.name _
    c.in_ok-name.ensures.same c.in_ok-name.ensures.ok c.in_err-dns_class.ensures.none)
