use Rattle.std.proofs.Common.{subst, sym}
use Rattle.std.specs.Prelude.{IsTrue}
use Rattle.drd_rdata.proofs.WrittenLaws.{plain_exceeds}
use Rattle.drd_rdata.proofs.exceeding.exceeds_rdlength.Goals as goal

pub returns-in_default : goal.returns-in_default
returns-in_default c =
    subst (λ (T : Type 0). (IsTrue c.fields_exceed.result → T) × (T → IsTrue c.fields_exceed.result))
    (sym (plain_exceeds c.args.rdata.now c.in_default.not-A c.in_default.not-AAAA c.in_default.not-ANAME c.in_default.not-CNAME c.in_default.not-CSYNC c.in_default.not-HTTPS c.in_default.not-MX c.in_default.not-NS c.in_default.not-OPT c.in_default.not-PTR c.in_default.not-SOA c.in_default.not-SRV c.in_default.not-SVCB))
    c.fields_exceed.ensures
