use Rattle.std.proofs.Common.{◌≡◌, ◌+◌, arith}
use Rattle.zst_absence.specs.dnw_name.DomainName.{DomainName, lowercase_name, name_cmp}
use Rattle.zst_absence.proofs.zst_denial_lemmas.zst_key_lemmas.NamesAbove.{name_total}
use Rattle.zst_circle.proofs.Circling.{first_at, next_at, slice_at}
use Rattle.zst_circle.proofs.NsecSecured.{all_in}
use Rattle.zst_circle.proofs.by_name.next_on.Goals as goal

pub returns-then-after-names-clause-follows : goal.returns-then-after-names-clause-follows
returns-then-after-names-clause-follows c = λ owner here.
    next_at name_cmp name_total c.args.names.now c.requires.sorted c.args.place (c.args.place + 1) owner c.index-names-after.result (omega arith) here c.if-after-names.true c.index-names-after.is

pub returns-else-after-names-clause-follows : goal.returns-else-after-names-clause-follows
returns-else-after-names-clause-follows c = λ owner here.
    first_at name_cmp name_total c.args.names.now c.requires.sorted c.args.place (c.args.place + 1) owner c.index-names-0.result (omega arith) here c.if-after-names.false c.index-names-0.is

pub returns-then-after-names-clause-lower : goal.returns-then-after-names-clause-lower
returns-then-after-names-clause-lower c =
    all_in c.index-names-after.result c.args.names.now (λ (n : DomainName). lowercase_name n ≡ n) (c.args.place + 1) c.requires.lower
    (slice_at c.args.names.now (c.args.place + 1) c.index-names-after.result c.if-after-names.true c.index-names-after.is)

pub returns-else-after-names-clause-lower : goal.returns-else-after-names-clause-lower
returns-else-after-names-clause-lower c =
    all_in c.index-names-0.result c.args.names.now (λ (n : DomainName). lowercase_name n ≡ n) 0 c.requires.lower
    (slice_at c.args.names.now 0 c.index-names-0.result (omega (arith, c.requires.place)) c.index-names-0.is)
