use Rattle.std.proofs.Common.{true, false, refl, ◌≡◌, subst}
use Rattle.std.specs.Str.Parse.{ParsesUnsigned}
use Rattle.dnw_net.proofs.NetworkLemmas.{decimal_same, decimal_plain, decimal_utf8, octet_read, octet_not_read}
use Rattle.dnw_net.proofs.network.OctetsNumerals.read.Goals as goal

pub returns-then-not-starts_plainly-clause-none : goal.returns-then-not-starts_plainly-clause-none
returns-then-not-starts_plainly-clause-none c n small same =
    let plain : false ≡ true = c.if-not-starts_plainly.ensures.1 (rw (decimal_same c.args.label.now n small same) (decimal_plain n small)) in
    absurd (cc)

pub returns-in_default-clause-none : goal.returns-in_default-clause-none
returns-in_default-clause-none c n small same = c.in_default.ensures.cases.0 (decimal_utf8 c.args.label.now n small same)

pub returns-in-Ok-parse-clause-some : goal.returns-in-Ok-parse-clause-some
returns-in-Ok-parse-clause-some c =
    octet_read c.args.label.now c.parse.result c.in-Ok-parse.octet c.in-Ok-parse.is (c.if-not-starts_plainly.ensures.0 refl)
    (subst (λ bs. ParsesUnsigned 8 10 bs c.parse.result) c.in-Ok.ensures.cases.0 c.parse.ensures.value.0)

pub returns-in-Err-clause-none : goal.returns-in-Err-clause-none
returns-in-Err-clause-none c =
    octet_not_read c.args.label.now c.parse.result c.in-Err.field-0 c.in-Err.is
    (subst (λ bs. ParsesUnsigned 8 10 bs c.parse.result) c.in-Ok.ensures.cases.0 c.parse.ensures.value.0)
