use Rattle.std.proofs.Common.{sym, ap, ◌∙◌}
use Rattle.drd_rdata.specs.Order.{type_number, data_form}
use Rattle.drd_rdata.specs.OrderLaws.{both_listed, listed_cmp, listed_orders, only_csync, only_https, only_opt, only_svcb}
use Rattle.drd_rdata.proofs.rdata.RData.cmp_data.Goals as goal

pub returns-in-CSYNC-clause-value : goal.returns-in-CSYNC-clause-value
returns-in-CSYNC-clause-value c =
    let same = only_csync c.args.other.now (sym c.requires.number ∙ ap type_number c.in-CSYNC.is) (sym c.requires.form ∙ ap data_form c.in-CSYNC.is) in
    rw c.in-CSYNC.is (c.cmp_set.ensures.value same.0 same.1)

pub returns-in-CSYNC-clause-canonical : goal.returns-in-CSYNC-clause-canonical
returns-in-CSYNC-clause-canonical c =
    let same = only_csync c.args.other.now (sym c.requires.number ∙ ap type_number c.in-CSYNC.is) (sym c.requires.form ∙ ap data_form c.in-CSYNC.is) in
    rw c.in-CSYNC.is (c.cmp_set.ensures.canonical same.0 same.1)

pub returns-in-HTTPS-clause-value : goal.returns-in-HTTPS-clause-value
returns-in-HTTPS-clause-value c =
    let same = only_https c.args.other.now (sym c.requires.number ∙ ap type_number c.in-HTTPS.is) (sym c.requires.form ∙ ap data_form c.in-HTTPS.is) in
    rw c.in-HTTPS.is (c.cmp_https.ensures.value same.0 same.1)

pub returns-in-HTTPS-clause-canonical : goal.returns-in-HTTPS-clause-canonical
returns-in-HTTPS-clause-canonical c =
    let same = only_https c.args.other.now (sym c.requires.number ∙ ap type_number c.in-HTTPS.is) (sym c.requires.form ∙ ap data_form c.in-HTTPS.is) in
    rw c.in-HTTPS.is (c.cmp_https.ensures.canonical same.0 same.1)

pub returns-in-OPT-clause-value : goal.returns-in-OPT-clause-value
returns-in-OPT-clause-value c =
    let same = only_opt c.args.other.now (sym c.requires.number ∙ ap type_number c.in-OPT.is) (sym c.requires.form ∙ ap data_form c.in-OPT.is) in
    rw c.in-OPT.is (c.cmp_options.ensures.value same.0 same.1)

pub returns-in-OPT-clause-canonical : goal.returns-in-OPT-clause-canonical
returns-in-OPT-clause-canonical c =
    let same = only_opt c.args.other.now (sym c.requires.number ∙ ap type_number c.in-OPT.is) (sym c.requires.form ∙ ap data_form c.in-OPT.is) in
    rw c.in-OPT.is (c.cmp_options.ensures.canonical same.0 same.1)

pub returns-in-SVCB-clause-value : goal.returns-in-SVCB-clause-value
returns-in-SVCB-clause-value c =
    let same = only_svcb c.args.other.now (sym c.requires.number ∙ ap type_number c.in-SVCB.is) (sym c.requires.form ∙ ap data_form c.in-SVCB.is) in
    rw c.in-SVCB.is (c.cmp_service.ensures.value same.0 same.1)

pub returns-in-SVCB-clause-canonical : goal.returns-in-SVCB-clause-canonical
returns-in-SVCB-clause-canonical c =
    let same = only_svcb c.args.other.now (sym c.requires.number ∙ ap type_number c.in-SVCB.is) (sym c.requires.form ∙ ap data_form c.in-SVCB.is) in
    rw c.in-SVCB.is (c.cmp_service.ensures.canonical same.0 same.1)

pub returns-in_default-clause-value : goal.returns-in_default-clause-value
returns-in_default-clause-value c =
    let both = both_listed c.args.self.now c.args.other.now c.requires.number c.requires.form c.in_default.not-CSYNC c.in_default.not-HTTPS c.in_default.not-OPT c.in_default.not-SVCB in
    let mine = c.as_slice.ensures ∙ c.fields.ensures in
    let theirs = c.as_slice-in_default.ensures ∙ c.fields-in_default.ensures in
    listed_cmp c.args.self.now c.args.other.now both c.cmp_list.result (rw (mine, theirs) at c.cmp_list.ensures.value)

pub returns-in_default-clause-canonical : goal.returns-in_default-clause-canonical
returns-in_default-clause-canonical c =
    let both = both_listed c.args.self.now c.args.other.now c.requires.number c.requires.form c.in_default.not-CSYNC c.in_default.not-HTTPS c.in_default.not-OPT c.in_default.not-SVCB in
    let mine = c.as_slice.ensures ∙ c.fields.ensures in
    let theirs = c.as_slice-in_default.ensures ∙ c.fields-in_default.ensures in
    listed_orders c.args.self.now c.args.other.now both c.cmp_list.result (rw (mine, theirs) at c.cmp_list.ensures.canonical)
