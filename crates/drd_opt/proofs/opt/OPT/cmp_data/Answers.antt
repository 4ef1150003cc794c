use Rattle.std.proofs.Common.{◌≡◌, ◌∙◌, rules}
use Rattle.drd_opt.specs.Order.{entries_cmp}
use Rattle.drd_opt.specs.OrderLaws.{canonical_orders}
use Rattle.drd_opt.proofs.FitLaws.{read_fit}
use Rattle.drd_opt.proofs.opt.OPT.cmp_data.Goals as goal

pub returns-clause-canonical : goal.returns-clause-canonical
returns-clause-canonical c = λ fit other_fit.
    let xs = c.args.self.now.options.items in
    let ys = c.args.other.now.options.items in
    let value : c.cmp_entries.result ≡ entries_cmp xs ys = search rules in
    value ∙ canonical_orders xs ys fit other_fit

pub returns-clause-read : goal.returns-clause-read
returns-clause-read c = λ octets other_octets holds other_holds.
    let xs = c.args.self.now.options.items in
    let ys = c.args.other.now.options.items in
    let value : c.cmp_entries.result ≡ entries_cmp xs ys = search rules in
    value ∙ canonical_orders xs ys (read_fit octets xs holds) (read_fit other_octets ys other_holds)
