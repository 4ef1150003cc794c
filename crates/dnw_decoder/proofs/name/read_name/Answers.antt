use Rattle.std.proofs.Common.{◌+◌, None, true, [], length}
use Rattle.std.proofs.lemmas.Result.{err_from_is_err_and}
use Rattle.dnw_name.specs.dnw_codes.declared.error.DecodeError.TheVariants.{Memory}
use Rattle.dnw_name.specs.DomainName.{domain_name}
use Rattle.dnw_decoder.proofs.Progress.{has_run, reading_end, walk_refused, walked, walking_on, walking_start}
use Rattle.dnw_decoder.proofs.name.read_name.Goals as goal

pub push_run-requires-clause-labels : goal.push_run-requires-clause-labels
push_run-requires-clause-labels c =
    let w = walking_on (walking_start c.args.octets.now c.args.start c.requires.start) c.run_end-run.ensures.run c.run_end-run.ensures.ahead c.run_end-run.ensures.room in
    (w.pending, w.each, (has_run c.args.octets.now c.args.start (domain_name true []) _ c.args.start (length c.args.octets.now) c.run_end-run.result c.args.start None w).spelled)

pub returns-in_err-push_run-clause-refused : goal.returns-in_err-push_run-clause-refused
returns-in_err-push_run-clause-refused c =
    let p = err_from_is_err_and c.from_residual.result c.from_residual.ensures.1 in
    rw (p.1, p.2, c.in_err-push_run.ensures.refused)
    (walk_refused c.args.octets.now c.args.start (domain_name true []) _ c.args.start (length c.args.octets.now) c.args.start c.args.start None Memory (walking_start c.args.octets.now c.args.start c.requires.start) tt)

pub returns-in-Ok-End-clause-ok : goal.returns-in-Ok-End-clause-ok
returns-in-Ok-End-clause-ok c =
    let here = rw c.in-Ok-End.field-0-is at c.in-Ok-End.ensures.ok in
    let w = walking_on (walking_start c.args.octets.now c.args.start c.requires.start) c.run_end-run.ensures.run c.run_end-run.ensures.ahead c.run_end-run.ensures.room in
    let run = has_run c.args.octets.now c.args.start (domain_name true []) _ c.args.start (length c.args.octets.now) c.run_end-run.result c.args.start None w in
    let whole = rw c.root-name.ensures at c.in_ok-push_run.ensures.ok w.pending w.each run.spelled in
    let name = walked c.args.octets.now c.args.start (domain_name true []) c.push_run.new.name _ c.args.start (length c.args.octets.now) c.run_end-run.result c.args.start None w whole in
    (reading_end c.args.octets.now c.args.start c.push_run.new.name c.args.start (length c.args.octets.now) c.run_end-run.result (c.run_end-run.result + 1) None name.0 here.0 here.1).0
