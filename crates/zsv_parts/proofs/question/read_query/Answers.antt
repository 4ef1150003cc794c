use Rattle.std.proofs.lemmas.Result.{err_from_is_err_and}
use Rattle.zsv_parts.proofs.Questions.{name_none, type_none, class_none, lacks_type, lacks_class}
use Rattle.zsv_parts.proofs.question.read_query.Goals as goal

pub returns-in_err-name-clause-none : goal.returns-in_err-name-clause-none
returns-in_err-name-clause-none c =
    let p = err_from_is_err_and c.from_residual.result c.from_residual.ensures.1 in
    rw (p.1, p.2) (name_none c.args.decoder.now.octets c.args.decoder.now.index _ c.in_err-name.ensures.none)

pub returns-in_err-query_type-clause-refused : goal.returns-in_err-query_type-clause-refused
returns-in_err-query_type-clause-refused c =
    let p = err_from_is_err_and c.from_residual-in_err-query_type.result c.from_residual-in_err-query_type.ensures.1 in
    let cut = rw c.in_ok-name.ensures.same at c.in_err-query_type.ensures.refused in
    rw (p.1, p.2) (lacks_type c.args.decoder.now.octets c.args.decoder.now.index c.read.new.decoder.index c.in_ok-name.name _ c.in_ok-name.ensures.ok cut)

pub returns-in_err-query_type-clause-none : goal.returns-in_err-query_type-clause-none
returns-in_err-query_type-clause-none c =
    let p = err_from_is_err_and c.from_residual-in_err-query_type.result c.from_residual-in_err-query_type.ensures.1 in
    let none = rw c.in_ok-name.ensures.same at c.in_err-query_type.ensures.none in
    rw (p.1, p.2) (type_none c.args.decoder.now.octets c.args.decoder.now.index c.read.new.decoder.index c.in_ok-name.name _ c.in_ok-name.ensures.ok none)

pub returns-in_err-query_class-clause-refused : goal.returns-in_err-query_class-clause-refused
returns-in_err-query_class-clause-refused c =
    let p = err_from_is_err_and c.from_residual-in_err-query_class.result c.from_residual-in_err-query_class.ensures.1 in
    let typed = rw c.in_ok-name.ensures.same at c.in_ok-query_type.ensures.ok in
    let cut = rw (c.in_ok-query_type.ensures.same, c.in_ok-name.ensures.same) at c.in_err-query_class.ensures.refused in
    rw (p.1, p.2) (lacks_class c.args.decoder.now.octets c.args.decoder.now.index c.read.new.decoder.index c.read-2.new.decoder.index c.in_ok-name.name c.in_ok-query_type.query_type _ c.in_ok-name.ensures.ok typed cut)

pub returns-in_err-query_class-clause-none : goal.returns-in_err-query_class-clause-none
returns-in_err-query_class-clause-none c =
    let p = err_from_is_err_and c.from_residual-in_err-query_class.result c.from_residual-in_err-query_class.ensures.1 in
    let typed = rw c.in_ok-name.ensures.same at c.in_ok-query_type.ensures.ok in
    let none = rw (c.in_ok-query_type.ensures.same, c.in_ok-name.ensures.same) at c.in_err-query_class.ensures.none in
    rw (p.1, p.2) (class_none c.args.decoder.now.octets c.args.decoder.now.index c.read.new.decoder.index c.read-2.new.decoder.index c.in_ok-name.name c.in_ok-query_type.query_type _ c.in_ok-name.ensures.ok typed none)
