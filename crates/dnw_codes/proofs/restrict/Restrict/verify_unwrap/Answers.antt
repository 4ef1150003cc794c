use Rattle.dnw_codes.proofs.restrict.Restrict.verify_unwrap.Goals as goal

pub returns-then-valid : goal.returns-then-valid
returns-then-valid g c =
    let tested = rw c.if-valid.true at c.f-valid.ensures in
    (c.self.view_is, record { shown = _; shows = c.self.view_is; says = record { met = tested } })

pub returns : goal.returns
returns g c =
    let tested = rw c.if-valid.false at c.f-valid.ensures in
    (c.self.view_is, record { shown = _; shows = c.self.view_is; says = record { met = tested } })
