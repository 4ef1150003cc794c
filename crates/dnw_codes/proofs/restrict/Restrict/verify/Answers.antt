use Rattle.dnw_codes.proofs.restrict.Restrict.verify.Goals as goal

pub returns-clause-tested : goal.returns-clause-tested
returns-clause-tested g c =
    record { shown = _; shows = c.self.view_is; says = record { met = c.f-valid.ensures } }
