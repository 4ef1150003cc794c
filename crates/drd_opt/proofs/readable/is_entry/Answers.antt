use Rattle.std.proofs.Common.{length, sym, ◌∙◌, arith}
use Rattle.std.proofs.lemmas.Bool.{both_ways, leb-false, leb-true}
use Rattle.drd_opt.specs.Options.{option_octets}
use Rattle.drd_opt.proofs.ReadableLaws.{entry_code, entry_few, entry_form, entry_stands}
use Rattle.drd_opt.proofs.readable.is_entry.Goals as goal
use Rattle.drd_opt.proofs.readable.is_entry.Goals.{then-has_own_code, else-has_own_code}

pub returns-then-is_countable : goal.returns-then-is_countable
returns-then-is_countable c =
    let entry = c.args.entry.now in
    elim c.if-has_own_code.branch [
      | then-has_own_code w ↦ (
        λ yes. entry_stands entry.0 entry.1 c.has_own_code.ensures.small (c.has_own_code.ensures.same.0 w.if-has_own_code.true)
            (leb-true (length (option_octets entry.1)) 65535 (sym w.is_countable.ensures ∙ sym w.value-is ∙ c.if-is_countable.true)) (c.has_own_form.ensures.0 yes),
        λ stands. c.has_own_form.ensures.1 (entry_form entry.0 entry.1 stands),
      )
      | else-has_own_code w ↦ absurd (both_ways c.if-has_own_code.value (w.value-is ∙ w.if-has_own_code.false) c.if-is_countable.true)
    ]

pub returns-else-is_countable : goal.returns-else-is_countable
returns-else-is_countable c =
    let entry = c.args.entry.now in (
      λ yes. absurd (cc yes),
      λ stands. elim c.if-has_own_code.branch [
        | then-has_own_code w ↦ absurd
            (omega (
              arith,
              leb-false (length (option_octets entry.1)) 65535
                  (sym w.is_countable.ensures ∙ sym w.value-is ∙ c.if-is_countable.false),
              entry_few entry.0 entry.1 stands,
            ))
        | else-has_own_code w ↦ absurd
            (both_ways c.has_own_code.result w.if-has_own_code.false
            (c.has_own_code.ensures.same.1 (entry_code entry.0 entry.1 stands)))
      ],
    )
