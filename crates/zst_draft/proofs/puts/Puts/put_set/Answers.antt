use Rattle.std.proofs.Common.{◌≡◌, ◌∙◌, ◌∷◌, ◌++◌, [], List, ap, reverse, rules, subst, sym}
use Rattle.std.proofs.lemmas.List.{reverse-append}
use Rattle.zst_map.specs.dnw_codes.declared.record_type.RecordType.{RecordType}
use Rattle.zst_map.specs.dnw_name.DomainName.{DomainName}
use Rattle.zst_draft.specs.Settling.{Returns}
use Rattle.zst_draft.proofs.Backing.{from_ok, way_back}
use Rattle.zst_draft.proofs.puts.Puts.put_set.Goals as goal

pub returns-clause-back : goal.returns-clause-back
returns-clause-back c = λ start returns.
    let entry : DomainName × RecordType = (c.in-Ok.key, c.record_type-record_type.result) in
    let done = c.args.self.now.done.items in
    let items : c.push_reserved.new.self.items ≡ done ++ entry ∷ []
    = c.push_reserved.ensures.items ∙ ap (λ (l : List (DomainName × RecordType)). l ++ entry ∷ []) c.try_reserve.ensures.items in
    let back : reverse c.push_reserved.new.self.items ≡ entry ∷ reverse done = ap reverse items ∙ reverse-append done (entry ∷ []) in
    subst (λ (l : List (DomainName × RecordType)). Returns start l c.put_at.new.self) (sym back)
    (way_back start c.args.zone.now c.put_at.new.self (reverse done) c.args.set c.in-Ok.key c.record_type-record_type.result
    (c.in-Ok.ensures.cases ∙ c.requires.key)
    c.record_type-record_type.ensures
    c.requires.none
    (from_ok c.put_at.result c.is_err-2.result c.if-is_err-2.false (search rules) c.put_at.ensures.ok)
    returns)
