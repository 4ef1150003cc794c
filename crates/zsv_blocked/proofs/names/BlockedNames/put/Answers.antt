use Rattle.std.proofs.Common.{◌≡◌, ◌∷◌, List, Bool, ap, sym, subst, ◌∙◌}
use Rattle.std.proofs.Math.Bool.{◌||◌, or_comm}
use Rattle.std.specs.List.{list_any}
use Rattle.std.specs.List.Sorted.{IsPermutation}
use Rattle.std.specs.Map.{keys_of}
use Rattle.std.proofs.lemmas.List.Elements.{All-cons}
use Rattle.std.proofs.lemmas.List.Sorted.{All-permutation, list_any-IsPermutation}
use Rattle.dnw_name.specs.DomainName.{DomainName, is_wildcard, lowercase_name}
use Rattle.zsv_blocked.specs.BlockedNames.{is_listed}
use Rattle.zsv_blocked.proofs.EntryLemmas.{any-key, entry-put, keys-permuted}
use Rattle.zsv_blocked.proofs.WildcardLemmas.{name-lower}
use Rattle.zsv_blocked.proofs.names.BlockedNames.put.Goals as goal

pub invariant_of-self-2 : goal.invariant_of-self-2
invariant_of-self-2 c =
    let old = c.self.inside.names.entries in
    let new = c.insert.new.self.entries in
    let key = c.args.key in
    let gone = ap (λ (names : List DomainName). is_listed names key) c.self.view_is ∙ c.requires.new in
    let put = entry-put old new key c.args.name c.in_ok-insert.field-0 _ c.in_ok-insert.ensures.old gone c.in_ok-insert.ensures.entries in
    let wild = c.is_wildcard-is_wildcard.result in (
      All-permutation (λ (e : DomainName × DomainName). e.1 ≡ lowercase_name e.0) ((key, c.args.name) ∷ old) new put
          (All-cons (λ (e : DomainName × DomainName). e.1 ≡ lowercase_name e.0) (key, c.args.name) old c.requires.lower c.self.invariant.0),
      ap (λ (b : Bool). b || wild) c.self.invariant.1
          ∙ or_comm (list_any is_wildcard (keys_of old)) wild
          ∙ ap (λ (b : Bool). b || list_any is_wildcard (keys_of old)) (c.is_wildcard-is_wildcard.ensures ∙ ap is_wildcard c.requires.lower ∙ name-lower key)
          ∙ ap (λ (b : Bool). is_wildcard key || b) (any-key is_wildcard old)
          ∙ list_any-IsPermutation (λ (e : DomainName × DomainName). is_wildcard e.0) ((key, c.args.name) ∷ old) new put
          ∙ sym (any-key is_wildcard new),
    )

pub returns : goal.returns
returns c =
    let old = c.self.inside.names.entries in
    let new = c.insert.new.self.entries in
    let key = c.args.key in
    let gone = ap (λ (names : List DomainName). is_listed names key) c.self.view_is ∙ c.requires.new in
    let put = entry-put old new key c.args.name c.in_ok-insert.field-0 _ c.in_ok-insert.ensures.old gone c.in_ok-insert.ensures.entries in
    subst (λ (names : List DomainName). IsPermutation (key ∷ names) (keys_of new)) c.self.view_is (keys-permuted ((key, c.args.name) ∷ old) new put)
