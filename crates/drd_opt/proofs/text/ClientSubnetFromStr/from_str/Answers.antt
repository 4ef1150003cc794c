use Rattle.std.proofs.Common.{◌≡◌, ◌<◌, ℕ, List, sym, ap, subst, arith, rules}
use Rattle.std.proofs.NetLemmas.Theorems.{IsIpText_unique}
use Rattle.std.specs.List.{before_first, after_first}
use Rattle.std.specs.Net.Grammar.{IsIpText}
use Rattle.std.specs.Str.Parse.{digits_value}
use Rattle.drd_words.specs.dnw_net.Networks.{address_bits}
use Rattle.drd_words.specs.Word.{IsNumberWord}
use Rattle.drd_opt.specs.Texts.{is_slash}
use Rattle.drd_opt.proofs.text.ClientSubnetFromStr.from_str.Goals as goal

pub returns-in-Err-block_of : goal.returns-in-Err-block_of
returns-in-Err-block_of c = λ subnet is.
    let text = c.args.text.now in
    let front : c.in-Some.address.now ≡ before_first is_slash text = search rules in
    let behind : c.in-Some.digits.now ≡ after_first is_slash text = search rules in
    let parsed : IsIpText c.in-Some.address.now c.in-Ok.address = rw c.in-Ok.is at c.parse.ensures.value in
    let number : IsNumberWord 8 c.in-Ok-prefix_of.prefix c.in-Some.digits.now = rw c.in-Ok-prefix_of.is at c.prefix_of.ensures.ok in
    let past : address_bits c.in-Ok.address < c.in-Ok-prefix_of.prefix = rw c.in-Err-block_of.is at c.block_of.ensures.refused in
    let same : subnet.address ≡ c.in-Ok.address =
    IsIpText_unique c.in-Some.address.now subnet.address c.in-Ok.address (subst (λ (t : List ℕ). IsIpText t subnet.address) (sym front) is.address) parsed in
    omega (arith, ap address_bits same, is.within, number.1, is.prefix.1, ap (digits_value 10) behind, past)
