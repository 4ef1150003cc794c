-- Equality is one.
use Rattle.std.proofs.lemmas.Cmp.{and_equiv, on_equiv, nat_eq_equiv, nat_list_eq_equiv}
use Rattle.std.specs.Cmp.{IsEquivalence}
use Rattle.drd_csync.specs.declared.csync.CSYNC.{CSYNC}
use Rattle.drd_csync.specs.Data.{csync_flags}
use Rattle.drd_csync.specs.Equality.{csync_eq}

pub csync_equiv : IsEquivalence csync_eq
csync_equiv =
    and_equiv (on_equiv (λ (csync : CSYNC). csync.soa_serial) nat_eq_equiv)
    (and_equiv (on_equiv csync_flags nat_eq_equiv)
    (on_equiv (λ (csync : CSYNC). csync.type_bit_maps) nat_list_eq_equiv))
