use Rattle.std.proofs.Common.{List, ℕ, refl, sym, subst, ◌∙◌}
use Rattle.std.specs.List.{slice_range}
use Rattle.dnw_encoder.specs.Candidates.{KeepsOctets}
use Rattle.dnw_encoder.specs.Encoders.{state}
use Rattle.dnw_encoder.proofs.PointerLaws.{stores, stores_none}
use Rattle.dnw_encoder.proofs.encoder.BinEncoder.store_label_pointer.Goals as goal

pub returns-in-Ok-clause-ok : goal.returns-in-Ok-clause-ok
returns-in-Ok-clause-ok c =
    stores c.args.start c.args.end (state c.args.self.now) _ c.requires.order c.requires.within c.requires.shut refl refl refl
    (record { maximum = refl; encoding = refl; canonical = refl; points = refl })
    (subst (λ (o : List ℕ). KeepsOctets (slice_range o c.args.start c.args.end) c.args.start c.args.self.now.candidates c.keep_octets.new.self) c.deref.ensures.value c.in-Ok.ensures.ok)

pub returns-then-not-writes_pointers-clause-ok : goal.returns-then-not-writes_pointers-clause-ok
returns-then-not-writes_pointers-clause-ok c =
    stores_none c.args.start c.args.end (state c.args.self.now) (sym c.writes_pointers.ensures ∙ c.if-not-writes_pointers.true)
