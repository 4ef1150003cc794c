use Rattle.std.proofs.Common.{◌<◌, None, Some, arith, length, refl}
use Rattle.zst_record.proofs.Drafting.{got_drafted, got_stored, place_below, there_at}
use Rattle.zst_record.proofs.draft.Draft.get.Goals as goal

pub bounds-stored-place : goal.bounds-stored-place
bounds-stored-place g c =
    place_below 0 (length c.args.stored.now) c.args.at c.in-Some.place c.args.self.now.places.items c.requires.draft.rise
    (there_at c.args.self.now.places.items c.args.at _ c.index.result.now (Some c.in-Some.place) (omega (arith, c.requires.draft.long, c.requires.at)) c.index.ensures c.in-Some.is)

pub offset_bounds-stored-place : goal.offset_bounds-stored-place
offset_bounds-stored-place g c =
    let below : c.in-Some.place < length c.args.stored.now
    = place_below 0 (length c.args.stored.now) c.args.at c.in-Some.place c.args.self.now.places.items c.requires.draft.rise
    (there_at c.args.self.now.places.items c.args.at _ c.index.result.now (Some c.in-Some.place) (omega (arith, c.requires.draft.long, c.requires.at)) c.index.ensures c.in-Some.is) in
    omega (arith, below)

pub returns-in-Some : goal.returns-in-Some
returns-in-Some g c =
    let below : c.in-Some.place < length c.args.stored.now
    = place_below 0 (length c.args.stored.now) c.args.at c.in-Some.place c.args.self.now.places.items c.requires.draft.rise
    (there_at c.args.self.now.places.items c.args.at _ c.index.result.now (Some c.in-Some.place) (omega (arith, c.requires.draft.long, c.requires.at)) c.index.ensures c.in-Some.is) in
    got_stored c.args.stored.now c.args.self.now.places.items c.args.self.now.items.items c.args.at c.in-Some.place c.index-stored-place.result c.requires.at
    (there_at c.args.self.now.places.items c.args.at _ c.index.result.now (Some c.in-Some.place) (omega (arith, c.requires.draft.long, c.requires.at)) c.index.ensures c.in-Some.is)
    (there_at c.args.stored.now c.in-Some.place _ c.index-stored-place.result c.index-stored-place.result below c.index-stored-place.is refl)

pub returns-in-None : goal.returns-in-None
returns-in-None g c =
    got_drafted c.args.stored.now c.args.self.now.places.items c.args.self.now.items.items c.args.at None c.index-in-None.result.now
    (there_at c.args.self.now.places.items c.args.at _ c.index.result.now None (omega (arith, c.requires.draft.long, c.requires.at)) c.index.ensures c.in-None.is)
    (there_at c.args.self.now.items.items c.args.at _ c.index-in-None.result.now c.index-in-None.result.now c.requires.at c.index-in-None.ensures refl)
