-- The NSID is asked for where there is an option of its code.
use Rattle.std.proofs.Common.{◌≡◌, ◌∙◌, ℕ, ◌++◌, ap, map, refl, sym}
use Rattle.std.specs.Prelude.{Bool, true, false, cond, ◌||◌, ◌==◌, List, [], ◌∷◌, Option, Some, None, is_some, option_map, slice_get}
use Rattle.std.specs.List.{filter, list_any}
use Rattle.drd_types.specs.declared.EdnsCode.TheVariants.{NSID}
use Rattle.drd_types.specs.declared.EdnsOption.TheVariants as option_with
use Rattle.drd_types.specs.drd_opt.Entries.{Entry, has_code, options_of, raw_of}
use Rattle.zsv_reply.specs.zsv_message.zst_edns.declared.edns.Edns.{Edns}
use Rattle.zsv_update.specs.Options.{asks_for_nsid}

asks_first : (entries : List Entry) → is_some (slice_get (options_of NSID entries) 0) ≡ list_any (λ entry. (raw_of entry).code == 3) entries
asks_first [] = refl
asks_first (e ∷ entries) = by ((raw_of e).code == 3) (asks_first entries)
  where
    by : (b : Bool) → is_some (slice_get (options_of NSID entries) 0) ≡ list_any (λ entry. (raw_of entry).code == 3) entries
        → is_some (slice_get (map (λ (entry : Entry). entry.1) (cond b (e ∷ filter (has_code NSID) entries) (filter (has_code NSID) entries))) 0) ≡ (b || list_any (λ entry. (raw_of entry).code == 3) entries)
    by true later = refl
    by false later = later

mapped : {X Y : Type 0} (f : X → Y) (o : Option X) → is_some (option_map f o) ≡ is_some o
mapped f None = refl
mapped f (Some x) = refl

pub asks_told : {X : Type 0} (f : X → _) (asked : Edns) (found : Option X) (b : Bool) → option_map f found ≡ slice_get (options_of NSID asked.options.options.items) 0 → is_some found ≡ b → asks_for_nsid asked ≡ b
asks_told f asked found b is told = sym (asks_first asked.options.options.items) ∙ ap is_some (sym is) ∙ mapped f found ∙ told

-- An NSID after no options is the only one.
pub named : (copy payload : List ℕ) (old new : List Entry) → new ≡ old ++ (NSID, option_with.NSID copy) ∷ [] → old ≡ [] → copy ≡ payload → new ≡ (NSID, option_with.NSID payload) ∷ []
named copy payload old new put none same =
    put ∙ ap (λ (es : List Entry). es ++ (NSID, option_with.NSID copy) ∷ []) none ∙ ap (λ (octets : List ℕ). (NSID, option_with.NSID octets) ∷ []) same
