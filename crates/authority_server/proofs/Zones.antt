-- Chains that are put in or taken out, as the server means them.
use Rattle.std.proofs.Common.{◌≡◌, ◌∙◌, Result, Ok, Err, Vec, Global, ap, map, subst, sym}
use Rattle.std.specs.Ordering.{is_eq}
use Rattle.std.specs.Prelude.{ℕ, List, Option, OnOk, OnErr}
use Rattle.zsv_access.specs.declared.access.AccessControl.{AccessControl}
use Rattle.zsv_catalog.proofs.Chained.{all_inserted, all_removed, with_views, without_views}
use Rattle.zsv_catalog.specs.Chains.{views_of, with_chain, without_chain}
use Rattle.zsv_catalog.specs.ReadingBack.{ChainReadsBack}
use Rattle.zsv_catalog.specs.zsv_answer.zst_request.Views.{View}
use Rattle.zsv_catalog.specs.zsv_answer.zst_request.dnw_name.DomainName.{DomainName, lowercase_name, name_cmp}
use Rattle.zsv_catalog.specs.zsv_update.Keys.{Keys}
use Rattle.authority_server.specs.Servers.{with_zones, without_zones}
use Rattle.authority_server.specs.Serving.{World, WorldReadsBack}

abbrev of_parts : AccessControl → Keys → Option (List ℕ) → List (DomainName × List View) → World
of_parts access keys nsid chains = record { access = access; keys = keys; nsid = nsid; chains = chains }

pub same_parts : (access : AccessControl) (k l : Keys) (m n : Option (List ℕ)) (new old : List (DomainName × List View)) → k ≡ l → m ≡ n → new ≡ old → of_parts access k m new ≡ of_parts access l n old
same_parts access k l m n new old keys told is = ap (λ (x : Keys). of_parts access x m new) keys ∙ ap (λ (o : Option (List ℕ)). of_parts access l o new) told ∙ ap (of_parts access l n) is

-- What is put in, and what is taken out.
pub put_in : {H : Type 0} (view : H → View) (access : AccessControl) (k l : Keys) (m n : Option (List ℕ)) (new old : List (DomainName × Vec H Global)) (name : DomainName) (chain : Vec H Global) → k ≡ l → m ≡ n → new ≡ with_chain old name chain
    → of_parts access k m (views_of view new) ≡ with_zones (of_parts access l n (views_of view old)) name (map view chain.items)
put_in view access k l m n new old name chain keys told is =
    same_parts access k l m n (views_of view new) (with_chain (views_of view old) name (map view chain.items)) keys told (ap (views_of view) is ∙ with_views view old name chain)

pub taken_out : {H : Type 0} (view : H → View) (access : AccessControl) (k l : Keys) (m n : Option (List ℕ)) (new old : List (DomainName × Vec H Global)) (name : DomainName) → k ≡ l → m ≡ n → new ≡ without_chain old name
    → of_parts access k m (views_of view new) ≡ without_zones (of_parts access l n (views_of view old)) name
taken_out view access k l m n new old name keys told is =
    same_parts access k l m n (views_of view new) (without_chain (views_of view old) name) keys told (ap (views_of view) is ∙ without_views view old name)

-- ---- what reads back
with_back : (world : World) (name : DomainName) (chain : List View) → WorldReadsBack world → ChainReadsBack chain → WorldReadsBack (with_zones world name chain)
with_back world name chain back new = record { chains = all_inserted ChainReadsBack world.chains (lowercase_name name) chain back.chains new }

without_back : (world : World) (name : DomainName) → WorldReadsBack world → WorldReadsBack (without_zones world name)
without_back world name back = record { chains = all_removed ChainReadsBack world.chains (λ other. is_eq (name_cmp (lowercase_name name) other)) back.chains }

either : {X E : Type 0} (r : Result X E) (old new changed : World) → OnOk r (new ≡ changed) → OnErr r (new ≡ old) → WorldReadsBack old → WorldReadsBack changed → WorldReadsBack new
either (Ok x) old new changed put kept before after = subst WorldReadsBack (sym put) after
either (Err e) old new changed put kept before after = subst WorldReadsBack (sym kept) before

pub put_back : {X E : Type 0} (r : Result X E) (old new : World) (name : DomainName) (chain : List View) → OnOk r (new ≡ with_zones old name chain) → OnErr r (new ≡ old) → ChainReadsBack chain → WorldReadsBack old → WorldReadsBack new
put_back r old new name chain put kept fits before = either r old new (with_zones old name chain) put kept before (with_back old name chain before fits)

pub taken_back : (old new : World) (name : DomainName) → new ≡ without_zones old name → WorldReadsBack old → WorldReadsBack new
taken_back old new name taken before = subst WorldReadsBack (sym taken) (without_back old name before)
