-- What a store holds after a command.
use Rattle.std.proofs.Common.{◌≡◌, ◌≢◌, ◌∙◌, ℕ, ◌<◌, arith, cond, eqb, true, false, List, [], ◌∷◌, ◌++◌, Option, Some, None, Result, Ok, Err, Bool, map, length, filter, not, refl, sym, ap, subst, Ordering}
use Rattle.std.specs.declared.cmp.Ordering.TheVariants.{Less, Equal, Greater}
use Rattle.std.specs.FinMap.{FinMap, get, remove, get-empty, get-insert, get-remove}
use Rattle.std.specs.Ordering.{is_eq, eq_by_cmp}
use Rattle.std.specs.Option.{option_map, option_and_then, is_some}
use Rattle.std.specs.List.{AllByRecursion}
use Rattle.std.proofs.lemmas.Map.Text.{is_eq-slice_cmp}
use lib.Pointwise.{bytes_decides}
use Rattle.std.proofs.lemmas.Bool.{eqb-false}
use Rattle.std.proofs.lemmas.Cmp.{tied_itself}
use Rattle.xet_types.specs.declared.error.Refusal.{Refusal}
use Rattle.xet_types.specs.declared.error.Refusal.TheVariants as refusals
use Rattle.xet_types.specs.declared.error.FormatFault.TheVariants as faults
use Rattle.xet_types.specs.Names.{hash_cmp, same_hash, xorb_name}
use Rattle.xet_bytes.proofs.Maps.{hash_exact, hash_total}
use Rattle.xet_xorb.specs.Values.{Xorb}
use Rattle.xet_xorb.specs.ChunkLists.{IsWellFormed, object_of}
use Rattle.xet_xorb.specs.Generated.{seeded_chunks}
use Rattle.xet_shard.specs.declared.listing.Segment.{Segment}
use Rattle.xet_shard.specs.Values.{Listing}
use Rattle.xet_shard.specs.Listings.{ShardModel}
use Rattle.xet_shard.specs.Canonical.{shard_name, canonical_of}
use Rattle.xet_plan.specs.FileBytes.{Describes}
use Rattle.xet_store.specs.StoreModel.{StoreModel, Chunks, Hashes, empty, stored, listing, lists, last_shard, IsSound, NamesDiffer, known_of, content_of, with_xorb, with_shard, without_shard, shard_named, shown, accepted, or_else, listed_in}
use Rattle.xet_generated.specs.Terms.{Term, xorbs_of}
use Rattle.xet_generated.specs.Shards.{generated_shard}
use Rattle.xet_generated.specs.Contents.{FileModel}
use Rattle.xet_store.specs.Commands.{Outcome, UploadsXorb, UploadsOver, UploadsFresh, UploadsShard, done, delete_shard, set_max_ranges, InsertsSeeded, InsertsLazy, with_absent, with_all_absent}
use Rattle.xet_store.proofs.Listings.{same_turned}

-- ---- xorbs

tied : (hash : List ℕ) → eq_by_cmp hash_cmp hash hash ≡ true
tied hash = ap is_eq (tied_itself hash_total hash)

apart : (hash other : List ℕ) → hash ≢ other → eq_by_cmp hash_cmp hash other ≡ false
apart hash other differ =
    let by : (o : Ordering) → hash_cmp hash other ≡ o → is_eq o ≡ false
    = λ o. elim o as (λ o. hash_cmp hash other ≡ o → is_eq o ≡ false) [ Less ↦ λ e. refl | Equal ↦ λ e. absurd (differ (hash_exact hash other e)) | Greater ↦ λ e. refl ] in
    by (hash_cmp hash other) refl

-- a xorb that was put in is there
pub stored-with-same : (m : StoreModel) (hash : List ℕ) (chunks : Chunks) → stored (with_xorb m hash chunks) hash ≡ Some chunks
stored-with-same m hash chunks = get-insert hash_total m.xorbs hash chunks hash ∙ ap (λ b. cond b (Some chunks) (stored m hash)) (tied hash)

-- and no other xorb is touched
pub stored-with-other : (m : StoreModel) (hash : List ℕ) (chunks : Chunks) (other : List ℕ) → other ≢ hash → stored (with_xorb m hash chunks) other ≡ stored m other
stored-with-other m hash chunks other differ = get-insert hash_total m.xorbs hash chunks other ∙ ap (λ b. cond b (Some chunks) (stored m other)) (apart other hash differ)

-- nor any listing
pub listing-with : (m : StoreModel) (hash : List ℕ) (chunks : Chunks) (file : List ℕ) → listing (with_xorb m hash chunks) file ≡ listing m file
listing-with m hash chunks file = refl

-- an accepted shard touches no xorb
pub stored-accepted : (m : StoreModel) (shard : ShardModel) (hash : List ℕ) → stored (accepted m shard) hash ≡ stored m hash
stored-accepted m shard hash = refl

-- what is known of the xorbs describes their chunks
pub known_describes : (m : StoreModel) → Describes (known_of m) (content_of m)
known_describes m hash xorb e =
    let by : (o : Option Chunks) → stored m hash ≡ o → option_map object_of o ≡ Some xorb → (chunks : List (List ℕ)) × (content_of m hash ≡ Some chunks) × (xorb.lengths ≡ map length chunks)
    = λ o. elim o as (λ o. stored m hash ≡ o → option_map object_of o ≡ Some xorb → (chunks : List (List ℕ)) × (content_of m hash ≡ Some chunks) × (xorb.lengths ≡ map length chunks)) [
      | None ↦ λ s k. (let no : ⊥ = cc in absurd no)
      | Some chunks ↦ λ s k. (let is : object_of chunks ≡ xorb = cc in (chunks, s, sym (ap (λ (x : Xorb). x.lengths) is)))
    ] in
    by (stored m hash) refl e

-- ---- soundness

pub empty_sound : IsSound empty
empty_sound = record {
  xorbs = λ hash chunks e.
      (let none : stored empty hash ≡ None = get-empty hash_cmp hash in
      let no : ⊥ = cc in
      absurd no);
  shards = tt;
  max_ranges = omega arith;
}

pub with_xorb_sound : (m : StoreModel) (hash : List ℕ) (chunks : Chunks) → IsSound m → IsWellFormed chunks → xorb_name chunks ≡ hash → IsSound (with_xorb m hash chunks)
with_xorb_sound m hash chunks sound formed named = record {
  xorbs = λ other found e.
      (let by : (o : Ordering) → hash_cmp other hash ≡ o → cond (is_eq o) (Some chunks) (stored m other) ≡ Some found → IsWellFormed found × (xorb_name found ≡ other)
      = λ o. elim o as (λ o. hash_cmp other hash ≡ o → cond (is_eq o) (Some chunks) (stored m other) ≡ Some found → IsWellFormed found × (xorb_name found ≡ other)) [
        | Less ↦ λ q k. sound.xorbs other found k
        | Equal ↦ λ q k.
            (let same : chunks ≡ found = cc in
            (subst IsWellFormed same formed, ap xorb_name (sym same) ∙ named ∙ sym (hash_exact other hash q)))
        | Greater ↦ λ q k. sound.xorbs other found k
      ] in
      by (hash_cmp other hash) refl (sym (get-insert hash_total m.xorbs hash chunks other) ∙ e));
  shards = sound.shards;
  max_ranges = sound.max_ranges;
}

-- a store of some of the xorbs
pub fewer_sound : (m : StoreModel) (hash : List ℕ) → IsSound m → IsSound (record m { xorbs = remove m.xorbs hash })
fewer_sound m hash sound = record {
  xorbs = λ other found e.
      (elim (is_eq (hash_cmp other hash)) as (λ b. cond b None (stored m other) ≡ Some found → IsWellFormed found × (xorb_name found ≡ other)) [
        | true ↦ λ k. (let no : ⊥ = cc in absurd no)
        | false ↦ λ k. sound.xorbs other found k
      ] (sym (get-remove hash_total m.xorbs hash other) ∙ e));
  shards = sound.shards;
  max_ranges = sound.max_ranges;
}

-- a store of the same xorbs and shards, with the same maximum
pub same_sound : (m n : StoreModel) → n.xorbs ≡ m.xorbs → n.shards ≡ m.shards → n.max_ranges ≡ m.max_ranges → IsSound m → IsSound n
same_sound m n same_xorbs same_shards same_max sound = record {
  xorbs = λ hash chunks e. sound.xorbs hash chunks (ap (λ (xs : FinMap hash_cmp Chunks). get xs hash) (sym same_xorbs) ∙ e);
  shards = subst NamesDiffer (sym same_shards) sound.shards;
  max_ranges = subst (λ k. 0 < k) (sym same_max) sound.max_ranges;
}

-- a store of another maximum
pub with_max_sound : (m : StoreModel) (max : ℕ) → 0 < max → IsSound m → IsSound (record m { max_ranges = max })
with_max_sound m max some sound = record { xorbs = sound.xorbs; shards = sound.shards; max_ranges = some }

-- what setting the maximum leaves
pub set_max_sound : (m : StoreModel) (max : ℕ) → IsSound m → IsSound (set_max_ranges m max).1
set_max_sound m max sound = of (eqb max 0) refl
  where
    refused : Outcome (Unit {0})
    refused = (Err refusals.InvalidArguments, m)

    of : (b : Bool) → eqb max 0 ≡ b → IsSound (cond b refused (done (record m { max_ranges = max }))).1
    of true e = sound
    of false e = let some : max ≢ 0 = eqb-false max 0 e in with_max_sound m max (omega (arith, some)) sound

-- ---- names of shards

all_filter : (P : ShardModel → Type 0) (test : ShardModel → Bool) (ss : List ShardModel) → AllByRecursion P ss → AllByRecursion P (filter test ss)
all_filter P test [] a = tt
all_filter P test (s ∷ ss) a =
    elim (test s) as (λ b. AllByRecursion P (cond b (s ∷ filter test ss) (filter test ss))) [ true ↦ (a.0, all_filter P test ss a.1) | false ↦ all_filter P test ss a.1 ]

names_filter : (test : ShardModel → Bool) (ss : List ShardModel) → NamesDiffer ss → NamesDiffer (filter test ss)
names_filter test [] a = tt
names_filter test (s ∷ ss) a =
    elim (test s) as (λ b. NamesDiffer (cond b (s ∷ filter test ss) (filter test ss))) [
      | true ↦ (all_filter (λ t. shard_name t ≢ shard_name s) test ss a.0, names_filter test ss a.1)
      | false ↦ names_filter test ss a.1
    ]

-- no shard is left of the name that is taken out
name_is_gone : (ss : List ShardModel) (name : List ℕ) → AllByRecursion (λ t. shard_name t ≢ name) (without_shard ss name)
name_is_gone [] name = tt
name_is_gone (s ∷ ss) name =
    elim (same_hash (shard_name s) name) as (λ b. same_hash (shard_name s) name ≡ b → AllByRecursion (λ t. shard_name t ≢ name) (cond (not b) (s ∷ without_shard ss name) (without_shard ss name))) [
      | true ↦ λ e. name_is_gone ss name
      | false ↦ λ e. ((λ same. (let q : true ≡ false = sym ((bytes_decides (shard_name s) name).1 same) ∙ e in let no : ⊥ = cc in no)), name_is_gone ss name)
    ] refl

all_push : (P : ShardModel → Type 0) (ss : List ShardModel) (s : ShardModel) → AllByRecursion P ss → P s → AllByRecursion P (ss ++ s ∷ [])
all_push P [] s a p = (p, tt)
all_push P (t ∷ ts) s a p = (a.0, all_push P ts s a.1 p)

names_push : (ss : List ShardModel) (s : ShardModel) → NamesDiffer ss → AllByRecursion (λ t. shard_name t ≢ shard_name s) ss → NamesDiffer (ss ++ s ∷ [])
names_push [] s a b = (tt, tt)
names_push (t ∷ ts) s a b = (all_push (λ u. shard_name u ≢ shard_name t) ts s a.0 (λ same. b.0 (sym same)), names_push ts s a.1 b.1)

pub without_shard_sound : (m : StoreModel) (name : List ℕ) → IsSound m → IsSound (record m { shards = without_shard m.shards name })
without_shard_sound m name sound = record { xorbs = sound.xorbs; shards = names_filter (λ t. not (same_hash (shard_name t) name)) m.shards sound.shards; max_ranges = sound.max_ranges }

pub accepted_sound : (m : StoreModel) (shard : ShardModel) → IsSound m → IsSound (accepted m shard)
accepted_sound m shard sound = record {
  xorbs = sound.xorbs;
  shards = names_push (without_shard m.shards (shard_name shard)) shard (names_filter (λ t. not (same_hash (shard_name t) (shard_name shard))) m.shards sound.shards) (name_is_gone m.shards (shard_name shard));
  max_ranges = sound.max_ranges;
}

fresh_sound : (old new : StoreModel) (hash content : List ℕ) (result : Result ℕ Refusal) → UploadsFresh old hash content result new → IsSound old → IsSound new
fresh_sound old new hash content (Ok n) u sound = subst (λ (m : StoreModel). IsSound m) (sym u.stored) (with_xorb_sound old hash u.chunks sound u.spelled.formed u.named)
fresh_sound old new hash content (Err (refusals.FormatError faults.Xorb)) u sound = subst (λ (m : StoreModel). IsSound m) (sym u.1) sound
fresh_sound old new hash content (Err refusals.Other) u sound = subst (λ (m : StoreModel). IsSound m) (sym u.1) sound
fresh_sound old new hash content (Err why) u sound = absurd u

over_sound : (o : Option Chunks) (old new : StoreModel) (hash content : List ℕ) (result : Result ℕ Refusal) → UploadsOver o old hash content result new → IsSound old → IsSound new
over_sound (Some chunks) old new hash content result u sound = subst (λ (m : StoreModel). IsSound m) (sym u.1) sound
over_sound None old new hash content result u sound = fresh_sound old new hash content result u sound

-- an upload of a xorb keeps a store sound
pub uploads_xorb_sound : (old new : StoreModel) (hash content : List ℕ) (result : Result ℕ Refusal) → UploadsXorb old hash content result new → IsSound old → IsSound new
uploads_xorb_sound old new hash content result u sound = over_sound (stored old hash) old new hash content result u sound

-- and so does a generated xorb
absent_sound : (b : Bool) (old : StoreModel) (hash : List ℕ) (chunks : Chunks) → IsWellFormed chunks → xorb_name chunks ≡ hash → IsSound old → IsSound (cond b old (with_xorb old hash chunks))
absent_sound true old hash chunks formed named sound = sound
absent_sound false old hash chunks formed named sound = with_xorb_sound old hash chunks sound formed named

pub inserts_sound : (old new : StoreModel) (seed count size : ℕ) (result : Result (List ℕ) Refusal) → InsertsSeeded old seed count size result new → IsSound old → IsSound new
inserts_sound old new seed count size (Ok hash) u sound =
    let chunks = seeded_chunks seed count size in
    subst IsSound (sym u.1.1) (absent_sound (is_some (stored old (xorb_name chunks))) old (xorb_name chunks) chunks u.0 refl sound)
inserts_sound old new seed count size (Err refusals.InvalidArguments) u sound = subst IsSound (sym u.1) sound
inserts_sound old new seed count size (Err why) u sound = absurd u

-- and so does a generated file
all_absent_sound : (old : StoreModel) (xorbs : List Chunks) → AllByRecursion IsWellFormed xorbs → IsSound old → IsSound (with_all_absent old xorbs)
all_absent_sound old [] formed sound = sound
all_absent_sound old (x ∷ xs) formed sound = all_absent_sound (with_absent old x) xs formed.1 (absent_sound (is_some (stored old (xorb_name x))) old (xorb_name x) x formed.0 refl sound)

pub lazy_sound : (old new : StoreModel) (terms : List Term) (size : ℕ) (result : Result FileModel Refusal) → InsertsLazy old terms size result new → IsSound old → IsSound new
lazy_sound old new terms size (Ok contents) u sound =
    subst IsSound (sym u.2) (accepted_sound (with_all_absent old (xorbs_of terms size)) (canonical_of (generated_shard terms size)) (all_absent_sound old (xorbs_of terms size) u.0.xorbs sound))
lazy_sound old new terms size (Err refusals.InvalidArguments) u sound = subst IsSound (sym u.1) sound
lazy_sound old new terms size (Err why) u sound = absurd u

-- and so does one of a shard
pub uploads_shard_sound : (old new : StoreModel) (content : List ℕ) (result : Result Bool Refusal) → UploadsShard old content result new → IsSound old → IsSound new
uploads_shard_sound old new content (Ok taken) u sound = subst (λ (m : StoreModel). IsSound m) (sym (u.1).accepted) (accepted_sound old (canonical_of (u.1).shard) sound)
uploads_shard_sound old new content (Err (refusals.FormatError faults.Shard)) u sound = subst (λ (m : StoreModel). IsSound m) (sym u.1) sound
uploads_shard_sound old new content (Err why) u sound = absurd u

-- ---- listings

pub last_shard_push : (shards : List ShardModel) (s : ShardModel) (file : List ℕ) → last_shard (shards ++ s ∷ []) file ≡ or_else (cond (lists s file) (Some s) None) (last_shard shards file)
last_shard_push [] s file = elim (cond (lists s file) (Some s) None) as (λ o. or_else None o ≡ or_else o None) [ None ↦ refl | Some x ↦ refl ]
last_shard_push (t ∷ ts) s file =
    let one : Option ShardModel = cond (lists s file) (Some s) None in
    let other : Option ShardModel = cond (lists t file) (Some t) None in
    ap (λ o. or_else o other) (last_shard_push ts s file)
    ∙ elim one as (λ o. or_else (or_else o (last_shard ts file)) other ≡ or_else o (or_else (last_shard ts file) other)) [ None ↦ refl | Some x ↦ refl ]

-- a file that was listed is hidden no more
pub shown_is_live : (hidden : Hashes) (files : List Listing) (file : List ℕ) → get (shown hidden files) file ≡ cond (is_some (listed_in files file)) None (get hidden file)
shown_is_live hidden [] file = refl
shown_is_live hidden (f ∷ fs) file =
    shown_is_live (remove hidden f.file_hash) fs file
    ∙ ap (cond (is_some (listed_in fs file)) None) (get-remove hash_total hidden f.file_hash file ∙ ap (λ b. cond b None (get hidden file)) (is_eq-slice_cmp file f.file_hash ∙ same_turned file f.file_hash))
    ∙ step (same_hash f.file_hash file) (listed_in fs file)
  where
    step : (same : Bool) (o : Option (List Segment)) → cond (is_some o) None (cond same None (get hidden file)) ≡ cond (is_some (cond same (Some f.segments) o)) None (get hidden file)
    step true None = refl
    step true (Some s) = refl
    step false o = refl

-- A file that the accepted shard lists is live, and has that listing.
pub listing-accepted : (m : StoreModel) (shard : ShardModel) (file : List ℕ) (segments : List Segment) → listed_in shard.files file ≡ Some segments → listing (accepted m shard) file ≡ Some segments
listing-accepted m shard file segments e =
    let there : is_some (listed_in shard.files file) ≡ true = ap is_some e in
    let seen : is_some (get (shown m.hidden shard.files) file) ≡ false = ap is_some (shown_is_live m.hidden shard.files file ∙ ap (λ b. cond b None (get m.hidden file)) there) in
    let last : last_shard (with_shard m.shards shard) file ≡ Some shard =
    last_shard_push (without_shard m.shards (shard_name shard)) shard file ∙ ap (λ b. or_else (cond b (Some shard) None) (last_shard (without_shard m.shards (shard_name shard)) file)) there in
    ap (λ b. option_and_then (λ (s : ShardModel). listed_in s.files file) (cond b None (last_shard (with_shard m.shards shard) file))) seen
    ∙ ap (option_and_then (λ (s : ShardModel). listed_in s.files file)) last ∙ e

-- ---- the shard of a name

-- an accepted shard has its name
pub named_last : (ss : List ShardModel) (s : ShardModel) → shard_named (with_shard ss s) (shard_name s) ≡ Some s
named_last [] s = ap (λ b. cond b (Some s) None) ((bytes_decides (shard_name s) (shard_name s)).1 refl)
named_last (t ∷ ts) s =
    elim (same_hash (shard_name t) (shard_name s)) as (λ b. same_hash (shard_name t) (shard_name s) ≡ b → shard_named (cond (not b) (t ∷ without_shard ts (shard_name s)) (without_shard ts (shard_name s)) ++ s ∷ []) (shard_name s) ≡ Some s) [
      | true ↦ λ e. named_last ts s
      | false ↦ λ e. ap (λ b. cond b (Some t) (shard_named (with_shard ts s) (shard_name s))) e ∙ named_last ts s
    ] refl

-- where no shard has the name, none is taken out
none_without : (ss : List ShardModel) (name : List ℕ) → shard_named ss name ≡ None → without_shard ss name ≡ ss
none_without [] name e = refl
none_without (t ∷ ts) name e =
    elim (same_hash (shard_name t) name) as (λ b. cond b (Some t) (shard_named ts name) ≡ None → cond (not b) (t ∷ without_shard ts name) (without_shard ts name) ≡ t ∷ ts) [
      | true ↦ λ q. (let no : ⊥ = cc in absurd no)
      | false ↦ λ q. ap (λ (us : List ShardModel). t ∷ us) (none_without ts name q)
    ] e

-- a deletion leaves the shards of other names
pub delete_leaves : (m : StoreModel) (name : List ℕ) → record m { shards = without_shard m.shards name } ≡ (delete_shard m name).1
delete_leaves m name = by (shard_named m.shards name) refl
  where
    by : (o : Option ShardModel) → shard_named m.shards name ≡ o → record m { shards = without_shard m.shards name } ≡ (cond (is_some o) (done (record m { shards = without_shard m.shards name })) (Err refusals.Other, m)).1
    by (Some s) e = refl
    by None e = ap (λ (ss : List ShardModel). record m { shards = ss }) (none_without m.shards name e)
