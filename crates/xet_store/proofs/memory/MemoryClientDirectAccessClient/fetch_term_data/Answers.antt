use Rattle.std.proofs.Common.{◌≡◌, ◌∙◌, ℕ, List, Option, Some, None, Result, Ok, Err, sym, ap, subst}
use Rattle.std.specs.Prelude.{⊤}
use Rattle.std.proofs.lemmas.Result.{err_from_is_err_and}
use Rattle.xet_types.specs.Records.{FetchInfo}
use Rattle.xet_types.specs.declared.error.Refusal.{Refusal}
use Rattle.xet_types.specs.declared.error.Refusal.TheVariants.{XORBNotFound}
use Rattle.xet_types.specs.declared.range.Range.{Range}
use Rattle.xet_types.specs.declared.range._C.{_C}
use Rattle.xet_bytes.proofs.Maps.{some_is}
use Rattle.xet_store.specs.Answered.{Answered}
use Rattle.xet_store.specs.Cuts.{cut_of_chunks}
use Rattle.xet_store.specs.StoreModel.{StoreModel, Chunks, stored}
use Rattle.xet_store.specs.Told.{Asks}
use Rattle.xet_store.specs.TermData.{NamesXorb, IsOf, GivesTerm, with_items}
use Rattle.xet_store.proofs.TermLaws.{at_these, named_refused, term_gone, term_past, term_given}
use Rattle.xet_store.proofs.memory.MemoryClientDirectAccessClient.fetch_term_data.Goals as goal

pub returns-in_err-named-clause-told : goal.returns-in_err-named-clause-told
returns-in_err-named-clause-told c = λ m e.
    let s = c.args.self.now in
    let info = c.args.fetch_term in
    let p = err_from_is_err_and c.from_residual.result c.from_residual.ensures.1 in
    let names : Answered {T = List ℕ} (Err c.in_err-named.field-0.0) (NamesXorb info.url info.url_range c.args.at s.expiration) ⊥ =
    at_these (λ u b x. Answered {T = List ℕ} (Err c.in_err-named.field-0.0) (NamesXorb u b c.args.at x) ⊥) (c.as_str-url.ensures.value ∙ ap (λ (f : FetchInfo). f.url) c.fetch_term.view_is) (ap (λ (f : FetchInfo). f.url_range) c.fetch_term.view_is) (ap (λ (x : StoreModel). x.expiration) c.self.view_is) c.in_err-named.ensures in
    rw (p.1, p.2) (subst (λ (x : StoreModel). Asks (λ r. GivesTerm x info c.args.at (with_items r)) (Err c.in_err-named.field-0.0)) (some_is s m e) (named_refused s info c.args.at c.in_err-named.field-0.0 names))

pub returns-in_default-clause-told : goal.returns-in_default-clause-told
returns-in_default-clause-told c = λ m e.
    let s = c.args.self.now in
    let info = c.args.fetch_term in
    let is : IsOf info.url info.url_range c.args.at s.expiration c.in_ok-named.named =
    at_these (λ u b x. IsOf u b c.args.at x c.in_ok-named.named) (c.as_str-url.ensures.value ∙ ap (λ (f : FetchInfo). f.url) c.fetch_term.view_is) (ap (λ (f : FetchInfo). f.url_range) c.fetch_term.view_is) (ap (λ (x : StoreModel). x.expiration) c.self.view_is) c.in_ok-named.ensures in
    let none : stored s c.in_ok-named.named ≡ None = ap (λ (x : StoreModel). stored x c.in_ok-named.named) (sym c.self.view_is) ∙ sym c.in_default.ensures in
    subst (λ (x : StoreModel). GivesTerm x info c.args.at (Err (XORBNotFound c.in_ok-named.named))) (some_is s m e) (term_gone s info c.args.at c.in_ok-named.named is none)

pub returns-in_err-chunks-clause-told : goal.returns-in_err-chunks-clause-told
returns-in_err-chunks-clause-told c = λ m e.
    let s = c.args.self.now in
    let info = c.args.fetch_term in
    let p = err_from_is_err_and c.from_residual-in_err-chunks.result c.from_residual-in_err-chunks.ensures.1 in
    let is : IsOf info.url info.url_range c.args.at s.expiration c.in_ok-named.named =
    at_these (λ u b x. IsOf u b c.args.at x c.in_ok-named.named) (c.as_str-url.ensures.value ∙ ap (λ (f : FetchInfo). f.url) c.fetch_term.view_is) (ap (λ (f : FetchInfo). f.url_range) c.fetch_term.view_is) (ap (λ (x : StoreModel). x.expiration) c.self.view_is) c.in_ok-named.ensures in
    let there : stored s c.in_ok-named.named ≡ Some c.in-Some.xorb.now = ap (λ (x : StoreModel). stored x c.in_ok-named.named) (sym c.self.view_is) ∙ sym c.in-Some.ensures in
    let cut : Answered {T = Chunks} (Err c.in_err-chunks.field-0.0) (λ r. r ≡ cut_of_chunks c.in-Some.xorb.now info.range.start info.range.end) ⊤ =
    subst (λ (q : Range ℕ _C). Answered {T = Chunks} (Err c.in_err-chunks.field-0.0) (λ r. r ≡ cut_of_chunks c.in-Some.xorb.now q.start q.end) ⊤) (ap (λ (f : FetchInfo). f.range) c.fetch_term.view_is) c.in_err-chunks.ensures.value in
    rw (p.1, p.2) (subst (λ (x : StoreModel). Asks (λ r. GivesTerm x info c.args.at (with_items r)) (Err c.in_err-chunks.field-0.0)) (some_is s m e) (term_past s info c.args.at c.in_ok-named.named is c.in-Some.xorb.now there c.in_err-chunks.field-0.0 cut))

pub returns-clause-told : goal.returns-clause-told
returns-clause-told c = λ m e.
    let s = c.args.self.now in
    let info = c.args.fetch_term in
    let is : IsOf info.url info.url_range c.args.at s.expiration c.in_ok-named.named =
    at_these (λ u b x. IsOf u b c.args.at x c.in_ok-named.named) (c.as_str-url.ensures.value ∙ ap (λ (f : FetchInfo). f.url) c.fetch_term.view_is) (ap (λ (f : FetchInfo). f.url_range) c.fetch_term.view_is) (ap (λ (x : StoreModel). x.expiration) c.self.view_is) c.in_ok-named.ensures in
    let there : stored s c.in_ok-named.named ≡ Some c.in-Some.xorb.now = ap (λ (x : StoreModel). stored x c.in_ok-named.named) (sym c.self.view_is) ∙ sym c.in-Some.ensures in
    let cut : ◌≡◌ {A = Result Chunks Refusal} (Ok c.in_ok-chunks.chunks) (cut_of_chunks c.in-Some.xorb.now info.range.start info.range.end) =
    subst (λ (q : Range ℕ _C). ◌≡◌ {A = Result Chunks Refusal} (Ok c.in_ok-chunks.chunks) (cut_of_chunks c.in-Some.xorb.now q.start q.end)) (ap (λ (f : FetchInfo). f.range) c.fetch_term.view_is) c.in_ok-chunks.ensures.value in
    let same : ◌≡◌ {A = Chunks} c.as_slice.result.now c.in_ok-chunks.chunks = c.as_slice.ensures in
    subst (λ (x : StoreModel). GivesTerm x info c.args.at (Ok (c.in_ok-join.field-0.0, c.in_ok-join.field-0.1.items))) (some_is s m e)
    (term_given s info c.args.at c.in_ok-named.named is c.in-Some.xorb.now there c.as_slice.result.now c.in_ok-join.field-0 (ap (λ (ds : Chunks). Ok ds) same ∙ cut) c.in_ok-join.ensures.bytes c.in_ok-join.ensures.offsets)
