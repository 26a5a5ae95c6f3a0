use Rattle.std.proofs.Common.{◌≡◌, ◌∙◌, ℕ, [], Option, Some, Ok, refl, sym, ap}
use Rattle.std.specs.Prelude.{⊤}
use Rattle.xet_types.specs.declared.error.Refusal.{Refusal}
use Rattle.xet_types.specs.declared.error.Refusal.TheVariants.{IOError}
use Rattle.xet_bytes.proofs.Maps.{some_is}
use Rattle.xet_shard.specs.Values.{size_of}
use Rattle.xet_plan.specs.Places.{Interval, interval}
use Rattle.xet_store.specs.StoreModel.{StoreModel, listing}
use Rattle.xet_store.specs.Questions.{asked, data_at, data_asked, data_listed, file_data}
use Rattle.xet_store.specs.Refusals.{OfFileData}
use Rattle.xet_store.proofs.Data.{answered, no_data}
use Rattle.xet_store.proofs.Search.{listed_back}
use Rattle.xet_store.proofs.Told.{refused, faultless, data_refusals}
use Rattle.xet_store.proofs.memory.MemoryClientDirectAccessClient.get_file_data.Goals as goal

abbrev some_interval : ℕ → ℕ → Option Interval
some_interval start end = Some (interval start end)

pub returns-then-range-clause-told : goal.returns-then-range-clause-told
returns-then-range-clause-told c = λ m e.
    let s = c.args.self.now in
    let l = c.in-Some.listing.now in
    let r = c.in-Some-asked.range in
    let is : listing s c.args.hash.now ≡ Some l.segments = listed_back c.args.hash.now l (listing s c.args.hash.now) c.in-Some.ensures in
    let part : asked (size_of l.segments) c.args.byte_range ≡ Some (interval r.start r.start) =
    ap (λ n. asked n c.args.byte_range) (sym c.file_size.ensures) ∙ sym c.in-Some-asked.ensures ∙ ap (λ n. some_interval r.start n) (sym c.if-range.true) in
    let none : file_data s c.args.hash.now c.args.byte_range ≡ Ok [] =
    ap (data_listed s c.args.hash.now c.args.byte_range) is ∙ ap (data_asked s l.segments) part ∙ no_data s l.segments r.start in
    ap answered c.new.ensures ∙ sym none ∙ ap (λ (x : StoreModel). file_data x c.args.hash.now c.args.byte_range) (some_is s m e)

pub returns-clause-refusals : goal.returns-clause-refusals
returns-clause-refusals c =
    let clip = interval c.in-Some-asked.range.start c.in-Some-asked.range.end in
    refused (λ r. r ≡ data_at c.args.self.now c.in-Some.listing.now.segments clip) ⊤ (OfFileData c.args.hash.now) c.bytes_of.result
    (data_refusals (OfFileData c.args.hash.now) (λ h. tt) tt c.args.self.now c.in-Some.listing.now.segments clip) c.bytes_of.ensures

pub returns-clause-cause : goal.returns-clause-cause
returns-clause-cause c =
    let clip = interval c.in-Some-asked.range.start c.in-Some-asked.range.end in
    let Inside : Refusal → Type 0 = λ why. why ≡ IOError → ⊥ in
    faultless Inside c.bytes_of.result (λ f. f refl)
    (refused (λ r. r ≡ data_at c.args.self.now c.in-Some.listing.now.segments clip) ⊤ Inside c.bytes_of.result
    (data_refusals Inside (λ h e. (let no : ⊥ = cc in no)) (λ e. (let no : ⊥ = cc in no)) c.args.self.now c.in-Some.listing.now.segments clip) c.bytes_of.ensures)
