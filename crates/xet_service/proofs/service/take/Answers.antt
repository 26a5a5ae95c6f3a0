use Rattle.std.proofs.Common.{arith, ◌≡◌, ◌∙◌, ℕ, List, length, Ok, Err, ap, subst}
use Rattle.std.specs.Prelude.{⊤}
use Rattle.std.proofs.lemmas.Result.{err_from_is_err_and}
use Rattle.xet_store.specs.Answered.{Answered}
use Rattle.xet_store.specs.StoreModel.{Chunks}
use Rattle.xet_service.specs.Bodies.{Body}
use Rattle.xet_service.specs.Reading.{Gives}
use Rattle.xet_service.specs.ReadingParts.{ReadsAtOnce}
use Rattle.xet_service.proofs.Serving.{left_is, none_takes, is_left_at, more_takes, last_takes}
use Rattle.xet_service.proofs.service.take.Goals as goal

-- what holds at a type and a body holds at the same
at_both : (P : List ℕ → List ℕ → Type 0) (t u a b : List ℕ) → t ≡ u → a ≡ b → P t a → P u b
at_both P t u a b e f h = subst (λ (x : List ℕ). P u x) f (subst (λ (x : List ℕ). P x a) e h)

pub returns-in_err-got-clause-takes : goal.returns-in_err-got-clause-takes
returns-in_err-got-clause-takes c =
    let held = c.in-Some.open.now in
    let sent = c.args.sent in
    let bytes : ◌≡◌ {A = List ℕ} c.sent.inside.body sent.bytes = ap (λ (b : Body). b.bytes) c.sent.view_is in
    let p = err_from_is_err_and c.from_residual.result c.from_residual.ensures.1 in
    let refused = at_both (λ t b. Answered {T = List Chunks} (Err c.in_err-got.field-0.0) (λ r. Gives held.reader.links c.args.link t b r) ⊤) _ _ _ _ c.type_text-2.ensures bytes c.in_err-got.ensures in
    rw (p.1, p.2) (none_takes c.args.reads.now c.args.read c.args.link sent held c.in-Some.ensures c.in_err-got.field-0.0 refused)

pub put-requires : goal.put-requires
put-requires c =
    let held = c.in-Some.open.now in
    let sent = c.args.sent in
    let bytes : ◌≡◌ {A = List ℕ} c.sent.inside.body sent.bytes = ap (λ (b : Body). b.bytes) c.sent.view_is in
    let gives = at_both (λ t b. Gives held.reader.links c.args.link t b (Ok c.in_ok-got.got)) _ _ _ _ c.type_text-2.ensures bytes c.in_ok-got.ensures in
    is_left_at c.args.reads.now c.args.read c.args.link sent held c.in-Some.ensures c.in_ok-got.got gives

pub returns-then-left-gt0-clause-takes : goal.returns-then-left-gt0-clause-takes
returns-then-left-gt0-clause-takes c =
    let held = c.in-Some.open.now in
    let sent = c.args.sent in
    let bytes : ◌≡◌ {A = List ℕ} c.sent.inside.body sent.bytes = ap (λ (b : Body). b.bytes) c.sent.view_is in
    let gives = at_both (λ t b. Gives held.reader.links c.args.link t b (Ok c.in_ok-got.got)) _ _ _ _ c.type_text-2.ensures bytes c.in_ok-got.ensures in
    more_takes c.args.reads.now c.args.read c.args.link sent held c.in-Some.ensures c.in_ok-got.got gives c.args.left c.len-wire.result c.no_note.result c.put.new.reads
    (left_is c.args.reads.now c.args.read c.args.left held c.in-Some.ensures c.requires) c.if-left-gt0.true (c.len-wire.ensures.value ∙ ap (λ (t : List ℕ). length t) bytes) c.no_note.ensures c.put.ensures

pub returns-clause-takes : goal.returns-clause-takes
returns-clause-takes c =
    let held = c.in-Some.open.now in
    let sent = c.args.sent in
    let bytes : ◌≡◌ {A = List ℕ} c.sent.inside.body sent.bytes = ap (λ (b : Body). b.bytes) c.sent.view_is in
    let gives = at_both (λ t b. Gives held.reader.links c.args.link t b (Ok c.in_ok-got.got)) _ _ _ _ c.type_text-2.ensures bytes c.in_ok-got.ensures in
    last_takes c.args.reads.now c.args.read c.args.link sent held c.in-Some.ensures c.in_ok-got.got gives c.args.left c.in_ok-bytes.bytes c.len-wire.result c.finish-2.result c.finish-2.new.reads
    (left_is c.args.reads.now c.args.read c.args.left held c.in-Some.ensures c.requires) c.if-left-gt0.false c.in_ok-bytes.ensures (c.len-wire.ensures.value ∙ ap (λ (t : List ℕ). length t) bytes) c.finish-2.ensures.reply c.finish-2.ensures.closed

pub returns-in-Some-at_once-clause-takes : goal.returns-in-Some-at_once-clause-takes
returns-in-Some-at_once-clause-takes c =
    let held = c.in-Some.open.now in
    let sent = c.args.sent in
    let bytes : ◌≡◌ {A = List ℕ} c.sent.inside.body sent.bytes = ap (λ (b : Body). b.bytes) c.sent.view_is in
    let once = at_both (λ t b. ReadsAtOnce held.reader c.args.link t b c.in-Some-at_once.bytes) _ _ _ _ c.type_text.ensures bytes c.in-Some-at_once.ensures in
    last_takes c.args.reads.now c.args.read c.args.link sent held c.in-Some.ensures once.got once.gives c.args.left c.in-Some-at_once.bytes c.len-wire.result c.finish.result c.finish.new.reads
    (left_is c.args.reads.now c.args.read c.args.left held c.in-Some.ensures c.requires) (omega (arith, c.if-left-eq0.true)) once.read (c.len-wire.ensures.value ∙ ap (λ (t : List ℕ). length t) bytes) c.finish.ensures.reply c.finish.ensures.closed
