use Rattle.std.proofs.Common.{List, ℕ, subst, sym, ◌∙◌, ap, rules, []}
use Rattle.std.specs.Prelude.{◌==◌}
use Rattle.std.specs.List.{slice_split}
use Rattle.xet_wire.specs.Multipart.{GivesBoundary, unquoted}
use Rattle.xet_wire.proofs.MultipartReads.{SameTold, split_cut, split_none, no_name, named_here, named_nowhere}
use Rattle.xet_wire.proofs.multipart.read.boundary_of.Goals as goal

pub returns-in-Some-named : goal.returns-in-Some-named
returns-in-Some-named c =
    let all : List (List ℕ) = slice_split (λ b. b == 59) c.args.content_type.now in
    let told = subst (λ (t : List (List ℕ)). SameTold GivesBoundary (slice_split (λ b. b == 59) c.args.content_type.now) t) (split_cut 59 c.loop-piece.rest.now c.in-Some.piece.now c.in-Some.more.now c.in-Some.ensures) c.loop-piece.invariant.1 in
    let here = named_here all c.in-Some.piece.now c.in-Some-named.quoted.now (slice_split (λ b. b == 59) c.in-Some.more.now) told c.in-Some-named.ensures in
    subst (λ (t : List ℕ). GivesBoundary (slice_split (λ b. b == 59) c.args.content_type.now) t) (sym (c.without_quotes.ensures ∙ ap unquoted c.as_bytes.ensures.value)) here

pub loop-piece-preserved : goal.loop-piece-preserved
loop-piece-preserved c =
    let told = subst (λ (t : List (List ℕ)). SameTold GivesBoundary (slice_split (λ b. b == 59) c.args.content_type.now) t) (split_cut 59 c.loop-piece.rest.now c.in-Some.piece.now c.in-Some.more.now c.in-Some.ensures) c.loop-piece.invariant.1 in
    (search rules, no_name (slice_split (λ b. b == 59) c.args.content_type.now) c.in-Some.piece.now (slice_split (λ b. b == 59) c.in-Some.more.now) told c.in_default-named.ensures)

pub returns-in-Some-named-2 : goal.returns-in-Some-named-2
returns-in-Some-named-2 c =
    let told = subst (λ (t : List (List ℕ)). SameTold GivesBoundary (slice_split (λ b. b == 59) c.args.content_type.now) t) (split_none 59 c.loop-piece.rest.now c.in_default.ensures) c.loop-piece.invariant.1 in
    let here = named_here (slice_split (λ b. b == 59) c.args.content_type.now) c.loop-piece.rest.now c.in-Some-named-2.quoted.now [] told c.in-Some-named-2.ensures in
    subst (λ (t : List ℕ). GivesBoundary (slice_split (λ b. b == 59) c.args.content_type.now) t) (sym (c.without_quotes-in-Some-named-2.ensures ∙ ap unquoted c.as_bytes-in-Some-named-2.ensures.value)) here

pub returns-in-None : goal.returns-in-None
returns-in-None c =
    let told = subst (λ (t : List (List ℕ)). SameTold GivesBoundary (slice_split (λ b. b == 59) c.args.content_type.now) t) (split_none 59 c.loop-piece.rest.now c.in_default.ensures) c.loop-piece.invariant.1 in
    named_nowhere (slice_split (λ b. b == 59) c.args.content_type.now) (no_name (slice_split (λ b. b == 59) c.args.content_type.now) c.loop-piece.rest.now [] told c.in-None.ensures)
