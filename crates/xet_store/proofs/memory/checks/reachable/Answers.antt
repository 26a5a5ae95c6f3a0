use Rattle.std.proofs.Common.{◌≡◌, ◌∙◌, ◌&&◌, Bool, true, false, List, ℕ, sym, ap}
use Rattle.std.specs.Option.{is_some}
use Rattle.std.specs.List.{list_all}
use Rattle.std.specs.FinMap.{get, keys}
use Rattle.xet_store.specs.StoreModel.{Hashes}
use Rattle.xet_store.specs.Lists.{set_with, set_of}
use Rattle.xet_store.specs.Checks.{named_xorbs, listed_xorbs, is_reached, is_held}
use Rattle.xet_store.specs.Checking.{parts, is_reached_by}
use Rattle.xet_store.proofs.Checking.{all_reached_same, all_held_same}
use Rattle.xet_store.proofs.memory.checks.reachable.Goals as goal

pub returns-then-not-all_reached : goal.returns-then-not-all_reached
returns-then-not-all_reached c =
    let xorbs = c.args.xorbs.now in
    let shards = c.args.shards.now in
    let hidden = c.args.hidden.now in
    let reached : c.all_reached.result ≡ list_all (is_reached (parts xorbs shards hidden)) shards =
    c.all_reached.ensures ∙ ap (λ (s : Hashes). list_all (is_reached_by s hidden) shards) c.in_ok-held.ensures ∙ all_reached_same xorbs shards hidden in
    sym (ap (λ b. b && list_all (is_held (parts xorbs shards hidden)) (keys xorbs)) (sym reached ∙ c.if-not-all_reached.true))

pub returns : goal.returns
returns c =
    let xorbs = c.args.xorbs.now in
    let shards = c.args.shards.now in
    let hidden = c.args.hidden.now in
    let each : Hashes → List (List ℕ) → Bool = λ s hashes. list_all (λ hash. is_some (get s hash)) hashes in
    let reached : c.all_reached.result ≡ list_all (is_reached (parts xorbs shards hidden)) shards =
    c.all_reached.ensures ∙ ap (λ (s : Hashes). list_all (is_reached_by s hidden) shards) c.in_ok-held.ensures ∙ all_reached_same xorbs shards hidden in
    let all : list_all (is_reached (parts xorbs shards hidden)) shards ≡ true = sym reached ∙ c.if-not-all_reached.false in
    let held : c.hold_listed.new.held ≡ set_with (set_of (named_xorbs (parts xorbs shards hidden))) (listed_xorbs (parts xorbs shards hidden)) =
    c.in_ok-hold_listed.ensures ∙ ap (λ (s : Hashes). set_with s (listed_xorbs (parts xorbs shards hidden))) c.in_ok-held.ensures in
    c.are_held.ensures
    ∙ ap (each c.hold_listed.new.held) (c.deref.ensures.value ∙ c.in_ok-hashes.ensures)
    ∙ ap (λ (s : Hashes). each s (keys xorbs)) held
    ∙ all_held_same xorbs shards hidden (keys xorbs)
    ∙ sym (ap (λ b. b && list_all (is_held (parts xorbs shards hidden)) (keys xorbs)) all)
