use Rattle.std.proofs.Common.{◌≡◌, ◌∙◌, ◌+◌, ◌<◌, ◌^◌, ◌++◌, arith, List, ℕ, length, take, vec_len, sym, ap}
use Rattle.xet_xorb.specs.ChunkLists.{joined}
use Rattle.xet_store.proofs.TermLaws.{joins_fit, joins_more, grown_length}
use Rattle.xet_store.proofs.memory.term.join.Goals as goal

pub overflow_cast-len : goal.overflow_cast-len
overflow_cast-len c =
    let chunk = c.chunk-item.result in
    let grown : c.extend_from_slice.new.self.items ≡ c.loop-chunk.bytes.items ++ chunk = c.in_ok-extend_from_slice.ensures.items ∙ ap (λ (x : List ℕ). c.loop-chunk.bytes.items ++ x) c.deref.ensures in
    let more : vec_len c.extend_from_slice.new.self ≡ vec_len c.loop-chunk.bytes + length chunk = c.in_ok-extend_from_slice.ensures.len ∙ ap (λ (x : List ℕ). vec_len c.loop-chunk.bytes + length x) c.deref.ensures in
    let long = grown_length c.loop-chunk.bytes.items c.extend_from_slice.new.self.items chunk (vec_len c.loop-chunk.bytes) (vec_len c.extend_from_slice.new.self) c.len.result c.len.ensures more c.loop-chunk.invariant.2 grown in
    let fit : c.len.result < 2 ^ 32 = joins_fit c.args.chunks.now c.loop-chunk.chunk-index chunk c.len.result c.loop-chunk-test.true c.chunk-item.is c.requires (long ∙ ap (λ (xs : List ℕ). length xs) (grown ∙ ap (λ (xs : List ℕ). xs ++ chunk) c.loop-chunk.invariant.0)) in
    omega (arith, fit)

pub loop-chunk-preserved : goal.loop-chunk-preserved
loop-chunk-preserved c =
    let chunk = c.chunk-item.result in
    let grown : c.extend_from_slice.new.self.items ≡ c.loop-chunk.bytes.items ++ chunk = c.in_ok-extend_from_slice.ensures.items ∙ ap (λ (x : List ℕ). c.loop-chunk.bytes.items ++ x) c.deref.ensures in
    let more : vec_len c.extend_from_slice.new.self ≡ vec_len c.loop-chunk.bytes + length chunk = c.in_ok-extend_from_slice.ensures.len ∙ ap (λ (x : List ℕ). vec_len c.loop-chunk.bytes + length x) c.deref.ensures in
    let long = grown_length c.loop-chunk.bytes.items c.extend_from_slice.new.self.items chunk (vec_len c.loop-chunk.bytes) (vec_len c.extend_from_slice.new.self) c.len.result c.len.ensures more c.loop-chunk.invariant.2 grown in
    let both = joins_more c.args.chunks.now c.loop-chunk.chunk-index chunk c.loop-chunk.bytes.items c.loop-chunk.offsets.items c.extend_from_slice.new.self.items c.push-in-loop-chunk.new.self.items c.len.result c.loop-chunk-test.true c.chunk-item.is
    c.loop-chunk.invariant.0 c.loop-chunk.invariant.1 grown long c.in_ok-push-2.ensures.items in
    (both.0, both.1, sym c.len.ensures ∙ long)
