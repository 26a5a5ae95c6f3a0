use Rattle.std.proofs.Common.{◌≡◌, drop}
use Rattle.std.specs.List.{flat_map}
use Rattle.xet_bytes.specs.Reading.{literal_at}
use Rattle.xet_xorb.proofs.footer.pass_hashes.Given as goal

abbrev pub invariant-loop-hash : goal.invariant-loop-hash
invariant-loop-hash l = literal_at (flat_map (λ hash. hash) l.hashes) l.fn.cursor ≡ literal_at (flat_map (λ hash. hash) (drop l.hash-index l.hashes)) l.cursor
