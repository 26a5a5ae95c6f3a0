use Rattle.hex.proofs.HexLemmas.{decode_sized-encode_lower}
use Rattle.xet_types.proofs.hash.MerkleHash.hex.Goals as goal

pub returns-clause-reads_back : goal.returns-clause-reads_back
returns-clause-reads_back c =
    let own = decode_sized-encode_lower c.args.self.now 32 c.as_slice.ensures.length c.as_slice.ensures.bytes in
    rw (c.in_ok-text.ensures, c.as_slice.ensures.value) own
