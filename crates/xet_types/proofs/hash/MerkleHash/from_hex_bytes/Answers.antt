use Rattle.std.proofs.Common.{refl}
use Rattle.hex.proofs.HexLemmas.{IsOk-decode_sized}
use Rattle.xet_types.proofs.hash.MerkleHash.from_hex_bytes.Goals as goal

pub returns-in-Ok-clause-digits : goal.returns-in-Ok-clause-digits
returns-in-Ok-clause-digits c =
    let digits = IsOk-decode_sized c.args.text.now 32 in
    (λ h. digits.0 (rw (← c.from_hex.ensures, c.in-Ok.is) refl), λ _. refl)

pub returns-in-Err-clause-digits : goal.returns-in-Err-clause-digits
returns-in-Err-clause-digits c =
    let digits = IsOk-decode_sized c.args.text.now 32 in
    (λ h. cc h, λ h. rw (← c.from_hex.ensures, c.in-Err.is) at (digits.1 h))
