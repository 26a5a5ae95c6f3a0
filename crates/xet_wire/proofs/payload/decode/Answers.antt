use Rattle.std.proofs.Common.{◌≡◌, ap, string_bytes}
use Rattle.std.proofs.lemmas.Str.{IsUtf8-string_bytes}
use Rattle.xet_wire.proofs.payload.decode.Goals as goal

pub returns-in-Ok-from_utf8 : goal.returns-in-Ok-from_utf8
returns-in-Ok-from_utf8 c =
    let items : string_bytes c.in-Ok-from_utf8.payload ≡ c.in-Ok.bytes.items = ap (λ v. v.items) c.in-Ok-from_utf8.ensures.ok in
    (record { encodes = rw items c.in-Ok.ensures.0; utf8 = IsUtf8-string_bytes c.in-Ok-from_utf8.payload }, λ p e. rw items (c.in-Ok.ensures.1 p e.encodes))
