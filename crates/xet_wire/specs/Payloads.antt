-- Payloads of links and terms: texts in base64 with the URL-safe alphabet and no padding (RFC 4648 section 5).
use Rattle.std.specs.Prelude.{◌≡◌, ℕ, List, Result, Ok, Err, string_bytes}
use Rattle.std.specs.Str.{IsUtf8}
use Rattle.std.specs.declared.prelude.String.{String}
use Rattle.std.specs.declared.alloc.Global.{Global}
use Rattle.std.specs.Global.{Vec}
use Rattle.base64.specs.Engines.{url_safe_no_pad}
use Rattle.base64.specs.GeneralPurpose.{encode_of, IsBytes}
use Rattle.xet_types.specs.declared.error.ClientError.{ClientError}
use Rattle.xet_types.specs.declared.error.ClientError.TheVariants.{InvalidArguments, OutOfMemory}

-- the text is the canonical base64 of the bytes
pub record EncodesBytes (text payload : List ℕ) : Type 0 where
  pub bytes : IsBytes payload
  pub coded : text ≡ encode_of url_safe_no_pad payload

-- what reading bytes answers
abbrev pub ReadsBytes : List ℕ → Result (Vec ℕ) ClientError → Type 0
ReadsBytes text (Ok payload) = EncodesBytes text payload.items × ((p : List ℕ) → EncodesBytes text p → p ≡ payload.items)
ReadsBytes text (Err InvalidArguments) = (p : List ℕ) → ¬ EncodesBytes text p
ReadsBytes text (Err OutOfMemory) = Unit {0}
ReadsBytes text (Err _) = ⊥

-- the text is the canonical base64 of the payload, which is UTF-8
pub record Encodes (text payload : List ℕ) : Type 0 where
  pub encodes : EncodesBytes text payload
  pub utf8 : IsUtf8 payload

-- what reading a payload answers
abbrev pub ReadsPayload : List ℕ → Result (String Global) ClientError → Type 0
ReadsPayload text (Ok payload) = Encodes text (string_bytes payload) × ((p : List ℕ) → Encodes text p → p ≡ string_bytes payload)
ReadsPayload text (Err InvalidArguments) = (p : List ℕ) → ¬ Encodes text p
ReadsPayload text (Err OutOfMemory) = Unit {0}
ReadsPayload text (Err _) = ⊥
