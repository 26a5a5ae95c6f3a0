-- Bytes that are printed in base64, a block at a time.
use Rattle.std.specs.Prelude.{◌≡◌, ℕ, ◌%◌, List, ◌++◌, length}
use Rattle.base64.specs.Engines.{url_safe_no_pad}
use Rattle.base64.specs.GeneralPurpose.{encode_of}
use Rattle.xet_demo.specs.Pages.{Output, Prints}

-- These bytes were added to those that waited before. Of both the base64 of a front, which is whole groups of three bytes, was printed, and
-- the rest waits now.
pub record PrintsBlocks (old new : Output) (before now bytes : List ℕ) : Type 0 where
  pub front : List ℕ
  pub parts : before ++ bytes ≡ front ++ now
  pub whole : length front % 3 ≡ 0
  pub printed : Prints old new (encode_of url_safe_no_pad front)
