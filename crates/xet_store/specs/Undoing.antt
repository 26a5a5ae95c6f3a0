-- How the store in memory takes the xorbs of a generated file out again.
use Rattle.std.specs.Prelude.{ℕ, List}
use Rattle.std.specs.List.{fold}
use Rattle.xet_store.specs.StoreModel.{StoreModel}
use Rattle.xet_store.specs.Commands.{delete_xorb}

-- the store without these xorbs
abbrev pub without_xorbs : StoreModel → List (List ℕ) → StoreModel
without_xorbs m hashes = fold (λ n hash. (delete_xorb n hash).1) m hashes
