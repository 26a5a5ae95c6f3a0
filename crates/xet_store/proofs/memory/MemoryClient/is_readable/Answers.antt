use Rattle.std.proofs.Common.{◌≡◌, ◌∙◌, Bool, List, ℕ, ap}
use Rattle.std.specs.List.{flat_map, list_all}
use Rattle.xet_store.specs.StoreModel.{StoreModel, listing}
use Rattle.xet_store.specs.Checks.{all_readable, files_in, listed_files}
use Rattle.xet_store.proofs.Checking.{all_of_set}
use Rattle.xet_store.proofs.memory.MemoryClient.is_readable.Goals as goal

pub returns : goal.returns
returns c =
    let each : List ℕ → Bool = λ file. all_readable c.args.self.now (listing c.args.self.now file) in
    c.are_files_readable.ensures
    ∙ ap (list_all each) (c.deref.ensures.value ∙ c.in_ok-files.ensures)
    ∙ all_of_set each (flat_map files_in c.self.inside.shards)
    ∙ ap (λ (m : StoreModel). list_all each (listed_files m)) c.self.view_is
