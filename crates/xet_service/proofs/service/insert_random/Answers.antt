use Rattle.xet_store.specs.Commands.{Is, insert_xorb, InsertsSeeded}
use Rattle.xet_service.proofs.Doing.{follows_more, seeded_inserted}
use Rattle.xet_service.proofs.service.insert_random.Goals as goal

pub returns-clause-told : goal.returns-clause-told
returns-clause-told g c = λ m told.
    let a = c.args in
    follows_more (Is (insert_xorb m c.in_ok-xorb.xorb)) (InsertsSeeded m a.seed a.num_chunks a.chunk_size) m (g.K.Client.told c.insert_random_xorb.new.self)
    (seeded_inserted m a.seed a.num_chunks a.chunk_size c.in_ok-xorb.xorb c.in_ok-xorb.ensures.0 c.in_ok-xorb.ensures.1)
    c.insert_random_xorb.result (c.insert_random_xorb.ensures.told m told)
