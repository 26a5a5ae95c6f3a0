use Rattle.std.proofs.Common.{rules, ◌≡◌, Err}
use Rattle.std.proofs.lemmas.List.Sorted.{IsNonDecreasingBy-from_sort_by_key, answers_always}
use Rattle.std.proofs.lemmas.Result.{err_from_is_err_and}
use Rattle.xet_wire.specs.Multipart.{start_of}
use Rattle.xet_wire.proofs.MultipartReads.{reads_from, reads_refusal, read_once, kept_ties}
use Rattle.xet_wire.proofs.multipart.read.parse_multipart_byteranges.Goals as goal

pub returns-clause-value : goal.returns-clause-value
returns-clause-value c = record {
  given = c.in_ok-parts.parts.items;
  spelled = c.in_ok-parts.ensures;
  sorted = record {
    rises = IsNonDecreasingBy-from_sort_by_key start_of _ c.in_ok-sort_by_key.ensures.sorted (λ a r q k. search rules);
    same = kept_ties c.in_ok-parts.parts.items c.sort_by_key.new.self.items (c.in_ok-sort_by_key.ensures.stable start_of (answers_always _ (λ a r. r ≡ start_of a.0.now) tt (λ f a r f' k. search rules)));
  };
}

pub returns-clause-reads : goal.returns-clause-reads
returns-clause-reads c = λ parts is. read_once c.args.content_type.now c.args.body c.sort_by_key.new.self.items parts (returns-clause-value c) is

pub returns-in_err-parts-clause-reads : goal.returns-in_err-parts-clause-reads
returns-in_err-parts-clause-reads c =
    let p = err_from_is_err_and c.from_residual.result c.from_residual.ensures.1 in
    rw (p.1, p.2) (λ parts is. reads_from c.args.content_type.now c.args.body (Err c.in_err-parts.field-0.0) (reads_refusal c.args.content_type.now c.args.body c.in_err-parts.field-0.0 c.in_err-parts.ensures) parts is)
