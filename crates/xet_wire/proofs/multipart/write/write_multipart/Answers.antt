use Rattle.std.proofs.Common.{◌∙◌, List, ℕ, ap, subst, arith, map, string_bytes, ◌<◌, ◌^◌}
use Rattle.xet_wire.specs.Multipart.{IsBoundaryOf, part_of, multipart_text, content_type_text}
use Rattle.xet_wire.proofs.MultipartWritten.{written_spells, all_fit_written}
use Rattle.xet_wire.proofs.multipart.write.write_multipart.Goals as goal

pub returns-clause-text : goal.returns-clause-text
returns-clause-text c = record {
  boundary = string_bytes c.in_ok-boundary.boundary;
  chosen = subst (λ (ps : List (List ℕ)). IsBoundaryOf ps (string_bytes c.in_ok-boundary.boundary)) (c.as_slice.ensures.value ∙ c.in_ok-contents.ensures) c.in_ok-boundary.ensures;
  type = c.in_ok-content_type.ensures ∙ ap content_type_text c.as_str.ensures.value;
  text = c.in_ok-from_vec.ensures.ok ∙ c.in_ok-body.ensures.text ∙ ap (λ (b : List ℕ). multipart_text b c.args.total (map part_of c.args.parts.now)) c.as_str-2.ensures.value;
}

pub returns-clause-reads_back : goal.returns-clause-reads_back
returns-clause-reads_back c =
    let small : c.args.total < 2 ^ 64 = search arith in
    written_spells (map part_of c.args.parts.now) c.args.total (string_bytes c.in_ok-content_type.content_type) c.in_ok-from_vec.field-0 small (all_fit_written c.args.parts.now c.in_ok-body.ensures.fit) (returns-clause-text c)
