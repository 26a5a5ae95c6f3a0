use Rattle.std.proofs.Common.{◌≡◌, ◌∙◌, List, true, ap, sym, subst, arith}
use Rattle.xet_service.specs.declared.reader.link.ReadLink.{ReadLink}
use Rattle.xet_service.specs.contracts.reader.Reader.{the_view}
use Rattle.xet_service.specs.Reading.{Reading, is_link_left, count_left, take_link}
use Rattle.xet_service.proofs.ReaderLinks.{left_here, count_got}
use Rattle.xet_service.proofs.reader.Reader.put.Goals as goal

pub overflow_sub-self : goal.overflow_sub-self
overflow_sub-self c =
    let links = c.self.inside.links.items in
    let left : is_link_left links c.args.link ≡ true = subst (λ (r : Reading). is_link_left r.links c.args.link ≡ true) (sym c.self.view_is) c.requires in
    let fewer = count_got links c.args.link c.args.got (left_here links c.args.link left) in
    omega (arith, fewer, c.self.invariant)

pub invariant_of-self : goal.invariant_of-self
invariant_of-self c =
    let links = c.self.inside.links.items in
    let left : is_link_left links c.args.link ≡ true = subst (λ (r : Reading). is_link_left r.links c.args.link ≡ true) (sym c.self.view_is) c.requires in
    let fewer = count_got links c.args.link c.args.got (left_here links c.args.link left) in
    omega (arith, fewer, c.self.invariant, ap count_left c.put_got.ensures)

pub returns : goal.returns
returns c =
    let put = ap (λ (ls : List ReadLink). record (the_view c.self.inside) { links = ls }) c.put_got.ensures in
    put ∙ ap (λ (r : Reading). take_link r c.args.link c.args.got) c.self.view_is
