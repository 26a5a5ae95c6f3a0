-- Text that is printed piece after piece.
use Rattle.std.proofs.Common.{◌≡◌, ℕ, ◌+◌, ◌-◌, ◌≤◌, List, [], ◌∷◌, ◌++◌, length, take, drop, true, false, Option, refl, sym, ap, subst, ◌∙◌, append_assoc, arith}
use Rattle.std.specs.Io.KnownBytes.{Appends}
use Rattle.std.proofs.KnownBytes.{Appends-nil, Appends-trans}
use Rattle.std.proofs.Math.Seq.{take-add}
use Rattle.std.proofs.lemmas.Bool.{false≢true}
use Rattle.std.proofs.lemmas.List.{take-take, take_all, append-nil, take-append-drop, take-append-le, length-append}
use Rattle.hex.specs.Hex.{encode_with, encode_lower, lower_digits}
use Rattle.xet_types.specs.Faults.{Rose}
use Rattle.xet_demo.specs.Pages.{Output, Holds, Prints, WritesFront, PageText, output, with_text, blank}

pub next_piece : (text : List ℕ) (done count : ℕ) → count ≤ length text - done → take done text ++ take count (take (length text - done) (drop done text)) ≡ take (done + count) text
next_piece text done count le = ap (λ (t : List ℕ). take done text ++ t) (take-take count (length text - done) (drop done text) le) ∙ sym (take-add done count text)

-- one text after another
pub prints_then : {a b c : Output} {s t : List ℕ} → Prints a b s → Prints b c t → Prints a c (s ++ t)
prints_then {a} {b} {c} {s} {t} p q = record {
  holds = λ start before printed h. let r = q.holds start before (printed ++ s) (p.holds start before printed h) in rw (append_assoc printed s t) at r;
}

pub prints_nothing : (o : Output) → Prints o o []
prints_nothing o = record { holds = λ start before printed h. subst (λ (t : List ℕ). Holds start before t o) (sym (append-nil printed)) h }

-- text that goes onto the page
pub prints_on_page : (taken : Option (List ℕ)) (faults : ℕ) (page : PageText) (bytes : List ℕ) → Prints (output taken faults page) (output taken faults (with_text page (page.text ++ bytes))) bytes
prints_on_page taken faults page bytes = record {
  holds = λ start before printed h. record {
    written = h.written;
    rest = h.rest ++ bytes;
    printed_is = ap (λ (t : List ℕ). t ++ bytes) h.printed_is ∙ append_assoc h.written h.rest bytes;
    taken = h.taken;
    rose = h.rose;
    unfailed = λ e. (ap (λ (t : List ℕ). t ++ bytes) (h.unfailed e).0, (h.unfailed e).1);
  };
}

-- the page is dropped where the sink has failed already
pub prints_dropped : (taken : Option (List ℕ)) (faults : ℕ) (page : PageText) → page.failed ≡ true → Prints (output taken faults page) (output taken faults (with_text page [])) []
prints_dropped taken faults page failed = record {
  holds = λ start before printed h. record {
    written = h.written;
    rest = h.rest;
    printed_is = append-nil printed ∙ h.printed_is;
    taken = h.taken;
    rose = h.rose;
    unfailed = λ e. absurd (false≢true (sym e ∙ failed));
  };
}

-- the page is written
pub prints_written : (old new : Option (List ℕ)) (before now : ℕ) (page : PageText) → page.failed ≡ false → Appends old new page.text → now ≡ before → Prints (output old before page) (output new now (with_text page [])) []
prints_written old new before now page unfailed appends same = record {
  holds = λ start first printed h. record {
    written = h.written ++ page.text;
    rest = [];
    printed_is = append-nil printed ∙ h.printed_is ∙ ap (λ (t : List ℕ). h.written ++ t) (h.unfailed unfailed).0 ∙ sym (append-nil (h.written ++ page.text));
    taken = Appends-trans start old new h.written page.text h.taken appends;
    rose = λ e. absurd (false≢true (sym unfailed ∙ e));
    unfailed = λ e. (refl, same ∙ (h.unfailed unfailed).1);
  };
}

-- a front of the page is written, and the sink fails
pub prints_failed : (old new : Option (List ℕ)) (before now : ℕ) (page : PageText) → page.failed ≡ false → WritesFront old new page.text → Rose before now → Prints (output old before page) (output new now (record { text = []; failed = true })) []
prints_failed old new before now page unfailed front rose = record {
  holds = λ start first printed h.
      let whole : page.text ≡ take front.count page.text ++ drop front.count page.text = sym (take-append-drop front.count page.text) in
      record {
        written = h.written ++ take front.count page.text;
        rest = drop front.count page.text;
        printed_is = append-nil printed ∙ h.printed_is ∙ ap (λ (t : List ℕ). h.written ++ t) ((h.unfailed unfailed).0 ∙ whole) ∙ sym (append_assoc h.written (take front.count page.text) (drop front.count page.text));
        taken = Appends-trans start old new h.written (take front.count page.text) h.taken front.appends;
        rose = λ e. subst (λ (n : ℕ). Rose n now) (h.unfailed unfailed).1 rose;
        unfailed = λ e. absurd (false≢true (sym e));
      };
}

pub encode_with-nil : (t : List ℕ) → encode_with t [] ≡ []
unfolding encode_with
encode_with-nil t = refl

-- hexadecimal digits of two lists
pub encode_with-append : (t xs ys : List ℕ) → encode_with t (xs ++ ys) ≡ encode_with t xs ++ encode_with t ys
unfolding encode_with
encode_with-append t [] ys = refl
encode_with-append t (x ∷ xs) ys = rw (encode_with-append t xs ys) refl

-- nothing is printed on a blank page
pub holds_nothing : (taken : Option (List ℕ)) (faults : ℕ) → Holds taken faults [] (output taken faults blank)
holds_nothing taken faults = record {
  written = [];
  rest = [];
  printed_is = refl;
  taken = Appends-nil taken;
  rose = λ e. absurd (false≢true e);
  unfailed = λ e. (refl, refl);
}

-- all that was printed is written, where the page is empty and the sink hasn't failed
pub all_written : (start taken : Option (List ℕ)) (before faults : ℕ) (printed : List ℕ) (page : PageText) → Holds start before printed (output taken faults page) → page.text ≡ [] → page.failed ≡ false → Appends start taken printed × (faults ≡ before)
all_written start taken before faults printed page h empty unfailed =
    let goes_on = h.unfailed unfailed in
    let whole : printed ≡ h.written = h.printed_is ∙ ap (λ (t : List ℕ). h.written ++ t) (goes_on.0 ∙ empty) ∙ append-nil h.written in
    (subst (Appends start taken) (sym whole) h.taken, goes_on.1)

-- a front of what was printed is written, where the sink has failed
pub front_written : (start taken : Option (List ℕ)) (before faults : ℕ) (printed : List ℕ) (page : PageText) → Holds start before printed (output taken faults page) → page.failed ≡ true → WritesFront start taken printed × Rose before faults
front_written start taken before faults printed page h failed =
    let front : take (length h.written) printed ≡ h.written = ap (take (length h.written)) h.printed_is ∙ take-append-le (length h.written) h.written h.rest (omega arith) ∙ take_all (length h.written) h.written (omega arith) in (
      record {
        count = length h.written;
        within = omega (arith, ap (λ (t : List ℕ). length t) h.printed_is, length-append h.written h.rest);
        appends = subst (Appends start taken) (sym front) h.taken;
      },
      h.rose failed,
    )

-- ---- bytes that are printed as digits, piece after piece

-- the bytes before those that are left were printed
pub record HasWalked (start here : Output) (all left : List ℕ) : Type 0 where
  pub before : List ℕ
  pub all_is : all ≡ before ++ left
  pub printed : Prints start here (encode_lower before)

pub walk_starts : (start : Output) (all left : List ℕ) → left ≡ all → HasWalked start start all left
walk_starts start all left same = record {
  before = [];
  all_is = sym same;
  printed = subst (λ (t : List ℕ). Prints start start t) (sym (encode_with-nil lower_digits)) (prints_nothing start);
}

pub walks_on : (start here next : Output) (all left piece rest : List ℕ) → HasWalked start here all left → left ≡ piece ++ rest → Prints here next (encode_lower piece) → HasWalked start next all rest
walks_on start here next all left piece rest h is p = record {
  before = h.before ++ piece;
  all_is = h.all_is ∙ ap (λ (t : List ℕ). h.before ++ t) is ∙ sym (append_assoc h.before piece rest);
  printed = subst (λ (t : List ℕ). Prints start next t) (sym (encode_with-append lower_digits h.before piece)) (prints_then h.printed p);
}

pub has_walked : (start here : Output) (all left : List ℕ) → HasWalked start here all left → left ≡ [] → Prints start here (encode_lower all)
has_walked start here all left h end =
    subst (λ (t : List ℕ). Prints start here (encode_lower t)) (sym (h.all_is ∙ ap (λ (t : List ℕ). h.before ++ t) end ∙ append-nil h.before)) h.printed
