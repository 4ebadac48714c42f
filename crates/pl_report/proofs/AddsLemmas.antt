-- Texts put one after the other.
use Rattle.std.proofs.Common.{◌≡◌, ℕ, true, List, [], ◌∷◌, ◌++◌, refl, sym, ◌∙◌, ap, append_assoc, append-nil}
use Rattle.std.specs.Char.{is_ascii}
use Rattle.std.specs.List.{list_all}
use Rattle.std.specs.Str.{encode_utf8_all, IsAscii}
use Rattle.std.proofs.lemmas.Bool.{and_parts, ltb-true}
use Rattle.std.specs.Prelude.{Result, Ok, Err, OnOk}
use Rattle.std.proofs.lemmas.Str.{encode_ascii, encodes-append, encodes-IsAscii}
use Rattle.pl_term.specs.Tree.{Chars}
use Rattle.run_model.specs.Report.{newline}
use Rattle.pl_report.specs.Adds.{Adds}

-- A text in ASCII is its own bytes.
pub ascii_bytes : (bs : List ℕ) → list_all is_ascii bs ≡ true → encode_utf8_all bs ≡ bs
ascii_bytes [] t = refl
ascii_bytes (b ∷ bs) t =
    let p = and_parts (is_ascii b) (list_all is_ascii bs) t in
    ap (λ cs. cs ++ encode_utf8_all bs) (encode_ascii b (ltb-true b 128 p.0)) ∙ ap (λ cs. b ∷ cs) (ascii_bytes bs p.1)

pub adds_none : (a : List ℕ) → Adds a a []
adds_none a = record { added = sym (append-nil a) }

-- Two texts, one after the other.
pub adds_then : {a b c : List ℕ} {s t : Chars} → Adds a b s → Adds b c t → Adds a c (s ++ t)
adds_then {a = a} {b = b} {c = c} {s = s} {t = t} p q =
    record {
      added =
          q.added
          ∙ ap (λ x. x ++ encode_utf8_all t) p.added
          ∙ append_assoc a (encode_utf8_all s) (encode_utf8_all t)
          ∙ ap (λ x. a ++ x) (sym (encodes-append s t));
    }

pub adds_ascii : (a b bs : List ℕ) → list_all is_ascii bs ≡ true → b ≡ a ++ bs → Adds a b bs
adds_ascii a b bs t e = record { added = e ∙ ap (λ x. a ++ x) (sym (ascii_bytes bs t)) }

pub adds_digits : (a b bs : List ℕ) → IsAscii bs → b ≡ a ++ bs → Adds a b bs
adds_digits a b bs t e = record { added = e ∙ ap (λ x. a ++ x) (sym (encodes-IsAscii bs t)) }

-- The end of a line.
pub adds_newline : {a b : List ℕ} → b ≡ a ++ newline → Adds a b newline
adds_newline {a = a} {b = b} e = adds_ascii a b newline refl e

pub adds_same : {a b : List ℕ} {s t : Chars} → s ≡ t → Adds a b s → Adds a b t
adds_same {a = a} e p = record { added = p.added ∙ ap (λ x. a ++ encode_utf8_all x) e }

-- What holds of an answer that is Ok.
pub on_ok : {A E P Q : Type 0} → (r : Result A E) → (P → Q) → OnOk r P → OnOk r Q
on_ok (Ok x) f p = f p
on_ok (Err e) f p = tt
