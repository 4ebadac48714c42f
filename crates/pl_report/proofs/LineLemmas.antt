-- Lines after a text.
use Rattle.std.proofs.Common.{◌≡◌, ℕ, false, List, [], ◌∷◌, ◌++◌, refl, sym, ◌∙◌, ap, append_assoc}
use Rattle.std.specs.Prelude.{codes, not, ◌==◌, if◌then◌else◌, decimal}
use Rattle.std.specs.Str.{encode_utf8_all}
use Rattle.std.proofs.lemmas.Str.{encodes-append}
use Rattle.pl_term.specs.Tree.{Chars}
use Rattle.run_model.specs.Report.{newline, last_of, is_open, closed, with_line, item_line}
use Rattle.pl_report.specs.Adds.{Adds}
use Rattle.pl_report.specs.Pieces.{place_text}
use Rattle.pl_report.proofs.AddsLemmas.{adds_then, adds_same, adds_newline}
use Rattle.pl_report.proofs.Endings.{closed_bytes}

-- A line after a text.
pub line_put : {a b c d : List ℕ} {line : Chars} (t : Chars) → a ≡ encode_utf8_all t → b ≡ closed a → Adds b c line → d ≡ c ++ newline → d ≡ encode_utf8_all (with_line t line)
line_put {a = a} {b = b} {c = c} {d = d} {line = line} t spelled close p e =
    let whole : Adds b d (line ++ newline) = adds_then p (adds_newline e) in
    whole.added
    ∙ ap (λ x. x ++ encode_utf8_all (line ++ newline)) (close ∙ ap closed spelled ∙ closed_bytes t)
    ∙ sym (encodes-append (closed t) (line ++ newline))

-- The end of a line after a text.
pub line_ended : {c d : List ℕ} {line : Chars} (t : Chars) → Adds (encode_utf8_all (closed t)) c line → d ≡ c ++ newline → d ≡ encode_utf8_all (with_line t line)
line_ended {line = line} t p e = (adds_then p (adds_newline e)).added ∙ sym (encodes-append (closed t) (line ++ newline))

-- What is said of an item after its place.
pub item_put : {a b c : List ℕ} {t : Chars} (name : Chars) (at : ℕ) → Adds a b (place_text name at) → Adds b c t → Adds a c (item_line name at t)
item_put {a = a} {b = b} {c = c} {t = t} name at p q =
    adds_same
    (append_assoc name (codes ":" ++ (decimal at ++ codes ": ")) t
    ∙ ap (λ x. name ++ x)
    (append_assoc (codes ":") (decimal at ++ codes ": ") t
    ∙ ap (λ x. codes ":" ++ x) (append_assoc (decimal at) (codes ": ") t)))
    (adds_then p q)

last-line : (c : ℕ) (xs : Chars) → last_of c (xs ++ newline) ≡ 10
last-line c [] = refl
last-line c (x ∷ xs) = last-line x xs

ended : (xs : Chars) → is_open (xs ++ newline) ≡ false
ended [] = refl
ended (x ∷ xs) = ap (λ c. not (c == 10)) (last-line x xs)

-- A text whose last line is ended stays.
stays : (xs : Chars) → is_open xs ≡ false → closed xs ≡ xs
stays xs e = ap (λ b. if b then xs ++ newline else xs) e

pub closed_line : (t line : Chars) → closed (with_line t line) ≡ with_line t line
closed_line t line =
    stays (with_line t line) (ap is_open (sym (append_assoc (closed t) line newline)) ∙ ended (closed t ++ line))
