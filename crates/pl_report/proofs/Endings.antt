-- The last byte of a text in UTF-8: it is the last character, or neither is in ASCII.
use Rattle.std.proofs.Common.{◌≡◌, ◌<◌, ◌≤◌, ◌+◌, ◌-◌, ◌/◌, ℕ, Bool, true, false, cond, List, [], ◌∷◌, ◌++◌, length, refl, sym, ◌∙◌, ap, append_assoc, append-nil, ⊎_elim, arith, Option, Some, None}
use Rattle.std.specs.Prelude.{◌==◌, codes, slice_get, not, if◌then◌else◌}
use Rattle.std.specs.Char.{is_ascii, encode_utf8}
use Rattle.std.specs.List.{list_all, list_any}
use Rattle.std.specs.Str.{encode_utf8_all}
use Rattle.std.proofs.lemmas.Bool.{and_parts, or_cases, false≢true, eqb-true, ltb-true, cases_lt, le-ltb}
use Rattle.std.proofs.lemmas.Str.{encode_ascii, encodes-append}
use lib.Dec.{ltb}
use lib.Utf8.{next}
use Rattle.pl_term.specs.Tree.{Chars}
use Rattle.pl_model.specs.Characters.{is_symbol}
use Rattle.run_model.specs.Report.{newline, last_of, is_open, closed, ends_in_symbol, stopped}
use Rattle.pl_report.specs.Adds.{Adds}
use Rattle.pl_report.proofs.AddsLemmas.{ascii_bytes, adds_ascii, adds_then}

-- A character that is among ASCII characters is one.
among : (ds : List ℕ) (c : ℕ) → list_any (λ d. d == c) ds ≡ true → list_all is_ascii ds ≡ true → is_ascii c ≡ true
among [] c any all = absurd (false≢true any)
among (d ∷ ds) c any all =
    let p = and_parts (is_ascii d) (list_all is_ascii ds) all in
    ⊎_elim
    (λ e. ap is_ascii (sym (eqb-true d c e)) ∙ p.0)
    (λ e. among ds c e p.1)
    (or_cases (d == c) (list_any (λ d. d == c) ds) any)

-- No character past ASCII is a symbol character, or a newline.
beyond_symbols : (c : ℕ) → 128 ≤ c → is_symbol c ≡ false
beyond_symbols c h = by (is_symbol c) refl
  where
    by : (b : Bool) → is_symbol c ≡ b → b ≡ false
    by false e = refl
    by true e =
        let low : c < 128 = ltb-true c 128 (among (codes "+-*/\\^<>=~:.?@#&$") c e refl) in absurd (omega arith)

beyond_newline : (c : ℕ) → 128 ≤ c → (c == 10) ≡ false
beyond_newline c h = by (c == 10) refl
  where
    by : (b : Bool) → (c == 10) ≡ b → b ≡ false
    by false e = refl
    by true e = let same : c ≡ 10 = eqb-true c 10 e in absurd (omega arith)

pub record Ends (bytes : List ℕ) (c : ℕ) : Type 0 where
  pub front : List ℕ
  pub last : ℕ
  pub is : bytes ≡ front ++ last ∷ []
  pub symbol : is_symbol last ≡ is_symbol c
  pub line : (last == 10) ≡ (c == 10)

ends_beyond : (bytes front : List ℕ) (last c : ℕ) → bytes ≡ front ++ last ∷ [] → 128 ≤ last → 128 ≤ c → Ends bytes c
ends_beyond bytes front last c e h k =
    record {
      front = front;
      last = last;
      is = e;
      symbol = beyond_symbols last h ∙ sym (beyond_symbols c k);
      line = beyond_newline last h ∙ sym (beyond_newline c k);
    }

abbrev wide_bytes : Bool → Bool → ℕ → List ℕ
wide_bytes a b c =
    cond a ((192 + c / 64) ∷ next c ∷ []) (cond b ((224 + c / 4096) ∷ next (c / 64) ∷ next c ∷ []) ((240 + c / 262144) ∷ next (c / 4096) ∷ next (c / 64) ∷ next c ∷ []))

wide : (a b : Bool) (c : ℕ) → 128 ≤ c → Ends (wide_bytes a b c) c
wide true b c h = ends_beyond _ ((192 + c / 64) ∷ []) (next c) c refl (omega arith) h
wide false true c h = ends_beyond _ ((224 + c / 4096) ∷ next (c / 64) ∷ []) (next c) c refl (omega arith) h
wide false false c h =
    ends_beyond _ ((240 + c / 262144) ∷ next (c / 4096) ∷ next (c / 64) ∷ []) (next c) c refl (omega arith) h

ends_same : {bytes other : List ℕ} {c : ℕ} → bytes ≡ other → Ends other c → Ends bytes c
ends_same e w = record { front = w.front; last = w.last; is = e ∙ w.is; symbol = w.symbol; line = w.line }

single : (c : ℕ) → Ends (encode_utf8 c) c
unfolding encode_utf8
single c =
    ⊎_elim
    (λ h. record { front = []; last = c; is = encode_ascii c h; symbol = refl; line = refl })
    (λ h. ends_same (ap (λ b. cond b (c ∷ []) (wide_bytes (ltb c 2048) (ltb c 65536) c)) (le-ltb c 128 h)) (wide (ltb c 2048) (ltb c 65536) c h))
    (cases_lt c 128)

pub ending : (c : ℕ) (cs : Chars) → Ends (encode_utf8_all (c ∷ cs)) (last_of c cs)
ending c [] = ends_same (append-nil (encode_utf8 c)) (single c)
ending c (d ∷ ds) =
    let r = ending d ds in
    record {
      front = encode_utf8 c ++ r.front;
      last = r.last;
      is = ap (λ x. encode_utf8 c ++ x) r.is ∙ sym (append_assoc (encode_utf8 c) r.front (r.last ∷ []));
      symbol = r.symbol;
      line = r.line;
    }

-- What a last element says.
last-append : (c : ℕ) (xs : List ℕ) (b : ℕ) → last_of c (xs ++ b ∷ []) ≡ b
last-append c [] b = refl
last-append c (x ∷ xs) b = last-append x xs b

open-append : (xs : List ℕ) (b : ℕ) → is_open (xs ++ b ∷ []) ≡ not (b == 10)
open-append [] b = refl
open-append (x ∷ xs) b = ap (λ c. not (c == 10)) (last-append x xs b)

symbol-append : (xs : List ℕ) (b : ℕ) → ends_in_symbol (xs ++ b ∷ []) ≡ is_symbol b
symbol-append [] b = refl
symbol-append (x ∷ xs) b = ap is_symbol (last-append x xs b)

-- Whether a text is open can be seen of its bytes.
pub open_bytes : (t : Chars) → is_open (encode_utf8_all t) ≡ is_open t
open_bytes [] = refl
open_bytes (c ∷ cs) =
    let r = ending c cs in ap is_open r.is ∙ open-append r.front r.last ∙ ap not r.line

-- The bytes after others end as they do by themselves.
pub symbol_behind : (before : List ℕ) (c : ℕ) (cs : Chars) → ends_in_symbol (before ++ encode_utf8_all (c ∷ cs)) ≡ ends_in_symbol (c ∷ cs)
symbol_behind before c cs =
    let r = ending c cs in
    ap ends_in_symbol (ap (λ x. before ++ x) r.is ∙ sym (append_assoc before r.front (r.last ∷ [])))
    ∙ symbol-append (before ++ r.front) r.last
    ∙ r.symbol

closed_by : (b : Bool) (t : Chars) → (if b then encode_utf8_all t ++ newline else encode_utf8_all t) ≡ encode_utf8_all (if b then t ++ newline else t)
closed_by false t = refl
closed_by true t =
    ap (λ x. encode_utf8_all t ++ x) (sym (ascii_bytes newline refl)) ∙ sym (encodes-append t newline)

pub closed_bytes : (t : Chars) → closed (encode_utf8_all t) ≡ encode_utf8_all (closed t)
closed_bytes t =
    ap (λ b. if b then encode_utf8_all t ++ newline else encode_utf8_all t) (open_bytes t) ∙ closed_by (is_open t) t

-- The text has a character.
abbrev pub IsFull : Chars → Type 0
IsFull [] = ⊥
IsFull (c ∷ cs) = Unit {0}

stops_by : (s : Bool) (a b c : List ℕ) (text : Chars) → Adds a b text → c ≡ (if s then b ++ codes " ." else b ++ codes ".") → Adds a c (if s then text ++ codes " ." else text ++ codes ".")
stops_by true a b c text p e = adds_then p (adds_ascii b c (codes " .") refl e)
stops_by false a b c text p e = adds_then p (adds_ascii b c (codes ".") refl e)

-- A full stop after a text that is not empty.
pub adds_stop : {a b c : List ℕ} {text : Chars} → IsFull text → Adds a b text → c ≡ stopped b → Adds a c (stopped text)
adds_stop {a = a} {b = b} {c = c} {text = []} full p e = absurd full
adds_stop {a = a} {b = b} {c = c} {text = d ∷ ds} full p e =
    stops_by (ends_in_symbol (d ∷ ds)) a b c (d ∷ ds) p
    (e ∙ ap (λ s. if s then b ++ codes " ." else b ++ codes ".") (ap ends_in_symbol p.added ∙ symbol_behind a d ds))

-- The last byte, as it is looked up.
last_at : (c : ℕ) (cs : List ℕ) → slice_get (c ∷ cs) (length cs) ≡ Some (last_of c cs)
last_at c [] = refl
last_at c (d ∷ ds) = last_at d ds

last_got : (c : ℕ) (cs : List ℕ) → slice_get (c ∷ cs) (length (c ∷ cs) - 1) ≡ Some (last_of c cs)
last_got c cs =
    let e : length (c ∷ cs) - 1 ≡ length cs = omega arith in ap (slice_get (c ∷ cs)) e ∙ last_at c cs

some_of : {X : Type 0} → X → Option X → X
some_of d None = d
some_of d (Some x) = x

pub open_got : (bs : List ℕ) (b : ℕ) → Some b ≡ slice_get bs (length bs - 1) → not (b == 10) ≡ is_open bs
unfolding some_of
open_got [] b e = absurd (let no : ⊥ = cc in no)
open_got (c ∷ cs) b e = ap (λ r. not (some_of 0 r == 10)) (e ∙ last_got c cs)

pub open_none : (bs : List ℕ) → None ≡ slice_get bs (length bs - 1) → false ≡ is_open bs
open_none [] e = refl
open_none (c ∷ cs) e = let none : None ≡ Some (last_of c cs) = e ∙ last_got c cs in absurd (let no : ⊥ = cc in no)

pub symbol_got : (bs : List ℕ) (b : ℕ) → Some b ≡ slice_get bs (length bs - 1) → is_symbol b ≡ ends_in_symbol bs
unfolding some_of
symbol_got [] b e = absurd (let no : ⊥ = cc in no)
symbol_got (c ∷ cs) b e = ap (λ r. is_symbol (some_of 0 r)) (e ∙ last_got c cs)

pub symbol_none : (bs : List ℕ) → None ≡ slice_get bs (length bs - 1) → false ≡ ends_in_symbol bs
symbol_none [] e = refl
symbol_none (c ∷ cs) e = let none : None ≡ Some (last_of c cs) = e ∙ last_got c cs in absurd (let no : ⊥ = cc in no)
