-- Bindings with commas between them.
use Rattle.std.proofs.Common.{◌≡◌, ℕ, Bool, true, false, List, [], ◌∷◌, ◌++◌, map, length, get_or, refl, sym, ◌∙◌, ap, append_assoc, append-nil, arith, Option, Some, None, MatchOption}
use Rattle.std.proofs.lemmas.Bool.{false≢true}
use Rattle.std.proofs.lemmas.Str.{cons_from_encodes, encodes-append, length-le-encodes}
use Rattle.std.specs.Prelude.{codes, filter, if◌then◌else◌}
use Rattle.std.specs.Str.{encode_utf8_all}
use Rattle.std.specs.Str.Iter.{chars_rest, chars_steps}
use Rattle.std.specs.declared.str.Chars.{Chars as CharsLeft}
use Rattle.pl_term.specs.Tree.{Chars, Tree, atom}
use Rattle.pl_model.specs.OperatorTable.{OperatorTable}
use Rattle.pl_model.specs.TermWriting.{writeq}
use Rattle.run_model.specs.Report.{is_shown, binding_text, closed, with_commas, solution_text, stopped}
use Rattle.pl_report.specs.Adds.{Adds}
use Rattle.pl_report.specs.Bindings.{HasBindings}
use Rattle.pl_report.specs.Pieces.{shown_texts, has_any, comma_if}
use Rattle.pl_report.proofs.AddsLemmas.{adds_then, adds_same}
use Rattle.pl_report.proofs.Endings.{IsFull, adds_stop, closed_bytes}

-- The first character that the characters of a text give.
pub first_given : (cs bs : List ℕ) (s t : CharsLeft) (r : Option ℕ)
    → bs ≡ encode_utf8_all cs
    → chars_rest s ≡ bs
    → chars_steps s r t
    → MatchOption r (cs ≡ []) (λ c. (ds : List ℕ) × (cs ≡ c ∷ ds))
first_given cs bs s t None is rest steps =
    let p : (length (chars_rest s) ≡ 0) × (t ≡ s) = steps.0 in
    nothing cs (sym (ap length (rest ∙ is)) ∙ p.0)
  where
    nothing : (cs : List ℕ) → length (encode_utf8_all cs) ≡ 0 → cs ≡ []
    nothing [] e = refl
    nothing (c ∷ cs) e = absurd (omega (arith, length-le-encodes (c ∷ cs)))
first_given cs bs s t (Some c) is rest steps =
    let p = cons_from_encodes cs (chars_rest t) c (sym (rest ∙ is) ∙ steps.0) in
    (p.0, p.1)

commas-push : (bs : List Chars) (b : Chars) → with_commas (bs ++ b ∷ []) ≡ with_commas bs ++ (comma_if (has_any bs) ++ b)
commas-push [] b = refl
commas-push (a ∷ []) b = refl
commas-push (a ∷ (c ∷ cs)) b =
    ap (λ x. a ++ (codes ", " ++ x)) (commas-push (c ∷ cs) b)
    ∙ ap (λ x. a ++ x) (sym (append_assoc (codes ", ") (with_commas (c ∷ cs)) (codes ", " ++ b)))
    ∙ sym (append_assoc a (codes ", " ++ with_commas (c ∷ cs)) (codes ", " ++ b))

has-push : (bs : List Chars) (b : Chars) → has_any (bs ++ b ∷ []) ≡ true
has-push [] b = refl
has-push (a ∷ rest) b = refl

-- What one variable more adds to the bindings.
abbrev one : OperatorTable → List Tree → Chars × ℕ → List Chars
one ops ts n = if is_shown n then binding_text ops ts n ∷ [] else []

shown-cons : (ops : OperatorTable) (ts : List Tree) (n : Chars × ℕ) (ns : List (Chars × ℕ)) → shown_texts ops ts (n ∷ ns) ≡ one ops ts n ++ shown_texts ops ts ns
shown-cons ops ts n ns = by (is_shown n)
  where
    by : (b : Bool)
        → map (binding_text ops ts) (if b then n ∷ filter is_shown ns else filter is_shown ns)
        ≡ (if b then binding_text ops ts n ∷ [] else []) ++ map (binding_text ops ts) (filter is_shown ns)
    by true = refl
    by false = refl

shown-last : (ops : OperatorTable) (ts : List Tree) (ns : List (Chars × ℕ)) (n : Chars × ℕ) → shown_texts ops ts (ns ++ n ∷ []) ≡ shown_texts ops ts ns ++ one ops ts n
shown-last ops ts [] n = shown-cons ops ts n [] ∙ append-nil (one ops ts n)
shown-last ops ts (m ∷ ns) n =
    shown-cons ops ts m (ns ++ n ∷ [])
    ∙ ap (λ x. one ops ts m ++ x) (shown-last ops ts ns n)
    ∙ sym (append_assoc (one ops ts m) (shown_texts ops ts ns) (one ops ts n))
    ∙ ap (λ x. x ++ one ops ts n) (sym (shown-cons ops ts m ns))

one_shown : (ops : OperatorTable) (ts : List Tree) (ns : List (Chars × ℕ)) (n : Chars × ℕ) → is_shown n ≡ true
    → shown_texts ops ts (ns ++ n ∷ []) ≡ shown_texts ops ts ns ++ binding_text ops ts n ∷ []
one_shown ops ts ns n shown =
    shown-last ops ts ns n ∙ ap (λ b. shown_texts ops ts ns ++ (if b then binding_text ops ts n ∷ [] else [])) shown

one_hidden : (ops : OperatorTable) (ts : List Tree) (ns : List (Chars × ℕ)) (n : Chars × ℕ) → is_shown n ≡ false
    → shown_texts ops ts (ns ++ n ∷ []) ≡ shown_texts ops ts ns
one_hidden ops ts ns n hidden =
    shown-last ops ts ns n
    ∙ ap (λ b. shown_texts ops ts ns ++ (if b then binding_text ops ts n ∷ [] else [])) hidden
    ∙ append-nil (shown_texts ops ts ns)

-- The line begins.
pub none_bound : {a b : List ℕ} (t : Chars) (ops : OperatorTable) (ts : List Tree) → a ≡ encode_utf8_all t → b ≡ closed a → HasBindings t ops ts [] false b
none_bound t ops ts spelled close =
    record {
      are = refl;
      text = close ∙ ap closed spelled ∙ closed_bytes t ∙ ap encode_utf8_all (sym (append-nil (closed t)));
    }

-- A variable that is not shown.
pub hidden_goes : {a : List ℕ} (t : Chars) (ops : OperatorTable) (ts : List Tree) (ns : List (Chars × ℕ)) (some : Bool) (n : Chars × ℕ) → is_shown n ≡ false
    → HasBindings t ops ts ns some a → HasBindings t ops ts (ns ++ n ∷ []) some a
hidden_goes t ops ts ns some n hidden h =
    let same = sym (one_hidden ops ts ns n hidden) in
    record { are = h.are ∙ ap has_any same; text = h.text ∙ ap (λ bs. encode_utf8_all (closed t ++ with_commas bs)) same }

-- One that is shown, after its name and its value.
pub shown_goes : {a b c : List ℕ} (t : Chars) (ops : OperatorTable) (ts : List Tree) (ns : List (Chars × ℕ)) (some : Bool) (n : Chars × ℕ) → is_shown n ≡ true
    → HasBindings t ops ts ns some a → Adds a b (comma_if some) → Adds b c (n.0 ++ codes " = ")
    → (after : List ℕ) → after ≡ c ++ encode_utf8_all (writeq ops 699 (get_or ts n.1 (atom []))) → HasBindings t ops ts (ns ++ n ∷ []) true after
shown_goes {a = a} {c = c} t ops ts ns some n shown h comma name after value =
    let bs = shown_texts ops ts ns in
    let text = binding_text ops ts n in
    let said = writeq ops 699 (get_or ts n.1 (atom [])) in
    let all = one_shown ops ts ns n shown in
    let before : Adds [] a (closed t ++ with_commas bs) = record { added = h.text } in
    let behind : Adds c after said = record { added = value } in
    let put : Adds [] after ((closed t ++ with_commas bs) ++ (comma_if some ++ ((n.0 ++ codes " = ") ++ said))) = adds_then before (adds_then comma (adds_then name behind)) in
    record {
      are = sym (ap has_any all ∙ has-push bs text);
      text =
          put.added
          ∙ ap encode_utf8_all
          (append_assoc (closed t) (with_commas bs) (comma_if some ++ ((n.0 ++ codes " = ") ++ said))
          ∙ ap (λ x. closed t ++ (with_commas bs ++ (comma_if some ++ x))) (append_assoc n.0 (codes " = ") said)
          ∙ ap (λ k. closed t ++ (with_commas bs ++ (comma_if k ++ text))) h.are
          ∙ ap (λ x. closed t ++ x) (sym (commas-push bs text))
          ∙ ap (λ xs. closed t ++ with_commas xs) (sym all));
    }

-- The bindings alone, after the text.
bound : {a : List ℕ} (t : Chars) (ops : OperatorTable) (ts : List Tree) (ns : List (Chars × ℕ)) (some : Bool) → HasBindings t ops ts ns some a
    → Adds (encode_utf8_all (closed t)) a (with_commas (shown_texts ops ts ns))
bound t ops ts ns some h = record { added = h.text ∙ encodes-append (closed t) (with_commas (shown_texts ops ts ns)) }

full-append : (a b : Chars) → IsFull a → IsFull (a ++ b)
full-append [] b h = absurd h
full-append (c ∷ cs) b h = tt

full-behind : (a b : Chars) → IsFull b → IsFull (a ++ b)
full-behind [] b h = h
full-behind (c ∷ cs) b h = tt

full-commas : (b : Chars) (bs : List Chars) → IsFull b → IsFull (with_commas (b ∷ bs))
full-commas b [] h = h
full-commas b (c ∷ cs) h = full-append b (codes ", " ++ with_commas (c ∷ cs)) h

full-solution : (ops : OperatorTable) (ts : List Tree) (ps : List (Chars × ℕ)) → has_any (map (binding_text ops ts) ps) ≡ true → IsFull (with_commas (map (binding_text ops ts) ps))
full-solution ops ts [] e = absurd (false≢true e)
full-solution ops ts (p ∷ ps) e =
    full-commas (binding_text ops ts p) (map (binding_text ops ts) ps) (full-behind p.0 (codes " = " ++ writeq ops 699 (get_or ts p.1 (atom []))) tt)

text-some : (bs : List Chars) → has_any bs ≡ true → stopped (with_commas bs) ≡ solution_text bs
text-some [] e = absurd (false≢true e)
text-some (b ∷ bs) e = refl

-- The end of what is said, where there are bindings and where there are none.
pub some_ends : {a b : List ℕ} (t : Chars) (ops : OperatorTable) (ts : List Tree) (ns : List (Chars × ℕ)) (some : Bool) → some ≡ true → HasBindings t ops ts ns some a → b ≡ stopped a
    → Adds (encode_utf8_all (closed t)) b (solution_text (shown_texts ops ts ns))
some_ends t ops ts ns some is h stop =
    let any = sym h.are ∙ is in
    adds_same (text-some (shown_texts ops ts ns) any) (adds_stop (full-solution ops ts (filter is_shown ns) any) (bound t ops ts ns some h) stop)

none_text : {a b c : List ℕ} (bs : List Chars) → has_any bs ≡ false → Adds a b (with_commas bs) → Adds b c (codes "true.") → Adds a c (solution_text bs)
none_text [] e p q = adds_then p q
none_text (b ∷ bs) e p q = absurd (false≢true (sym e))

pub none_ends : {a b : List ℕ} (t : Chars) (ops : OperatorTable) (ts : List Tree) (ns : List (Chars × ℕ)) (some : Bool) → some ≡ false → HasBindings t ops ts ns some a → Adds a b (codes "true.")
    → Adds (encode_utf8_all (closed t)) b (solution_text (shown_texts ops ts ns))
none_ends t ops ts ns some is h words = none_text (shown_texts ops ts ns) (sym h.are ∙ is) (bound t ops ts ns some h) words
