-- Names as texts in UTF-8: their characters, and tests of all of them.
use Rattle.std.proofs.Common.{◌≡◌, ◌<◌, ◌≤◌, ℕ, Bool, true, false, List, [], ◌∷◌, ◌++◌, length, Option, Some, None, IsTrue, ◌↔◌, MatchOption, refl, sym, ◌∙◌, ap, append_assoc, ⊎_elim, arith}
use Rattle.std.specs.Prelude.{nat_lt, map, not, ◌&&◌, ◌==◌, bytes_eq, chars, codes}
use Rattle.std.specs.Char.{is_ascii}
use Rattle.std.specs.List.{list_all, list_any, flat_map}
use Rattle.std.specs.Str.{encode_utf8_all, IsUtf8}
use Rattle.std.specs.Str.Iter.{chars_rest, chars_steps}
use Rattle.std.specs.declared.str.Chars.{Chars}
use Rattle.std.proofs.lemmas.Bool.{and_parts, and_from, or_cases, not_from_false, true_from_ne_false, false≢true, cond-false, eqb-true, ltb-true, le-ltb, cases_lt, agree_below_at}
use Rattle.std.proofs.lemmas.Bool.Decides.{same_from_decides}
use Rattle.std.proofs.lemmas.List.{flat_map_more}
use Rattle.std.proofs.lemmas.Slice.Eq.{bytes_eq-Decides}
use Rattle.std.proofs.lemmas.Str.{encode_ascii, encodes-append, cons_from_encodes, length-le-encodes, chars_from_encodes}
use Rattle.unicode_ident.proofs.IdentLemmas.{is_xid_start-is_xid_continue}
use Rattle.pl_model.specs.Characters.{is_symbol, begins_name, continues_name, is_letter_name}
use Rattle.pl_model.specs.Writing.{escaped}

-- A text in ASCII is its own bytes.
pub encodes_ascii : (bs : List ℕ) → list_all is_ascii bs ≡ true → encode_utf8_all bs ≡ bs
encodes_ascii [] t = refl
encodes_ascii (b ∷ bs) t =
    let p = and_parts (is_ascii b) (list_all is_ascii bs) t in
    ap (λ cs. cs ++ encode_utf8_all bs) (encode_ascii b (ltb-true b 128 p.0))
    ∙ ap (λ cs. b ∷ cs) (encodes_ascii bs p.1)

-- A text is what an ASCII literal spells exactly where it has its bytes as characters.
pub named : (r : Bool) (f bs : List ℕ)
    → IsUtf8 bs
    → list_all is_ascii bs ≡ true
    → IsTrue r ↔ (f ≡ chars bs)
    → r ≡ bytes_eq f bs
named r f bs u ascii iff =
    let same : bs ≡ chars bs = chars_from_encodes bs bs u (encodes_ascii bs ascii) in
    same_from_decides
    r
    (bytes_eq f bs)
    (λ t. iff.0 t ∙ sym same, λ e. iff.1 (e ∙ same))
    (bytes_eq-Decides f bs)

-- The first character that the characters of a text give.
pub first_given : (cs bs : List ℕ) (s t : Chars) (r : Option ℕ)
    → bs ≡ encode_utf8_all cs
    → chars_rest s ≡ bs
    → chars_steps s r t
    → MatchOption r (cs ≡ []) (λ c. (ds : List ℕ) × (cs ≡ c ∷ ds))
first_given cs bs s t None is rest steps =
    let p : (length (chars_rest s) ≡ 0) × (t ≡ s) = steps.0 in
    nothing cs (sym (ap length (rest ∙ is)) ∙ p.0)
  where
    nothing : (cs : List ℕ) → length (encode_utf8_all cs) ≡ 0 → cs ≡ []
    nothing [] e = refl
    nothing (c ∷ cs) e = absurd (omega (arith, length-le-encodes (c ∷ cs)))
first_given cs bs s t (Some c) is rest steps =
    let p = cons_from_encodes cs (chars_rest t) c (sym (rest ∙ is) ∙ steps.0) in
    (p.0, p.1)

symbol_of : (ds : List ℕ) (c : ℕ) → list_any (λ d. d == c) ds ≡ true → list_all is_ascii ds ≡ true → is_ascii c ≡ true
symbol_of [] c any all = absurd (false≢true any)
symbol_of (d ∷ ds) c any all =
    let p = and_parts (is_ascii d) (list_all is_ascii ds) all in
    ⊎_elim
    (λ e. ap is_ascii (sym (eqb-true d c e)) ∙ p.0)
    (λ e. symbol_of ds c e p.1)
    (or_cases (d == c) (list_any (λ d. d == c) ds) any)

-- The symbol characters are in ASCII.
pub symbol_ascii : (c : ℕ) → is_symbol c ≡ true → is_ascii c ≡ true
symbol_ascii c t = symbol_of (codes "+-*/\\^<>=~:.?@#&$") c t refl

pub symbols_ascii : (cs : List ℕ) → list_all is_symbol cs ≡ true → list_all is_ascii cs ≡ true
symbols_ascii [] t = refl
symbols_ascii (c ∷ cs) t =
    let p = and_parts (is_symbol c) (list_all is_symbol cs) t in
    and_from _ _ (symbol_ascii c p.0) (symbols_ascii cs p.1)

-- Whatever may begin a name may go on in it.
pub begins_continues : (c : ℕ) → begins_name c ≡ true → continues_name c ≡ true
begins_continues c b = ⊎_elim (λ h. ascii h) (λ h. beyond h) (cases_lt c 128)
  where
    ascii : c < 128 → continues_name c ≡ true
    ascii h =
        true_from_ne_false (continues_name c) (λ no. false≢true (sym (agree_below_at (λ d. begins_name d && not (continues_name d)) (λ _. false) 128 c refl h) ∙ and_from _ _ b (not_from_false _ no)))

    beyond : 128 ≤ c → continues_name c ≡ true
    beyond h =
        let high = le-ltb c 128 h in
        cond-false (nat_lt c 128) _ _ high
        ∙ is_xid_start-is_xid_continue c (sym (cond-false (nat_lt c 128) _ _ high) ∙ b)

-- A letter name is one that begins as one and whose characters all may go on in it.
pub letter_name : (f : List ℕ) (c : ℕ) (r : Bool)
    → (cs : List ℕ) × (f ≡ c ∷ cs)
    → begins_name c ≡ true
    → r ≡ list_all continues_name f
    → r ≡ is_letter_name f
letter_name f c r (cs, e) b all =
    all
    ∙ ap (list_all continues_name) e
    ∙ ap (λ t. t && list_all continues_name cs) (begins_continues c b ∙ sym b)
    ∙ ap is_letter_name (sym e)

-- One character more between quotes.
pub escapes_more : (before now after : List ℕ) (cs : List ℕ) (c : ℕ)
    → now ≡ before ++ encode_utf8_all (flat_map escaped cs)
    → after ≡ now ++ encode_utf8_all (escaped c)
    → after ≡ before ++ encode_utf8_all (flat_map escaped (cs ++ c ∷ []))
escapes_more before now after cs c so_far put =
    put
    ∙ ap (λ bs. bs ++ encode_utf8_all (escaped c)) so_far
    ∙ append_assoc before (encode_utf8_all (flat_map escaped cs)) (encode_utf8_all (escaped c))
    ∙ ap (λ bs. before ++ bs) (sym (encodes-append (flat_map escaped cs) (escaped c)))
    ∙ ap (λ ds. before ++ encode_utf8_all ds) (flat_map_more escaped [] cs c)

pub same_items : (cs : List ℕ) → map (λ c. c) cs ≡ cs
same_items [] = refl
same_items (c ∷ cs) = ap (λ ds. c ∷ ds) (same_items cs)

-- All characters between quotes.
pub escapes_all : (before now bs f cs : List ℕ)
    → IsUtf8 bs
    → bs ≡ encode_utf8_all f
    → map (λ c. c) cs ≡ chars bs
    → now ≡ before ++ encode_utf8_all (flat_map escaped cs)
    → now ≡ before ++ encode_utf8_all (flat_map escaped f)
escapes_all before now bs f cs u text given so_far =
    so_far
    ∙ ap (λ ds. before ++ encode_utf8_all (flat_map escaped ds)) (sym (same_items cs) ∙ given ∙ sym (chars_from_encodes f bs u (sym text)))
