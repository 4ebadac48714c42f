-- The words of a text give its bytes back.
use Rattle.std.proofs.Common.{◌≡◌, ℕ, zero, suc, ◌+◌, ◌-◌, ◌*◌, ◌/◌, ◌%◌, ◌^◌, ◌<◌, ◌≤◌, Bool, true, false, cond, ◌&&◌, ltb, List, [], ◌∷◌, length, get_or, take, drop, encode_utf8_all, refl, sym, ap, ◌∙◌, subst, ⊎_elim, arith, get_or-drop, get_or-take, length-take}
use Rattle.std.specs.Str.{all_scalars, chars}
use Rattle.std.proofs.lemmas.Bool.Decides.{nat_tests}
use Rattle.std.proofs.lemmas.Grind.{same_number_lists}
use Rattle.std.proofs.lemmas.List.{get_or-append_right}
use Rattle.std.proofs.lemmas.Str.{chars-encodes}
use mathlib.Core.Logic.{dite}
use native.Mathlib.Decide.{dec_le}
use lib.ListN.{get_or-append}
use lib.Utf8.{scalar, encode, scalar_cases}
use Rattle.pl_term.specs.Tree.{Chars}
use Rattle.pl_term.specs.Texts.{size}
use Rattle.atom_words.specs.Texts.{packed, row_of}
use Rattle.atom_words.proofs.Putting.{row_word_is, row_first}
use Rattle.atom_words.proofs.RowBytes.{Bytes, bytes_of-row_of}
use Rattle.bucket_rows.specs.Walks.{spelled}
use Rattle.bucket_rows.specs.Standing.{IsTextRow}
use Rattle.bucket_rows.proofs.Filling.{text_row_is}
use Rattle.atom_table.specs.Holding.{unspelled, Spelled}

-- BYTES OF UTF-8
one_small : (a i : ℕ) → a < 256 → get_or (a ∷ []) i 0 < 256
one_small a zero ha = ha
one_small a (suc i) ha = omega arith

two_small : (a b i : ℕ) → a < 256 → b < 256 → get_or (a ∷ b ∷ []) i 0 < 256
two_small a b zero ha hb = ha
two_small a b (suc i) ha hb = one_small b i hb

three_small : (a b c i : ℕ) → a < 256 → b < 256 → c < 256 → get_or (a ∷ b ∷ c ∷ []) i 0 < 256
three_small a b c zero ha hb hc = ha
three_small a b c (suc i) ha hb hc = two_small b c i hb hc

four_small : (a b c d i : ℕ) → a < 256 → b < 256 → c < 256 → d < 256 → get_or (a ∷ b ∷ c ∷ d ∷ []) i 0 < 256
four_small a b c d zero ha hb hc hd = ha
four_small a b c d (suc i) ha hb hc hd = three_small b c d i hb hc hd

by_cond : (b : Bool) (P : List ℕ → Type 0) (x y : List ℕ) → (b ≡ true → P x) → (b ≡ false → P y) → P (cond b x y)
by_cond true P x y f g = f refl
by_cond false P x y f g = g refl

below : (a b : ℕ) → ltb a b ≡ true → a < b
below a b e = grind (arith, nat_tests)

encode_small : (c i : ℕ) → scalar c ≡ true → get_or (encode c) i 0 < 256
unfolding encode
encode_small c i s = let top : c < 1114112 = ⊎_elim (λ (h : c < 55296). omega arith) (λ (h : (57344 ≤ c) × (c < 1114112)). h.1) (scalar_cases c s) in
    by_cond (ltb c 128) (λ l. get_or l i 0 < 256) (c ∷ []) (cond (ltb c 2048) ((192 + c / 64) ∷ (128 + c % 64) ∷ []) (cond (ltb c 65536) ((224 + c / 4096) ∷ (128 + c / 64 % 64) ∷ (128 + c % 64) ∷ []) ((240 + c / 262144) ∷ (128 + c / 4096 % 64) ∷ (128 + c / 64 % 64) ∷ (128 + c % 64) ∷ [])))
    (λ e. let h = below c 128 e in one_small c i (omega arith))
    (λ _. by_cond (ltb c 2048) (λ l. get_or l i 0 < 256) ((192 + c / 64) ∷ (128 + c % 64) ∷ []) (cond (ltb c 65536) ((224 + c / 4096) ∷ (128 + c / 64 % 64) ∷ (128 + c % 64) ∷ []) ((240 + c / 262144) ∷ (128 + c / 4096 % 64) ∷ (128 + c / 64 % 64) ∷ (128 + c % 64) ∷ []))
    (λ e. let h = below c 2048 e in two_small (192 + c / 64) (128 + c % 64) i (omega arith) (omega arith))
    (λ _. by_cond (ltb c 65536) (λ l. get_or l i 0 < 256) ((224 + c / 4096) ∷ (128 + c / 64 % 64) ∷ (128 + c % 64) ∷ []) ((240 + c / 262144) ∷ (128 + c / 4096 % 64) ∷ (128 + c / 64 % 64) ∷ (128 + c % 64) ∷ [])
    (λ e. let h = below c 65536 e in three_small (224 + c / 4096) (128 + c / 64 % 64) (128 + c % 64) i (omega arith) (omega arith) (omega arith))
    (λ _. four_small (240 + c / 262144) (128 + c / 4096 % 64) (128 + c / 64 % 64) (128 + c % 64) i (omega arith) (omega arith) (omega arith) (omega arith))))

both : (a b : Bool) → (a && b) ≡ true → (a ≡ true) × (b ≡ true)
both true b e = (refl, e)
both false b e = cc

pub utf8_bytes : (cs : Chars) → all_scalars cs ≡ true → Bytes (encode_utf8_all cs)
utf8_bytes [] s i = omega arith
utf8_bytes (c ∷ cs) s i = let p = both (scalar c) (all_scalars cs) s in dite (dec_le (length (encode c)) i)
    (λ (out : length (encode c) ≤ i). subst (λ (n : ℕ). n < 256) (sym (get_or-append_right (encode c) (encode_utf8_all cs) (length (encode c)) i 0 refl out)) (utf8_bytes cs p.1 (i - length (encode c))))
    (λ (inside : ¬ (length (encode c) ≤ i)). subst (λ (n : ℕ). n < 256) (sym (get_or-append (encode c) (encode_utf8_all cs) 0 i (omega arith))) (encode_small c i p.0))

-- BYTES OF A WORD
packed_at : (l : List ℕ) (j : ℕ) → j < 8 → Bytes l → packed l / 2 ^ (8 * j) % 256 ≡ get_or l j 0
packed_at l zero h s = let a = s 0 in let b = s 1 in let c = s 2 in let d = s 3 in let e = s 4 in let f = s 5 in let g = s 6 in let k = s 7 in omega arith
packed_at l (suc zero) h s = let a = s 0 in let b = s 1 in let c = s 2 in let d = s 3 in let e = s 4 in let f = s 5 in let g = s 6 in let k = s 7 in omega arith
packed_at l (suc (suc zero)) h s = let a = s 0 in let b = s 1 in let c = s 2 in let d = s 3 in let e = s 4 in let f = s 5 in let g = s 6 in let k = s 7 in omega arith
packed_at l (suc (suc (suc zero))) h s = let a = s 0 in let b = s 1 in let c = s 2 in let d = s 3 in let e = s 4 in let f = s 5 in let g = s 6 in let k = s 7 in omega arith
packed_at l (suc (suc (suc (suc zero)))) h s = let a = s 0 in let b = s 1 in let c = s 2 in let d = s 3 in let e = s 4 in let f = s 5 in let g = s 6 in let k = s 7 in omega arith
packed_at l (suc (suc (suc (suc (suc zero))))) h s = let a = s 0 in let b = s 1 in let c = s 2 in let d = s 3 in let e = s 4 in let f = s 5 in let g = s 6 in let k = s 7 in omega arith
packed_at l (suc (suc (suc (suc (suc (suc zero)))))) h s = let a = s 0 in let b = s 1 in let c = s 2 in let d = s 3 in let e = s 4 in let f = s 5 in let g = s 6 in let k = s 7 in omega arith
packed_at l (suc (suc (suc (suc (suc (suc (suc zero))))))) h s = let a = s 0 in let b = s 1 in let c = s 2 in let d = s 3 in let e = s 4 in let f = s 5 in let g = s 6 in let k = s 7 in omega arith
packed_at l (suc (suc (suc (suc (suc (suc (suc (suc j)))))))) h s = absurd (omega arith)

later_bytes : (bs : List ℕ) (n : ℕ) → Bytes bs → Bytes (drop n bs)
later_bytes bs n s i = subst (λ (x : ℕ). x < 256) (sym (get_or-drop n bs i 0)) (s (n + i))

-- the byte at k of a row of words
pub row_byte : (bs : List ℕ) (k : ℕ) → k < 248 → Bytes bs → get_or (row_of bs) (1 + k / 8) 0 / 2 ^ (8 * (k % 8)) % 256 ≡ get_or bs k 0
row_byte bs k h s = let q : ℕ = k / 8 in let word : get_or (row_of bs) (1 + k / 8) 0 ≡ packed (drop (8 * (k / 8)) bs) = row_word_is bs (1 + k / 8) (omega arith) (λ e. omega arith) ∙ (let e : 1 + k / 8 - 1 ≡ k / 8 = omega arith in ap (λ (i : ℕ). packed (drop (8 * i) bs)) e) in
    ap (λ (n : ℕ). n / 2 ^ (8 * (k % 8)) % 256) word ∙ (packed_at (drop (8 * (k / 8)) bs) (k % 8) (omega arith) (later_bytes bs (8 * (k / 8)) s)
    ∙ (get_or-drop (8 * (k / 8)) bs (k % 8) 0 ∙ (let e : 8 * (k / 8) + k % 8 ≡ k = omega arith in ap (λ (i : ℕ). get_or bs i 0) e)))

-- all bytes
pub row_bytes : (bs xs : List ℕ) → length bs ≤ 248 → length xs ≡ 248 → Bytes bs → ((k : ℕ) → k < 248 → get_or xs k 0 ≡ get_or (row_of bs) (1 + k / 8) 0 / 2 ^ (8 * (k % 8)) % 256) → take (get_or (row_of bs) 0 0) xs ≡ bs
row_bytes bs xs short long s each = ap (λ (n : ℕ). take n xs) (row_first bs) ∙ same_number_lists (take (length bs) xs) bs (length-take (length bs) xs ∙ omega arith)
    (λ k h. let low : k < length bs = (let m = length-take (length bs) xs in omega arith) in get_or-take (length bs) xs k 0 low ∙ (each k (omega arith) ∙ row_byte bs k (omega arith) s))

-- THE WORDS OF A TEXT GIVE IT BACK
pub unspelled_spelled : (t : Chars) → size t ≤ 248 → all_scalars t ≡ true → unspelled (spelled t) ≡ t
unspelled_spelled t short scalars = ap chars (bytes_of-row_of (encode_utf8_all t) (utf8_bytes t scalars) short) ∙ chars-encodes t scalars

pub spelled_is : (t : Chars) → size t ≤ 248 → all_scalars t ≡ true → Spelled (spelled t)
spelled_is t short scalars = let back = sym (unspelled_spelled t short scalars) in (subst (λ (x : Chars). size x ≤ 248) back short, subst (λ (x : Chars). all_scalars x ≡ true) back scalars, ap spelled back)

-- the words of a text
pub spelled_row : (row : List ℕ) → Spelled row → IsTextRow row
spelled_row row t = subst IsTextRow (sym t.2) (text_row_is (Rattle.std.proofs.Common.encode_utf8_all (unspelled row)) t.0)
