-- The bytes that a text's words stand for are the text's.
use Rattle.std.proofs.Common.{◌≡◌, ℕ, zero, suc, ◌+◌, ◌*◌, ◌/◌, ◌%◌, ◌<◌, ◌≤◌, List, [], ◌∷◌, ◌++◌, length, get_or, take, drop, refl, sym, ap, ◌∙◌, arith, length-drop}
use Rattle.atom_words.specs.Texts.{packed, packs, row_of, bytes_of_word, unpacks, bytes_of}

word_step : (n b r : ℕ) → b < 256 → bytes_of_word (suc n) (b + 256 * r) ≡ b ∷ bytes_of_word n r
word_step n b r h = let low : (b + 256 * r) % 256 ≡ b = omega arith in let high : (b + 256 * r) / 256 ≡ r = omega arith in λ i. low i ∷ bytes_of_word n (high i)

eight_bytes : (a b c d e f g h : ℕ) → a < 256 → b < 256 → c < 256 → d < 256 → e < 256 → f < 256 → g < 256 → h < 256
    → bytes_of_word 8 (a + 256 * (b + 256 * (c + 256 * (d + 256 * (e + 256 * (f + 256 * (g + 256 * (h + 256 * 0)))))))) ≡ a ∷ b ∷ c ∷ d ∷ e ∷ f ∷ g ∷ h ∷ []
eight_bytes a b c d e f g h pa pb pc pd pe pf pg ph =
    word_step 7 a (b + 256 * (c + 256 * (d + 256 * (e + 256 * (f + 256 * (g + 256 * (h + 256 * 0))))))) pa ∙ ap (λ l. a ∷ l)
    (word_step 6 b (c + 256 * (d + 256 * (e + 256 * (f + 256 * (g + 256 * (h + 256 * 0)))))) pb ∙ ap (λ l. b ∷ l)
    (word_step 5 c (d + 256 * (e + 256 * (f + 256 * (g + 256 * (h + 256 * 0))))) pc ∙ ap (λ l. c ∷ l)
    (word_step 4 d (e + 256 * (f + 256 * (g + 256 * (h + 256 * 0)))) pd ∙ ap (λ l. d ∷ l)
    (word_step 3 e (f + 256 * (g + 256 * (h + 256 * 0))) pe ∙ ap (λ l. e ∷ l)
    (word_step 2 f (g + 256 * (h + 256 * 0)) pf ∙ ap (λ l. f ∷ l)
    (word_step 1 g (h + 256 * 0) pg ∙ ap (λ l. g ∷ l)
    (word_step 0 h 0 ph)))))))

abbrev pub Bytes : List ℕ → Type 0
Bytes bs = (i : ℕ) → get_or bs i 0 < 256

packed_bytes : (bs : List ℕ) → Bytes bs → bytes_of_word 8 (packed bs) ≡ get_or bs 0 0 ∷ get_or bs 1 0 ∷ get_or bs 2 0 ∷ get_or bs 3 0 ∷ get_or bs 4 0 ∷ get_or bs 5 0 ∷ get_or bs 6 0 ∷ get_or bs 7 0 ∷ []
packed_bytes bs small = sums (get_or bs 0 0) (get_or bs 1 0) (get_or bs 2 0) (get_or bs 3 0) (get_or bs 4 0) (get_or bs 5 0) (get_or bs 6 0) (get_or bs 7 0)
    ∙ eight_bytes (get_or bs 0 0) (get_or bs 1 0) (get_or bs 2 0) (get_or bs 3 0) (get_or bs 4 0) (get_or bs 5 0) (get_or bs 6 0) (get_or bs 7 0) (small 0) (small 1) (small 2) (small 3) (small 4) (small 5) (small 6) (small 7)
  where
    sums : (a b c d e f g h : ℕ) → bytes_of_word 8 (a + 256 * b + 65536 * c + 16777216 * d + 4294967296 * e + 1099511627776 * f + 281474976710656 * g + 72057594037927936 * h)
        ≡ bytes_of_word 8 (a + 256 * (b + 256 * (c + 256 * (d + 256 * (e + 256 * (f + 256 * (g + 256 * (h + 256 * 0))))))))
    sums a b c d e f g h = let same : a + 256 * b + 65536 * c + 16777216 * d + 4294967296 * e + 1099511627776 * f + 281474976710656 * g + 72057594037927936 * h
        ≡ a + 256 * (b + 256 * (c + 256 * (d + 256 * (e + 256 * (f + 256 * (g + 256 * (h + 256 * 0))))))) = omega arith in ap (bytes_of_word 8) same

-- the first eight, and the rest
eights : (bs rest : List ℕ) → take (length (drop 8 bs)) rest ≡ drop 8 bs
    → take (length bs) (get_or bs 0 0 ∷ get_or bs 1 0 ∷ get_or bs 2 0 ∷ get_or bs 3 0 ∷ get_or bs 4 0 ∷ get_or bs 5 0 ∷ get_or bs 6 0 ∷ get_or bs 7 0 ∷ rest) ≡ bs
eights [] rest e = refl
eights (a ∷ []) rest e = refl
eights (a ∷ b ∷ []) rest e = refl
eights (a ∷ b ∷ c ∷ []) rest e = refl
eights (a ∷ b ∷ c ∷ d ∷ []) rest e = refl
eights (a ∷ b ∷ c ∷ d ∷ f ∷ []) rest e = refl
eights (a ∷ b ∷ c ∷ d ∷ f ∷ g ∷ []) rest e = refl
eights (a ∷ b ∷ c ∷ d ∷ f ∷ g ∷ h ∷ []) rest e = refl
eights (a ∷ b ∷ c ∷ d ∷ f ∷ g ∷ h ∷ j ∷ more) rest e = λ i. a ∷ b ∷ c ∷ d ∷ f ∷ g ∷ h ∷ j ∷ e i

bytes_later : (bs : List ℕ) (n : ℕ) → Bytes bs → Bytes (drop n bs)
bytes_later bs n small i = Rattle.std.proofs.Common.subst (λ (x : ℕ). x < 256) (sym (Rattle.std.proofs.Common.get_or-drop n bs i 0)) (small (n + i))

unpacks_packs : (n : ℕ) (bs : List ℕ) → Bytes bs → length bs ≤ 8 * n → take (length bs) (unpacks (packs n bs)) ≡ bs
unpacks_packs zero [] small h = refl
unpacks_packs zero (b ∷ bs) small h = absurd (omega arith)
unpacks_packs (suc n) bs small h = ap (λ l. take (length bs) (l ++ unpacks (packs n (drop 8 bs)))) (packed_bytes bs small)
    ∙ eights bs (unpacks (packs n (drop 8 bs))) (unpacks_packs n (drop 8 bs) (bytes_later bs 8 small) (let l = length-drop 8 bs in omega arith))

pub bytes_of-row_of : (bs : List ℕ) → Bytes bs → length bs ≤ 248 → bytes_of (row_of bs) ≡ bs
unfolding row_of bytes_of
bytes_of-row_of bs small h = unpacks_packs 31 bs small h

-- so two texts with the same words are one
pub row_of-injective : (xs ys : List ℕ) → Bytes xs → Bytes ys → length xs ≤ 248 → length ys ≤ 248 → row_of xs ≡ row_of ys → xs ≡ ys
row_of-injective xs ys sx sy hx hy e = sym (bytes_of-row_of xs sx hx) ∙ (ap bytes_of e ∙ bytes_of-row_of ys sy hy)
