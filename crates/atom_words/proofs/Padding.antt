-- A text of which only the words that it fills were read.
use Rattle.std.proofs.Common.{◌≡◌, ℕ, zero, suc, ◌+◌, ◌-◌, ◌*◌, ◌/◌, ◌<◌, ◌≤◌, List, [], length, get_or, take, drop, replicate, ◌++◌, sym, ap, ◌∙◌, subst, ⊎_elim, arith, length-append, append-nil, length-take, take_all}
use Rattle.std.proofs.lemmas.Grind.{same_number_lists}
use Rattle.std.proofs.lemmas.List.{at_drop_all, get_or-take, get_or-append_right, get_or-replicate}
use mathlib.Core.Logic.{dite}
use native.Mathlib.Decide.{dec_le}
use lib.ListN.{get_or-append, length-replicate}
use Rattle.atom_words.specs.Texts.{packed, row_of, filled, Formed, padded}
use Rattle.atom_words.specs.Kinds.{IsWhole, IsAll}
use Rattle.atom_words.proofs.Putting.{row_first, row_word_is}
use Rattle.atom_words.proofs.Slices.{or_beyond}

pub zeros : (n i : ℕ) → ◌≡◌ {A = ℕ} (get_or (replicate n 0) i 0) 0
zeros n i = dite (dec_le n i) (λ (out : n ≤ i). or_beyond (replicate n 0) i 0 (let l = length-replicate {A = ℕ} n 0 in omega arith)) (λ (inside : ¬ (n ≤ i)). get_or-replicate n i 0 0 (omega arith))

pub padded_length : (ws : List ℕ) → length ws ≤ 32 → length (padded ws) ≡ 32
padded_length ws few = length-append ws (replicate (32 - length ws) 0) ∙ (let l = length-replicate {A = ℕ} (32 - length ws) 0 in omega arith)

pub padded_here : (ws : List ℕ) (i : ℕ) → i < length ws → get_or (padded ws) i 0 ≡ get_or ws i 0
padded_here ws i low = get_or-append ws (replicate (32 - length ws) 0) 0 i low

pub padded_behind : (ws : List ℕ) (i : ℕ) → length ws ≤ i → get_or (padded ws) i 0 ≡ 0
padded_behind ws i past = get_or-append_right ws (replicate (32 - length ws) 0) (length ws) i 0 Rattle.std.proofs.Common.refl past ∙ zeros (32 - length ws) (i - length ws)

-- a text that begins with these words, which are all that it fills
pub padded_is : (t ws : List ℕ) → length t ≡ 32 → take (length ws) t ≡ ws → 0 < length ws → filled (get_or ws 0 0) ≤ length ws → Formed t → t ≡ padded ws
padded_is t ws long begins some_ all formed = let l = length-take (length ws) t in let few : length ws ≤ 32 = (let same = ap length begins in omega arith) in
    same_number_lists t (padded ws) (long ∙ sym (padded_length ws few)) (λ i low. dite (dec_le (length ws) i)
    (λ (past : length ws ≤ i). formed i (subst (λ (n : ℕ). filled n ≤ i) (sym (word 0 some_)) (omega arith)) ∙ sym (padded_behind ws i past))
    (λ (here : ¬ (length ws ≤ i)). word i (omega arith) ∙ sym (padded_here ws i (omega arith))))
  where
    word : (i : ℕ) → i < length ws → get_or t i 0 ≡ get_or ws i 0
    word i below = sym (get_or-take (length ws) t i 0 below) ∙ ap (λ (l : List ℕ). get_or l i 0) begins

-- or that are all its words
pub all_is : (t ws : List ℕ) → length t ≡ 32 → take (length ws) t ≡ ws → IsAll ws → Formed t → t ≡ padded ws
all_is t ws long begins all formed = ⊎_elim
    (λ (w : IsWhole ws). padded_is t ws long begins w.0 w.1 formed)
    (λ (full : length ws ≡ 32). sym (take_all (length ws) t (omega arith)) ∙ (begins ∙ (sym (append-nil ws) ∙ ap (λ (n : ℕ). ws ++ replicate n 0) (let e : 0 ≡ 32 - length ws = omega arith in e))))
    all

-- the words are the first of those 32, and the others are 0
pub padded_take : (row : List ℕ) (n : ℕ) → length row ≡ 32 → n ≤ 32 → ((k : ℕ) → n ≤ k → get_or row k 0 ≡ 0) → padded (take n row) ≡ row
padded_take row n long few rest = let l : length (take n row) ≡ n = length-take n row ∙ omega arith in
    same_number_lists (padded (take n row)) row (padded_length (take n row) (omega arith) ∙ sym long) (λ k low. dite (dec_le n k)
    (λ (late : n ≤ k). padded_behind (take n row) k (omega arith) ∙ sym (rest k late))
    (λ (early : ¬ (n ≤ k)). padded_here (take n row) k (omega arith) ∙ get_or-take n row k 0 (omega arith)))

-- no words are not
pub not_all : IsAll [] → ⊥
not_all all = ⊎_elim (λ (w : IsWhole []). let some_ = w.0 in omega arith) (λ (full : length {A = ℕ} [] ≡ 32). omega (arith, full)) all

-- the words of a text are so
pub formed_row : (bs : List ℕ) → length bs ≤ 248 → Formed (row_of bs)
formed_row bs short i past = dite (dec_le 32 i)
    (λ (out : 32 ≤ i). or_beyond (row_of bs) i 0 (let l = Rattle.atom_words.proofs.Putting.row_length bs in omega arith))
    (λ (inside : ¬ (32 ≤ i)). row_word_is bs i (omega arith) (λ none. let first = row_first bs in omega arith) ∙ at_drop_all packed bs (8 * (i - 1)) (let first = row_first bs in omega arith))
