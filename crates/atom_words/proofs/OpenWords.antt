-- The words of a new table's slots.
use Rattle.std.proofs.Common.{◌≡◌, ◌≢◌, ◌==◌, if◌then◌else◌, ℕ, zero, suc, ◌+◌, ◌-◌, ◌*◌, ◌/◌, ◌%◌, ◌<◌, ◌≤◌, ◌⊎◌, List, [], ◌∷◌, ◌++◌, length, get_or, replicate, refl, sym, ap, ◌∙◌, inl, inr, arith, length-append, append_assoc, eq-eqb, eqb-true, Bool, true, false}
use Rattle.std.proofs.lemmas.List.{get_or-append_right}
use Rattle.std.proofs.lemmas.Grind.{same_number_lists}
use mathlib.Core.Logic.{dite}
use native.Mathlib.Decide.{dec_le, ℕ_discrete}
use lib.ListN.{get_or-append, length-replicate}
use Rattle.atom_words.specs.Board.{Board, spread, near_word, far_word}
use Rattle.atom_words.specs.Opening.{Allowed, shut, opening_board}
use Rattle.atom_words.specs.declared.size.Size.{Size}
use Rattle.atom_words.proofs.Padding.{zeros}
use Rattle.atom_words.proofs.Openings.{opens}
use Rattle.atom_words.proofs.Regions.{if_same, if_yes, spread_length, spread_at}

pub shut_length : (n : ℕ) → length (shut n) ≡ 8 * n
shut_length zero = refl
shut_length (suc n) = let l = shut_length n in omega arith

eight_first : ◌≡◌ {A = ℕ} (get_or (1 ∷ replicate 7 0) 0 0) 1
eight_first = refl

eight_other : (i : ℕ) → i ≢ 0 → ◌≡◌ {A = ℕ} (get_or (1 ∷ replicate 7 0) i 0) 0
eight_other zero ne = absurd (ne refl)
eight_other (suc i) ne = zeros 7 i

-- eight words of a slot begin with 1, and the others are 0
shut_first : (n i : ℕ) → i < 8 * n → i % 8 ≡ 0 → get_or (shut n) i 0 ≡ 1
shut_first zero i h e = absurd (omega arith)
shut_first (suc n) i h e = dite (dec_le 8 i)
    (λ (later : 8 ≤ i). get_or-append_right (1 ∷ replicate 7 0) (shut n) 8 i 0 refl later ∙ shut_first n (i - 8) (omega arith) (omega arith))
    (λ (here : ¬ (8 ≤ i)). get_or-append (1 ∷ replicate 7 0) (shut n) 0 i (omega arith) ∙ ap (λ (j : ℕ). get_or (1 ∷ replicate 7 0) j 0) (let none : i ≡ 0 = omega arith in none))

shut_other : (n i : ℕ) → i < 8 * n → i % 8 ≢ 0 → get_or (shut n) i 0 ≡ 0
shut_other zero i h e = absurd (omega arith)
shut_other (suc n) i h e = dite (dec_le 8 i)
    (λ (later : 8 ≤ i). get_or-append_right (1 ∷ replicate 7 0) (shut n) 8 i 0 refl later ∙ shut_other n (i - 8) (omega arith) (λ z. e (omega arith)))
    (λ (here : ¬ (8 ≤ i)). get_or-append (1 ∷ replicate 7 0) (shut n) 0 i (omega arith) ∙ eight_other i (λ z. e (omega arith)))

-- one slot more stands behind the others
pub shut_more : (n : ℕ) → shut n ++ (1 ∷ replicate 7 0) ≡ shut (n + 1)
shut_more zero = refl
shut_more (suc n) = append_assoc (1 ∷ replicate 7 0) (shut n) (1 ∷ replicate 7 0) ∙ (ap (λ (l : List ℕ). (1 ∷ replicate 7 0) ++ l) (shut_more n) ∙ ap shut (let e : suc (n + 1) ≡ suc n + 1 = omega arith in e))

pub blanks : (n m : ℕ) → replicate {A = ℕ} (n + m) 0 ≡ replicate n 0 ++ replicate m 0
blanks n m = let a = length-replicate {A = ℕ} (n + m) 0 in let b = length-replicate {A = ℕ} n 0 in let c = length-replicate {A = ℕ} m 0 in same_number_lists (replicate {A = ℕ} (n + m) 0) (replicate {A = ℕ} n 0 ++ replicate m 0) (simp (length-append {A = ℕ}) (omega arith))
    (λ k low. zeros (n + m) k ∙ sym (dite (dec_le n k)
    (λ (past : n ≤ k). get_or-append_right (replicate {A = ℕ} n 0) (replicate {A = ℕ} m 0) n k 0 b past ∙ zeros m (k - n))
    (λ (here : ¬ (n ≤ k)). get_or-append (replicate {A = ℕ} n 0) (replicate {A = ℕ} m 0) 0 k (omega arith) ∙ zeros n k)))

none : (t : Bool) → ◌≡◌ {A = ℕ} (if t then 0 else 0) 0
none true = refl
none false = refl

module _ (z : Size) (ok : Allowed z) where
  abbrev board : Board
  board = opening_board z

  near_none : (i : ℕ) → (i % 8 ≡ 0 → get_or board.atoms (i / 8) 0 ≡ 0) → near_word board i ≡ 0
  near_none i atom = if_same (i % 8 == 0) (get_or board.atoms (i / 8) 0) 0 (if i % 8 == 1 then get_or (replicate z.slots 0) (i / 8) 0 else get_or (replicate (32 * z.slots) 0) (32 * (i / 8) + (i % 8 - 2)) 0) 0
      (λ e. atom (eqb-true (i % 8) 0 e))
      (λ _. if_same (i % 8 == 1) (get_or (replicate z.slots 0) (i / 8) 0) 0 (get_or (replicate (32 * z.slots) 0) (32 * (i / 8) + (i % 8 - 2)) 0) 0 (λ _. zeros z.slots (i / 8)) (λ _. zeros (32 * z.slots) (32 * (i / 8) + (i % 8 - 2)))
      ∙ none (i % 8 == 1))
      ∙ none (i % 8 == 0)

  near_one : (i : ℕ) → i % 8 ≡ 0 → get_or board.atoms (i / 8) 0 ≡ 1 → near_word board i ≡ 1
  near_one i e atom = if_yes (i % 8 == 0) (get_or board.atoms (i / 8) 0) (if i % 8 == 1 then get_or (replicate z.slots 0) (i / 8) 0 else get_or (replicate (32 * z.slots) 0) (32 * (i / 8) + (i % 8 - 2)) 0) (eq-eqb (i % 8) 0 e) ∙ atom

  abbrev as_written : List ℕ
  as_written = replicate (8 * z.fixed) 0 ++ (shut (256 - z.fixed) ++ replicate (8 * (z.slots - 256)) 0)

  past_fixed : (i : ℕ) → 8 * z.fixed ≤ i → get_or as_written i 0 ≡ get_or (shut (256 - z.fixed) ++ replicate (8 * (z.slots - 256)) 0) (i - 8 * z.fixed) 0
  past_fixed i past = get_or-append_right (replicate (8 * z.fixed) 0) (shut (256 - z.fixed) ++ replicate (8 * (z.slots - 256)) 0) (8 * z.fixed) i 0 (length-replicate (8 * z.fixed) 0) past

  near_as : (i : ℕ) → i < 8 * z.slots → near_word board i ≡ get_or as_written i 0
  near_as i inside = let o = opens z ok in let l = length-replicate {A = ℕ} (8 * z.fixed) 0 in let m = shut_length (256 - z.fixed) in dite (dec_le (8 * z.fixed) i)
      (λ (past : 8 * z.fixed ≤ i). dite (dec_le 2048 i)
      (λ (high : 2048 ≤ i). near_none i (λ e. o.free (i / 8) (omega arith) (inr (omega arith)))
      ∙ sym (past_fixed i past ∙ (get_or-append_right (shut (256 - z.fixed)) (replicate (8 * (z.slots - 256)) 0) (8 * (256 - z.fixed)) (i - 8 * z.fixed) 0 m (omega (arith, ok)) ∙ zeros (8 * (z.slots - 256)) (i - 8 * z.fixed - 8 * (256 - z.fixed)))))
      (λ (low : ¬ (2048 ≤ i)). let here = past_fixed i past ∙ get_or-append (shut (256 - z.fixed)) (replicate (8 * (z.slots - 256)) 0) 0 (i - 8 * z.fixed) (omega (arith, ok)) in dite (ℕ_discrete (i % 8) 0)
      (λ (first : i % 8 ≡ 0). near_one i first (o.closed_off (i / 8) (omega arith) (omega arith) (omega arith)) ∙ sym (here ∙ shut_first (256 - z.fixed) (i - 8 * z.fixed) (omega (arith, ok)) (omega arith)))
      (λ (other : ¬ (i % 8 ≡ 0)). near_none i (λ e. absurd (other e)) ∙ sym (here ∙ shut_other (256 - z.fixed) (i - 8 * z.fixed) (omega (arith, ok)) (λ e. other (omega arith))))))
      (λ (early : ¬ (8 * z.fixed ≤ i)). near_none i (λ e. o.free (i / 8) (omega arith) (inl (omega arith)))
      ∙ sym (get_or-append (replicate (8 * z.fixed) 0) (shut (256 - z.fixed) ++ replicate (8 * (z.slots - 256)) 0) 0 i (omega arith) ∙ zeros (8 * z.fixed) i))

  pub near_open : spread (near_word board) 0 (8 * z.slots) ≡ as_written
  near_open = let n = spread_length (near_word board) 0 (8 * z.slots) in let l = length-replicate {A = ℕ} (8 * z.fixed) 0 in let m = shut_length (256 - z.fixed) in let r = length-replicate {A = ℕ} (8 * (z.slots - 256)) 0 in
      same_number_lists (spread (near_word board) 0 (8 * z.slots)) as_written (simp (length-append {A = ℕ}) (omega (arith, ok)))
      (λ i low. spread_at (near_word board) (8 * z.slots) i (omega arith) ∙ near_as i (omega arith))

  pub far_open : spread (far_word board) 0 (26 * z.slots) ≡ replicate (26 * z.slots) 0
  far_open = let n = spread_length (far_word board) 0 (26 * z.slots) in let r = length-replicate {A = ℕ} (26 * z.slots) 0 in same_number_lists (spread (far_word board) 0 (26 * z.slots)) (replicate (26 * z.slots) 0) (omega arith)
      (λ i low. spread_at (far_word board) (26 * z.slots) i (omega arith) ∙ (zeros (32 * z.slots) (32 * (i / 26) + (i % 26 + 6)) ∙ sym (zeros (26 * z.slots) i)))

  -- all words of the slots, as they are written
  pub slots_open : spread (near_word board) 0 (8 * z.slots) ++ spread (far_word board) 0 (26 * z.slots) ≡ replicate (8 * z.fixed) 0 ++ (shut (256 - z.fixed) ++ replicate (8 * (z.slots - 256) + 26 * z.slots) 0)
  slots_open = (λ j. near_open j ++ far_open j)
      ∙ (append_assoc (replicate (8 * z.fixed) 0) (shut (256 - z.fixed) ++ replicate (8 * (z.slots - 256)) 0) (replicate (26 * z.slots) 0)
      ∙ ap (λ (l : List ℕ). replicate (8 * z.fixed) 0 ++ l) (append_assoc (shut (256 - z.fixed)) (replicate (8 * (z.slots - 256)) 0) (replicate (26 * z.slots) 0) ∙ ap (λ (l : List ℕ). shut (256 - z.fixed) ++ l) (sym (blanks (8 * (z.slots - 256)) (26 * z.slots)))))
