-- Reads and writes of the words, region by region.
use Rattle.std.proofs.Common.{◌≡◌, ◌≢◌, ◌==◌, nat_lt, if◌then◌else◌, Bool, true, false, ℕ, zero, suc, ◌+◌, ◌-◌, ◌*◌, ◌/◌, ◌%◌, ◌<◌, ◌≤◌, List, ◌∷◌, ◌++◌, length, get_or, set, replicate, refl, sym, ap, ◌∙◌, subst, inl, inr, ⊎_elim, ◌⊎◌, arith, length-append, length-set, get_or-append-add, get_or-set_same, get_or-set_other, eqb-true, ne_eqb, eq-eqb, lt-ltb, le-ltb}
use Rattle.std.proofs.lemmas.Bool.{eqb-false}
use mathlib.Core.Logic.{dite}
use native.Mathlib.Decide.{dec_le, ℕ_discrete}
use lib.ListN.{get_or-append, length-replicate}
use lib.Seq.{set-append_left}
use Rattle.std.proofs.lemmas.List.{set-append_right}
use Rattle.std.proofs.lemmas.Grind.{same_number_lists}
use Rattle.atom_words.specs.Board.{Board, Sized, laid, spread, near_word, far_word, gap, near_at, atom_at, link_at, head_at, text_at, word_count, with_atom, with_link, with_head, with_text}
use Rattle.atom_words.specs.declared.size.Size.{Size}

skip : (xs ys : List ℕ) (n i : ℕ) → length xs ≡ n → get_or (xs ++ ys) (n + i) 0 ≡ get_or ys i 0
skip xs ys n i e = subst (λ (m : ℕ). get_or (xs ++ ys) (m + i) 0 ≡ get_or ys i 0) e (get_or-append-add xs ys i 0)

put_behind : (xs ys : List ℕ) (n i x : ℕ) → length xs ≡ n → set (xs ++ ys) (n + i) x ≡ xs ++ set ys i x
put_behind xs ys n i x e = let back : n + i - n ≡ i = omega arith in set-append_right xs ys n (n + i) x e (omega arith) ∙ ap (λ (j : ℕ). xs ++ set ys j x) back

-- WORDS BY A FUNCTION OF THEIR PLACE
pub spread_length : (f : ℕ → ℕ) (n m : ℕ) → length (spread f n m) ≡ m
spread_length f n zero = refl
spread_length f n (suc m) = ap suc (spread_length f (n + 1) m)

spread_from : (f : ℕ → ℕ) (n m i : ℕ) → i < m → get_or (spread f n m) i 0 ≡ f (n + i)
spread_from f n zero i h = absurd (omega arith)
spread_from f n (suc m) zero h = ap f (let e : n ≡ n + 0 = omega arith in e)
spread_from f n (suc m) (suc i) h = spread_from f (n + 1) m i (omega arith) ∙ ap f (let e : n + 1 + i ≡ n + suc i = omega arith in e)

pub spread_at : (f : ℕ → ℕ) (m i : ℕ) → i < m → get_or (spread f 0 m) i 0 ≡ f i
spread_at f m i h = spread_from f 0 m i h ∙ ap f (let e : 0 + i ≡ i = omega arith in e)

pub spread_same : (f g : ℕ → ℕ) (m : ℕ) → ((i : ℕ) → f i ≡ g i) → spread f 0 m ≡ spread g 0 m
spread_same f g m same = same_number_lists (spread f 0 m) (spread g 0 m) (spread_length f 0 m ∙ sym (spread_length g 0 m))
    (λ i low. let l = spread_length f 0 m in spread_at f m i (omega arith) ∙ (same i ∙ sym (spread_at g m i (omega arith))))

pub spread_set : (f g : ℕ → ℕ) (m k x : ℕ) → k < m → g k ≡ x → ((i : ℕ) → i ≢ k → g i ≡ f i) → set (spread f 0 m) k x ≡ spread g 0 m
spread_set f g m k x inside here others = same_number_lists (set (spread f 0 m) k x) (spread g 0 m) (length-set (spread f 0 m) k x ∙ (spread_length f 0 m ∙ sym (spread_length g 0 m)))
    (λ i low. let l = spread_length f 0 m in let s = length-set (spread f 0 m) k x in dite (ℕ_discrete i k)
    (λ (e : i ≡ k). ap (λ (j : ℕ). get_or (set (spread f 0 m) k x) j 0) e ∙ (get_or-set_same (spread f 0 m) k x 0 (omega arith) ∙ (sym here ∙ (ap g (sym e) ∙ sym (spread_at g m i (omega arith))))))
    (λ (ne : ¬ (i ≡ k)). get_or-set_other (spread f 0 m) k i x 0 ne ∙ (spread_at f m i (omega arith) ∙ (sym (others i ne) ∙ sym (spread_at g m i (omega arith))))))

pub if_same : (t : Bool) (a a' c c' : ℕ) → (t ≡ true → a ≡ a') → (t ≡ false → c ≡ c') → (if t then a else c) ≡ (if t then a' else c')
if_same true a a' c c' p q = p refl
if_same false a a' c c' p q = q refl

pub if_yes : (t : Bool) (a c : ℕ) → t ≡ true → (if t then a else c) ≡ a
if_yes t a c e = ap (λ (y : Bool). if y then a else c) e

pub if_not : (t : Bool) (a c : ℕ) → t ≡ false → (if t then a else c) ≡ c
if_not t a c e = ap (λ (y : Bool). if y then a else c) e

module _ (b : Board) where
  near_atom : (k : ℕ) → near_word b (8 * k) ≡ get_or b.atoms k 0
  near_atom k = if_yes (8 * k % 8 == 0) (get_or b.atoms (8 * k / 8) 0) (if 8 * k % 8 == 1 then get_or b.links (8 * k / 8) 0 else get_or b.texts (32 * (8 * k / 8) + (8 * k % 8 - 2)) 0) (eq-eqb (8 * k % 8) 0 (omega arith))
      ∙ ap (λ (j : ℕ). get_or b.atoms j 0) (let e : 8 * k / 8 ≡ k = omega arith in e)

  near_link : (k : ℕ) → near_word b (8 * k + 1) ≡ get_or b.links k 0
  near_link k = let i : ℕ = 8 * k + 1 in if_not (i % 8 == 0) (get_or b.atoms (i / 8) 0) (if i % 8 == 1 then get_or b.links (i / 8) 0 else get_or b.texts (32 * (i / 8) + (i % 8 - 2)) 0) (ne_eqb (i % 8) 0 (λ z. omega arith))
      ∙ (if_yes (i % 8 == 1) (get_or b.links (i / 8) 0) (get_or b.texts (32 * (i / 8) + (i % 8 - 2)) 0) (eq-eqb (i % 8) 1 (omega arith)) ∙ ap (λ (j : ℕ). get_or b.links j 0) (let e : i / 8 ≡ k = omega arith in e))

  near_text : (k n : ℕ) → n < 6 → near_word b (8 * k + n + 2) ≡ get_or b.texts (32 * k + n) 0
  near_text k n low = let i : ℕ = 8 * k + n + 2 in if_not (i % 8 == 0) (get_or b.atoms (i / 8) 0) (if i % 8 == 1 then get_or b.links (i / 8) 0 else get_or b.texts (32 * (i / 8) + (i % 8 - 2)) 0) (ne_eqb (i % 8) 0 (λ z. omega arith))
      ∙ (if_not (i % 8 == 1) (get_or b.links (i / 8) 0) (get_or b.texts (32 * (i / 8) + (i % 8 - 2)) 0) (ne_eqb (i % 8) 1 (λ z. omega arith)) ∙ ap (λ (j : ℕ). get_or b.texts j 0) (let e : 32 * (i / 8) + (i % 8 - 2) ≡ 32 * k + n = omega arith in e))

  far_text : (k n : ℕ) → 6 ≤ n → n < 32 → far_word b (26 * k + (n - 6)) ≡ get_or b.texts (32 * k + n) 0
  far_text k n past low = ap (λ (j : ℕ). get_or b.texts j 0) (let e : 32 * ((26 * k + (n - 6)) / 26) + ((26 * k + (n - 6)) % 26 + 6) ≡ 32 * k + n = omega arith in e)

  near_atom_else : (k x i : ℕ) → i ≢ 8 * k → near_word (with_atom b k x) i ≡ near_word b i
  near_atom_else k x i ne = let rest : ℕ = if i % 8 == 1 then get_or b.links (i / 8) 0 else get_or b.texts (32 * (i / 8) + (i % 8 - 2)) 0 in
      if_same (i % 8 == 0) (get_or (set b.atoms k x) (i / 8) 0) (get_or b.atoms (i / 8) 0) rest rest
      (λ t. get_or-set_other b.atoms k (i / 8) x 0 (λ e. let z = eqb-true (i % 8) 0 t in ne (omega arith)))
      (λ _. refl)

  near_link_else : (k x i : ℕ) → i ≢ 8 * k + 1 → near_word (with_link b k x) i ≡ near_word b i
  near_link_else k x i ne = let word : ℕ = get_or b.texts (32 * (i / 8) + (i % 8 - 2)) 0 in
      if_same (i % 8 == 0) (get_or b.atoms (i / 8) 0) (get_or b.atoms (i / 8) 0) (if i % 8 == 1 then get_or (set b.links k x) (i / 8) 0 else word) (if i % 8 == 1 then get_or b.links (i / 8) 0 else word)
      (λ _. refl)
      (λ _. if_same (i % 8 == 1) (get_or (set b.links k x) (i / 8) 0) (get_or b.links (i / 8) 0) word word
      (λ t. get_or-set_other b.links k (i / 8) x 0 (λ e. let z = eqb-true (i % 8) 1 t in ne (omega arith)))
      (λ _. refl))

  near_text_else : (k n x i : ℕ) → n < 32 → i ≢ 8 * k + n + 2 ⊎ (6 ≤ n) → near_word (with_text b (32 * k + n) x) i ≡ near_word b i
  near_text_else k n x i low ne = let at : ℕ = 32 * (i / 8) + (i % 8 - 2) in let texts' : List ℕ = set b.texts (32 * k + n) x in
      if_same (i % 8 == 0) (get_or b.atoms (i / 8) 0) (get_or b.atoms (i / 8) 0) (if i % 8 == 1 then get_or b.links (i / 8) 0 else get_or texts' at 0) (if i % 8 == 1 then get_or b.links (i / 8) 0 else get_or b.texts at 0)
      (λ _. refl)
      (λ s. if_same (i % 8 == 1) (get_or b.links (i / 8) 0) (get_or b.links (i / 8) 0) (get_or texts' at 0) (get_or b.texts at 0)
      (λ _. refl)
      (λ t. get_or-set_other b.texts (32 * k + n) at x 0 (λ e. let none = eqb-false (i % 8) 0 s in let one = eqb-false (i % 8) 1 t in
      ⊎_elim (λ (other : i ≢ 8 * k + n + 2). other (omega arith)) (λ (past : 6 ≤ n). omega arith) ne)))

  far_text_else : (k n x i : ℕ) → n < 32 → i ≢ 26 * k + (n - 6) ⊎ (n < 6) → far_word (with_text b (32 * k + n) x) i ≡ far_word b i
  far_text_else k n x i low ne = get_or-set_other b.texts (32 * k + n) (32 * (i / 26) + (i % 26 + 6)) x 0 (λ e. ⊎_elim (λ (other : i ≢ 26 * k + (n - 6)). other (omega arith)) (λ (near : n < 6). omega arith) ne)

-- where a word of a text stands
pub text_near : (z : Size) (k n : ℕ) → n < 6 → text_at z k n ≡ near_at z + (8 * k + n + 2)
text_near z k n low = if_yes (nat_lt n 6) (near_at z + 8 * k + n + 2) (near_at z + 8 * z.slots + 26 * k + (n - 6)) (lt-ltb n 6 low) ∙ (let e : near_at z + 8 * k + n + 2 ≡ near_at z + (8 * k + n + 2) = omega arith in e)

pub text_far : (z : Size) (k n : ℕ) → 6 ≤ n → text_at z k n ≡ near_at z + (8 * z.slots + (26 * k + (n - 6)))
text_far z k n past = if_not (nat_lt n 6) (near_at z + 8 * k + n + 2) (near_at z + 8 * z.slots + 26 * k + (n - 6)) (le-ltb n 6 past) ∙ (let e : near_at z + 8 * z.slots + 26 * k + (n - 6) ≡ near_at z + (8 * z.slots + (26 * k + (n - 6))) = omega arith in e)

module _ (z : Size) (b : Board) (s : Sized z b) where
  abbrev near : Board → List ℕ
  near y = spread (near_word y) 0 (8 * z.slots)

  abbrev far : Board → List ℕ
  far y = spread (far_word y) 0 (26 * z.slots)

  abbrev blank : List ℕ
  blank = replicate (gap z) 0

  front : length (b.epoch ∷ b.row ∷ b.acks) ≡ 2 + z.engines
  front = omega (arith, s.acks)

  pub laid_length : length (laid z b) ≡ word_count z
  laid_length = let n = spread_length (near_word b) 0 (8 * z.slots) in let f = spread_length (far_word b) 0 (26 * z.slots) in let g = length-replicate {A = ℕ} (gap z) 0 in simp (length-append {A = ℕ}) (omega (arith, s.acks, s.heads, n, f, g))

  pub epoch_read : get_or (laid z b) 0 0 ≡ b.epoch
  epoch_read = refl

  pub row_read : get_or (laid z b) 1 0 ≡ b.row
  row_read = refl

  past_front : (i : ℕ) → get_or (laid z b) (2 + z.engines + i) 0 ≡ get_or (b.heads ++ (blank ++ (near b ++ far b))) i 0
  past_front i = skip (b.epoch ∷ b.row ∷ b.acks) (b.heads ++ (blank ++ (near b ++ far b))) (2 + z.engines) i front

  write_front : (i x : ℕ) → set (laid z b) (2 + z.engines + i) x ≡ (b.epoch ∷ b.row ∷ b.acks) ++ set (b.heads ++ (blank ++ (near b ++ far b))) i x
  write_front i x = put_behind (b.epoch ∷ b.row ∷ b.acks) (b.heads ++ (blank ++ (near b ++ far b))) (2 + z.engines) i x front

  pub head_read : (h : ℕ) → h < z.heads → get_or (laid z b) (head_at z h) 0 ≡ get_or b.heads h 0
  head_read h l = past_front h ∙ get_or-append b.heads (blank ++ (near b ++ far b)) 0 h (omega (arith, s.heads))

  pub head_write : (h x : ℕ) → h < z.heads → set (laid z b) (head_at z h) x ≡ laid z (with_head b h x)
  head_write h x l = write_front h x ∙ ap (λ l. (b.epoch ∷ b.row ∷ b.acks) ++ l) (set-append_left b.heads (blank ++ (near b ++ far b)) h x (omega (arith, s.heads)))

  past_near : (i : ℕ) → get_or (laid z b) (near_at z + i) 0 ≡ get_or (near b ++ far b) i 0
  past_near i = let e : near_at z + i ≡ 2 + z.engines + (z.heads + (gap z + i)) = omega arith in
      ap (λ (j : ℕ). get_or (laid z b) j 0) e ∙ (past_front (z.heads + (gap z + i)) ∙ (skip b.heads (blank ++ (near b ++ far b)) z.heads (gap z + i) s.heads ∙ skip blank (near b ++ far b) (gap z) i (length-replicate (gap z) 0)))

  write_near : (i x : ℕ) → set (laid z b) (near_at z + i) x ≡ (b.epoch ∷ b.row ∷ b.acks) ++ (b.heads ++ (blank ++ set (near b ++ far b) i x))
  write_near i x = let e : near_at z + i ≡ 2 + z.engines + (z.heads + (gap z + i)) = omega arith in
      ap (λ (j : ℕ). set (laid z b) j x) e ∙ (write_front (z.heads + (gap z + i)) x ∙ ap (λ l. (b.epoch ∷ b.row ∷ b.acks) ++ l) (put_behind b.heads (blank ++ (near b ++ far b)) z.heads (gap z + i) x s.heads
      ∙ ap (λ l. b.heads ++ l) (put_behind blank (near b ++ far b) (gap z) i x (length-replicate (gap z) 0))))

  -- a word of those that stand together, and of those that stand apart
  read_near : (i : ℕ) → i < 8 * z.slots → get_or (laid z b) (near_at z + i) 0 ≡ near_word b i
  read_near i h = past_near i ∙ (get_or-append (near b) (far b) 0 i (let l = spread_length (near_word b) 0 (8 * z.slots) in omega arith) ∙ spread_at (near_word b) (8 * z.slots) i h)

  read_far : (i : ℕ) → i < 26 * z.slots → get_or (laid z b) (near_at z + (8 * z.slots + i)) 0 ≡ far_word b i
  read_far i h = past_near (8 * z.slots + i) ∙ (skip (near b) (far b) (8 * z.slots) i (spread_length (near_word b) 0 (8 * z.slots)) ∙ spread_at (far_word b) (26 * z.slots) i h)

  put_near : (y : Board) (i x : ℕ) → i < 8 * z.slots → near_word y i ≡ x → ((j : ℕ) → j ≢ i → near_word y j ≡ near_word b j) → ((j : ℕ) → far_word b j ≡ far_word y j) → set (near b ++ far b) i x ≡ near y ++ far y
  put_near y i x h here others apart = set-append_left (near b) (far b) i x (let l = spread_length (near_word b) 0 (8 * z.slots) in omega arith)
      ∙ ((λ j. spread_set (near_word b) (near_word y) (8 * z.slots) i x h here others j ++ spread_same (far_word b) (far_word y) (26 * z.slots) apart j))

  put_far : (y : Board) (i x : ℕ) → i < 26 * z.slots → far_word y i ≡ x → ((j : ℕ) → j ≢ i → far_word y j ≡ far_word b j) → ((j : ℕ) → near_word b j ≡ near_word y j) → set (near b ++ far b) (8 * z.slots + i) x ≡ near y ++ far y
  put_far y i x h here others together = put_behind (near b) (far b) (8 * z.slots) i x (spread_length (near_word b) 0 (8 * z.slots))
      ∙ ((λ j. spread_same (near_word b) (near_word y) (8 * z.slots) together j ++ spread_set (far_word b) (far_word y) (26 * z.slots) i x h here others j))

  pub atom_read : (k : ℕ) → k < z.slots → get_or (laid z b) (atom_at z k) 0 ≡ get_or b.atoms k 0
  atom_read k h = read_near (8 * k) (omega arith) ∙ near_atom b k

  pub atom_write : (k x : ℕ) → k < z.slots → set (laid z b) (atom_at z k) x ≡ laid z (with_atom b k x)
  atom_write k x h = write_near (8 * k) x ∙ ap (λ l. (b.epoch ∷ b.row ∷ b.acks) ++ (b.heads ++ (blank ++ l)))
      (put_near (with_atom b k x) (8 * k) x (omega arith) (near_atom (with_atom b k x) k ∙ get_or-set_same b.atoms k x 0 (omega (arith, s.atoms))) (near_atom_else b k x) (λ _. refl))

  pub link_read : (k : ℕ) → k < z.slots → get_or (laid z b) (link_at z k) 0 ≡ get_or b.links k 0
  link_read k h = let e : link_at z k ≡ near_at z + (8 * k + 1) = omega arith in ap (λ (j : ℕ). get_or (laid z b) j 0) e ∙ (read_near (8 * k + 1) (omega arith) ∙ near_link b k)

  pub link_write : (k x : ℕ) → k < z.slots → set (laid z b) (link_at z k) x ≡ laid z (with_link b k x)
  link_write k x h = let e : link_at z k ≡ near_at z + (8 * k + 1) = omega arith in ap (λ (j : ℕ). set (laid z b) j x) e ∙ (write_near (8 * k + 1) x ∙ ap (λ l. (b.epoch ∷ b.row ∷ b.acks) ++ (b.heads ++ (blank ++ l)))
      (put_near (with_link b k x) (8 * k + 1) x (omega arith) (near_link (with_link b k x) k ∙ get_or-set_same b.links k x 0 (omega (arith, s.links))) (near_link_else b k x) (λ _. refl)))

  pub text_read : (k n : ℕ) → k < z.slots → n < 32 → get_or (laid z b) (text_at z k n) 0 ≡ get_or b.texts (32 * k + n) 0
  text_read k n h low = dite (dec_le 6 n)
      (λ (past : 6 ≤ n). ap (λ (j : ℕ). get_or (laid z b) j 0) (text_far z k n past) ∙ (read_far (26 * k + (n - 6)) (omega arith) ∙ far_text b k n past low))
      (λ (near_ : ¬ (6 ≤ n)). ap (λ (j : ℕ). get_or (laid z b) j 0) (text_near z k n (omega arith)) ∙ (read_near (8 * k + n + 2) (omega arith) ∙ near_text b k n (omega arith)))

  pub text_write : (k n x : ℕ) → k < z.slots → n < 32 → set (laid z b) (text_at z k n) x ≡ laid z (with_text b (32 * k + n) x)
  text_write k n x h low = let y : Board = with_text b (32 * k + n) x in let whole : get_or y.texts (32 * k + n) 0 ≡ x = get_or-set_same b.texts (32 * k + n) x 0 (omega (arith, s.texts)) in dite (dec_le 6 n)
      (λ (past : 6 ≤ n). ap (λ (j : ℕ). set (laid z b) j x) (text_far z k n past) ∙ (write_near (8 * z.slots + (26 * k + (n - 6))) x ∙ ap (λ l. (b.epoch ∷ b.row ∷ b.acks) ++ (b.heads ++ (blank ++ l)))
      (put_far y (26 * k + (n - 6)) x (omega arith) (far_text y k n past low ∙ whole) (λ j ne. far_text_else b k n x j low (inl ne)) (λ j. sym (near_text_else b k n x j low (inr past))))))
      (λ (near_ : ¬ (6 ≤ n)). ap (λ (j : ℕ). set (laid z b) j x) (text_near z k n (omega arith)) ∙ (write_near (8 * k + n + 2) x ∙ ap (λ l. (b.epoch ∷ b.row ∷ b.acks) ++ (b.heads ++ (blank ++ l)))
      (put_near y (8 * k + n + 2) x (omega arith) (near_text y k n (omega arith) ∙ whole) (λ j ne. near_text_else b k n x j low (inl ne)) (λ j. sym (far_text_else b k n x j low (inr (omega arith)))))))

-- each word of a text has a place of its own
pub text_once : (z : Size) (k n q j : ℕ) → k < z.slots → q < z.slots → n < 32 → j < 32 → text_at z k n ≡ text_at z q j → 32 * k + n ≡ 32 * q + j
text_once z k n q j k_in q_in low below e = dite (dec_le 6 n)
    (λ (far_ : 6 ≤ n). dite (dec_le 6 j)
    (λ (too : 6 ≤ j). let same : near_at z + (8 * z.slots + (26 * k + (n - 6))) ≡ near_at z + (8 * z.slots + (26 * q + (j - 6))) = sym (text_far z k n far_) ∙ (e ∙ text_far z q j too) in omega arith)
    (λ (not_ : ¬ (6 ≤ j)). let same : near_at z + (8 * z.slots + (26 * k + (n - 6))) ≡ near_at z + (8 * q + j + 2) = sym (text_far z k n far_) ∙ (e ∙ text_near z q j (omega arith)) in omega arith))
    (λ (near_ : ¬ (6 ≤ n)). dite (dec_le 6 j)
    (λ (too : 6 ≤ j). let same : near_at z + (8 * k + n + 2) ≡ near_at z + (8 * z.slots + (26 * q + (j - 6))) = sym (text_near z k n (omega arith)) ∙ (e ∙ text_far z q j too) in omega arith)
    (λ (not_ : ¬ (6 ≤ j)). let same : near_at z + (8 * k + n + 2) ≡ near_at z + (8 * q + j + 2) = sym (text_near z k n (omega arith)) ∙ (e ∙ text_near z q j (omega arith)) in omega arith))
