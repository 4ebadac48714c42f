-- How many steps the sweep of a slot makes.
use Rattle.std.proofs.Common.{◌≡◌, ℕ, suc, ◌+◌, ◌*◌, ◌≤◌, List, [], ◌∷◌, ◌++◌, length, refl, sym, ap, ◌∙◌, subst, arith, append_assoc, length-append}
use Rattle.std.proofs.Math.Nat.{add-mul}
use Rattle.atom_words.specs.Layout.{last}
use Rattle.atom_words.specs.declared.kind.Kind.{Kind}
use Rattle.atom_words.specs.declared.kind.Kind.TheVariants.{Load, Start, Look, Condemn, UnlinkAt, Note, Free}
use Rattle.bucket_rows.specs.Treads.{spells, nexts}
use Rattle.bucket_rows.specs.SweepKinds.{is_start, starts, Few}

starts_append : (ks js : List Kind) → starts (ks ++ js) ≡ starts ks + starts js
starts_append [] js = let e : starts js ≡ 0 + starts js = omega arith in e
starts_append (k ∷ ks) js = let e = starts_append ks js in ap (λ (n : ℕ). is_start k + n) e ∙ (let a : is_start k + (starts ks + starts js) ≡ is_start k + starts ks + starts js = omega arith in a)

starts_spells : (ws : List ℕ) → starts (spells ws) ≡ 0
starts_spells [] = refl
starts_spells (x ∷ ws) = let e = starts_spells ws in let z : 0 + starts (spells ws) ≡ 0 = omega arith in z

starts_nexts : (xs : List ℕ) → starts (nexts xs) ≡ 0
starts_nexts [] = refl
starts_nexts (x ∷ xs) = let e = starts_nexts xs in let z : 0 + starts (nexts xs) ≡ 0 = omega arith in z

many_spells : (ws : List ℕ) → length (spells ws) ≡ length ws
many_spells [] = refl
many_spells (x ∷ ws) = ap suc (many_spells ws)

many_nexts : (xs : List ℕ) → length (nexts xs) ≡ length xs
many_nexts [] = refl
many_nexts (x ∷ xs) = ap suc (many_nexts xs)

both_times : (a b c : ℕ) → (a + b) * c ≡ a * c + b * c
both_times a b c = add-mul a b c

-- by the number of walks
few_by : (s most walks : ℕ) (ks : List Kind) (n : ℕ) → starts ks ≡ n → length ks ≤ most + n * (s + 1) → n ≤ walks → Few s most walks ks
few_by s most walks ks n e few le = (subst (λ (m : ℕ). length ks ≤ most + m * (s + 1)) (sym e) few, subst (λ (m : ℕ). m ≤ walks) (sym e) le)

pub few_most : (s a m b n : ℕ) (ks : List Kind) → Few s a m ks → a ≤ b → m ≤ n → Few s b n ks
few_most s a m b n ks f le less = let one = f.0 in let two = f.1 in (omega arith, omega arith)

pub few_flat : (s most : ℕ) (ks : List Kind) → starts ks ≡ 0 → length ks ≤ most → Few s most 0 ks
few_flat s most ks e few = few_by s most 0 ks 0 e (omega arith) (omega arith)

pub few_append : (s a m b n : ℕ) (ks js : List Kind) → Few s a m ks → Few s b n js → Few s (a + b) (m + n) (ks ++ js)
few_append s a m b n ks js f g = let all = length-append ks js in let one = f.0 in let two = g.0 in let three = f.1 in let four = g.1 in let times = both_times (starts ks) (starts js) (s + 1) in
    few_by s (a + b) (m + n) (ks ++ js) (starts ks + starts js) (starts_append ks js) (omega arith) (omega arith)

-- the slot is taken out after another
pub few_unlinked : (s q n : ℕ) (k : Kind) → starts (k ∷ []) ≡ 0 → Few s 3 0 (UnlinkAt q ∷ Note n ∷ k ∷ [])
few_unlinked s q n k e = few_flat s 3 (UnlinkAt q ∷ Note n ∷ k ∷ []) (let f : is_start k + 0 ≡ 0 = e in let z : 0 + (0 + (is_start k + 0)) ≡ 0 = omega arith in z) (omega arith)

-- the walk is made again
pub few_again : (s a n : ℕ) (ks : List Kind) (h x : ℕ) (xs : List ℕ) → Few s a n ks → length xs ≤ s → Few s a (n + 1) ((ks ++ Start h x ∷ []) ++ nexts xs)
few_again s a n ks h x xs f le = let begun : List Kind = Start h x ∷ [] in let all = length-append (ks ++ begun) (nexts xs) in let front = length-append ks begun in let on = many_nexts xs in
    let walks : starts ((ks ++ begun) ++ nexts xs) ≡ starts ks + 1 = starts_append (ks ++ begun) (nexts xs) ∙ ((λ i. starts_append ks begun i + starts_nexts xs i) ∙ (let e : starts ks + 1 + 0 ≡ starts ks + 1 = omega arith in e)) in
    let one = f.0 in let two = f.1 in let times = both_times (starts ks) 1 (s + 1) in
    few_by s a (n + 1) ((ks ++ begun) ++ nexts xs) (starts ks + 1) walks (omega arith) (omega arith)

-- the slot's text is read, and the walk comes to it
pub few_reached : (s n h x : ℕ) (row xs : List ℕ) → length row ≤ 32 → length xs ≤ s → Few s 33 1 ((spells row ++ (Load 1 n ∷ Start h x ∷ [])) ++ nexts xs)
few_reached s n h x row xs long le = few_again_from
  where
    loaded : List Kind
    loaded = spells row ++ Load 1 n ∷ []

    first : Few s 33 0 loaded
    first = let all = length-append (spells row) (Load 1 n ∷ []) in let words = many_spells row in few_by s 33 0 loaded 0 (starts_append (spells row) (Load 1 n ∷ []) ∙ ap (λ (m : ℕ). m + 0) (starts_spells row)) (omega arith) (omega arith)

    few_again_from : Few s 33 1 ((spells row ++ (Load 1 n ∷ Start h x ∷ [])) ++ nexts xs)
    few_again_from = subst (λ (l : List Kind). Few s 33 1 (l ++ nexts xs)) (append_assoc (spells row) (Load 1 n ∷ []) (Start h x ∷ [])) (few_again s 33 0 loaded h x xs first le)

-- the slot is freed; or it was found with another word; or its head has the last version
pub few_freed : (s : ℕ) (ks js : List Kind) → Few s 33 1 ks → Few s 4 last js → Few s 40 (last + 1) ((Look 3 ∷ ks) ++ Condemn ∷ (js ++ Free ∷ []))
few_freed s ks js f g = few_most s (1 + 33 + (1 + (4 + 1))) (0 + 1 + (0 + (last + 0))) 40 (last + 1) ((Look 3 ∷ ks) ++ Condemn ∷ (js ++ Free ∷ []))
    (few_append s (1 + 33) (0 + 1) (1 + (4 + 1)) (0 + (last + 0)) (Look 3 ∷ ks) (Condemn ∷ (js ++ Free ∷ []))
    (few_append s 1 0 33 1 (Look 3 ∷ []) ks (few_flat s 1 (Look 3 ∷ []) refl (omega arith)) f)
    (few_append s 1 0 (4 + 1) (last + 0) (Condemn ∷ []) (js ++ Free ∷ []) (few_flat s 1 (Condemn ∷ []) refl (omega arith)) (few_append s 4 last 1 0 js (Free ∷ []) g (few_flat s 1 (Free ∷ []) refl (omega arith)))))
    (omega arith) (omega arith)

pub few_kept : (s i x : ℕ) (ks : List Kind) → Few s 33 1 ks → Few s 40 (last + 1) ((Look 3 ∷ ks) ++ Load i x ∷ [])
few_kept s i x ks f = few_most s (1 + 33 + 1) (0 + 1 + 0) 40 (last + 1) ((Look 3 ∷ ks) ++ Load i x ∷ [])
    (few_append s (1 + 33) (0 + 1) 1 0 (Look 3 ∷ ks) (Load i x ∷ []) (few_append s 1 0 33 1 (Look 3 ∷ []) ks (few_flat s 1 (Look 3 ∷ []) refl (omega arith)) f) (few_flat s 1 (Load i x ∷ []) refl (omega arith)))
    (omega arith) (omega arith)

pub few_worn : (s n h x : ℕ) (row : List ℕ) → length row ≤ 32 → Few s 40 (last + 1) (Look 3 ∷ (spells row ++ (Load 1 n ∷ Start h x ∷ [])))
few_worn s n h x row long = let ends : List Kind = Load 1 n ∷ Start h x ∷ [] in let all = length-append (spells row) ends in let words = many_spells row in
    few_by s 40 (last + 1) (Look 3 ∷ (spells row ++ ends)) 1 (ap (λ (m : ℕ). 0 + m) (starts_append (spells row) ends ∙ ap (λ (m : ℕ). m + 1) (starts_spells row))) (omega arith) (omega arith)
