-- The pairs on the stack.
use Rattle.std.proofs.Common.{◌≡◌, ℕ, zero, suc, ◌<◌, ◌≤◌, List, [], ◌∷◌, ◌++◌, length, get_or, map, reverse, drop, ◌-◌, drop-cons, refl, sym, ap, ap₂, subst, ◌∙◌, arith, append_assoc}
use Rattle.std.specs.List.{All}
use Rattle.std.proofs.lemmas.List.{reverse-append}
use Rattle.std.proofs.lemmas.List.Elements.{All-head, All-tail, All-push, All-nil}
use Rattle.pl_term.specs.Tree.{Tree, Trees, more, join, trees}
use Rattle.pl_term.specs.Variables.{replace, replace_all}
use Rattle.term_store.specs.declared.words.Word.{Word}
use Rattle.term_store.specs.declared.words.Pair.{Pair}
use Rattle.term_store.specs.Heap.{Heap, meaning}
use Rattle.term_store.specs.Fit.{IsIn}
use Rattle.term_store.specs.Unifying.{IsPairIn, zip_words, lefts, rights}

pub lefts-append : (h : Heap) (ps qs : List Pair) (ts : Trees) → lefts h (ps ++ qs) ts ≡ lefts h qs (lefts h ps ts)
lefts-append h [] qs ts = refl
lefts-append h (p ∷ ps) qs ts = lefts-append h ps qs (more (meaning h p.left) ts)

pub rights-append : (h : Heap) (ps qs : List Pair) (ts : Trees) → rights h (ps ++ qs) ts ≡ rights h qs (rights h ps ts)
rights-append h [] qs ts = refl
rights-append h (p ∷ ps) qs ts = rights-append h ps qs (more (meaning h p.right) ts)

pub lefts-replace : (c d : Heap) (x : ℕ) (s : Tree) → ((w : Word) → meaning d w ≡ replace x s (meaning c w)) → (ps : List Pair) (ts : Trees)
    → replace_all x s (lefts c ps ts) ≡ lefts d ps (replace_all x s ts)
lefts-replace c d x s e [] ts = refl
lefts-replace c d x s e (p ∷ ps) ts =
    lefts-replace c d x s e ps (more (meaning c p.left) ts) ∙ ap (λ t. lefts d ps (more t (replace_all x s ts))) (sym (e p.left))

pub rights-replace : (c d : Heap) (x : ℕ) (s : Tree) → ((w : Word) → meaning d w ≡ replace x s (meaning c w)) → (ps : List Pair) (ts : Trees)
    → replace_all x s (rights c ps ts) ≡ rights d ps (replace_all x s ts)
rights-replace c d x s e [] ts = refl
rights-replace c d x s e (p ∷ ps) ts =
    rights-replace c d x s e ps (more (meaning c p.right) ts) ∙ ap (λ t. rights d ps (more t (replace_all x s ts))) (sym (e p.right))

pub reverse-cons : {X : Type 0} (x : X) (xs : List X) → reverse (x ∷ xs) ≡ reverse xs ++ x ∷ []
reverse-cons x xs = reverse-append (x ∷ []) xs

pub lefts-zip : (h : Heap) (vs ws : List Word) (us : Trees) → length vs ≡ length ws
    → lefts h (reverse (zip_words vs ws)) us ≡ join (trees (map (meaning h) vs)) us
lefts-zip h [] [] us e = refl
lefts-zip h [] (w ∷ ws) us e = cc
lefts-zip h (v ∷ vs) [] us e = cc
lefts-zip h (v ∷ vs) (w ∷ ws) us e =
    let e' : length vs ≡ length ws = cc in
    ap (λ ps. lefts h ps us) (reverse-cons (record { left = v; right = w }) (zip_words vs ws))
    ∙ lefts-append h (reverse (zip_words vs ws)) (record { left = v; right = w } ∷ []) us
    ∙ ap (more (meaning h v)) (lefts-zip h vs ws us e')

pub rights-zip : (h : Heap) (vs ws : List Word) (us : Trees) → length vs ≡ length ws
    → rights h (reverse (zip_words vs ws)) us ≡ join (trees (map (meaning h) ws)) us
rights-zip h [] [] us e = refl
rights-zip h [] (w ∷ ws) us e = cc
rights-zip h (v ∷ vs) [] us e = cc
rights-zip h (v ∷ vs) (w ∷ ws) us e =
    let e' : length vs ≡ length ws = cc in
    ap (λ ps. rights h ps us) (reverse-cons (record { left = v; right = w }) (zip_words vs ws))
    ∙ rights-append h (reverse (zip_words vs ws)) (record { left = v; right = w } ∷ []) us
    ∙ ap (more (meaning h w)) (rights-zip h vs ws us e')

pub All-zip : (h : Heap) (vs ws : List Word) → All (IsIn h) vs → All (IsIn h) ws → All (IsPairIn h) (reverse (zip_words vs ws))
All-zip h [] ws a b = All-nil (IsPairIn h)
All-zip h (v ∷ vs) [] a b = All-nil (IsPairIn h)
All-zip h (v ∷ vs) (w ∷ ws) a b =
    subst (λ ps. All (IsPairIn h) ps) (sym (reverse-cons (record { left = v; right = w }) (zip_words vs ws)))
    (All-push (IsPairIn h) (reverse (zip_words vs ws)) (record { left = v; right = w })
    (All-zip h vs ws (All-tail (IsIn h) v vs a) (All-tail (IsIn h) w ws b)) (All-head (IsIn h) v vs a, All-head (IsIn h) w ws b))

pub length-zip : (vs ws : List Word) → length vs ≡ length ws → length (zip_words vs ws) ≡ length vs
length-zip [] ws e = refl
length-zip (v ∷ vs) [] e = cc
length-zip (v ∷ vs) (w ∷ ws) e = let e' : length vs ≡ length ws = cc in ap suc (length-zip vs ws e')

get_or-zip : (vs ws : List Word) (j : ℕ) (d : Word) → j < length vs → j < length ws
    → get_or (zip_words vs ws) j (record { left = d; right = d }) ≡ record { left = get_or vs j d; right = get_or ws j d }
get_or-zip [] ws j d a b = absurd (omega arith)
get_or-zip (v ∷ vs) [] j d a b = absurd (omega arith)
get_or-zip (v ∷ vs) (w ∷ ws) zero d a b = refl
get_or-zip (v ∷ vs) (w ∷ ws) (suc j) d a b = get_or-zip vs ws j d (omega arith) (omega arith)

pub drop-zip_all : (vs ws : List Word) (n : ℕ) → length vs ≤ n → drop n (zip_words vs ws) ≡ []
drop-zip_all vs ws n le = go vs ws n le
  where
    go : (vs ws : List Word) (n : ℕ) → length vs ≤ n → drop n (zip_words vs ws) ≡ []
    go [] ws zero le = refl
    go [] ws (suc n) le = refl
    go (v ∷ vs) [] zero le = refl
    go (v ∷ vs) [] (suc n) le = refl
    go (v ∷ vs) (w ∷ ws) zero le = absurd (omega arith)
    go (v ∷ vs) (w ∷ ws) (suc n) le = go vs ws n (omega arith)

-- One more pair is put on the stack.
pub pair_pushed : (start old new : List Pair) (vs ws : List Word) (i : ℕ) (p : Pair) (d : Word) → 0 < i → i ≤ length vs → length vs ≡ length ws
    → old ≡ start ++ reverse (drop i (zip_words vs ws)) → new ≡ old ++ p ∷ [] → p ≡ record { left = get_or vs (i - 1) d; right = get_or ws (i - 1) d }
    → new ≡ start ++ reverse (drop (i - 1) (zip_words vs ws))
pair_pushed start old new vs ws i p d some within same e f g =
    f ∙ ap₂ (λ ps q. ps ++ q ∷ []) e (g ∙ sym (get_or-zip vs ws (i - 1) d (omega arith) (omega arith)))
    ∙ append_assoc start (reverse (drop i (zip_words vs ws))) (at ∷ [])
    ∙ ap (λ ps. start ++ ps)
    (sym (reverse-cons at (drop i (zip_words vs ws))) ∙ ap reverse (sym (opened_at (omega arith))))
  where
    at : Pair
    at = get_or (zip_words vs ws) (i - 1) (record { left = d; right = d })

    opened_at : suc (i - 1) ≡ i → drop (i - 1) (zip_words vs ws) ≡ get_or (zip_words vs ws) (i - 1) (record { left = d; right = d }) ∷ drop i (zip_words vs ws)
    opened_at up =
        drop-cons (zip_words vs ws) (i - 1) (record { left = d; right = d }) (omega (arith, length-zip vs ws same))
        ∙ ap (λ k. get_or (zip_words vs ws) (i - 1) (record { left = d; right = d }) ∷ drop k (zip_words vs ws)) up
