-- Compound terms in the order in which they were made.
use Rattle.std.proofs.Common.{◌≡◌, ℕ, zero, suc, ◌+◌, ◌<◌, ◌≤◌, List, [], ◌∷◌, ◌++◌, length, get_or, take, drop, map, refl, sym, ap, ap₂, subst, length-drop, ◌∙◌, arith, length-append, add-zero}
use Rattle.std.specs.List.{All}
use Rattle.std.proofs.Math.Seq.{get_or-append_seam}
use Rattle.std.proofs.lemmas.List.{take-append-le, drop-append-le, get_or_append_left}
use Rattle.std.proofs.lemmas.List.Elements.{All-head, All-tail}
use Rattle.pl_term.specs.Tree.{Tree, var, atom, compound}
use Rattle.term_store.specs.declared.words.Word.{Word}
use Rattle.term_store.specs.declared.words.Word.TheVariants.{Var, Int, Atom, Comp}
use Rattle.term_store.specs.declared.words.Head.{Head}
use Rattle.term_store.specs.Heap.{atom_name, word_tree, words_of, head_tree, built}
use Rattle.term_store.specs.Fit.{IsWord, IsHead, no_head}

pub built-append : (numbers : List ℕ) (args : List Word) (hs gs : List Head) (done : List Tree)
    → built numbers args (hs ++ gs) done ≡ built numbers args gs (built numbers args hs done)
built-append numbers args [] gs done = refl
built-append numbers args (h ∷ hs) gs done = built-append numbers args hs gs (done ++ head_tree numbers args done h ∷ [])

pub length-built : (numbers : List ℕ) (args : List Word) (hs : List Head) (done : List Tree)
    → length (built numbers args hs done) ≡ length done + length hs
length-built numbers args [] done = sym (add-zero (length done))
length-built numbers args (h ∷ hs) done =
    length-built numbers args hs (done ++ head_tree numbers args done h ∷ [])
    ∙ omega (arith, length-append done (head_tree numbers args done h ∷ []))

pub built-keeps : (numbers : List ℕ) (args : List Word) (hs : List Head) (done : List Tree) (k : ℕ) (d : Tree) → k < length done
    → get_or (built numbers args hs done) k d ≡ get_or done k d
built-keeps numbers args [] done k d h = refl
built-keeps numbers args (g ∷ hs) done k d h =
    built-keeps numbers args hs (done ++ head_tree numbers args done g ∷ []) k d
    (omega (arith, length-append done (head_tree numbers args done g ∷ [])))
    ∙ get_or_append_left done (head_tree numbers args done g ∷ []) d k h

-- A word is the same over two heaps that agree on the variables and compound terms that it may name.
pub word_tree-same : (numbers others : List ℕ) (done after : List Tree) (n k : ℕ) (w : Word) → IsWord n k w
    → ((i : ℕ) → i < n → get_or others i 0 ≡ get_or numbers i 0) → ((j : ℕ) → j < k → get_or after j (atom []) ≡ get_or done j (atom []))
    → word_tree others after w ≡ word_tree numbers done w
word_tree-same numbers others done after n k (Var i) h vs cs = ap var (vs i h)
word_tree-same numbers others done after n k (Int i) h vs cs = refl
word_tree-same numbers others done after n k (Atom i) h vs cs = refl
word_tree-same numbers others done after n k (Comp j) h vs cs = cs j h

pub map-same : {X Y : Type 0} (f g : X → Y) (P : X → Type 0) (xs : List X) → ((x : X) → P x → f x ≡ g x) → All P xs → map f xs ≡ map g xs
map-same f g P [] e all = refl
map-same f g P (x ∷ xs) e all =
    ap₂ (λ y ys. y ∷ ys) (e x (All-head P x xs all)) (map-same f g P xs e (All-tail P x xs all))

pub words_of-longer : (args extra : List Word) (h : Head) → h.start + h.count ≤ length args → words_of (args ++ extra) h ≡ words_of args h
words_of-longer args extra h within =
    ap (take h.count) (drop-append-le h.start args extra (omega arith))
    ∙ take-append-le h.count (drop h.start args) extra (omega (arith, length-drop h.start args))

-- Heads of compound terms from a number on.
abbrev pub HeadsFrom : ℕ → List Word → ℕ → List Head → Type 0
HeadsFrom n args k [] = Unit {0}
HeadsFrom n args k (h ∷ hs) = IsHead n args k h × HeadsFrom n args (suc k) hs

head_tree-longer : (numbers extra : List ℕ) (args rest : List Word) (done : List Tree) (h : Head) → IsHead (length numbers) args (length done) h
    → head_tree (numbers ++ extra) (args ++ rest) done h ≡ head_tree numbers args done h
head_tree-longer numbers extra args rest done h fits =
    ap (λ ws. compound (atom_name h.name) (map (word_tree (numbers ++ extra) done) ws)) (words_of-longer args rest h fits.within)
    ∙ ap (compound (atom_name h.name))
    (map-same (word_tree (numbers ++ extra) done) (word_tree numbers done) (IsWord (length numbers) (length done)) (words_of args h)
    (λ w inside. word_tree-same numbers (numbers ++ extra) done done (length numbers) (length done) w inside
    (λ i lt. get_or_append_left numbers extra 0 i lt) (λ j _. refl))
    fits.earlier)

-- What was made stays the same when more arguments and variables stand after.
pub built-longer : (numbers extra : List ℕ) (args rest : List Word) (hs : List Head) (done : List Tree)
    → HeadsFrom (length numbers) args (length done) hs
    → built (numbers ++ extra) (args ++ rest) hs done ≡ built numbers args hs done
built-longer numbers extra args rest [] done fits = refl
built-longer numbers extra args rest (h ∷ hs) done fits =
    ap (λ t. built (numbers ++ extra) (args ++ rest) hs (done ++ t ∷ [])) (head_tree-longer numbers extra args rest done h fits.0)
    ∙ built-longer numbers extra args rest hs (done ++ head_tree numbers args done h ∷ [])
    (subst (λ k. HeadsFrom (length numbers) args k hs) (sym (length-append done (head_tree numbers args done h ∷ []) ∙ add-one-suc (length done))) fits.1)
  where
    add-one-suc : (n : ℕ) → n + 1 ≡ suc n
    add-one-suc n = omega arith

-- The heads of a heap, from the first on.
pub heads_from : (n : ℕ) (args : List Word) (k : ℕ) (hs : List Head) → ((j : ℕ) → j < length hs → IsHead n args (k + j) (get_or hs j no_head))
    → HeadsFrom n args k hs
heads_from n args k [] f = tt
heads_from n args k (h ∷ hs) f = (
  subst (λ m. IsHead n args m h) (add-zero k) (f zero (omega arith)),
  heads_from n args (suc k) hs (λ j lt. subst (λ m. IsHead n args m (get_or hs j no_head)) (step k j) (f (suc j) (omega arith))),
)
  where
    step : (k j : ℕ) → k + suc j ≡ suc k + j
    step k j = omega arith

-- A compound term is made of those before it.
pub built-at : (numbers : List ℕ) (args : List Word) (hs : List Head) (done : List Tree) (j : ℕ) → j < length hs
    → get_or (built numbers args hs done) (length done + j) (atom []) ≡ head_tree numbers args (built numbers args (take j hs) done) (get_or hs j no_head)
built-at numbers args [] done j lt = absurd (omega arith)
built-at numbers args (h ∷ hs) done zero lt =
    ap (λ k. get_or (built numbers args hs (done ++ head_tree numbers args done h ∷ [])) k (atom [])) (add-zero (length done))
    ∙ built-keeps numbers args hs (done ++ head_tree numbers args done h ∷ []) (length done) (atom [])
    (omega (arith, length-append done (head_tree numbers args done h ∷ [])))
    ∙ get_or-append_seam done (head_tree numbers args done h) [] (atom [])
built-at numbers args (h ∷ hs) done (suc j) lt =
    let longer : length done + suc j ≡ length (done ++ head_tree numbers args done h ∷ []) + j = omega (arith, length-append done (head_tree numbers args done h ∷ [])) in
    ap (λ k. get_or (built numbers args hs (done ++ head_tree numbers args done h ∷ [])) k (atom [])) longer
    ∙ built-at numbers args hs (done ++ head_tree numbers args done h ∷ []) j (omega arith)
