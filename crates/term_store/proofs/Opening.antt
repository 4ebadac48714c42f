-- What a compound term of a heap is made of.
use Rattle.std.proofs.Common.{◌≡◌, ℕ, ◌<◌, ◌≤◌, List, [], ◌∷◌, length, get_or, take, drop, map, refl, sym, ap, ◌∙◌, arith, zero-add, length-take}
use Rattle.std.proofs.lemmas.List.{take-append-drop}
use Rattle.pl_term.specs.Tree.{Chars, Tree, Trees, atom, comp, none, more, trees, compound}
use Rattle.pl_term.specs.Variables.{replace, replace_all}
use Rattle.pl_model.specs.Unify.{Bindings, bound, bound_all}
use Rattle.term_store.specs.declared.words.Word.{Word}
use Rattle.term_store.specs.declared.words.Word.TheVariants.{Var, Int, Atom, Comp}
use Rattle.term_store.specs.declared.words.Head.{Head}
use Rattle.term_store.specs.Heap.{Heap, atom_name, word_tree, words_of, built, compounds, raw, bindings, meaning}
use Rattle.term_store.specs.Fit.{IsWord, Fit, no_head}
use Rattle.term_store.proofs.Building.{built-append, length-built, built-keeps, built-at, word_tree-same, map-same}
use Rattle.term_store.proofs.Equations.{bound-atom, bound-comp}

bound_all-none : (bs : Bindings) → bound_all bs none ≡ none
bound_all-none [] = refl
bound_all-none (b ∷ bs) = bound_all-none bs

bound_all-more : (bs : Bindings) (t : Tree) (ts : Trees) → bound_all bs (more t ts) ≡ more (bound bs t) (bound_all bs ts)
bound_all-more [] t ts = refl
bound_all-more (b ∷ bs) t ts = bound_all-more bs (replace b.0 b.1 t) (replace_all b.0 b.1 ts)

bound_all-trees : (bs : Bindings) (ts : List Tree) → bound_all bs (trees ts) ≡ trees (map (bound bs) ts)
bound_all-trees bs [] = bound_all-none bs
bound_all-trees bs (t ∷ ts) = bound_all-more bs t (trees ts) ∙ ap (more (bound bs t)) (bound_all-trees bs ts)

pub bound-compound : (bs : Bindings) (f : Chars) (ts : List Tree) → bound bs (compound f ts) ≡ compound f (map (bound bs) ts)
bound-compound bs f [] = bound-atom bs f
bound-compound bs f (t ∷ ts) = bound-comp bs f t (trees ts) ∙ ap (comp f (bound bs t)) (bound_all-trees bs ts)

pub map-meaning : (h : Heap) (ws : List Word) → map (bound (bindings h)) (map (raw h) ws) ≡ map (meaning h) ws
map-meaning h [] = refl
map-meaning h (w ∷ ws) = ap (λ ts. meaning h w ∷ ts) (map-meaning h ws)

-- The compound terms made up to a number are those of the whole heap.
built-split : (numbers : List ℕ) (args : List Word) (hs : List Head) (k j : ℕ) → k < length hs → j < k
    → get_or (built numbers args hs []) j (atom []) ≡ get_or (built numbers args (take k hs) []) j (atom [])
built-split numbers args hs k j lt below =
    ap (λ gs. get_or (built numbers args gs []) j (atom [])) (sym (take-append-drop k hs))
    ∙ ap (λ ts. get_or ts j (atom [])) (built-append numbers args (take k hs) (drop k hs) [])
    ∙ built-keeps numbers args (drop k hs) (built numbers args (take k hs) []) j (atom [])
    (omega (arith, length-built numbers args (take k hs) [], length-take k hs))

pub raw-opened : (h : Heap) (k : ℕ) → Fit h → k < length h.heads
    → raw h (Comp k) ≡ compound (atom_name (get_or h.heads k no_head).name) (map (raw h) (words_of h.args (get_or h.heads k no_head)))
unfolding compounds
raw-opened h k fit lt =
    let g = get_or h.heads k no_head in
    let before = built h.numbers h.args (take k h.heads) [] in
    let is_head = fit.heads k lt in
    ap (λ j. get_or (built h.numbers h.args h.heads []) j (atom [])) (sym (zero-add k))
    ∙ built-at h.numbers h.args h.heads [] k lt
    ∙ ap (compound (atom_name g.name))
    (map-same (word_tree h.numbers before) (raw h) (IsWord (length h.numbers) k) (words_of h.args g)
    (λ w inside. sym (word_tree-same h.numbers h.numbers before (built h.numbers h.args h.heads []) (length h.numbers) k w inside (λ _ _. refl)
    (λ j below. built-split h.numbers h.args h.heads k j lt below)))
    is_head.earlier)

pub opened : (h : Heap) (k : ℕ) → Fit h → k < length h.heads
    → meaning h (Comp k) ≡ compound (atom_name (get_or h.heads k no_head).name) (map (meaning h) (words_of h.args (get_or h.heads k no_head)))
opened h k fit lt =
    let g = get_or h.heads k no_head in
    ap (bound (bindings h)) (raw-opened h k fit lt)
    ∙ bound-compound (bindings h) (atom_name g.name) (map (raw h) (words_of h.args g))
    ∙ ap (compound (atom_name g.name)) (map-meaning h (words_of h.args g))

-- The words of a compound term are words of the heap.
pub weaker_word : (n k m : ℕ) (w : Word) → k ≤ m → IsWord n k w → IsWord n m w
weaker_word n k m (Var i) le h = h
weaker_word n k m (Int i) le h = tt
weaker_word n k m (Atom a) le h = tt
weaker_word n k m (Comp j) le h = omega arith
