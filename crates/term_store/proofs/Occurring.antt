-- Where a variable occurs on a heap.
use Rattle.std.proofs.Common.{◌≡◌, ℕ, ◌<◌, Bool, true, false, ◌||◌, ◌==◌, List, [], ◌∷◌, ◌++◌, length, get_or, map, Some, None, refl, sym, ap, subst, ◌∙◌, arith}
use Rattle.std.specs.List.{All}
use Rattle.std.proofs.lemmas.Bool.{false≢true}
use Rattle.std.proofs.lemmas.Bool.Decides.{Decides-eqb}
use Rattle.std.proofs.lemmas.List.Elements.{All-append, All-weaker, All-push, All-nil, All-pop}
use Rattle.pl_term.specs.Tree.{Chars, trees, compound}
use Rattle.pl_term.specs.Variables.{has, has_all, occurrences, occurrences_all}
use Rattle.pl_model.proofs.UnifyReplace.{is_in-append, eqb_same, eqb_other}
use Rattle.term_store.specs.declared.words.Word.{Word}
use Rattle.term_store.specs.declared.words.Word.TheVariants.{Var, Int, Atom, Comp}
use Rattle.term_store.specs.Heap.{Heap, atom_name, words_of, bindings, meaning, numbered, find}
use Rattle.term_store.specs.Fit.{IsWord, IsIn, Fit, no_head}
use Rattle.term_store.specs.Unifying.{any_has}
use Rattle.term_store.proofs.Equations.{bound-int, bound-atom}
use Rattle.term_store.proofs.Following.{stands, same_slot}
use Rattle.term_store.proofs.Opening.{opened, weaker_word}

pub or-false_right : (a : Bool) → (a || false) ≡ a
or-false_right true = refl
or-false_right false = refl

or-comm : (a b : Bool) → (a || b) ≡ (b || a)
or-comm true true = refl
or-comm true false = refl
or-comm false true = refl
or-comm false false = refl

pub or-assoc : (a b c : Bool) → ((a || b) || c) ≡ (a || (b || c))
or-assoc true b c = refl
or-assoc false b c = refl

pub any_has-append : (x : ℕ) (h : Heap) (vs ws : List Word) → any_has x h (vs ++ ws) ≡ (any_has x h vs || any_has x h ws)
any_has-append x h [] ws = refl
any_has-append x h (v ∷ vs) ws =
    ap (λ b. has x (meaning h v) || b) (any_has-append x h vs ws) ∙ sym (or-assoc (has x (meaning h v)) (any_has x h vs) (any_has x h ws))

any_has-trees : (x : ℕ) (h : Heap) (ws : List Word) → has_all x (trees (map (meaning h) ws)) ≡ any_has x h ws
any_has-trees x h [] = refl
any_has-trees x h (w ∷ ws) =
    is_in-append x (occurrences (meaning h w)) (occurrences_all (trees (map (meaning h) ws)))
    ∙ ap (λ b. has x (meaning h w) || b) (any_has-trees x h ws)

pub has-compound : (x : ℕ) (h : Heap) (f : Chars) (ws : List Word) → has x (compound f (map (meaning h) ws)) ≡ any_has x h ws
has-compound x h f [] = refl
has-compound x h f (w ∷ ws) = any_has-trees x h (w ∷ ws)

-- The last word of the stack is looked at first.
pub any_has-push : (x : ℕ) (h : Heap) (ws : List Word) (w : Word) → any_has x h (ws ++ w ∷ []) ≡ (any_has x h ws || has x (meaning h w))
any_has-push x h ws w = any_has-append x h ws (w ∷ []) ∙ ap (λ b. any_has x h ws || b) (or-false_right (has x (meaning h w)))

-- A free variable occurs in another one if they are the same.
pub has_var : (h : Heap) (i slot : ℕ) → Fit h → i < length h.numbers → slot < length h.numbers → find i h.trail ≡ None
    → has (numbered h slot) (meaning h (Var i)) ≡ (i == slot)
has_var h i slot fit a b free = ap (has (numbered h slot)) (stands h i fit a free) ∙ go (i == slot) refl
  where
    go : (q : Bool) → (i == slot) ≡ q → ((numbered h slot == numbered h i) || false) ≡ q
    go true e =
        let same : i ≡ slot = (Decides-eqb i slot).0 e in
        ap (λ j. (numbered h slot == numbered h j) || false) same ∙ ap (λ p. p || false) (eqb_same (numbered h slot))
    go false e =
        ap (λ p. p || false)
        (eqb_other (numbered h slot) (numbered h i)
        (λ s. false≢true (sym e ∙ (Decides-eqb i slot).1 (same_slot h.numbers i slot fit.rises a b (sym s)))))

pub var_found : (h : Heap) (i slot : ℕ) (at : Word) (walk : List Word) → Fit h → IsIn h at → at ≡ Var i → slot < length h.numbers
    → find i h.trail ≡ None
    → ((i == slot) || any_has (numbered h slot) h walk) ≡ (any_has (numbered h slot) h walk || has (numbered h slot) (meaning h at))
var_found h i slot at walk fit inside is b free =
    or-comm (i == slot) (any_has (numbered h slot) h walk)
    ∙ ap (λ p. any_has (numbered h slot) h walk || p)
    (sym (ap (λ w. has (numbered h slot) (meaning h w)) is ∙ has_var h i slot fit (subst (IsIn h) is inside) b free))

pub int_found : (h : Heap) (x : ℕ) (at : Word) (walk : List Word) → (n : _) → at ≡ Int n → any_has x h walk ≡ (any_has x h walk || has x (meaning h at))
int_found h x at walk n is =
    sym (or-false_right (any_has x h walk)) ∙ ap (λ p. any_has x h walk || p) (sym (ap (λ w. has x (meaning h w)) is ∙ ap (has x) (bound-int (bindings h) n)))

pub atom_found : (h : Heap) (x : ℕ) (at : Word) (walk : List Word) (a : ℕ) → at ≡ Atom a → any_has x h walk ≡ (any_has x h walk || has x (meaning h at))
atom_found h x at walk a is =
    sym (or-false_right (any_has x h walk))
    ∙ ap (λ p. any_has x h walk || p) (sym (ap (λ w. has x (meaning h w)) is ∙ ap (has x) (bound-atom (bindings h) (atom_name a))))

pub comp_found : (h : Heap) (x k : ℕ) (at : Word) (walk after : List Word) → Fit h → IsIn h at → at ≡ Comp k
    → after ≡ walk ++ words_of h.args (get_or h.heads k no_head)
    → any_has x h after ≡ (any_has x h walk || has x (meaning h at))
comp_found h x k at walk after fit inside is e =
    let g = get_or h.heads k no_head in
    ap (any_has x h) e ∙ any_has-append x h walk (words_of h.args g)
    ∙ ap (λ p. any_has x h walk || p)
    (sym (ap (λ w. has x (meaning h w)) is ∙ ap (has x) (opened h k fit (subst (IsIn h) is inside)) ∙ has-compound x h (atom_name g.name) (words_of h.args g)))

-- The words of a compound term of the heap are words of the heap.
pub words_inside : (h : Heap) (k : ℕ) → Fit h → k < length h.heads → All (IsIn h) (words_of h.args (get_or h.heads k no_head))
words_inside h k fit lt =
    All-weaker (IsWord (length h.numbers) k) (IsIn h) (λ w inside. weaker_word (length h.numbers) k (length h.heads) w (omega arith) inside)
    (words_of h.args (get_or h.heads k no_head)) (fit.heads k lt).earlier

pub comp_inside : (h : Heap) (k : ℕ) (at : Word) (walk after : List Word) → Fit h → IsIn h at → at ≡ Comp k → All (IsIn h) walk
    → after ≡ walk ++ words_of h.args (get_or h.heads k no_head) → All (IsIn h) after
comp_inside h k at walk after fit inside is all e =
    subst (λ ws. All (IsIn h) ws) (sym e) (All-append (IsIn h) walk (words_of h.args (get_or h.heads k no_head)) all (words_inside h k fit (subst (IsIn h) is inside)))

-- The stack at the start of the walk, and when the last word is taken off.
pub started : (h : Heap) (x : ℕ) (ws vs : List Word) (w : Word) → ws ≡ vs ++ w ∷ [] → vs ≡ [] → IsIn h w
    → All (IsIn h) ws × (any_has x h ws ≡ has x (meaning h w))
started h x ws vs w e none_yet inside =
    let one : ws ≡ w ∷ [] = e ∙ ap (λ us. us ++ w ∷ []) none_yet in
    (subst (λ us. All (IsIn h) us) (sym one) (All-push (IsIn h) [] w (All-nil (IsIn h)) inside), ap (any_has x h) one ∙ or-false_right (has x (meaning h w)))

pub popped : {X : Type 0} (P : X → Type 0) (ws vs : List X) (w : X) → ws ≡ vs ++ w ∷ [] → All P ws → All P vs × P w
popped P ws vs w e all = All-pop P ws vs (Some w) e all

pub ended : (h : Heap) (x : ℕ) (ws : List Word) (b : Bool) → ws ≡ [] → any_has x h ws ≡ b → false ≡ b
ended h x ws b e k = sym (ap (any_has x h) e) ∙ k

-- The last word of the stack was looked at.
pub looked : (h : Heap) (x : ℕ) (ws vs : List Word) (w at : Word) (b : Bool) → ws ≡ vs ++ w ∷ [] → any_has x h ws ≡ b → meaning h at ≡ meaning h w
    → (any_has x h vs || has x (meaning h at)) ≡ b
looked h x ws vs w at b e k same =
    ap (λ t. any_has x h vs || has x t) same ∙ sym (any_has-push x h vs w) ∙ sym (ap (any_has x h) e) ∙ k

pub empty_list : {X : Type 0} (xs : List X) → length xs ≡ 0 → xs ≡ []
empty_list [] e = refl
empty_list (x ∷ xs) e = absurd (omega arith)
