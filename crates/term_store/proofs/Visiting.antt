-- A walk that comes to each compound term once.
use Rattle.std.proofs.Common.{◌≡◌, ◌⊎◌, inl, inr, ℕ, ◌+◌, ◌<◌, ◌≤◌, Bool, true, false, ◌&&◌, ◌||◌, ◌==◌, nat_lt, List, [], ◌∷◌, ◌++◌, length, get_or, map, None, refl, sym, ap, subst, ◌∙◌, arith}
use Rattle.std.specs.List.{All, Contains}
use Rattle.std.proofs.lemmas.Bool.{false≢true}
use Rattle.std.proofs.lemmas.Bool.Decides.{Decides-ltb}
use Rattle.std.proofs.lemmas.List.Elements.{All-nil, All-cons, All-head, All-tail, All-push, All-weaker, All-contains}
use Rattle.pl_term.specs.Tree.{Chars, Tree, compound, trees}
use Rattle.pl_term.specs.Cells.{compound_cells, compound_cells_all}
use Rattle.pl_term.specs.Variables.{has}
use Rattle.pl_model.proofs.UnifyDifference.{and-true}
use Rattle.pl_model.proofs.UnifyReplace.{eqb_other}
use Rattle.term_store.specs.declared.words.Word.{Word}
use Rattle.term_store.specs.declared.words.Word.TheVariants.{Var, Int, Atom, Comp}
use Rattle.term_store.specs.Heap.{Heap, atom_name, words_of, bindings, meaning, numbered, find}
use Rattle.term_store.specs.Fit.{IsIn, Fit, no_head}
use Rattle.term_store.specs.Unifying.{any_has}
use Rattle.term_store.specs.Visits.{less_has, IsClear, SeenClear}
use Rattle.term_store.proofs.Equations.{bound-int, bound-atom}
use Rattle.term_store.proofs.Occurring.{has_var, or-false_right, or-assoc, has-compound}
use Rattle.term_store.proofs.Opening.{opened}

or_cases : (a b : Bool) → (a || b) ≡ true → (a ≡ true) ⊎ (b ≡ true)
or_cases true b e = inl refl
or_cases false b e = inr e

or_left : (a b : Bool) → a ≡ true → (a || b) ≡ true
or_left a b e = ap (λ q. q || b) e

or_right : (a b : Bool) → b ≡ true → (a || b) ≡ true
or_right true b e = refl
or_right false b e = e

both_true : (a b : Bool) → a ≡ true → b ≡ true → (a && b) ≡ true
both_true a b d e = ap (λ q. q && b) d ∙ e

and-false : (a : Bool) → (a && false) ≡ false
and-false true = refl
and-false false = refl

module _ (x : ℕ) (h : Heap) where
  less_has-append : (n : ℕ) (vs ws : List Word) → less_has x n h (vs ++ ws) ≡ (less_has x n h vs || less_has x n h ws)
  less_has-append n [] ws = refl
  less_has-append n (v ∷ vs) ws =
      ap (λ b. (nat_lt (compound_cells (meaning h v)) n && has x (meaning h v)) || b) (less_has-append n vs ws)
      ∙ sym (or-assoc (nat_lt (compound_cells (meaning h v)) n && has x (meaning h v)) (less_has x n h vs) (less_has x n h ws))

  less_has-left : (n : ℕ) (vs ws : List Word) → less_has x n h vs ≡ true → less_has x n h (vs ++ ws) ≡ true
  less_has-left n vs ws e = less_has-append n vs ws ∙ or_left (less_has x n h vs) (less_has x n h ws) e

  pub less_has-left_out : (n : ℕ) (vs : List Word) (w : Word) → has x (meaning h w) ≡ false → less_has x n h (vs ++ w ∷ []) ≡ true → less_has x n h vs ≡ true
  less_has-left_out n vs w absent e =
      sym (less_has-append n vs (w ∷ [])
      ∙ ap (λ b. less_has x n h vs || ((nat_lt (compound_cells (meaning h w)) n && b) || false)) absent
      ∙ ap (λ b. less_has x n h vs || (b || false)) (and-false (nat_lt (compound_cells (meaning h w)) n)) ∙ or-false_right (less_has x n h vs)) ∙ e

  less_has-right : (n : ℕ) (vs ws : List Word) → less_has x n h ws ≡ true → less_has x n h (vs ++ ws) ≡ true
  less_has-right n vs ws e = less_has-append n vs ws ∙ or_right (less_has x n h vs) (less_has x n h ws) e

  -- A smaller word is a word.
  less_has-any : (n : ℕ) (ws : List Word) → less_has x n h ws ≡ true → any_has x h ws ≡ true
  less_has-any n [] e = e
  less_has-any n (w ∷ ws) e =
      elim (or_cases (nat_lt (compound_cells (meaning h w)) n && has x (meaning h w)) (less_has x n h ws) e) [
        | inl k ↦ or_left (has x (meaning h w)) (any_has x h ws) (and-true (nat_lt (compound_cells (meaning h w)) n) (has x (meaning h w)) k).1
        | inr k ↦ or_right (has x (meaning h w)) (any_has x h ws) (less_has-any n ws k)
      ]

  less_has-more : (n m : ℕ) (ws : List Word) → n ≤ m → less_has x n h ws ≡ true → less_has x m h ws ≡ true
  less_has-more n m [] le e = e
  less_has-more n m (w ∷ ws) le e =
      elim (or_cases (nat_lt (compound_cells (meaning h w)) n && has x (meaning h w)) (less_has x n h ws) e) [
        | inl k ↦
            let both = and-true (nat_lt (compound_cells (meaning h w)) n) (has x (meaning h w)) k in
            let lt : compound_cells (meaning h w) < n = (Decides-ltb (compound_cells (meaning h w)) n).0 both.0 in
            or_left (nat_lt (compound_cells (meaning h w)) m && has x (meaning h w)) (less_has x m h ws)
            (both_true (nat_lt (compound_cells (meaning h w)) m) (has x (meaning h w)) ((Decides-ltb (compound_cells (meaning h w)) m).1 (omega arith)) both.1)
        | inr k ↦ or_right (nat_lt (compound_cells (meaning h w)) m && has x (meaning h w)) (less_has x m h ws) (less_has-more n m ws le k)
      ]

  -- The last word is one of them.
  less_has-push : (n : ℕ) (ws : List Word) (w : Word) → less_has x n h (ws ++ w ∷ []) ≡ true
      → (less_has x n h ws ≡ true) ⊎ ((compound_cells (meaning h w) < n) × (has x (meaning h w) ≡ true))
  less_has-push n ws w e =
      elim (or_cases (less_has x n h ws) (less_has x n h (w ∷ [])) (sym (less_has-append n ws (w ∷ [])) ∙ e)) [
        | inl k ↦ inl k
        | inr k ↦
            let both = and-true (nat_lt (compound_cells (meaning h w)) n) (has x (meaning h w))
            (sym (or-false_right (nat_lt (compound_cells (meaning h w)) n && has x (meaning h w))) ∙ k) in
            inr ((Decides-ltb (compound_cells (meaning h w)) n).0 both.0, both.1)
      ]

  -- Where each word stands for a smaller term.
  all_less : (n : ℕ) (ws : List Word) → All (λ w. compound_cells (meaning h w) < n) ws → any_has x h ws ≡ true → less_has x n h ws ≡ true
  all_less n [] all e = e
  all_less n (w ∷ ws) all e =
      elim (or_cases (has x (meaning h w)) (any_has x h ws) e) [
        | inl k ↦
            or_left (nat_lt (compound_cells (meaning h w)) n && has x (meaning h w)) (less_has x n h ws)
            (both_true (nat_lt (compound_cells (meaning h w)) n) (has x (meaning h w))
            ((Decides-ltb (compound_cells (meaning h w)) n).1 (All-head (λ v. compound_cells (meaning h v) < n) w ws all)) k)
        | inr k ↦
            or_right (nat_lt (compound_cells (meaning h w)) n && has x (meaning h w)) (less_has x n h ws)
            (all_less n ws (All-tail (λ v. compound_cells (meaning h v) < n) w ws all) k)
      ]

-- Each part of a compound term has fewer cells.
parts_within : (f : Word → Tree) (ws : List Word) → All (λ w. compound_cells (f w) ≤ compound_cells_all (trees (map f ws))) ws
parts_within f [] = All-nil (λ w. compound_cells (f w) ≤ 0)
parts_within f (w ∷ ws) =
    let rest = compound_cells_all (trees (map f ws)) in
    let P = λ (v : Word). compound_cells (f v) ≤ compound_cells (f w) + rest in
    All-cons P w ws (omega arith) (All-weaker (λ v. compound_cells (f v) ≤ rest) P (λ v le. omega arith) ws (parts_within f ws))

pub parts_less : (f : Word → Tree) (name : Chars) (ws : List Word) → All (λ w. compound_cells (f w) < compound_cells (compound name (map f ws))) ws
parts_less f name [] = All-nil (λ w. compound_cells (f w) < 0)
parts_less f name (w ∷ ws) =
    let all = compound_cells_all (trees (map f (w ∷ ws))) in
    let whole = compound_cells (compound name (map f (w ∷ ws))) in
    let more : all < whole = omega arith in
    All-weaker (λ v. compound_cells (f v) ≤ all) (λ v. compound_cells (f v) < whole) (λ v le. omega arith) (w ∷ ws) (parts_within f (w ∷ ws))

-- The last word was looked at, and others may stand for it.
gone : (x : ℕ) (h : Heap) (ws vs : List Word) (at : Word) (ks : List ℕ)
    → ((n : ℕ) → less_has x n h ws ≡ true → less_has x n h vs ≡ true)
    → (has x (meaning h at) ≡ true → less_has x (compound_cells (meaning h at)) h vs ≡ true)
    → All (IsClear x h (ws ++ at ∷ [])) ks → All (IsClear x h vs) ks
gone x h ws vs at ks kept stands all =
    All-weaker (IsClear x h (ws ++ at ∷ [])) (IsClear x h vs)
    (λ k clear e.
    elim (less_has-push x h (compound_cells (meaning h (Comp k))) ws at (clear e)) [
      | inl r ↦ kept (compound_cells (meaning h (Comp k))) r
      | inr r ↦ less_has-more x h (compound_cells (meaning h at)) (compound_cells (meaning h (Comp k))) vs (omega arith) (stands r.1)
    ])
    ks all

-- A word and the word that it stands for are the same to the walk.
pub followed_clear : (x : ℕ) (h : Heap) (ws vs : List Word) (w at : Word) (ks : List ℕ) → ws ≡ vs ++ w ∷ [] → meaning h at ≡ meaning h w
    → All (IsClear x h ws) ks → All (IsClear x h (vs ++ at ∷ [])) ks
followed_clear x h ws vs w at ks e same all =
    All-weaker (IsClear x h ws) (IsClear x h (vs ++ at ∷ []))
    (λ k clear is.
    let n = compound_cells (meaning h (Comp k)) in
    less_has-append x h n vs (at ∷ [])
    ∙ ap (λ t. less_has x n h vs || ((nat_lt (compound_cells t) n && has x t) || false)) same
    ∙ sym (less_has-append x h n vs (w ∷ [])) ∙ ap (less_has x n h) (sym e) ∙ clear is)
    ks all

-- The variable is not in the word.
pub none_clear : (x : ℕ) (h : Heap) (ws : List Word) (at : Word) (ks : List ℕ) → has x (meaning h at) ≡ false
    → All (IsClear x h (ws ++ at ∷ [])) ks → All (IsClear x h ws) ks
none_clear x h ws at ks none all = gone x h ws ws at ks (λ n e. e) (λ e. absurd (false≢true (sym none ∙ e))) all

-- The word is a compound term that the walk came by before.
again_less : (x : ℕ) (h : Heap) (ws : List Word) (k : ℕ) (ks : List ℕ) → Contains ks k → All (IsClear x h (ws ++ Comp k ∷ [])) ks
    → has x (meaning h (Comp k)) ≡ true → less_has x (compound_cells (meaning h (Comp k))) h ws ≡ true
again_less x h ws k ks in_ks all e =
    elim (less_has-push x h (compound_cells (meaning h (Comp k))) ws (Comp k) (All-contains (IsClear x h (ws ++ Comp k ∷ [])) ks k all in_ks e)) [
      | inl r ↦ r
      | inr r ↦ absurd (omega (arith, r.0))
    ]

pub again_clear : (x : ℕ) (h : Heap) (ws : List Word) (k : ℕ) (ks : List ℕ) → Contains ks k → All (IsClear x h (ws ++ Comp k ∷ [])) ks
    → All (IsClear x h ws) ks
again_clear x h ws k ks in_ks all = gone x h ws ws (Comp k) ks (λ n e. e) (again_less x h ws k ks in_ks all) all

pub again_found : (x : ℕ) (h : Heap) (ws : List Word) (k : ℕ) (ks : List ℕ) → Contains ks k → All (IsClear x h (ws ++ Comp k ∷ [])) ks
    → any_has x h ws ≡ (any_has x h ws || has x (meaning h (Comp k)))
again_found x h ws k ks in_ks all = go (has x (meaning h (Comp k))) refl
  where
    go : (q : Bool) → has x (meaning h (Comp k)) ≡ q → any_has x h ws ≡ (any_has x h ws || q)
    go false e = sym (or-false_right (any_has x h ws))
    go true e =
        less_has-any x h (compound_cells (meaning h (Comp k))) ws (again_less x h ws k ks in_ks all e)
        ∙ sym (or_right (any_has x h ws) true refl)

-- The word is a compound term, whose arguments are put on the stack.
opened_less : (x : ℕ) (h : Heap) (k : ℕ) → Fit h → k < length h.heads → has x (meaning h (Comp k)) ≡ true
    → less_has x (compound_cells (meaning h (Comp k))) h (words_of h.args (get_or h.heads k no_head)) ≡ true
opened_less x h k fit lt e =
    let g = get_or h.heads k no_head in
    let ws = words_of h.args g in
    let is = opened h k fit lt in
    subst (λ t. less_has x (compound_cells t) h ws ≡ true) (sym is)
    (all_less x h (compound_cells (compound (atom_name g.name) (map (meaning h) ws))) ws (parts_less (meaning h) (atom_name g.name) ws)
    (sym (has-compound x h (atom_name g.name) ws) ∙ sym (ap (has x) is) ∙ e))

pub opened_clear : (x : ℕ) (h : Heap) (ws : List Word) (k : ℕ) (ks : List ℕ) → Fit h → k < length h.heads → All (IsClear x h (ws ++ Comp k ∷ [])) ks
    → All (IsClear x h (ws ++ words_of h.args (get_or h.heads k no_head))) ks
opened_clear x h ws k ks fit lt all =
    let args = words_of h.args (get_or h.heads k no_head) in
    gone x h ws (ws ++ args) (Comp k) ks (λ n e. less_has-left x h n ws args e)
    (λ e. less_has-right x h (compound_cells (meaning h (Comp k))) ws args (opened_less x h k fit lt e)) all

pub added_clear : (x : ℕ) (h : Heap) (ws : List Word) (k : ℕ) (ks : List ℕ) → Fit h → k < length h.heads
    → All (IsClear x h (ws ++ words_of h.args (get_or h.heads k no_head))) ks
    → All (IsClear x h (ws ++ words_of h.args (get_or h.heads k no_head))) (ks ++ k ∷ [])
added_clear x h ws k ks fit lt all =
    let args = words_of h.args (get_or h.heads k no_head) in
    All-push (IsClear x h (ws ++ args)) ks k all
    (λ e. less_has-right x h (compound_cells (meaning h (Comp k))) ws args (opened_less x h k fit lt e))

-- The word is a variable that is not looked for, or has none.
pub var_clear : (h : Heap) (top up slot j : ℕ) (at : Word) (ws : List Word) (ks : List ℕ) → Fit h → IsIn h at → at ≡ Var j → find j h.trail ≡ None
    → slot < length h.numbers → (j == slot) ≡ false → top ≤ up → j < up
    → SeenClear top slot h (ws ++ at ∷ []) ks → SeenClear up slot h ws ks
var_clear h top up slot j at ws ks fit inside is free lt other le below clear i within which =
    let inside' : j < length h.numbers = subst (IsIn h) is inside in
    let ne : (j == i) ≡ false = elim which [
      | inl e ↦ subst (λ (k : ℕ). (j == k) ≡ false) (sym e) other
      | inr above ↦ eqb_other j i (λ e. absurd (omega arith))
    ] in
    let which' : (i ≡ slot) ⊎ (top ≤ i) = elim which [ inl e ↦ inl e | inr above ↦ inr (omega arith) ] in
    none_clear (numbered h i) h ws at ks (ap (λ w. has (numbered h i) (meaning h w)) is ∙ has_var h j i fit inside' within free ∙ ne) (clear i within which')

pub int_clear : (h : Heap) (top slot : ℕ) → (n : _) → (at : Word) (ws : List Word) (ks : List ℕ) → at ≡ Int n
    → SeenClear top slot h (ws ++ at ∷ []) ks → SeenClear top slot h ws ks
int_clear h top slot n at ws ks is clear i within which =
    none_clear (numbered h i) h ws at ks (ap (λ w. has (numbered h i) (meaning h w)) is ∙ ap (has (numbered h i)) (bound-int (bindings h) n)) (clear i within which)

pub atom_clear : (h : Heap) (top slot a : ℕ) (at : Word) (ws : List Word) (ks : List ℕ) → at ≡ Atom a
    → SeenClear top slot h (ws ++ at ∷ []) ks → SeenClear top slot h ws ks
atom_clear h top slot a at ws ks is clear i within which =
    none_clear (numbered h i) h ws at ks
    (ap (λ w. has (numbered h i) (meaning h w)) is ∙ ap (has (numbered h i)) (bound-atom (bindings h) (atom_name a))) (clear i within which)
