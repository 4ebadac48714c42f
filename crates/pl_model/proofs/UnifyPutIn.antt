-- Replacing a variable in terms, and in the lists of their nodes.
use Rattle.std.proofs.lemmas.List.{take_more}
use Rattle.std.proofs.Common.{◌≡◌, ℕ, ◌+◌, ◌<◌, length, take, get_or, suc, Bool, true, false, cond, ◌||◌, ◌==◌, List, [], ◌∷◌, ◌++◌, refl, sym, ap, ap₂, ◌∙◌, append_assoc, append-nil}
use Rattle.std.specs.List.{list_any}
use Rattle.pl_term.specs.declared.node.Node.{Node}
use Rattle.pl_term.specs.declared.node.Node.TheVariants.{Var, Comp}
use Rattle.pl_term.specs.Tree.{Tree, Trees, var, int, atom, comp, none, more}
use Rattle.pl_term.specs.Nodes.{nodes, nodes_all}
use Rattle.pl_term.specs.Variables.{has, has_all, occurrences, occurrences_all, replace, replace_all}
use Rattle.pl_model.proofs.UnifyReplace.{cond_cases, or-false, is_in-append, count-replace}
use Rattle.pl_model.specs.laws.UnifySides.{is_variable, put_in}

pub put_in-append : (x : ℕ) (s ns ms : List Node) → put_in x s (ns ++ ms) ≡ put_in x s ns ++ put_in x s ms
put_in-append x s [] ms = refl
put_in-append x s (n ∷ ns) ms =
    ap (λ l. cond (is_variable x n) s (n ∷ []) ++ l) (put_in-append x s ns ms)
    ∙ sym (append_assoc (cond (is_variable x n) s (n ∷ [])) (put_in x s ns) (put_in x s ms))

-- Nothing is put in where the variable does not occur.
pub put_in-absent : (x : ℕ) (s ns : List Node) → list_any (is_variable x) ns ≡ false → put_in x s ns ≡ ns
put_in-absent x s [] h = refl
put_in-absent x s (n ∷ ns) h =
    let p = or-false (is_variable x n) (list_any (is_variable x) ns) h in
    ap₂ (λ b l. cond b s (n ∷ []) ++ l) p.0 (put_in-absent x s ns p.1)

mutual
  pub put_in-nodes : (t : Tree) (x : ℕ) (s : Tree) → put_in x (nodes s) (nodes t) ≡ nodes (replace x s t)
  put_in-nodes (var y) x s =
      append-nil (cond (x == y) (nodes s) (Var y ∷ []))
      ∙ cond_cases (λ u. cond (x == y) (nodes s) (Var y ∷ []) ≡ nodes u) (x == y)
      (λ e. ap (λ b. cond b (nodes s) (Var y ∷ [])) e) (λ e. ap (λ b. cond b (nodes s) (Var y ∷ [])) e)
  put_in-nodes (int i) x s = refl
  put_in-nodes (atom a) x s = refl
  put_in-nodes (comp f t ts) x s =
      ap₂ (λ k l. Comp f (suc k) ∷ l) (sym (count-replace ts x s))
      (put_in-append x (nodes s) (nodes t) (nodes_all ts) ∙ ap₂ ◌++◌ (put_in-nodes t x s) (put_in-nodes_all ts x s))

  pub put_in-nodes_all : (ts : Trees) (x : ℕ) (s : Tree) → put_in x (nodes s) (nodes_all ts) ≡ nodes_all (replace_all x s ts)
  put_in-nodes_all none x s = refl
  put_in-nodes_all (more t ts) x s =
      put_in-append x (nodes s) (nodes t) (nodes_all ts) ∙ ap₂ ◌++◌ (put_in-nodes t x s) (put_in-nodes_all ts x s)

list_any-append : (x : ℕ) (ns ms : List Node) → list_any (is_variable x) (ns ++ ms) ≡ (list_any (is_variable x) ns || list_any (is_variable x) ms)
list_any-append x [] ms = refl
list_any-append x (n ∷ ns) ms = go (list_any-append x ns ms) (is_variable x n)
  where
    go : list_any (is_variable x) (ns ++ ms) ≡ (list_any (is_variable x) ns || list_any (is_variable x) ms)
        → (b : Bool) → (b || list_any (is_variable x) (ns ++ ms)) ≡ ((b || list_any (is_variable x) ns) || list_any (is_variable x) ms)
    go e true = refl
    go e false = e

mutual
  -- A variable occurs in a term where it is one of its nodes.
  pub list_any-nodes : (t : Tree) (x : ℕ) → list_any (is_variable x) (nodes t) ≡ has x t
  list_any-nodes (var y) x = refl
  list_any-nodes (int i) x = refl
  list_any-nodes (atom a) x = refl
  list_any-nodes (comp f t ts) x =
      list_any-append x (nodes t) (nodes_all ts) ∙ ap₂ ◌||◌ (list_any-nodes t x) (list_any-nodes_all ts x)
      ∙ sym (is_in-append x (occurrences t) (occurrences_all ts))

  pub list_any-nodes_all : (ts : Trees) (x : ℕ) → list_any (is_variable x) (nodes_all ts) ≡ has_all x ts
  list_any-nodes_all none x = refl
  list_any-nodes_all (more t ts) x =
      list_any-append x (nodes t) (nodes_all ts) ∙ ap₂ ◌||◌ (list_any-nodes t x) (list_any-nodes_all ts x)
      ∙ sym (is_in-append x (occurrences t) (occurrences_all ts))

-- One more node.
pub put_in_more : (x : ℕ) (s ns : List Node) (i : ℕ) (n : Node) → i < length ns → n ≡ get_or ns i n
    → put_in x s (take (i + 1) ns) ≡ put_in x s (take i ns) ++ cond (is_variable x n) s (n ∷ [])
put_in_more x s ns i n h e =
    ap (put_in x s) (take_more ns i n h ∙ ap (λ m. take i ns ++ m ∷ []) (sym e))
    ∙ put_in-append x s (take i ns) (n ∷ []) ∙ ap (λ l. put_in x s (take i ns) ++ l) (append-nil (cond (is_variable x n) s (n ∷ [])))
