-- The nodes of a term, from its first node on.
use Rattle.std.proofs.Common.{◌≡◌, ℕ, suc, ◌-◌, ◌<◌, ◌≤◌, List, [], ◌∷◌, ◌++◌, length, get_or, map, reverse, drop, drop-cons, None, length-take, length-drop, refl, sym, ap, ap₂, subst, ◌∙◌, arith, append_assoc, append-nil}
use Rattle.std.specs.List.{All}
use Rattle.std.proofs.lemmas.List.{length-map, map-append}
use Rattle.std.proofs.lemmas.List.Elements.{All-append}
use Rattle.pl_term.specs.declared.node.Node.{Node}
use Rattle.pl_term.specs.declared.node.Node.TheVariants as terms
use Rattle.pl_term.specs.Tree.{Chars, Tree, trees, compound}
use Rattle.pl_term.specs.Nodes.{nodes, nodes_all}
use Rattle.pl_term.proofs.Spelled.{count-trees}
use Rattle.term_store.specs.declared.words.Head.{Head}
use Rattle.term_store.specs.declared.words.Word.{Word}
use Rattle.term_store.specs.declared.words.Word.TheVariants as words
use Rattle.term_store.specs.declared.nodes.AtomNode.{AtomNode}
use Rattle.term_store.specs.declared.nodes.AtomNode.TheVariants.{Var, Int, Atom, Comp}
use Rattle.term_store.specs.Heap.{Heap, atom_name, words_of, bindings, meaning, numbered, find}
use Rattle.term_store.specs.Fit.{IsIn, IsHead, Fit, no_head}
use Rattle.term_store.specs.Nodes.{node_view, node_views, standing}
use Rattle.term_store.proofs.Equations.{bound-int, bound-atom}
use Rattle.term_store.proofs.Following.{stands}
use Rattle.term_store.proofs.Occurring.{words_inside}
use Rattle.term_store.proofs.Opening.{opened}
use Rattle.term_store.proofs.Pairing.{reverse-cons}
use Rattle.term_store.proofs.Stacking.{All-reverse, standing-push, standing-split}

-- One more word is put on the stack.
pub word_pushed : (start old new : List Word) (ws : List Word) (i : ℕ) (w d : Word) → 0 < i → i ≤ length ws
    → old ≡ start ++ reverse (drop i ws) → new ≡ old ++ w ∷ [] → w ≡ get_or ws (i - 1) d
    → new ≡ start ++ reverse (drop (i - 1) ws)
word_pushed start old new ws i w d some within e f g =
    let up : suc (i - 1) ≡ i = omega arith in
    f ∙ ap₂ (λ vs v. vs ++ v ∷ []) e g ∙ append_assoc start (reverse (drop i ws)) (get_or ws (i - 1) d ∷ [])
    ∙ ap (λ vs. start ++ vs)
    (sym (reverse-cons (get_or ws (i - 1) d) (drop i ws))
    ∙ ap reverse (sym (drop-cons ws (i - 1) d (omega arith) ∙ ap (λ k. get_or ws (i - 1) d ∷ drop k ws) up)))

nodes_all-append : (ts us : List Tree) → nodes_all (trees (ts ++ us)) ≡ nodes_all (trees ts) ++ nodes_all (trees us)
nodes_all-append [] us = refl
nodes_all-append (t ∷ ts) us =
    ap (λ ns. nodes t ++ ns) (nodes_all-append ts us) ∙ sym (append_assoc (nodes t) (nodes_all (trees ts)) (nodes_all (trees us)))

-- The nodes of a compound term.
nodes-compound : (f : Chars) (ts : List Tree) → 0 < length ts → nodes (compound f ts) ≡ terms.Comp f (length ts) ∷ nodes_all (trees ts)
nodes-compound f [] some = absurd (omega arith)
nodes-compound f (t ∷ ts) some = ap (λ n. terms.Comp f (suc n) ∷ (nodes t ++ nodes_all (trees ts))) (count-trees ts)

views-push : (ns : List AtomNode) (n : AtomNode) → node_views (ns ++ n ∷ []) ≡ node_views ns ++ node_view n ∷ []
views-push ns n = map-append node_view ns (n ∷ [])

-- A node of a term without arguments.
leaf_pushed : (all all' : List AtomNode) (n : AtomNode) (t : Tree) (rest : List Node) → all' ≡ all ++ n ∷ [] → nodes t ≡ node_view n ∷ []
    → node_views all' ++ rest ≡ node_views all ++ (nodes t ++ rest)
leaf_pushed all all' n t rest e is =
    ap (λ ns. node_views ns ++ rest) e ∙ ap (λ ns. ns ++ rest) (views-push all n) ∙ append_assoc (node_views all) (node_view n ∷ []) rest
    ∙ ap (λ ns. node_views all ++ (ns ++ rest)) (sym is)

module _ (h : Heap) (fit : Fit h) (all all' : List AtomNode) (walk : List Word) where
  pub var_pushed : (slot : ℕ) (at : Word) (x : ℕ) → IsIn h at → at ≡ words.Var slot → find slot h.trail ≡ None → x ≡ numbered h slot
      → all' ≡ all ++ Var x ∷ [] → node_views all' ++ nodes_all (standing h walk) ≡ node_views all ++ (nodes (meaning h at) ++ nodes_all (standing h walk))
  var_pushed slot at x inside is free number e =
      leaf_pushed all all' (Var x) (meaning h at) (nodes_all (standing h walk)) e
      (ap (λ w. nodes (meaning h w)) is ∙ ap nodes (stands h slot fit (subst (IsIn h) is inside) free) ∙ ap (λ y. terms.Var y ∷ []) (sym number))

  pub int_pushed : (at : Word) → (i j : _) → at ≡ words.Int i → j ≡ i → all' ≡ all ++ Int j ∷ []
      → node_views all' ++ nodes_all (standing h walk) ≡ node_views all ++ (nodes (meaning h at) ++ nodes_all (standing h walk))
  int_pushed at i j is same e =
      leaf_pushed all all' (Int j) (meaning h at) (nodes_all (standing h walk)) e
      (ap (λ w. nodes (meaning h w)) is ∙ ap nodes (bound-int (bindings h) i) ∙ ap (λ n. terms.Int n ∷ []) (sym same))

  pub atom_pushed : (at : Word) (a : ℕ) → at ≡ words.Atom a → all' ≡ all ++ Atom a ∷ []
      → node_views all' ++ nodes_all (standing h walk) ≡ node_views all ++ (nodes (meaning h at) ++ nodes_all (standing h walk))
  atom_pushed at a is e =
      leaf_pushed all all' (Atom a) (meaning h at) (nodes_all (standing h walk)) e (ap (λ w. nodes (meaning h w)) is ∙ ap nodes (bound-atom (bindings h) (atom_name a)))

  pub comp_pushed : (at : Word) (k : ℕ) (g : Head) (walk' : List Word) → IsIn h at → at ≡ words.Comp k → g ≡ get_or h.heads k no_head
      → all' ≡ all ++ Comp g.name g.count ∷ [] → walk' ≡ walk ++ reverse (words_of h.args g)
      → node_views all' ++ nodes_all (standing h walk') ≡ node_views all ++ (nodes (meaning h at) ++ nodes_all (standing h walk))
  comp_pushed at k g walk' inside is head e f =
      let lt = subst (IsIn h) is inside in
      let ws = words_of h.args g in
      let ts = map (meaning h) ws in
      let fits = subst (λ e. IsHead (length h.numbers) h.args k e) (sym head) (fit.heads k lt) in
      let long : length ts ≡ g.count = length-map ws (meaning h) ∙ omega (arith, length-take g.count (drop g.start h.args), length-drop g.start h.args, fits.within) in
      let opened_term : nodes (meaning h at) ≡ terms.Comp (atom_name g.name) g.count ∷ nodes_all (trees ts) =
      ap (λ w. nodes (meaning h w)) is ∙ ap nodes (opened h k fit lt)
      ∙ ap (λ e. nodes (compound (atom_name e.name) (map (meaning h) (words_of h.args e)))) (sym head)
      ∙ nodes-compound (atom_name g.name) ts (omega (arith, long, fits.some))
      ∙ ap (λ n. terms.Comp (atom_name g.name) n ∷ nodes_all (trees ts)) long in
      ap₂ (λ ns us. node_views ns ++ nodes_all us) e (standing-split h walk' walk ws f)
      ∙ ap₂ (λ ns ms. ns ++ ms) (views-push all (Comp g.name g.count)) (nodes_all-append ts (map (meaning h) (reverse walk)))
      ∙ append_assoc (node_views all) (terms.Comp (atom_name g.name) g.count ∷ []) (nodes_all (trees ts) ++ nodes_all (standing h walk))
      ∙ ap (λ ns. node_views all ++ (ns ++ nodes_all (standing h walk))) (sym opened_term)

-- The words of the arguments are words of the heap.
pub reversed_inside : (h : Heap) (k : ℕ) (at : Word) (g : Head) (walk walk' : List Word) → Fit h → IsIn h at → at ≡ words.Comp k → g ≡ get_or h.heads k no_head
    → All (IsIn h) walk → walk' ≡ walk ++ reverse (words_of h.args g) → All (IsIn h) walk'
reversed_inside h k at g walk walk' fit inside is head all f =
    subst (λ ws. All (IsIn h) ws) (sym f)
    (All-append (IsIn h) walk (reverse (words_of h.args g)) all
    (All-reverse (IsIn h) (words_of h.args g) (subst (λ e. All (IsIn h) (words_of h.args e)) (sym head) (words_inside h k fit (subst (IsIn h) is inside)))))

-- The walk at its start, and as the last word is taken off the stack.
pub walk_begins : (h : Heap) (all : List AtomNode) (walk : List Word) (w : Word) → all ≡ [] → walk ≡ w ∷ []
    → node_views all ++ nodes_all (standing h walk) ≡ nodes (meaning h w)
walk_begins h all walk w e f =
    ap₂ (λ ns ws. node_views ns ++ nodes_all (standing h ws)) e f ∙ append-nil (nodes (meaning h w))

pub walk_ends : (h : Heap) (all : List AtomNode) (walk : List Word) (ns : List Node) → walk ≡ [] → node_views all ++ nodes_all (standing h walk) ≡ ns → node_views all ≡ ns
walk_ends h all walk ns e f = sym (append-nil (node_views all)) ∙ ap (λ ws. node_views all ++ nodes_all (standing h ws)) (sym e) ∙ f

pub walk_pops : (h : Heap) (all : List AtomNode) (walk left : List Word) (w at : Word) (ns : List Node) → walk ≡ left ++ w ∷ [] → meaning h at ≡ meaning h w
    → node_views all ++ nodes_all (standing h walk) ≡ ns → node_views all ++ (nodes (meaning h at) ++ nodes_all (standing h left)) ≡ ns
walk_pops h all walk left w at ns e same f =
    ap (λ t. node_views all ++ (nodes t ++ nodes_all (standing h left))) same
    ∙ ap (λ us. node_views all ++ nodes_all us) (sym (standing-push h left w))
    ∙ ap (λ ws. node_views all ++ nodes_all (standing h ws)) (sym e) ∙ f
