-- The names of the terms of a store.
use Rattle.std.proofs.Common.{◌≡◌, ℕ, zero, suc, ◌==◌, Bool, true, false, List, [], ◌∷◌, ◌++◌, get_or, map, drop, flat_map, refl, ap, ap₂, ◌∙◌, if◌then◌else◌}
use Rattle.std.specs.List.{All}
use Rattle.std.proofs.lemmas.List.Concat.{flat_map-append}
use Rattle.std.proofs.lemmas.List.Elements.{All-cons, All-drop, All-head, All-nil, All-tail, All-take, All-weaker}
use Rattle.pl_term.specs.Tree.{Chars, Tree, Trees, var, int, atom, comp, none, more, trees, compound}
use Rattle.pl_term.specs.Variables.{replace, replace_all}
use Rattle.pl_term.specs.declared.node.Node.{Node}
use Rattle.pl_term.specs.declared.node.Node.TheVariants as terms
use Rattle.pl_term.specs.Nodes.{nodes, nodes_all}
use Rattle.pl_model.specs.Unify.{Bindings, bound}
use Rattle.term_store.specs.declared.words.Word.{Word}
use Rattle.term_store.specs.declared.words.Word.TheVariants.{Var, Int, Atom, Comp}
use Rattle.term_store.specs.declared.words.Head.{Head}
use Rattle.term_store.specs.declared.words.Bond.{Bond}
use Rattle.term_store.specs.declared.nodes.AtomNode.{AtomNode}
use Rattle.term_store.specs.declared.nodes.AtomNode.TheVariants as over
use Rattle.term_store.specs.Heap.{Heap, atom_name, built, compounds, raw, equations, equations_of, solved, bindings, meaning, word_tree, words_of}
use Rattle.term_store.specs.Live.{head_atoms, heap_atoms, node_atoms, word_atoms}
use Rattle.term_store.specs.Nodes.{node_view, node_views}
use Rattle.term_store.specs.NumberedNames.{atoms_in, atoms_in_all, number_of, spelled, spelled_all}

-- Each name of the term has the property.
abbrev mutual
  pub Names : (Chars → Type 0) → Tree → Type 0
  Names P (var x) = Unit {0}
  Names P (int i) = Unit {0}
  Names P (atom a) = P a
  Names P (comp f t ts) = P f × (Names P t × NamesAll P ts)

  pub NamesAll : (Chars → Type 0) → Trees → Type 0
  NamesAll P none = Unit {0}
  NamesAll P (more t ts) = Names P t × NamesAll P ts

abbrev NamesEach : (Chars → Type 0) → Bindings → Type 0
NamesEach P [] = Unit {0}
NamesEach P (b ∷ bs) = Names P b.1 × NamesEach P bs

-- A heap of which each atom that the cells name has the property, as the empty name has.
module _ (P : Chars → Type 0) (empty : P []) where
  names_compound : (f : Chars) (ts : List Tree) → P f → NamesAll P (trees ts) → Names P (compound f ts)
  names_compound f [] p n = p
  names_compound f (t ∷ ts) p n = (p, n)

  names_at : (ts : List Tree) (k : ℕ) → NamesAll P (trees ts) → Names P (get_or ts k (atom []))
  names_at [] k n = empty
  names_at (t ∷ ts) zero n = n.0
  names_at (t ∷ ts) (suc k) n = names_at ts k n.1

  names_push : (ts : List Tree) (t : Tree) → NamesAll P (trees ts) → Names P t → NamesAll P (trees (ts ++ t ∷ []))
  names_push [] t n m = (m, tt)
  names_push (u ∷ ts) t n m = (n.0, names_push ts t n.1 m)

  -- Replacing variables by terms whose names have it.
  module _ (x : ℕ) (u : Tree) (value : Names P u) where
    mutual
      names_replaced : (t : Tree) → Names P t → Names P (replace x u t)
      names_replaced (var y) n = go (x == y)
        where
          go : (b : Bool) → Names P (if b then u else var y)
          go true = value
          go false = tt
      names_replaced (int i) n = tt
      names_replaced (atom a) n = n
      names_replaced (comp f t ts) n = (n.0, (names_replaced t n.1.0, names_all_replaced ts n.1.1))

      names_all_replaced : (ts : Trees) → NamesAll P ts → NamesAll P (replace_all x u ts)
      names_all_replaced none n = tt
      names_all_replaced (more t ts) n = (names_replaced t n.0, names_all_replaced ts n.1)

  names_bound : (bs : Bindings) (t : Tree) → NamesEach P bs → Names P t → Names P (bound bs t)
  names_bound [] t each n = n
  names_bound (b ∷ bs) t each n = names_bound bs (replace b.0 b.1 t) each.1 (names_replaced b.0 b.1 each.0 t n)

  names_after : (bs : Bindings) (x : ℕ) (t : Tree) → NamesEach P bs → Names P t → NamesEach P (bs ++ (x, t) ∷ [])
  names_after [] x t each n = (n, tt)
  names_after (b ∷ bs) x t each n = (each.0, names_after bs x t each.1 n)

  names_solved : (bs es : Bindings) → NamesEach P bs → NamesEach P es → NamesEach P (solved bs es)
  names_solved bs [] before each = tt
  names_solved bs (e ∷ es) before each =
      let here : Names P (bound bs e.1) = names_bound bs e.1 before each.0 in
      (here, names_solved (bs ++ (e.0, bound bs e.1) ∷ []) es (names_after bs e.0 (bound bs e.1) before here) each.1)

  abbrev pub HasWord : Word → Type 0
  HasWord w = All (λ a. P (atom_name a)) (word_atoms w)

  module _ (ns : List ℕ) (ts : List Tree) (done : NamesAll P (trees ts)) where
    names_word : (w : Word) → HasWord w → Names P (word_tree ns ts w)
    names_word (Var i) all = tt
    names_word (Int i) all = tt
    names_word (Atom a) all = All-head (λ b. P (atom_name b)) a [] all
    names_word (Comp k) all = names_at ts k done

    names_words : (ws : List Word) → All HasWord ws → NamesAll P (trees (map (word_tree ns ts) ws))
    names_words [] all = tt
    names_words (w ∷ ws) all = (names_word w (All-head HasWord w ws all), names_words ws (All-tail HasWord w ws all))

  names_built : (ns : List ℕ) (ws : List Word) (hs : List Head) (ts : List Tree) → All HasWord ws → All (λ g. P (atom_name g.name)) hs
      → NamesAll P (trees ts) → NamesAll P (trees (built ns ws hs ts))
  names_built ns ws [] ts words heads done = done
  names_built ns ws (g ∷ gs) ts words heads done =
      let made : List Tree = map (word_tree ns ts) (words_of ws g) in
      names_built ns ws gs (ts ++ compound (atom_name g.name) made ∷ []) words (All-tail (λ f. P (atom_name f.name)) g gs heads)
      (names_push ts (compound (atom_name g.name) made) done
      (names_compound (atom_name g.name) made (All-head (λ f. P (atom_name f.name)) g gs heads)
      (names_words ns ts done (words_of ws g) (All-take HasWord g.count (drop g.start ws) (All-drop HasWord g.start ws words)))))

  names_equations : (ns : List ℕ) (ts : List Tree) (bs : List Bond) → NamesAll P (trees ts) → All (λ b. HasWord b.word) bs → NamesEach P (equations_of ns ts bs)
  names_equations ns ts [] done all = tt
  names_equations ns ts (b ∷ bs) done all = (
    names_word ns ts done b.word (All-head (λ c. HasWord c.word) b bs all),
    names_equations ns ts bs done (All-tail (λ c. HasWord c.word) b bs all),
  )

  pub names_meaning : (h : Heap) (w : Word) → All (λ g. P (atom_name g.name)) h.heads → All HasWord h.args → All (λ b. HasWord b.word) h.trail → HasWord w
      → Names P (meaning h w)
  unfolding bindings compounds
  names_meaning h w heads args trail own =
      let done : NamesAll P (trees (compounds h.numbers h.args h.heads)) = names_built h.numbers h.args h.heads [] args heads tt in
      names_bound (bindings h) (raw h w)
      (names_solved [] (equations h) tt (names_equations h.numbers (compounds h.numbers h.args h.heads) h.trail done trail))
      (names_word h.numbers (compounds h.numbers h.args h.heads) done w own)

module _ (Q : ℕ → Type 0) where
  pub left_all : (xs ys : List ℕ) → All Q (xs ++ ys) → All Q xs
  left_all [] ys all = All-nil Q
  left_all (x ∷ xs) ys all = All-cons Q x xs (All-head Q x (xs ++ ys) all) (left_all xs ys (All-tail Q x (xs ++ ys) all))

  pub right_all : (xs ys : List ℕ) → All Q (xs ++ ys) → All Q ys
  right_all [] ys all = all
  right_all (x ∷ xs) ys all = right_all xs ys (All-tail Q x (xs ++ ys) all)

  pub each_all : {X : Type 0} (f : X → List ℕ) (xs : List X) → All Q (flat_map f xs) → All (λ x. All Q (f x)) xs
  each_all f [] all = All-nil (λ x. All Q (f x))
  each_all f (x ∷ xs) all =
      All-cons (λ y. All Q (f y)) x xs (left_all (f x) (flat_map f xs) all) (each_all f xs (right_all (f x) (flat_map f xs) all))

-- All names of a term at a place are the empty one, or those of the atoms that the cells and the place name.
pub names_of_meaning : (P : Chars → Type 0) → P [] → (h : Heap) (w : Word) → All (λ a. P (atom_name a)) (word_atoms w ++ heap_atoms h)
    → Names P (meaning h w)
names_of_meaning P empty h w all =
    let Q : ℕ → Type 0 = λ a. P (atom_name a) in
    let names = flat_map head_atoms h.heads in
    let words = flat_map word_atoms h.args in
    let bonds = flat_map (λ b. word_atoms b.word) h.trail in
    let cells : All Q (heap_atoms h) = right_all Q (word_atoms w) (heap_atoms h) all in
    let behind : All Q (words ++ bonds) = right_all Q names (words ++ bonds) cells in
    names_meaning P empty h w
    (All-weaker (λ g. All Q (head_atoms g)) (λ g. P (atom_name g.name)) (λ g one. All-head Q g.name [] one) h.heads
    (each_all Q head_atoms h.heads (left_all Q names (words ++ bonds) cells)))
    (each_all Q word_atoms h.args (left_all Q words bonds behind))
    (each_all Q (λ b. word_atoms b.word) h.trail (right_all Q words bonds behind))
    (left_all Q (word_atoms w) (heap_atoms h) all)

-- Terms whose names two functions spell alike are spelled alike.
module _ (f g : Chars → Chars) where
  mutual
    names_spelled : (t : Tree) → Names (λ a. f a ≡ g a) t → spelled f t ≡ spelled g t
    names_spelled (var x) n = refl
    names_spelled (int i) n = refl
    names_spelled (atom a) n = ap atom n
    names_spelled (comp a t ts) n = ap₂ (λ b u. comp b u (spelled_all f ts)) n.0 (names_spelled t n.1.0) ∙ ap (comp (g a) (spelled g t)) (all_names_spelled ts n.1.1)

    all_names_spelled : (ts : Trees) → NamesAll (λ a. f a ≡ g a) ts → spelled_all f ts ≡ spelled_all g ts
    all_names_spelled none n = refl
    all_names_spelled (more t ts) n = ap₂ more (names_spelled t n.0) (all_names_spelled ts n.1)

pub spelled_alike : (f g : Chars → Chars) → f [] ≡ g [] → (h : Heap) (w : Word) → All (λ a. f (atom_name a) ≡ g (atom_name a)) (word_atoms w ++ heap_atoms h)
    → spelled f (meaning h w) ≡ spelled g (meaning h w)
spelled_alike f g empty h w all = names_spelled f g (meaning h w) (names_of_meaning (λ a. f a ≡ g a) empty h w all)

-- The atoms of a term's nodes are those that it names.
abbrev node_names : Node → List ℕ
node_names (terms.Var x) = []
node_names (terms.Int i) = []
node_names (terms.Atom f) = number_of f ∷ []
node_names (terms.Comp f k) = number_of f ∷ []

same_names : (n : AtomNode) → node_atoms n ≡ node_names (node_view n)
same_names (over.Var x) = refl
same_names (over.Int i) = refl
same_names (over.Atom a) = refl
same_names (over.Comp a k) = refl

same_atoms : (ns : List AtomNode) → flat_map node_atoms ns ≡ flat_map node_names (node_views ns)
same_atoms [] = refl
same_atoms (n ∷ ns) = ap₂ ◌++◌ (same_names n) (same_atoms ns)

mutual
  nodes_name : (t : Tree) → flat_map node_names (nodes t) ≡ atoms_in t
  nodes_name (var x) = refl
  nodes_name (int i) = refl
  nodes_name (atom a) = refl
  nodes_name (comp f t ts) =
      ap (λ l. number_of f ∷ l) (flat_map-append node_names (nodes t) (nodes_all ts) ∙ ap₂ ◌++◌ (nodes_name t) (nodes_all_name ts))

  nodes_all_name : (ts : Trees) → flat_map node_names (nodes_all ts) ≡ atoms_in_all ts
  nodes_all_name none = refl
  nodes_all_name (more t ts) = flat_map-append node_names (nodes t) (nodes_all ts) ∙ ap₂ ◌++◌ (nodes_name t) (nodes_all_name ts)

pub spelled_atoms : (ns : List AtomNode) (t : Tree) → node_views ns ≡ nodes t → flat_map node_atoms ns ≡ atoms_in t
spelled_atoms ns t e = same_atoms ns ∙ ap (flat_map node_names) e ∙ nodes_name t
