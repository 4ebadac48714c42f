-- The nodes of a term whose names are spelled otherwise, and the atoms that they name.
use Rattle.std.proofs.Common.{◌≡◌, ℕ, suc, List, [], ◌∷◌, ◌++◌, map, IsSome, Some, refl, sym, ap, ap₂, subst, ◌∙◌}
use Rattle.std.specs.List.{All, AllByRecursion}
use Rattle.std.proofs.lemmas.List.Elements.{All-from_recursion, recursion_from_All}
use Rattle.pl_term.specs.declared.node.Node.{Node}
use Rattle.pl_term.specs.declared.node.Node.TheVariants.{Comp}
use Rattle.pl_term.specs.Tree.{Chars, Tree, Trees, var, int, atom, comp, none, more, count}
use Rattle.pl_term.specs.Nodes.{nodes, nodes_all, tree, tree-nodes}
use Rattle.atom_api.specs.Names.{Names}
use Rattle.term_store.specs.declared.nodes.AtomNode.{AtomNode}
use Rattle.term_store.specs.Heap.{atom_name}
use Rattle.term_store.specs.Nodes.{node_view, node_views}
use Rattle.world_builtins.specs.Naming.{atoms_in, atoms_in_all}
use Rattle.world_builtins.specs.Nodes.{spelled_node, IsNodeHeld}
use Rattle.world_builtins.specs.Spelling.{spelled, spelled_all, text_of, or_no_text}

map_append : {A B : Type 0} (f : A → B) (xs ys : List A) → map f (xs ++ ys) ≡ map f xs ++ map f ys
map_append f [] ys = refl
map_append f (x ∷ xs) ys = ap (λ l. f x ∷ l) (map_append f xs ys)

count_spelled : (g : Chars → Chars) (ts : Trees) → count (spelled_all g ts) ≡ count ts
count_spelled g none = refl
count_spelled g (more t ts) = ap suc (count_spelled g ts)

mutual
  pub nodes_spelled : (g : Chars → Chars) (t : Tree) → nodes (spelled g t) ≡ map (spelled_node g) (nodes t)
  nodes_spelled g (var x) = refl
  nodes_spelled g (int i) = refl
  nodes_spelled g (atom a) = refl
  nodes_spelled g (comp f t ts) =
      ap (λ k. Comp (g f) (suc k) ∷ (nodes (spelled g t) ++ nodes_all (spelled_all g ts))) (count_spelled g ts)
      ∙ ap (λ l. Comp (g f) (suc (count ts)) ∷ l) (ap₂ ◌++◌ (nodes_spelled g t) (all_nodes_spelled g ts) ∙ sym (map_append (spelled_node g) (nodes t) (nodes_all ts)))

  pub all_nodes_spelled : (g : Chars → Chars) (ts : Trees) → nodes_all (spelled_all g ts) ≡ map (spelled_node g) (nodes_all ts)
  all_nodes_spelled g none = refl
  all_nodes_spelled g (more t ts) = ap₂ ◌++◌ (nodes_spelled g t) (all_nodes_spelled g ts) ∙ sym (map_append (spelled_node g) (nodes t) (nodes_all ts))

-- The nodes of a term, spelled, are those of the term that is spelled so.
pub spells : (g : Chars → Chars) (t : Tree) (ns ds : List AtomNode) (all : List Node)
    → node_views ns ≡ nodes t → ds ≡ ns → all ≡ map (spelled_node g) (node_views ds) → all ≡ nodes (spelled g t)
spells g t ns ds all e same is = is ∙ ap (λ l. map (spelled_node g) (node_views l)) same ∙ ap (map (spelled_node g)) e ∙ sym (nodes_spelled g t)

pub same_tree : (t u : Tree) (all : List Node) → nodes t ≡ all → all ≡ nodes u → t ≡ u
same_tree t u all e is = sym (tree-nodes t) ∙ ap tree (e ∙ is) ∙ tree-nodes u

-- What is said of all elements, by recursion
parted : {A : Type 0} (P : A → Type 0) (xs ys : List A) → AllByRecursion P (xs ++ ys) → AllByRecursion P xs × AllByRecursion P ys
parted P [] ys h = (tt, h)
parted P (x ∷ xs) ys h = let r : AllByRecursion P xs × AllByRecursion P ys = parted P xs ys h.1 in ((h.0, r.0), r.1)

united : {A : Type 0} (P : A → Type 0) (xs ys : List A) → AllByRecursion P xs → AllByRecursion P ys → AllByRecursion P (xs ++ ys)
united P [] ys h i = i
united P (x ∷ xs) ys h i = (h.0, united P xs ys h.1 i)

unmapped : {A B : Type 0} (P : B → Type 0) (f : A → B) (xs : List A) → AllByRecursion P (map f xs) → AllByRecursion (λ x. P (f x)) xs
unmapped P f [] h = tt
unmapped P f (x ∷ xs) h = (h.0, unmapped P f xs h.1)

mutual
  held_nodes : (m : Names) (t : Tree) → AllByRecursion (λ a. IsSome (m a)) (atoms_in t) → AllByRecursion (IsNodeHeld m) (nodes t)
  held_nodes m (var x) h = (tt, tt)
  held_nodes m (int i) h = (tt, tt)
  held_nodes m (atom a) h = (h.0, tt)
  held_nodes m (comp f t ts) h =
      let r : AllByRecursion (λ a. IsSome (m a)) (atoms_in t) × AllByRecursion (λ a. IsSome (m a)) (atoms_in_all ts) = parted (λ a. IsSome (m a)) (atoms_in t) (atoms_in_all ts) h.1
      in (h.0, united (IsNodeHeld m) (nodes t) (nodes_all ts) (held_nodes m t r.0) (all_held_nodes m ts r.1))

  all_held_nodes : (m : Names) (ts : Trees) → AllByRecursion (λ a. IsSome (m a)) (atoms_in_all ts) → AllByRecursion (IsNodeHeld m) (nodes_all ts)
  all_held_nodes m none h = tt
  all_held_nodes m (more t ts) h =
      let r : AllByRecursion (λ a. IsSome (m a)) (atoms_in t) × AllByRecursion (λ a. IsSome (m a)) (atoms_in_all ts) = parted (λ a. IsSome (m a)) (atoms_in t) (atoms_in_all ts) h
      in united (IsNodeHeld m) (nodes t) (nodes_all ts) (held_nodes m t r.0) (all_held_nodes m ts r.1)

-- Where the atoms of a term are held, those of its nodes are.
pub nodes_held : (m : Names) (t : Tree) (ns : List AtomNode) → node_views ns ≡ nodes t → All (λ a. IsSome (m a)) (atoms_in t) → All (λ n. IsNodeHeld m (node_view n)) ns
nodes_held m t ns e h =
    All-from_recursion (λ n. IsNodeHeld m (node_view n)) ns
    (unmapped (IsNodeHeld m) node_view ns
    (subst (AllByRecursion (IsNodeHeld m)) (sym e) (held_nodes m t (recursion_from_All (λ a. IsSome (m a)) (atoms_in t) h))))

-- The text of an atom that is held.
pub text_is : (m : Names) (a : ℕ) (t : Chars) → m a ≡ Some t → text_of m (atom_name a) ≡ t
text_is m a t e = ap (or_no_text (atom_name a)) e
