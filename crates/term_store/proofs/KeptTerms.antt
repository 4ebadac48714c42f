-- Stored terms by the lists of their nodes.
use Rattle.std.proofs.Common.{◌≡◌, ℕ, zero, suc, ◌<◌, ◌≤◌, Bool, true, false, cond, ◌&&◌, ◌==◌, List, [], ◌∷◌, ◌++◌, length, get_or, map, refl, sym, ap, ap₂, ◌∙◌, arith, append_assoc}
use Rattle.std.specs.Option.{is_some}
use Rattle.std.proofs.lemmas.Bool.{false≢true}
use Rattle.std.proofs.lemmas.List.{length-map}
use Rattle.pl_term.specs.declared.node.Node.{Node}
use Rattle.pl_term.specs.declared.node.Node.TheVariants as terms
use Rattle.pl_term.specs.Tree.{Chars, Tree, Trees, var, int, atom, comp, none, more, count}
use Rattle.pl_term.specs.Nodes.{nodes, nodes_all, tree, tree-nodes}
use Rattle.pl_term.specs.Cells.{cells}
use Rattle.pl_model.proofs.KeptKeys.{not_two}
use Rattle.pl_model.proofs.UnifyNodes.{length-nodes_pos}
use Rattle.pl_term.specs.Variables.{rename, variables}
use Rattle.pl_model.specs.FirstArguments.{unify_apart}
use Rattle.pl_model.specs.Unify.{unify}
use Rattle.term_store.specs.Contents.{Contents, Unified, term_at}
use Rattle.term_store.specs.declared.words.Place.{Place}
use Rattle.term_store.specs.declared.nodes.AtomNode.{AtomNode}
use Rattle.term_store.specs.declared.nodes.AtomNode.TheVariants.{Var, Int, Atom, Comp}
use Rattle.term_store.specs.ArgumentKeys.{argument_key, begins_rule, clause_key, first_key, head_key, head_nodes}
use Rattle.term_store.specs.Heap.{atom_name}
use Rattle.term_store.specs.NameUnification.{count-spelled}
use Rattle.term_store.specs.Nodes.{node_view, node_views}
use Rattle.term_store.specs.NumberedNames.{by_number, is_rule_term, neck, number_of, spelled_all, unify_by_number}

pub some_nodes : (ns : List AtomNode) (t : Tree) → node_views ns ≡ nodes t → 0 < length ns
some_nodes ns t e = omega (arith, length-map ns node_view, ap (length {A = Node}) e, length-nodes_pos t)

-- The first node

pub begins_is : (t : Tree) (d : Node) → begins_rule (get_or (nodes t) 0 d) ≡ is_rule_term t
begins_is (var x) d = refl
begins_is (int i) d = refl
begins_is (atom a) d = refl
begins_is (comp f t none) d = refl
begins_is (comp f t (more u none)) d = refl
begins_is (comp f t (more u (more v ts))) d = ap (λ b. b && (number_of f == neck)) (not_two (count ts))

pub first_view : (ns : List AtomNode) (d : AtomNode) → 0 < length ns → node_view (get_or ns 0 d) ≡ get_or (node_views ns) 0 (node_view d)
first_view [] d lt = refl
first_view (n ∷ ns) d lt = refl

pub first_view_any : (ns : List AtomNode) (n : AtomNode) (d : Node) → 0 < length ns → node_view (get_or ns 0 n) ≡ get_or (node_views ns) 0 d
first_view_any [] n d lt = absurd (omega (arith, lt))
first_view_any (m ∷ ns) n d lt = refl

pub rule_begins : (ns : List AtomNode) (d : AtomNode) (t : Tree) → node_views ns ≡ nodes t → begins_rule (node_view (get_or ns 0 d)) ≡ is_rule_term t
rule_begins ns d t e =
    ap begins_rule (first_view ns d (some_nodes ns t e)) ∙ ap (λ ms. begins_rule (get_or ms 0 (node_view d))) e ∙ begins_is t (node_view d)

pub rule_large : (t : Tree) → is_rule_term t ≡ true → 3 ≤ cells t
rule_large (var x) e = absurd (false≢true e)
rule_large (int i) e = absurd (false≢true e)
rule_large (atom a) e = absurd (false≢true e)
rule_large (comp f t none) e = absurd (false≢true e)
rule_large (comp f t (more u none)) e = omega arith
rule_large (comp f t (more u (more v ts))) e = absurd (false≢true e)

-- Keys

key-argument : (f : List ℕ) (k : ℕ) (t : Tree) (ns : List Node) → first_key (terms.Comp f k ∷ (nodes t ++ ns)) ≡ argument_key t
key-argument f k (var x) ns = refl
key-argument f k (int i) ns = refl
key-argument f k (atom a) ns = refl
key-argument f k (comp g t ts) ns = refl

key-nodes : (t : Tree) (ns : List Node) → first_key (nodes t ++ ns) ≡ head_key t
key-nodes (var x) ns = refl
key-nodes (int i) ns = refl
key-nodes (atom a) ns = refl
key-nodes (comp f t ts) ns =
    ap (λ ms. first_key (terms.Comp f (suc (count ts)) ∷ ms)) (append_assoc (nodes t) (nodes_all ts) ns)
    ∙ key-argument f (suc (count ts)) t (nodes_all ts ++ ns)

pub key-head : (t : Tree) → first_key (head_nodes (nodes t)) ≡ clause_key t
key-head (var x) = refl
key-head (int i) = refl
key-head (atom a) = refl
key-head (comp f t none) = key-argument f 1 t []
key-head (comp f t (more u none)) = go (number_of f == neck)
  where
    go : (b : Bool)
        → first_key (cond b (nodes t ++ (nodes u ++ [])) (terms.Comp f 2 ∷ (nodes t ++ (nodes u ++ []))))
        ≡ head_key (cond b t (comp f t (more u none)))
    go true = key-nodes t (nodes u ++ [])
    go false = key-argument f 2 t (nodes u ++ [])
key-head (comp f t (more u (more v ts))) =
    ap (λ b. first_key (cond (b && (number_of f == neck)) (nodes t ++ (nodes u ++ (nodes v ++ nodes_all ts))) (terms.Comp f (suc (suc (suc (count ts)))) ∷ (nodes t ++ (nodes u ++ (nodes v ++ nodes_all ts))))))
    (not_two (count ts))
    ∙ key-argument f (suc (suc (suc (count ts)))) t (nodes u ++ (nodes v ++ nodes_all ts))

-- Each name of a stored term is that of an atom

abbrev named : Chars → Chars
named f = atom_name (number_of f)

abbrev number_node : Node → Node
number_node (terms.Var x) = terms.Var x
number_node (terms.Int i) = terms.Int i
number_node (terms.Atom a) = terms.Atom (atom_name (number_of a))
number_node (terms.Comp f k) = terms.Comp (atom_name (number_of f)) k

number-append : (xs ys : List Node) → map number_node (xs ++ ys) ≡ map number_node xs ++ map number_node ys
number-append [] ys = refl
number-append (x ∷ xs) ys = ap (λ zs. number_node x ∷ zs) (number-append xs ys)

mutual
  nodes-numbered : (t : Tree) → nodes (by_number t) ≡ map number_node (nodes t)
  nodes-numbered (var x) = refl
  nodes-numbered (int i) = refl
  nodes-numbered (atom a) = refl
  nodes-numbered (comp f t ts) =
      ap₂ (λ n ns. terms.Comp (named f) (suc n) ∷ ns) (count-spelled named ts)
      (ap₂ ◌++◌ (nodes-numbered t) (nodes_all-numbered ts) ∙ sym (number-append (nodes t) (nodes_all ts)))

  nodes_all-numbered : (ts : Trees) → nodes_all (spelled_all named ts) ≡ map number_node (nodes_all ts)
  nodes_all-numbered none = refl
  nodes_all-numbered (more t ts) =
      ap₂ ◌++◌ (nodes-numbered t) (nodes_all-numbered ts) ∙ sym (number-append (nodes t) (nodes_all ts))

viewed : (n : AtomNode) → number_node (node_view n) ≡ node_view n
viewed (Var x) = refl
viewed (Int i) = refl
viewed (Atom a) = refl
viewed (Comp f k) = refl

all_viewed : (ns : List AtomNode) → map number_node (node_views ns) ≡ node_views ns
all_viewed [] = refl
all_viewed (n ∷ ns) = ap₂ (λ m ms. m ∷ ms) (viewed n) (all_viewed ns)

pub stored_names : (t : Tree) (ns : List AtomNode) → node_views ns ≡ nodes t → by_number t ≡ t
stored_names t ns e =
    sym (tree-nodes (by_number t))
    ∙ ap tree (nodes-numbered t ∙ ap (map number_node) (sym e) ∙ all_viewed ns ∙ e)
    ∙ tree-nodes t

-- Two terms that were built in a store, and unified there.
pub unified_apart : (r : Bool) (left right : Tree) (s u : Contents) (a b : Place) → by_number left ≡ left → by_number right ≡ right
    → term_at s a ≡ rename zero left → term_at s b ≡ rename (length (variables left)) right
    → Unified r s a b u → r ≡ unify_by_number left right
unfolding unify_apart
unified_apart true left right s u a b left_named right_named at_a at_b is =
    sym (ap₂ (λ t w. is_some (unify (rename zero t) (rename (length (variables t)) w))) left_named right_named
    ∙ ap₂ (λ t w. is_some (unify t w)) (sym at_a) (sym at_b) ∙ ap is_some is.1.0)
unified_apart false left right s u a b left_named right_named at_a at_b is =
    sym (ap₂ (λ t w. is_some (unify (rename zero t) (rename (length (variables t)) w))) left_named right_named
    ∙ ap₂ (λ t w. is_some (unify t w)) (sym at_a) (sym at_b) ∙ ap is_some is.0)
