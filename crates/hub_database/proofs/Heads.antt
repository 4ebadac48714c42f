-- The predicate of a clause's head, by the number of its name and by its text.
use Rattle.std.proofs.Common.{◌≡◌, ℕ, suc, Bool, true, false, cond, ◌&&◌, ◌==◌, List, [], ◌∷◌, ◌++◌, get_or, refl, sym, ap, ap₂, ◌∙◌, subst, Option, Some, None}
use Rattle.std.specs.Prelude.{bytes_eq, codes, IsSome, IfSome}
use Rattle.std.specs.List.{All}
use Rattle.std.proofs.lemmas.Bool.Decides.{Decides-eqb}
use Rattle.std.proofs.lemmas.Slice.Eq.{bytes_eq-Decides}
use Rattle.std.proofs.lemmas.List.Elements.{All-nil, All-cons, All-head, All-tail}
use Rattle.pl_term.specs.declared.node.Node.{Node}
use Rattle.pl_term.specs.declared.node.Node.TheVariants.{Comp}
use Rattle.pl_term.specs.Tree.{Chars, Tree, var, int, atom, comp, none, more, count}
use Rattle.pl_term.specs.Nodes.{nodes, nodes_all}
use Rattle.pl_model.specs.History.{head_part}
use Rattle.pl_model.specs.Predicates.{proc_of}
use Rattle.pl_model.proofs.KeptKeys.{not_two}
use Rattle.atom_api.specs.Fixed.{fixed, fixed_texts}
use Rattle.atom_api.specs.Names.{Names}
use Rattle.atom_table.specs.Naming.{Lawful}
use Rattle.term_store.specs.ArgumentKeys.{head_in, head_nodes}
use Rattle.term_store.specs.Nodes.{node_view}
use Rattle.term_store.specs.declared.nodes.AtomNode.{AtomNode}
use Rattle.term_store.specs.KeptLaws.{head_is}
use Rattle.term_store.specs.NumberedNames.{atoms_in, atoms_in_all, names_of, neck, number_of, spelled_all, text_by, with_neck}
use Rattle.world_api.specs.Texts.{or_no_text, text_of}
use Rattle.world_api.specs.Visits.{proc_named}
use Rattle.world_api.specs.declared.visit.Procedure.{Procedure}
use Rattle.counted_terms.specs.CountedTerms.{said}
use Rattle.counted_terms.proofs.Comparing.{texts_apart}
use Rattle.hub_database.specs.Heads.{node_procedure, tree_procedure}
use Rattle.hub_database.proofs.Fronts.{head_same}

-- BY NODES
first_proc : (t : Tree) (ns : List Node) (d : Node) → node_procedure (get_or (nodes t ++ ns) 0 d) ≡ tree_procedure t
first_proc (var x) ns d = refl
first_proc (int i) ns d = refl
first_proc (atom a) ns d = refl
first_proc (comp f t ts) ns d = refl

head_node : (t : Tree) (d : Node) → node_procedure (get_or (head_nodes (nodes t)) 0 d) ≡ tree_procedure (head_in t)
head_node (var x) d = refl
head_node (int i) d = refl
head_node (atom a) d = refl
head_node (comp f t none) d = refl
head_node (comp f t (more u none)) d = go (number_of f == neck)
  where
    go : (b : Bool)
        → node_procedure (get_or (cond b (nodes t ++ (nodes u ++ [])) (Comp f 2 ∷ (nodes t ++ (nodes u ++ [])))) 0 d)
        ≡ tree_procedure (cond b t (comp f t (more u none)))
    go true = first_proc t (nodes u ++ []) d
    go false = refl
head_node (comp f t (more u (more v ts))) d =
    ap (λ b. node_procedure (get_or (cond (b && (number_of f == neck)) (nodes t ++ (nodes u ++ (nodes v ++ nodes_all ts))) (Comp f (suc (suc (suc (count ts)))) ∷ (nodes t ++ (nodes u ++ (nodes v ++ nodes_all ts))))) 0 d))
    (not_two (count ts))

-- the same of a node over atoms that is said to be the first one
pub head_first : (t : Tree) (n : AtomNode) → ((d : Node) → node_view n ≡ get_or (head_nodes (nodes t)) 0 d) → node_procedure (node_view n) ≡ tree_procedure (head_in t)
head_first t n is = ap node_procedure (is (node_view n)) ∙ head_node t (node_view n)

-- BY TEXTS
call_fixed : fixed 53 ≡ Some (codes "call")
unfolding fixed_texts
call_fixed = refl

neck_fixed : fixed neck ≡ Some (codes ":-")
unfolding fixed_texts
neck_fixed = refl

pub text_is : (m : Names) (a : ℕ) (t : Chars) → m a ≡ Some t → text_of m a ≡ t
text_is m a t e = ap (or_no_text a) e

with_neck-same : (text : ℕ → Chars) → text neck ≡ codes ":-" → (a : ℕ) → with_neck text a ≡ text a
with_neck-same text is a = go (a == neck) (bytes_eq (text a) (codes ":-")) refl refl
  where
    go : (b c : Bool) → (a == neck) ≡ b → bytes_eq (text a) (codes ":-") ≡ c
        → cond b (codes ":-") (cond c (text neck) (text a)) ≡ text a
    go true c d e = sym is ∙ ap text (sym ((Decides-eqb a neck).0 d))
    go false true d e = is ∙ sym ((bytes_eq-Decides (text a) (codes ":-")).0 e)
    go false false d e = refl

module _ (m : Names) (lawful : Lawful m) where
  neck_text : text_of m neck ≡ codes ":-"
  neck_text = text_is m neck (codes ":-") (lawful.stand neck (codes ":-") neck_fixed)

  call_text : text_of m 53 ≡ codes "call"
  call_text = text_is m 53 (codes "call") (lawful.stand 53 (codes "call") call_fixed)

  spelled_name : (f : Chars) → text_of m (number_of f) ≡ text_by (text_of m) f
  spelled_name f = sym (with_neck-same (text_of m) neck_text (number_of f))

  tree_says : (u : Tree) → IfSome (tree_procedure u) (λ p. proc_named (text_of m) p ≡ proc_of (said m u))
  tree_says (var x) = ap (λ t. record { name = t; arity = 1 }) call_text
  tree_says (int i) = tt
  tree_says (atom a) = ap (λ t. record { name = t; arity = 0 }) (spelled_name a)
  tree_says (comp f t ts) =
      ap₂ (λ n k. record { name = n; arity = suc k }) (spelled_name f) (sym (count_said ts))
    where
      count_said : (ts : _) → count (spelled_all (text_by (text_of m)) ts) ≡ count ts
      count_said none = refl
      count_said (more t ts) = ap suc (count_said ts)

  -- the head's predicate is the one that the clause has in texts
  pub head_says : (t : Tree) → IfSome (tree_procedure (head_in t)) (λ p. proc_named (text_of m) p ≡ proc_of (head_part (said m t)))
  head_says t = subst (λ (u : Tree). IfSome (tree_procedure (head_in t)) (λ p. proc_named (text_of m) p ≡ proc_of u))
      (head_is (text_of m) (texts_apart m lawful) t ∙ sym (head_same (said m t))) (tree_says (head_in t))

  -- and its name is one of the clause's
  call_held : IsSome (m 53)
  call_held = subst (λ (o : Option Chars). IsSome o) (sym (lawful.stand 53 (codes "call") call_fixed)) refl

  tree_named : (u : Tree) → All (λ a. IsSome (m a)) (atoms_in u) → IfSome (tree_procedure u) (λ p. IsSome (m p.name))
  tree_named (var x) all = call_held
  tree_named (int i) all = tt
  tree_named (atom a) all = All-head (λ (a : ℕ). IsSome (m a)) (number_of a) [] all
  tree_named (comp f t ts) all = All-head (λ (a : ℕ). IsSome (m a)) (number_of f) (atoms_in t ++ atoms_in_all ts) all

  left_of : (xs ys : List ℕ) → All (λ a. IsSome (m a)) (xs ++ ys) → All (λ a. IsSome (m a)) xs
  left_of [] ys all = All-nil (λ (a : ℕ). IsSome (m a))
  left_of (x ∷ xs) ys all = All-cons (λ (a : ℕ). IsSome (m a)) x xs (All-head (λ (a : ℕ). IsSome (m a)) x (xs ++ ys) all) (left_of xs ys (All-tail (λ (a : ℕ). IsSome (m a)) x (xs ++ ys) all))

  pub head_named : (t : Tree) → All (λ a. IsSome (m a)) (names_of t) → IfSome (tree_procedure (head_in t)) (λ p. IsSome (m p.name))
  head_named t all = inside t (All-tail (λ (a : ℕ). IsSome (m a)) neck (atoms_in t) all)
    where
      inside : (t : Tree) → All (λ a. IsSome (m a)) (atoms_in t) → IfSome (tree_procedure (head_in t)) (λ p. IsSome (m p.name))
      inside (var x) all = call_held
      inside (int i) all = tt
      inside (atom a) all = tree_named (atom a) all
      inside (comp f t none) all = tree_named (comp f t none) all
      inside (comp f t (more u none)) all = go (number_of f == neck)
        where
          go : (b : Bool) → IfSome (tree_procedure (cond b t (comp f t (more u none)))) (λ p. IsSome (m p.name))
          go true = tree_named t (left_of (atoms_in t) (atoms_in_all (more u none)) (All-tail (λ (a : ℕ). IsSome (m a)) (number_of f) (atoms_in t ++ atoms_in_all (more u none)) all))
          go false = tree_named (comp f t (more u none)) all
      inside (comp f t (more u (more v ts))) all = tree_named (comp f t (more u (more v ts))) all

-- for all maps at once
pub for_all : (o : Option Procedure) (P : Names → Procedure → Type 0) → ((m : Names) → Lawful m → IfSome o (P m)) → IfSome o (λ p. (m : Names) → Lawful m → P m p)
for_all None P h = tt
for_all (Some p) P h = h

pub named_held : {Q : Type 0} (o : Option Procedure) (m : Names) → (Q → IfSome o (λ p. IsSome (m p.name))) → IfSome o (λ p. Q → IsSome (m p.name))
named_held None m h = tt
named_held (Some p) m h = h
