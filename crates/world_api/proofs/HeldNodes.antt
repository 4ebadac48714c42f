-- Nodes over atoms as more atoms are held.
use Rattle.std.proofs.Common.{◌≡◌, ℕ, zero, suc, ◌+◌, ◌<◌, arith, List, [], ◌∷◌, ◌++◌, length, take, get_or, Option, Some, None, IsSome, refl, sym, ap, ap₂, ◌∙◌}
use Rattle.std.specs.List.{All}
use Rattle.std.proofs.lemmas.Bool.{false≢true}
use Rattle.std.proofs.lemmas.List.{take_more}
use Rattle.std.proofs.lemmas.List.Elements.{All-append, All-cons, All-head, All-tail, All-nil, All-same, All-weaker}
use Rattle.pl_term.specs.Tree.{Chars}
use Rattle.pl_term.specs.declared.node.Node.{Node}
use Rattle.atom_api.specs.Names.{Names}
use Rattle.term_store.specs.declared.nodes.AtomNode.{AtomNode}
use Rattle.term_store.specs.declared.nodes.AtomNode.TheVariants.{Var, Int, Atom, Comp}
use Rattle.world_api.specs.Texts.{text_of, or_no_text, Holds}
use Rattle.world_api.specs.NamedNodes.{node_in, nodes_in, node_atoms, atoms_of}

text_kept : (m n : Names) (a : ℕ) (o : Option Chars) → m a ≡ o → IsSome o → Holds m n → text_of m a ≡ text_of n a
text_kept m n a None is some holds = absurd (false≢true some)
text_kept m n a (Some t) is some holds = ap (or_no_text a) is ∙ sym (ap (or_no_text a) (holds a t is))

pub held_text : (m n : Names) (a : ℕ) → IsSome (m a) → Holds m n → text_of m a ≡ text_of n a
held_text m n a some holds = text_kept m n a (m a) refl some holds

still : (o p : Option Chars) → ((t : Chars) → o ≡ Some t → p ≡ Some t) → IsSome o → IsSome p
still None p keeps some = absurd (false≢true some)
still (Some t) None keeps some = absurd (let e : None ≡ Some t = keeps t refl in let no : ⊥ = cc in no)
still (Some t) (Some u) keeps some = refl

pub held_still : (m n : Names) → Holds m n → (a : ℕ) → IsSome (m a) → IsSome (n a)
held_still m n holds a some = still (m a) (n a) (holds a) some

pub holds_then : (m n o : Names) → Holds m n → Holds n o → Holds m o
holds_then m n o p q a t e = q a t (p a t e)

pub all_still : (m n : Names) (xs : List ℕ) → Holds m n → All (λ a. IsSome (m a)) xs → All (λ a. IsSome (n a)) xs
all_still m n xs holds all = All-weaker (λ a. IsSome (m a)) (λ a. IsSome (n a)) (held_still m n holds) xs all

pub nodes_kept : (m n : Names) (ns : List AtomNode) → Holds m n → All (λ a. IsSome (m a)) (atoms_of ns) → nodes_in (text_of m) ns ≡ nodes_in (text_of n) ns
nodes_kept m n [] holds all = refl
nodes_kept m n (Var x ∷ ns) holds all = ap (◌∷◌ (node_in (text_of m) (Var x))) (nodes_kept m n ns holds all)
nodes_kept m n (Int i ∷ ns) holds all = ap (◌∷◌ (node_in (text_of m) (Int i))) (nodes_kept m n ns holds all)
nodes_kept m n (Atom a ∷ ns) holds all =
    ap₂ (λ u ms. node_in (λ b. u) (Atom a) ∷ ms)
    (held_text m n a (All-head (λ b. IsSome (m b)) a (atoms_of ns) all) holds)
    (nodes_kept m n ns holds (All-tail (λ b. IsSome (m b)) a (atoms_of ns) all))
nodes_kept m n (Comp a k ∷ ns) holds all =
    ap₂ (λ u ms. node_in (λ b. u) (Comp a k) ∷ ms)
    (held_text m n a (All-head (λ b. IsSome (m b)) a (atoms_of ns) all) holds)
    (nodes_kept m n ns holds (All-tail (λ b. IsSome (m b)) a (atoms_of ns) all))

nodes_in-push : (text : ℕ → Chars) (ns : List AtomNode) (n : AtomNode) → nodes_in text (ns ++ n ∷ []) ≡ nodes_in text ns ++ node_in text n ∷ []
nodes_in-push text [] n = refl
nodes_in-push text (m ∷ ns) n = ap (◌∷◌ (node_in text m)) (nodes_in-push text ns n)

-- One node more.
pub nodes_more : (m n : Names) (from : List Node) (i : ℕ) (node : Node) (all more : List AtomNode) (next : AtomNode)
    → i < length from
    → node ≡ get_or from i node
    → nodes_in (text_of m) all ≡ take i from
    → All (λ a. IsSome (m a)) (atoms_of all)
    → Holds m n
    → node_in (text_of n) next ≡ node
    → more ≡ all ++ next ∷ []
    → nodes_in (text_of n) more ≡ take (i + 1) from
nodes_more m n from i node all more next below at so_far held holds is put =
    ap (nodes_in (text_of n)) put
    ∙ nodes_in-push (text_of n) all next
    ∙ ap₂ (λ xs x. xs ++ x ∷ []) (sym (nodes_kept m n all holds held) ∙ so_far) (is ∙ at)
    ∙ sym (take_more from i node below)

atoms_of-push : (ns : List AtomNode) (n : AtomNode) → atoms_of (ns ++ n ∷ []) ≡ atoms_of ns ++ node_atoms n
atoms_of-push [] (Var x) = refl
atoms_of-push [] (Int i) = refl
atoms_of-push [] (Atom a) = refl
atoms_of-push [] (Comp a k) = refl
atoms_of-push (Var x ∷ ns) n = atoms_of-push ns n
atoms_of-push (Int i ∷ ns) n = atoms_of-push ns n
atoms_of-push (Atom a ∷ ns) n = ap (◌∷◌ a) (atoms_of-push ns n)
atoms_of-push (Comp a k ∷ ns) n = ap (◌∷◌ a) (atoms_of-push ns n)

pub named_more : (m n : Names) (all more : List AtomNode) (next : AtomNode)
    → All (λ a. IsSome (m a)) (atoms_of all)
    → Holds m n
    → All (λ a. IsSome (n a)) (node_atoms next)
    → more ≡ all ++ next ∷ []
    → All (λ a. IsSome (n a)) (atoms_of more)
named_more m n all more next held holds new put =
    All-same (λ a. IsSome (n a)) (atoms_of more) (atoms_of all ++ node_atoms next)
    (ap atoms_of put ∙ atoms_of-push all next)
    (All-append (λ a. IsSome (n a)) (atoms_of all) (node_atoms next) (all_still m n (atoms_of all) holds held) new)

front : (P : ℕ → Type 0) (xs ys : List ℕ) → All P (xs ++ ys) → All P xs
front P [] ys all = All-nil P
front P (x ∷ xs) ys all = All-cons P x xs (All-head P x (xs ++ ys) all) (front P xs ys (All-tail P x (xs ++ ys) all))

behind : (P : ℕ → Type 0) (xs ys : List ℕ) → All P (xs ++ ys) → All P ys
behind P [] ys all = all
behind P (x ∷ xs) ys all = behind P xs ys (All-tail P x (xs ++ ys) all)

-- The atom of a node among others.
pub node_named : (P : ℕ → Type 0) (ns : List AtomNode) (i : ℕ) (n d : AtomNode) → i < length ns → n ≡ get_or ns i d → All P (atoms_of ns) → All P (node_atoms n)
node_named P [] i n d below at all = absurd (omega arith)
node_named P (m ∷ ns) zero n d below at all = All-same P (node_atoms n) (node_atoms m) (ap node_atoms at) (front P (node_atoms m) (atoms_of ns) all)
node_named P (m ∷ ns) (suc i) n d below at all =
    node_named P ns i n d (let less : i < length ns = omega arith in less) at (behind P (node_atoms m) (atoms_of ns) all)
