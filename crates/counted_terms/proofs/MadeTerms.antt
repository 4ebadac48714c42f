-- Terms over atoms that are made of nodes, and what they say.
use Rattle.std.proofs.Common.{◌≡◌, ℕ, zero, List, [], ◌∷◌, ◌++◌, Option, Some, None, refl, ap, sym, subst, ◌∙◌, append-nil}
use Rattle.std.specs.Prelude.{◌+◌, codes, pos}
use Rattle.std.specs.List.{All}
use Rattle.std.specs.Option.{IsSome}
use Rattle.std.proofs.lemmas.Bool.{false≢true}
use Rattle.std.proofs.lemmas.List.Elements.{All-nil, All-cons, All-head, All-tail}
use Rattle.pl_term.specs.Tree.{Chars, Tree, int, atom, comp, none, more}
use Rattle.pl_term.specs.Nodes.{nodes, tree, tree-nodes}
use Rattle.pl_term.specs.Variables.{distinct, occurrences, place, rename, rename_by}
use Rattle.pl_term.specs.declared.node.Node.TheVariants as terms
use Rattle.term_store.specs.declared.nodes.AtomNode.{AtomNode}
use Rattle.term_store.specs.declared.nodes.AtomNode.TheVariants.{Var, Int, Atom, Comp}
use Rattle.term_store.specs.Heap.{atom_name}
use Rattle.term_store.specs.Nodes.{node_views}
use Rattle.term_store.specs.NumberedNames.{atoms_in, names_of, neck, number_of, spelled}
use Rattle.atom_api.specs.Fixed.{fixed, fixed_texts}
use Rattle.atom_api.specs.Names.{FixedStand, Names}
use Rattle.world_api.proofs.NamedTerms.{neck_held, neck_text, term_by-spelled}
use Rattle.world_api.specs.Texts.{or_no_text, text_of}
use Rattle.counted_terms.specs.CountedTerms.{said}

-- The term that was made of the nodes of a term that is numbered in order.
pub whole : (ns : List AtomNode) (t e : Tree) → node_views ns ≡ nodes t → e ≡ rename zero (tree (node_views ns)) → rename zero t ≡ t → e ≡ t
whole ns t e is made same = made ∙ ap (λ l. rename zero (tree l)) is ∙ ap (rename zero) (tree-nodes t) ∙ same

-- THE SHAPES: f(C), f(a, C), f(a, b, C)
abbrev pub one : ℕ → Tree → Tree
one f c = comp (atom_name f) c none

abbrev pub two : ℕ → ℕ → Tree → Tree
two f a c = comp (atom_name f) (atom (atom_name a)) (more c none)

abbrev pub three : ℕ → ℕ → ℕ → Tree → Tree
three f a b c = comp (atom_name f) (atom (atom_name a)) (more (atom (atom_name b)) (more c none))

module _ (ns : List AtomNode) (c : Tree) (is : node_views ns ≡ nodes c) where
  pub one_nodes : (f : ℕ) → node_views (Comp f 1 ∷ ns) ≡ nodes (one f c)
  one_nodes f = ap (λ l. terms.Comp (atom_name f) 1 ∷ l) (is ∙ sym (append-nil (nodes c)))

  pub two_nodes : (f a : ℕ) → node_views (Comp f 2 ∷ Atom a ∷ ns) ≡ nodes (two f a c)
  two_nodes f a = ap (λ l. terms.Comp (atom_name f) 2 ∷ terms.Atom (atom_name a) ∷ l) (is ∙ sym (append-nil (nodes c)))

  pub three_nodes : (f a b : ℕ) → node_views (Comp f 3 ∷ Atom a ∷ Atom b ∷ ns) ≡ nodes (three f a b c)
  three_nodes f a b = ap (λ l. terms.Comp (atom_name f) 3 ∷ terms.Atom (atom_name a) ∷ terms.Atom (atom_name b) ∷ l) (is ∙ sym (append-nil (nodes c)))

module _ (c : Tree) (same : rename zero c ≡ c) where
  renumbered : (l : List ℕ) → l ≡ occurrences c → rename_by (λ x. zero + place x (distinct l)) c ≡ c
  renumbered l e = ap (λ k. rename_by (λ x. zero + place x (distinct k)) c) e ∙ same

  pub one_same : (f : ℕ) → rename zero (one f c) ≡ one f c
  one_same f = ap (λ d. comp (atom_name f) d none) (renumbered (occurrences c ++ []) (append-nil (occurrences c)))

  pub two_same : (f a : ℕ) → rename zero (two f a c) ≡ two f a c
  two_same f a = ap (λ d. comp (atom_name f) (atom (atom_name a)) (more d none)) (renumbered (occurrences c ++ []) (append-nil (occurrences c)))

  pub three_same : (f a b : ℕ) → rename zero (three f a b c) ≡ three f a b c
  three_same f a b = ap (λ d. comp (atom_name f) (atom (atom_name a)) (more (atom (atom_name b)) (more d none))) (renumbered (occurrences c ++ []) (append-nil (occurrences c)))

-- WHAT THEY SAY
module _ (m : Names) (stand : FixedStand m) where
  pub plain : (t : Tree) → said m t ≡ spelled (λ f. text_of m (number_of f)) t
  plain t = term_by-spelled (text_of m) (neck_text m stand) t

  pub atom_says : (a : ℕ) (t : Chars) → m a ≡ Some t → said m (atom (atom_name a)) ≡ atom t
  atom_says a t e = plain (atom (atom_name a)) ∙ ap (λ o. atom (or_no_text a o)) e

  pub one_says : (f : ℕ) (c : Tree) (t : Chars) → m f ≡ Some t → said m (one f c) ≡ comp t (said m c) none
  one_says f c t e = plain (one f c) ∙ (λ i. comp (or_no_text f (e i)) (sym (plain c) i) none)

  pub two_says : (f a : ℕ) (c : Tree) (t u : Chars) → m f ≡ Some t → m a ≡ Some u → said m (two f a c) ≡ comp t (atom u) (more (said m c) none)
  two_says f a c t u e d = plain (two f a c) ∙ (λ i. comp (or_no_text f (e i)) (atom (or_no_text a (d i))) (more (sym (plain c) i) none))

  pub three_says : (f a b : ℕ) (c : Tree) (t u v : Chars) → m f ≡ Some t → m a ≡ Some u → m b ≡ Some v
      → said m (three f a b c) ≡ comp t (atom u) (more (atom v) (more (said m c) none))
  three_says f a b c t u v e d k =
      plain (three f a b c) ∙ (λ i. comp (or_no_text f (e i)) (atom (or_no_text a (d i))) (more (atom (or_no_text b (k i))) (more (sym (plain c) i) none)))

  pub neck_some : IsSome (m neck)
  neck_some = some_is (m neck) (codes ":-") (neck_held m stand)
    where
      some_is : (o : Option Chars) (t : Chars) → o ≡ Some t → IsSome o
      some_is o t e = subst IsSome (sym e) refl

-- WHICH ATOMS THEY NAME
module _ (m : Names) (c : Tree) (all : All (λ k. IsSome (m k)) (names_of c)) where
  abbrev Held : ℕ → Type 0
  Held k = IsSome (m k)

  behind : All Held (atoms_in c ++ [])
  behind = subst (All Held) (sym (append-nil (atoms_in c))) (All-tail Held neck (atoms_in c) all)

  pub one_named : (f : ℕ) → IsSome (m f) → All Held (names_of (one f c))
  one_named f e = All-cons Held neck (f ∷ (atoms_in c ++ [])) (All-head Held neck (atoms_in c) all) (All-cons Held f (atoms_in c ++ []) e behind)

  pub two_named : (f a : ℕ) → IsSome (m f) → IsSome (m a) → All Held (names_of (two f a c))
  two_named f a e d =
      All-cons Held neck (f ∷ a ∷ (atoms_in c ++ [])) (All-head Held neck (atoms_in c) all)
      (All-cons Held f (a ∷ (atoms_in c ++ [])) e (All-cons Held a (atoms_in c ++ []) d behind))

  pub three_named : (f a b : ℕ) → IsSome (m f) → IsSome (m a) → IsSome (m b) → All Held (names_of (three f a b c))
  three_named f a b e d k =
      All-cons Held neck (f ∷ a ∷ b ∷ (atoms_in c ++ [])) (All-head Held neck (atoms_in c) all)
      (All-cons Held f (a ∷ b ∷ (atoms_in c ++ [])) e (All-cons Held a (b ∷ (atoms_in c ++ [])) d (All-cons Held b (atoms_in c ++ []) k behind)))

-- FIXED ATOMS
pub existence_is : fixed 84 ≡ Some (codes "existence_error")
unfolding fixed_texts
existence_is = refl

pub permission_is : fixed 142 ≡ Some (codes "permission_error")
unfolding fixed_texts
permission_is = refl

pub resource_is : fixed 152 ≡ Some (codes "resource_error")
unfolding fixed_texts
resource_is = refl

pub slash_is : fixed 9 ≡ Some (codes "/")
unfolding fixed_texts
slash_is = refl

pub held_some : (m : Names) (a : ℕ) (t : Chars) → m a ≡ Some t → IsSome (m a)
held_some m a t e = subst IsSome (sym e) refl

-- The text of an atom that is held
text_by_case : (a : ℕ) (o : Option Chars) → IsSome o → o ≡ Some (or_no_text a o)
text_by_case a None h = absurd (false≢true h)
text_by_case a (Some t) h = refl

pub text_is : (m : Names) (a : ℕ) → IsSome (m a) → m a ≡ Some (text_of m a)
text_is m a h = text_by_case a (m a) h
