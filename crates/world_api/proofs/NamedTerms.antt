-- What nodes over atoms spell, where each atom has a text.
use Rattle.std.proofs.Common.{◌≡◌, ◌==◌, ℕ, ℤ, zero, suc, true, false, Bool, cond, List, [], ◌∷◌, ◌++◌, refl, sym, ap, ap₂, ◌∙◌, append_assoc, append-nil, Option, Some, None, IsSome}
use Rattle.std.specs.Prelude.{bytes_eq, codes}
use Rattle.std.specs.List.{All}
use Rattle.std.proofs.lemmas.List.Elements.{All-cons, All-same}
use Rattle.std.proofs.lemmas.Bool.Decides.{Decides-eqb}
use Rattle.std.proofs.lemmas.Slice.Eq.{bytes_eq-Decides}
use Rattle.pl_term.specs.declared.node.Node.{Node}
use Rattle.pl_term.specs.declared.node.Node.TheVariants as terms
use Rattle.pl_term.specs.Tree.{Chars, Tree, Trees, var, int, atom, comp, none, more, count}
use Rattle.pl_term.specs.Nodes.{nodes, nodes_all, tree, tree-nodes}
use Rattle.pl_term.specs.Variables.{rename, rename_by, rename_all_by}
use Rattle.atom_api.specs.Fixed.{fixed, fixed_texts}
use Rattle.atom_api.specs.Names.{Names}
use Rattle.term_store.specs.Heap.{atom_name}
use Rattle.term_store.specs.declared.nodes.AtomNode.{AtomNode}
use Rattle.term_store.specs.declared.nodes.AtomNode.TheVariants.{Var, Int, Atom, Comp}
use Rattle.term_store.specs.Nodes.{node_views, IsSpelled}
use Rattle.term_store.specs.NumberedNames.{number_of, spelled, spelled_all, neck, with_neck, text_by, term_by, atoms_in, atoms_in_all, names_of}
use Rattle.term_store.specs.NameUnification.{count-spelled, rename-spelled}
use Rattle.world_api.specs.Texts.{text_of, or_no_text}
use Rattle.world_api.specs.NamedNodes.{nodes_in, atoms_of}

-- A term over atoms whose nodes stand first, each name of which has the text that a term has there.
pub record Named (text : ℕ → Chars) (t : Tree) (ns : List AtomNode) (rest : List Node) : Type 0 where
  pub term : Tree
  pub left : List AtomNode
  pub spells : node_views ns ≡ nodes term ++ node_views left
  pub left_is : nodes_in text left ≡ rest
  pub means : spelled (λ f. text (number_of f)) term ≡ t

pub record NamedAll (text : ℕ → Chars) (ts : Trees) (ns : List AtomNode) (rest : List Node) : Type 0 where
  pub terms : Trees
  pub left : List AtomNode
  pub spells : node_views ns ≡ nodes_all terms ++ node_views left
  pub left_is : nodes_in text left ≡ rest
  pub means : spelled_all (λ f. text (number_of f)) terms ≡ ts

named_var : (text : ℕ → Chars) (x : ℕ) (ns : List AtomNode) (rest : List Node) → nodes_in text ns ≡ terms.Var x ∷ rest → Named text (var x) ns rest
named_var text x [] rest e = absurd (let no : ⊥ = cc in no)
named_var text x (Var y ∷ ns) rest e =
    record { term = var y; left = ns; spells = refl; left_is = cc; means = let same : y ≡ x = cc in ap var same }
named_var text x (Int i ∷ ns) rest e = absurd (let no : ⊥ = cc in no)
named_var text x (Atom a ∷ ns) rest e = absurd (let no : ⊥ = cc in no)
named_var text x (Comp a k ∷ ns) rest e = absurd (let no : ⊥ = cc in no)

named_int : (text : ℕ → Chars) (i : ℤ) (ns : List AtomNode) (rest : List Node) → nodes_in text ns ≡ terms.Int i ∷ rest → Named text (int i) ns rest
named_int text i [] rest e = absurd (let no : ⊥ = cc in no)
named_int text i (Var y ∷ ns) rest e = absurd (let no : ⊥ = cc in no)
named_int text i (Int j ∷ ns) rest e =
    record { term = int j; left = ns; spells = refl; left_is = cc; means = let same : j ≡ i = cc in ap int same }
named_int text i (Atom a ∷ ns) rest e = absurd (let no : ⊥ = cc in no)
named_int text i (Comp a k ∷ ns) rest e = absurd (let no : ⊥ = cc in no)

named_atom : (text : ℕ → Chars) (f : Chars) (ns : List AtomNode) (rest : List Node) → nodes_in text ns ≡ terms.Atom f ∷ rest → Named text (atom f) ns rest
named_atom text f [] rest e = absurd (let no : ⊥ = cc in no)
named_atom text f (Var y ∷ ns) rest e = absurd (let no : ⊥ = cc in no)
named_atom text f (Int i ∷ ns) rest e = absurd (let no : ⊥ = cc in no)
named_atom text f (Atom a ∷ ns) rest e =
    record { term = atom (atom_name a); left = ns; spells = refl; left_is = cc; means = let same : text a ≡ f = cc in ap atom same }
named_atom text f (Comp a k ∷ ns) rest e = absurd (let no : ⊥ = cc in no)

-- The node of a compound term, with what is after it.
record Opens (text : ℕ → Chars) (f : Chars) (k : ℕ) (ns : List AtomNode) (rest : List Node) : Type 0 where
  pub name : ℕ
  pub behind : List AtomNode
  pub is : node_views ns ≡ terms.Comp (atom_name name) k ∷ node_views behind
  pub behind_is : nodes_in text behind ≡ rest
  pub text_is : text name ≡ f

opens : (text : ℕ → Chars) (f : Chars) (k : ℕ) (ns : List AtomNode) (rest : List Node) → nodes_in text ns ≡ terms.Comp f k ∷ rest → Opens text f k ns rest
opens text f k [] rest e = absurd (let no : ⊥ = cc in no)
opens text f k (Var y ∷ ns) rest e = absurd (let no : ⊥ = cc in no)
opens text f k (Int i ∷ ns) rest e = absurd (let no : ⊥ = cc in no)
opens text f k (Atom a ∷ ns) rest e = absurd (let no : ⊥ = cc in no)
opens text f k (Comp a l ∷ ns) rest e =
    record {
      name = a;
      behind = ns;
      is = let same : l ≡ k = cc in ap (λ n. terms.Comp (atom_name a) n ∷ node_views ns) same;
      behind_is = cc;
      text_is = cc;
    }

named_comp : (text : ℕ → Chars) (f : Chars) (t : Tree) (ts : Trees) (ns : List AtomNode) (rest : List Node)
    → (o : Opens text f (suc (count ts)) ns (nodes t ++ (nodes_all ts ++ rest)))
    → (n : Named text t o.behind (nodes_all ts ++ rest))
    → NamedAll text ts n.left rest
    → Named text (comp f t ts) ns rest
named_comp text f t ts ns rest o n m =
    let g : Chars → Chars = λ h. text (number_of h) in
    let counts : count ts ≡ count m.terms = ap count (sym m.means) ∙ count-spelled g m.terms in
    record {
      term = comp (atom_name o.name) n.term m.terms;
      left = m.left;
      spells =
          o.is
          ∙ ap₂ (λ k ms. terms.Comp (atom_name o.name) (suc k) ∷ ms) counts
          (n.spells ∙ ap (λ ms. nodes n.term ++ ms) m.spells ∙ sym (append_assoc (nodes n.term) (nodes_all m.terms) (node_views m.left)));
      left_is = m.left_is;
      means = ap₂ (comp (text o.name)) n.means m.means ∙ ap (λ h. comp h t ts) o.text_is;
    }

mutual
  pub named : (text : ℕ → Chars) (t : Tree) (ns : List AtomNode) (rest : List Node) → nodes_in text ns ≡ nodes t ++ rest → Named text t ns rest
  named text (var x) ns rest e = named_var text x ns rest e
  named text (int i) ns rest e = named_int text i ns rest e
  named text (atom f) ns rest e = named_atom text f ns rest e
  named text (comp f t ts) ns rest e =
      let o : Opens text f (suc (count ts)) ns (nodes t ++ (nodes_all ts ++ rest)) =
      opens text f (suc (count ts)) ns (nodes t ++ (nodes_all ts ++ rest))
      (e ∙ ap (◌∷◌ (terms.Comp f (suc (count ts)))) (append_assoc (nodes t) (nodes_all ts) rest)) in
      let n : Named text t o.behind (nodes_all ts ++ rest) = named text t o.behind (nodes_all ts ++ rest) o.behind_is in
      named_comp text f t ts ns rest o n (named_all text ts n.left rest n.left_is)

  pub named_all : (text : ℕ → Chars) (ts : Trees) (ns : List AtomNode) (rest : List Node) → nodes_in text ns ≡ nodes_all ts ++ rest → NamedAll text ts ns rest
  named_all text none ns rest e = record { terms = none; left = ns; spells = refl; left_is = e; means = refl }
  named_all text (more t ts) ns rest e =
      let n : Named text t ns (nodes_all ts ++ rest) = named text t ns (nodes_all ts ++ rest) (e ∙ append_assoc (nodes t) (nodes_all ts) rest) in
      let m : NamedAll text ts n.left rest = named_all text ts n.left rest n.left_is in
      record {
        terms = more n.term m.terms;
        left = m.left;
        spells = n.spells ∙ ap (λ ms. nodes n.term ++ ms) m.spells ∙ sym (append_assoc (nodes n.term) (nodes_all m.terms) (node_views m.left));
        left_is = m.left_is;
        means = ap₂ more n.means m.means;
      }

-- The whole list spells one term over atoms.
pub record Spelled (text : ℕ → Chars) (t : Tree) (ns : List AtomNode) : Type 0 where
  pub term : Tree
  pub spells : node_views ns ≡ nodes term
  pub means : spelled (λ f. text (number_of f)) term ≡ t

nothing_left : (text : ℕ → Chars) (ns : List AtomNode) → nodes_in text ns ≡ [] → node_views ns ≡ []
nothing_left text [] e = refl
nothing_left text (n ∷ ns) e = absurd (let no : ⊥ = cc in no)

pub spelled_by : (text : ℕ → Chars) (t : Tree) (ns : List AtomNode) → nodes_in text ns ≡ nodes t → Spelled text t ns
spelled_by text t ns e =
    let n : Named text t ns [] = named text t ns [] (e ∙ sym (append-nil (nodes t))) in
    record {
      term = n.term;
      spells = n.spells ∙ ap (λ ms. nodes n.term ++ ms) (nothing_left text n.left n.left_is) ∙ append-nil (nodes n.term);
      means = n.means;
    }

-- A map that gives the neck its text is not changed.
with_neck-same : (text : ℕ → Chars) → text neck ≡ codes ":-" → (a : ℕ) → with_neck text a ≡ text a
with_neck-same text is a = go (a == neck) (bytes_eq (text a) (codes ":-")) refl refl
  where
    go : (b c : Bool) → (a == neck) ≡ b → bytes_eq (text a) (codes ":-") ≡ c
        → cond b (codes ":-") (cond c (text neck) (text a)) ≡ text a
    go true c d e = sym is ∙ ap text (sym ((Decides-eqb a neck).0 d))
    go false true d e = is ∙ sym ((bytes_eq-Decides (text a) (codes ":-")).0 e)
    go false false d e = refl

mutual
  spelled-alike : (g h : Chars → Chars) → ((f : Chars) → g f ≡ h f) → (t : Tree) → spelled g t ≡ spelled h t
  spelled-alike g h same (var x) = refl
  spelled-alike g h same (int i) = refl
  spelled-alike g h same (atom f) = ap atom (same f)
  spelled-alike g h same (comp f t ts) =
      ap₂ (comp (g f)) (spelled-alike g h same t) (spelled_all-alike g h same ts) ∙ ap (λ k. comp k (spelled h t) (spelled_all h ts)) (same f)

  spelled_all-alike : (g h : Chars → Chars) → ((f : Chars) → g f ≡ h f) → (ts : Trees) → spelled_all g ts ≡ spelled_all h ts
  spelled_all-alike g h same none = refl
  spelled_all-alike g h same (more t ts) = ap₂ more (spelled-alike g h same t) (spelled_all-alike g h same ts)

pub term_by-spelled : (text : ℕ → Chars) → text neck ≡ codes ":-" → (t : Tree) → term_by text t ≡ spelled (λ f. text (number_of f)) t
term_by-spelled text is t =
    spelled-alike (text_by text) (λ f. text (number_of f)) (λ f. with_neck-same text is (number_of f)) t

neck_fixed : fixed neck ≡ Some (codes ":-")
unfolding fixed_texts
neck_fixed = refl

pub neck_held : (m : Names) → ((a : ℕ) (t : Chars) → fixed a ≡ Some t → m a ≡ Some t) → m neck ≡ Some (codes ":-")
neck_held m held = held neck (codes ":-") neck_fixed

pub neck_text : (m : Names) → ((a : ℕ) (t : Chars) → fixed a ≡ Some t → m a ≡ Some t) → text_of m neck ≡ codes ":-"
neck_text m held = ap (or_no_text neck) (neck_held m held)

-- The atoms that nodes name.
abbrev numbers : List Node → List ℕ
numbers [] = []
numbers (terms.Var x ∷ ns) = numbers ns
numbers (terms.Int i ∷ ns) = numbers ns
numbers (terms.Atom f ∷ ns) = number_of f ∷ numbers ns
numbers (terms.Comp f k ∷ ns) = number_of f ∷ numbers ns

numbers-append : (ms ns : List Node) → numbers (ms ++ ns) ≡ numbers ms ++ numbers ns
numbers-append [] ns = refl
numbers-append (terms.Var x ∷ ms) ns = numbers-append ms ns
numbers-append (terms.Int i ∷ ms) ns = numbers-append ms ns
numbers-append (terms.Atom f ∷ ms) ns = ap (◌∷◌ (number_of f)) (numbers-append ms ns)
numbers-append (terms.Comp f k ∷ ms) ns = ap (◌∷◌ (number_of f)) (numbers-append ms ns)

mutual
  numbers-nodes : (t : Tree) → numbers (nodes t) ≡ atoms_in t
  numbers-nodes (var x) = refl
  numbers-nodes (int i) = refl
  numbers-nodes (atom f) = refl
  numbers-nodes (comp f t ts) =
      ap (◌∷◌ (number_of f)) (numbers-append (nodes t) (nodes_all ts) ∙ ap₂ ◌++◌ (numbers-nodes t) (numbers-nodes_all ts))

  numbers-nodes_all : (ts : Trees) → numbers (nodes_all ts) ≡ atoms_in_all ts
  numbers-nodes_all none = refl
  numbers-nodes_all (more t ts) = numbers-append (nodes t) (nodes_all ts) ∙ ap₂ ◌++◌ (numbers-nodes t) (numbers-nodes_all ts)

numbers-views : (ns : List AtomNode) → numbers (node_views ns) ≡ atoms_of ns
numbers-views [] = refl
numbers-views (Var x ∷ ns) = numbers-views ns
numbers-views (Int i ∷ ns) = numbers-views ns
numbers-views (Atom a ∷ ns) = ap (◌∷◌ a) (numbers-views ns)
numbers-views (Comp a k ∷ ns) = ap (◌∷◌ a) (numbers-views ns)

pub atoms_of-spelled : (ns : List AtomNode) (t : Tree) → node_views ns ≡ nodes t → atoms_of ns ≡ atoms_in t
atoms_of-spelled ns t e = sym (numbers-views ns) ∙ ap numbers e ∙ numbers-nodes t

mutual
  atoms_in-renamed : (f : ℕ → ℕ) (t : Tree) → atoms_in (rename_by f t) ≡ atoms_in t
  atoms_in-renamed f (var x) = refl
  atoms_in-renamed f (int i) = refl
  atoms_in-renamed f (atom a) = refl
  atoms_in-renamed f (comp g t ts) = ap (◌∷◌ (number_of g)) (ap₂ ◌++◌ (atoms_in-renamed f t) (atoms_in_all-renamed f ts))

  atoms_in_all-renamed : (f : ℕ → ℕ) (ts : Trees) → atoms_in_all (rename_all_by f ts) ≡ atoms_in_all ts
  atoms_in_all-renamed f none = refl
  atoms_in_all-renamed f (more t ts) = ap₂ ◌++◌ (atoms_in-renamed f t) (atoms_in_all-renamed f ts)

pub some_of : (o : Option Chars) (t : Chars) → o ≡ Some t → IsSome o
some_of None t e = absurd (let no : ⊥ = cc in no)
some_of (Some u) t e = refl

-- Where the atoms of its nodes are held, all are that the term names.
pub spelled_named : (m : Names) (t : Tree) (ns : List AtomNode)
    → ((a : ℕ) (u : Chars) → fixed a ≡ Some u → m a ≡ Some u)
    → node_views ns ≡ nodes t
    → All (λ a. IsSome (m a)) (atoms_of ns)
    → All (λ a. IsSome (m a)) (names_of t)
spelled_named m t ns held e all =
    All-cons (λ a. IsSome (m a)) neck (atoms_in t) (some_of (m neck) (codes ":-") (neck_held m held))
    (All-same (λ a. IsSome (m a)) (atoms_in t) (atoms_of ns) (sym (atoms_of-spelled ns t e)) all)

-- The stored term that is made of such nodes.
pub stored_means : (m : Names) (t s : Tree) (ns : List AtomNode)
    → ((a : ℕ) (u : Chars) → fixed a ≡ Some u → m a ≡ Some u)
    → nodes_in (text_of m) ns ≡ nodes t
    → s ≡ rename zero (tree (node_views ns))
    → term_by (text_of m) s ≡ rename zero t
stored_means m t s ns held e is =
    let p : Spelled (text_of m) t ns = spelled_by (text_of m) t ns e in
    let g : Chars → Chars = λ f. text_of m (number_of f) in
    ap (term_by (text_of m)) (is ∙ ap (rename zero) (ap tree p.spells ∙ tree-nodes p.term))
    ∙ term_by-spelled (text_of m) (neck_text m held) (rename zero p.term)
    ∙ sym (rename-spelled g zero p.term)
    ∙ ap (rename zero) p.means

pub stored_named : (m : Names) (t s : Tree) (ns : List AtomNode)
    → ((a : ℕ) (u : Chars) → fixed a ≡ Some u → m a ≡ Some u)
    → nodes_in (text_of m) ns ≡ nodes t
    → s ≡ rename zero (tree (node_views ns))
    → All (λ a. IsSome (m a)) (atoms_of ns)
    → All (λ a. IsSome (m a)) (names_of s)
stored_named m t s ns held e is all =
    let p : Spelled (text_of m) t ns = spelled_by (text_of m) t ns e in
    let some : IsSome (m neck) = some_of (m neck) (codes ":-") (neck_held m held) in
    All-cons (λ a. IsSome (m a)) neck (atoms_in s) some
    (All-same (λ a. IsSome (m a)) (atoms_in s) (atoms_of ns)
    (ap atoms_in (is ∙ ap (rename zero) (ap tree p.spells ∙ tree-nodes p.term))
    ∙ atoms_in-renamed _ p.term
    ∙ sym (atoms_of-spelled ns p.term p.spells))
    all)

-- The nodes make up a stored term.
pub nodes_spelled : (text : ℕ → Chars) (t : Tree) (ns : List AtomNode) → nodes_in text ns ≡ nodes t → IsSpelled ns
nodes_spelled text t ns e = let p : Spelled text t ns = spelled_by text t ns e in (p.term, p.spells)

-- A term with texts by its nodes.
abbrev node_spelled : (Chars → Chars) → Node → Node
node_spelled g (terms.Var x) = terms.Var x
node_spelled g (terms.Int i) = terms.Int i
node_spelled g (terms.Atom f) = terms.Atom (g f)
node_spelled g (terms.Comp f k) = terms.Comp (g f) k

abbrev spelled_nodes : (Chars → Chars) → List Node → List Node
spelled_nodes g [] = []
spelled_nodes g (n ∷ ns) = node_spelled g n ∷ spelled_nodes g ns

spelled_nodes-append : (g : Chars → Chars) (ms ns : List Node) → spelled_nodes g (ms ++ ns) ≡ spelled_nodes g ms ++ spelled_nodes g ns
spelled_nodes-append g [] ns = refl
spelled_nodes-append g (m ∷ ms) ns = ap (◌∷◌ (node_spelled g m)) (spelled_nodes-append g ms ns)

mutual
  nodes-spelled : (g : Chars → Chars) (t : Tree) → spelled_nodes g (nodes t) ≡ nodes (spelled g t)
  nodes-spelled g (var x) = refl
  nodes-spelled g (int i) = refl
  nodes-spelled g (atom f) = refl
  nodes-spelled g (comp f t ts) =
      ap₂ (λ k ns. terms.Comp (g f) (suc k) ∷ ns) (sym (count-spelled g ts))
      (spelled_nodes-append g (nodes t) (nodes_all ts) ∙ ap₂ ◌++◌ (nodes-spelled g t) (nodes_all-spelled g ts))

  nodes_all-spelled : (g : Chars → Chars) (ts : Trees) → spelled_nodes g (nodes_all ts) ≡ nodes_all (spelled_all g ts)
  nodes_all-spelled g none = refl
  nodes_all-spelled g (more t ts) =
      spelled_nodes-append g (nodes t) (nodes_all ts) ∙ ap₂ ◌++◌ (nodes-spelled g t) (nodes_all-spelled g ts)

nodes_in-views : (text : ℕ → Chars) (ns : List AtomNode) → nodes_in text ns ≡ spelled_nodes (λ f. text (number_of f)) (node_views ns)
nodes_in-views text [] = refl
nodes_in-views text (Var x ∷ ns) = ap (◌∷◌ (terms.Var x)) (nodes_in-views text ns)
nodes_in-views text (Int i ∷ ns) = ap (◌∷◌ (terms.Int i)) (nodes_in-views text ns)
nodes_in-views text (Atom a ∷ ns) = ap (◌∷◌ (terms.Atom (text a))) (nodes_in-views text ns)
nodes_in-views text (Comp a k ∷ ns) = ap (◌∷◌ (terms.Comp (text a) k)) (nodes_in-views text ns)

-- The nodes with their texts are those of the term with texts.
pub nodes_with_texts : (m : Names) (t : Tree) (ns : List AtomNode) (all : List Node)
    → ((a : ℕ) (u : Chars) → fixed a ≡ Some u → m a ≡ Some u)
    → node_views ns ≡ nodes t
    → all ≡ nodes_in (text_of m) ns
    → all ≡ nodes (term_by (text_of m) t)
nodes_with_texts m t ns all held e is =
    let g : Chars → Chars = λ f. text_of m (number_of f) in
    is
    ∙ nodes_in-views (text_of m) ns
    ∙ ap (spelled_nodes g) e
    ∙ nodes-spelled g t
    ∙ ap nodes (sym (term_by-spelled (text_of m) (neck_text m held) t))

pub term_with_texts : (f u : Tree) → nodes f ≡ nodes u → f ≡ u
term_with_texts f u e = sym (tree-nodes f) ∙ ap tree e ∙ tree-nodes u

-- A term over atoms whose nodes have the texts of another term's stands for that one.
pub reads_so : (m : Names) (t u : Tree) (ns : List AtomNode) (all : List Node)
    → ((a : ℕ) (v : Chars) → fixed a ≡ Some v → m a ≡ Some v)
    → node_views ns ≡ nodes t
    → all ≡ nodes u
    → nodes_in (text_of m) ns ≡ all
    → term_by (text_of m) t ≡ u
reads_so m t u ns all held e is reads =
    sym (term_with_texts u (term_by (text_of m) t) (sym is ∙ nodes_with_texts m t ns all held e (sym reads)))
