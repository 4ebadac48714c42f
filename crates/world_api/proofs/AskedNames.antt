-- The names of nodes, as texts that are asked of atoms.
use Rattle.std.proofs.Common.{◌≡◌, ◌<◌, ℕ, zero, suc, List, [], ◌∷◌, ◌++◌, length, get_or, Option, Some, refl, sym, ap, ap₂, ◌∙◌, subst, append_assoc, arith}
use Rattle.std.specs.Option.{IsSome}
use Rattle.std.specs.List.{All, Contains}
use Rattle.std.proofs.lemmas.List.Elements.{All-cons, All-nil, Contains-append_left, Contains-append_right}
use Rattle.pl_term.specs.declared.node.Node.{Node}
use Rattle.pl_term.specs.Tree.{Chars, Tree, Trees, var, int, atom, comp, none, more}
use Rattle.pl_term.specs.Nodes.{nodes, nodes_all}
use Rattle.atom_api.specs.Names.{Names}
use Rattle.world_api.specs.Asked.{texts_in, texts_in_all}
use Rattle.world_api.specs.Gains.{Gains}
use Rattle.world_api.specs.Texts.{text_of, or_no_text}
use Rattle.world_api.proofs.Gaining.{gains_then, gains_weaker}
use Rattle.world_api.specs.NamedNodes.{node_texts, texts_of}
use Rattle.world_api.proofs.NamedTerms.{some_of}

texts_of-append : (ms ns : List Node) → texts_of (ms ++ ns) ≡ texts_of ms ++ texts_of ns
texts_of-append [] ns = refl
texts_of-append (m ∷ ms) ns = ap (λ us. node_texts m ++ us) (texts_of-append ms ns) ∙ sym (append_assoc (node_texts m) (texts_of ms) (texts_of ns))

mutual
  texts_of-nodes : (t : Tree) → texts_of (nodes t) ≡ texts_in t
  texts_of-nodes (var x) = refl
  texts_of-nodes (int i) = refl
  texts_of-nodes (atom f) = refl
  texts_of-nodes (comp f t ts) = ap (◌∷◌ f) (texts_of-append (nodes t) (nodes_all ts) ∙ ap₂ ◌++◌ (texts_of-nodes t) (texts_of-nodes_all ts))

  texts_of-nodes_all : (ts : Trees) → texts_of (nodes_all ts) ≡ texts_in_all ts
  texts_of-nodes_all none = refl
  texts_of-nodes_all (more t ts) = texts_of-append (nodes t) (nodes_all ts) ∙ ap₂ ◌++◌ (texts_of-nodes t) (texts_of-nodes_all ts)

-- The name of a node is one of those of all nodes.
texts_at : (ns : List Node) (i : ℕ) (n d : Node) → i < length ns → n ≡ get_or ns i d → (c : Chars) → Contains (node_texts n) c → Contains (texts_of ns) c
texts_at [] i n d below at c p = absurd (omega arith)
texts_at (m ∷ ns) zero n d below at c p = Contains-append_left (node_texts m) (texts_of ns) c (subst (λ (k : Node). Contains (node_texts k) c) at p)
texts_at (m ∷ ns) (suc i) n d below at c p =
    Contains-append_right (node_texts m) (texts_of ns) c (texts_at ns i n d (let less : i < length ns = omega arith in less) at c p)

-- What was asked of the nodes so far, and then of one more.
pub asked_more : (ns : List Node) (i : ℕ) (n d : Node) (a b e : Option (List Chars))
    → i < length ns
    → n ≡ get_or ns i d
    → Gains (λ c. Contains (texts_of ns) c) a b
    → Gains (λ c. Contains (node_texts n) c) b e
    → Gains (λ c. Contains (texts_of ns) c) a e
asked_more ns i n d a b e below at so_far next =
    gains_then (λ c. Contains (texts_of ns) c) a b e so_far
    (gains_weaker (λ c. Contains (node_texts n) c) (λ c. Contains (texts_of ns) c) b e (texts_at ns i n d below at) next)

-- What was asked of the nodes of a term was asked of the term.
pub asked_of : (ns : List Node) (t : Tree) (a b : Option (List Chars))
    → ns ≡ nodes t
    → Gains (λ c. Contains (texts_of ns) c) a b
    → Gains (λ c. Contains (texts_in t) c) a b
asked_of ns t a b e asked =
    gains_weaker (λ c. Contains (texts_of ns) c) (λ c. Contains (texts_in t) c) a b
    (λ c p. subst (λ (us : List Chars). Contains us c) (ap texts_of e ∙ texts_of-nodes t) p) asked

-- What was asked of a name was asked of its node.
pub asked_name : (name : Chars) (a b : Option (List Chars)) → Gains (λ c. c ≡ name) a b → Gains (λ c. Contains (name ∷ []) c) a b
asked_name name a b asked =
    gains_weaker (λ c. c ≡ name) (λ c. Contains (name ∷ []) c) a b (λ c e. (0, (let less : 0 < 1 = omega arith in less), sym e)) asked

-- An atom that is held with a text.
pub read_text : (m : Names) (a : ℕ) (t : Chars) → m a ≡ Some t → text_of m a ≡ t
read_text m a t e = ap (or_no_text a) e

pub read_held : (m : Names) (a : ℕ) (t : Chars) → m a ≡ Some t → All (λ b. IsSome (m b)) (a ∷ [])
read_held m a t e = All-cons (λ b. IsSome (m b)) a [] (some_of (m a) t e) (All-nil (λ b. IsSome (m b)))
