-- What a term over atoms names, by its first node.
use Rattle.std.proofs.Common.{◌≡◌, ◌<◌, ◌≤◌, ℕ, List, [], ◌∷◌, Option, Some, None, get_or, length, refl, ap, sym, subst, ◌∙◌, arith}
use Rattle.std.specs.Prelude.{ℤ, pos, negsuc, option_map}
use Rattle.std.specs.List.{All}
use Rattle.std.specs.Option.{IsSome, IfSome}
use Rattle.std.proofs.lemmas.List.Elements.{All-nil, All-cons, All-head, All-tail}
use Rattle.pl_term.specs.Tree.{Chars, Tree, var, int, atom, comp, none, more}
use Rattle.pl_term.specs.Nodes.{nodes}
use Rattle.pl_term.specs.declared.node.Node.{Node}
use Rattle.pl_term.specs.declared.node.Node.TheVariants as terms
use Rattle.pl_model.specs.Service.{name_of}
use Rattle.term_store.specs.declared.nodes.AtomNode.{AtomNode}
use Rattle.term_store.specs.declared.nodes.AtomNode.TheVariants.{Var, Int, Atom, Comp}
use Rattle.term_store.specs.Heap.{atom_name}
use Rattle.term_store.specs.Nodes.{node_view, node_views}
use Rattle.term_store.specs.NumberedNames.{names_of, number_of}
use Rattle.atom_api.specs.Names.{FixedStand, Names}
use Rattle.world_api.specs.Answers.{alias_names, named_by}
use Rattle.world_api.specs.declared.reply.Name.{Name}
use Rattle.world_api.specs.declared.reply.Name.TheVariants.{Number, Alias}
use Rattle.world_api.specs.Texts.{text_of}
use Rattle.counted_terms.specs.CountedTerms.{said}
use Rattle.counted_terms.proofs.MadeTerms.{plain}
use Rattle.counted_terms.specs.TermNames.{first_named, node_named, number_named}

abbrev first_name : List Node → Chars
first_name (terms.Atom f ∷ ns) = f
first_name _ = []

abbrev first_int : List Node → ℤ
first_int (terms.Int i ∷ ns) = i
first_int _ = pos 0

number_says : (text : ℕ → Chars) (i : ℤ) → name_of (int i) ≡ option_map (named_by text) (number_named i)
number_says text (pos n) = refl
number_says text (negsuc n) = refl

no_nodes : {P : Type 0} (t : Tree) → [] ≡ nodes t → P
no_nodes (var x) e = absurd (cc)
no_nodes (int i) e = absurd (cc)
no_nodes (atom f) e = absurd (cc)
no_nodes (comp f t ts) e = absurd (cc)

module _ (m : Names) (stand : FixedStand m) where
  by_first : (t : Tree) (n : AtomNode) (ns : List AtomNode) → node_views (n ∷ ns) ≡ nodes t → name_of (said m t) ≡ option_map (named_by (text_of m)) (node_named n)
  by_first (var x) (Var y) ns e = refl
  by_first (var x) (Int i) ns e = absurd (cc)
  by_first (var x) (Atom a) ns e = absurd (cc)
  by_first (var x) (Comp f k) ns e = absurd (cc)
  by_first (int i) (Var y) ns e = absurd (cc)
  by_first (int i) (Int j) ns e = number_says (text_of m) i ∙ ap (λ k. option_map (named_by (text_of m)) (number_named k)) (sym (ap first_int e))
  by_first (int i) (Atom a) ns e = absurd (cc)
  by_first (int i) (Comp f k) ns e = absurd (cc)
  by_first (atom f) (Var y) ns e = absurd (cc)
  by_first (atom f) (Int j) ns e = absurd (cc)
  by_first (atom f) (Atom a) ns e = ap name_of (plain m stand (atom f)) ∙ ap (λ (g : Chars). name_of (atom (text_of m (number_of g)))) (sym (ap first_name e))
  by_first (atom f) (Comp g k) ns e = absurd (cc)
  by_first (comp f t ts) (Var y) ns e = absurd (cc)
  by_first (comp f t ts) (Int j) ns e = absurd (cc)
  by_first (comp f t ts) (Atom a) ns e = absurd (cc)
  by_first (comp f t ts) (Comp g k) ns e = refl

  pub named_says : (t : Tree) (all : List AtomNode) → node_views all ≡ nodes t → name_of (said m t) ≡ option_map (named_by (text_of m)) (first_named all)
  named_says t [] e = no_nodes t e
  named_says t (n ∷ ns) e = by_first t n ns e

module _ (m : Names) where
  number_held : (i : ℤ) → IfSome (number_named i) (λ n. All (λ a. IsSome (m a)) (alias_names n))
  number_held (pos n) = All-nil (λ a. IsSome (m a))
  number_held (negsuc n) = tt

  held_by_first : (t : Tree) (n : AtomNode) (ns : List AtomNode) → node_views (n ∷ ns) ≡ nodes t → All (λ a. IsSome (m a)) (names_of t) → IfSome (node_named n) (λ x. All (λ a. IsSome (m a)) (alias_names x))
  held_by_first t (Var y) ns e all = tt
  held_by_first t (Int i) ns e all = number_held i
  held_by_first t (Comp f k) ns e all = tt
  held_by_first (var x) (Atom a) ns e all = absurd (cc)
  held_by_first (int i) (Atom a) ns e all = absurd (cc)
  held_by_first (comp f t ts) (Atom a) ns e all = absurd (cc)
  held_by_first (atom f) (Atom a) ns e all =
      All-cons (λ k. IsSome (m k)) a [] (subst (λ (g : Chars). IsSome (m (number_of g))) (sym (ap first_name e)) (All-head (λ k. IsSome (m k)) (number_of f) [] (All-tail (λ k. IsSome (m k)) 12 (number_of f ∷ []) all))) (All-nil (λ k. IsSome (m k)))

  pub named_held : (t : Tree) (all : List AtomNode) → node_views all ≡ nodes t → All (λ a. IsSome (m a)) (names_of t) → IfSome (first_named all) (λ x. All (λ a. IsSome (m a)) (alias_names x))
  named_held t [] e held = tt
  named_held t (n ∷ ns) e held = held_by_first t n ns e held

-- The first of some nodes
pub first_at : (ns : List AtomNode) → 1 ≤ length ns → node_named (get_or ns 0 (Var 0)) ≡ first_named ns
first_at [] le = absurd (omega (arith, le))
first_at (n ∷ ns) le = refl

pub first_none : (ns : List AtomNode) → length ns < 1 → None ≡ first_named ns
first_none [] lt = refl
first_none (n ∷ ns) lt = absurd (omega (arith, lt))
