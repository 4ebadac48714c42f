-- Reading one term off a list of nodes.
use Rattle.std.proofs.Common.{◌≡◌, ℕ, suc, ◌+◌, ◌-◌, ◌<◌, ◌≤◌, List, [], ◌∷◌, ◌++◌, length, take, drop, refl, sym, ap, ap₂, ◌∙◌, append-nil, arith, length-append, length-drop}
use Rattle.std.proofs.lemmas.List.{drop_all, take-append-le}
use Rattle.std.proofs.Math.Seq.{drop-append_seam, take-length}
use Rattle.pl_term.specs.declared.node.Node.{Node}
use Rattle.pl_term.specs.Tree.{Chars, Tree, Trees, var, int, atom, comp, none, more, count}
use Rattle.pl_term.specs.Nodes.{nodes, nodes_all, tree}
use Rattle.pl_consult.specs.Subterms.{StartsTerm, arity_of, IsBinary}
use Rattle.pl_consult.proofs.TermNodes.{first_node, opened, nodes-opened, count-opened, count-le, tree-front, length-nodes_pos}

-- The list begins with the nodes of so many whole terms, which have so many nodes.
pub record Pending (ns : List Node) (pending left : ℕ) : Type 0 where
  pub terms : Trees
  pub rest : List Node
  pub parts : ns ≡ nodes_all terms ++ rest
  pub counted : count terms ≡ pending
  pub measured : length (nodes_all terms) ≡ left

pub pending_more : (n : Node) (ns : List Node) (k left : ℕ) → Pending (n ∷ ns) (suc k) left → Pending ns (k + arity_of n) (left - 1) × (0 < left)
pending_more n ns k left p = go p.terms p.parts p.counted p.measured
  where
    go : (ts : Trees) → n ∷ ns ≡ nodes_all ts ++ p.rest → count ts ≡ suc k → length (nodes_all ts) ≡ left → Pending ns (k + arity_of n) (left - 1) × (0 < left)
    go none e c m = absurd (omega arith)
    go (more t us) e c m =
        let whole : n ∷ ns ≡ first_node t ∷ (nodes_all (opened t us) ++ p.rest) =
        e ∙ ap (λ xs. xs ++ p.rest) (nodes-opened t us) in
        let head : n ≡ first_node t = cc in
        let size = ap (length {A = Node}) (nodes-opened t us) in (
          record {
            terms = opened t us;
            rest = p.rest;
            parts = cc;
            counted = rw head (omega (arith, count-opened t us));
            measured = omega arith;
          },
          omega arith,
        )

-- At the place `i`, so many terms are still to be read, up to where the term at the place `at` ends.
pub record Reading (all : List Node) (at i pending : ℕ) : Type 0 where
  pub left : ℕ
  pub pending_is : Pending (drop i all) pending left
  pub place : i + left ≡ at + length (nodes (tree (drop at all)))

pub reading_start : (all : List Node) (at : ℕ) → StartsTerm (drop at all) → Reading all at at 1
reading_start all at s =
    let whole : tree (drop at all) ≡ s.term = ap tree s.parts ∙ tree-front s.term s.rest in
    record {
      left = length (nodes s.term);
      pending_is = record {
        terms = more s.term none;
        rest = s.rest;
        parts = rw append-nil s.parts;
        counted = refl;
        measured = rw append-nil;
      };
      place = rw whole;
    }

pub reading_more : (all : List Node) (at i k : ℕ) (n : Node) → drop i all ≡ n ∷ drop (suc i) all → Reading all at i (suc k) → Reading all at (suc i) (k + arity_of n)
reading_more all at i k n e r =
    let p = pending_more n (drop (suc i) all) k r.left (rw e at r.pending_is) in
    record {
      left = r.left - 1;
      pending_is = p.0;
      place = omega (arith, p.1, r.place);
    }

no_nodes : (ts : Trees) (ns : List Node) → [] ≡ nodes_all ts ++ ns → length (nodes_all ts) ≡ 0
no_nodes ts ns e = omega (arith, ap (length {A = Node}) e, length-append (nodes_all ts) ns)

no_terms : (ts : Trees) → count ts ≡ 0 → length (nodes_all ts) ≡ 0
no_terms none e = refl
no_terms (more t ts) e = absurd (omega arith)

-- Where nothing is left to be read, the term has ended.
pub reading-end : (all : List Node) (at i : ℕ) → Reading all at i 0 → i ≡ at + length (nodes (tree (drop at all)))
reading-end all at i r = omega (arith, r.place, no_terms r.pending_is.terms r.pending_is.counted, r.pending_is.measured)

-- Nor can it go on after the last node.
pub reading-past : (all : List Node) (at i k : ℕ) → length all ≤ i → Reading all at i k → i ≡ at + length (nodes (tree (drop at all)))
reading-past all at i k h r =
    omega (arith, r.place, no_nodes r.pending_is.terms r.pending_is.rest (sym (drop_all i all h) ∙ r.pending_is.parts), r.pending_is.measured)

pub reading-within : (all : List Node) (at i k : ℕ) → Reading all at i k → k ≤ length all
reading-within all at i k r =
    let p = r.pending_is in
    omega (arith, count-le p.terms, p.counted, ap (length {A = Node}) p.parts, length-append (nodes_all p.terms) p.rest, length-drop i all)

pub StartsTerm-within : (all : List Node) (at : ℕ) → StartsTerm (drop at all) → at < length all
StartsTerm-within all at s =
    omega (arith, ap (length {A = Node}) s.parts, length-append (nodes s.term) s.rest, length-nodes_pos s.term, length-drop at all)

-- As many nodes as the first term has are its nodes.
pub take-first_term : (ns : List Node) (k : ℕ) → StartsTerm ns → k ≡ length (nodes (tree ns)) → take k ns ≡ nodes (tree ns)
take-first_term ns k s e =
    let whole : tree ns ≡ s.term = ap tree s.parts ∙ tree-front s.term s.rest in
    ap (λ n. take n ns) e ∙ rw whole (rw s.parts (take-append-le (length (nodes s.term)) (nodes s.term) s.rest (omega arith) ∙ take-length (nodes s.term)))

-- Where the second of two arguments begins, and what the two make up.
pub record Second (t l : Tree) (middle : ℕ) : Type 0 where
  pub starts : StartsTerm (drop middle (nodes t))
  pub whole : (r : Tree) → r ≡ tree (drop middle (nodes t)) → (f : Chars) × (t ≡ comp f l (more r none))

second_of : (f : Chars) (t u l : Tree) (middle : ℕ) → l ≡ tree (nodes t ++ (nodes u ++ [])) → middle ≡ 1 + length (nodes l) → Second (comp f t (more u none)) l middle
second_of f t u l middle first end =
    let is_first : l ≡ t = first ∙ tree-front t (nodes u ++ []) in
    let at : middle ≡ suc (length (nodes t)) = omega (arith, ap (λ x. length (nodes x)) is_first) in
    let behind : drop middle (nodes (comp f t (more u none))) ≡ nodes u ++ [] =
    ap (λ n. drop n (nodes (comp f t (more u none)))) at ∙ drop-append_seam (nodes t) (nodes u ++ []) in
    record {
      starts = record { term = u; rest = []; parts = behind };
      whole = λ r e. (f, ap₂ (λ x y. comp f x (more y none)) (sym is_first) (sym (e ∙ ap tree behind ∙ tree-front u [])));
    }

pub second : (t l : Tree) (middle : ℕ) → IsBinary t → l ≡ tree (drop 1 (nodes t)) → middle ≡ 1 + length (nodes l) → Second t l middle
second (var x) l middle b first end = absurd b
second (int i) l middle b first end = absurd b
second (atom a) l middle b first end = absurd b
second (comp f t none) l middle b first end = absurd b
second (comp f t (more u none)) l middle b first end = second_of f t u l middle first end
second (comp f t (more u (more v ts))) l middle b first end = absurd b
