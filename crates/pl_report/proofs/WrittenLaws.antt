-- The nodes of a term, written one after the other.
use Rattle.std.proofs.Common.{◌≡◌, ◌<◌, ◌≤◌, ◌+◌, ℕ, suc, List, [], ◌∷◌, ◌++◌, length, drop, get_or, refl, sym, ap, subst, append_assoc, append-nil, drop-cons, add-one, ◌∙◌, arith}
use Rattle.std.proofs.lemmas.List.{drop_all}
use Rattle.pl_term.specs.declared.node.Node.{Node}
use Rattle.pl_term.specs.declared.node.Node.TheVariants.{Var, Int, Atom, Comp}
use Rattle.pl_term.specs.Nodes.{nodes, nodes_all}
use Rattle.pl_term.specs.Tree.{Tree, Trees, atom, comp, count, int, join, more, none, var}
use Rattle.term_writer.specs.declared.writing.Writing.{Writing}
use Rattle.term_writer.specs.Writings.{Goes, IsWanted, finished, wants}
use Rattle.pl_report.specs.WrittenNodes.{IsWrittenTo}

join_nodes : (ts us : Trees) → nodes_all (join ts us) ≡ nodes_all ts ++ nodes_all us
join_nodes none us = refl
join_nodes (more t ts) us = ap (λ ns. nodes t ++ ns) (join_nodes ts us) ∙ sym (append_assoc (nodes t) (nodes_all ts) (nodes_all us))

-- What follows the first node of some terms is the nodes of some terms.
rest_of : (ts : Trees) (n : Node) (ns : List Node) → nodes_all ts ≡ n ∷ ns → (us : Trees) × (nodes_all us ≡ ns)
rest_of none n ns e = absurd (let c : [] ≡ n ∷ ns = e in cc)
rest_of (more (var x) ts) n ns e = (ts, (let c : Var x ∷ nodes_all ts ≡ n ∷ ns = e in cc))
rest_of (more (int i) ts) n ns e = (ts, (let c : Int i ∷ nodes_all ts ≡ n ∷ ns = e in cc))
rest_of (more (atom a) ts) n ns e = (ts, (let c : Atom a ∷ nodes_all ts ≡ n ∷ ns = e in cc))
rest_of (more (comp f t us) ts) n ns e =
    let tail : (nodes t ++ nodes_all us) ++ nodes_all ts ≡ ns =
    (let c : Comp f (suc (count us)) ∷ ((nodes t ++ nodes_all us) ++ nodes_all ts) ≡ n ∷ ns = e in cc) in (
      more t (join us ts),
      ap (λ l. nodes t ++ l) (join_nodes us ts) ∙ sym (append_assoc (nodes t) (nodes_all us) (nodes_all ts)) ∙ tail,
    )

none_left : (ts : Trees) → nodes_all ts ≡ [] → ts ≡ none
none_left none e = refl
none_left (more (var x) ts) e = absurd (let c : Var x ∷ nodes_all ts ≡ [] = e in cc)
none_left (more (int i) ts) e = absurd (let c : Int i ∷ nodes_all ts ≡ [] = e in cc)
none_left (more (atom a) ts) e = absurd (let c : Atom a ∷ nodes_all ts ≡ [] = e in cc)
none_left (more (comp f t us) ts) e =
    absurd (let c : Comp f (suc (count us)) ∷ ((nodes t ++ nodes_all us) ++ nodes_all ts) ≡ [] = e in cc)

pub none_written : (t : Tree) (w : Writing) → wants w ≡ 1 → IsWrittenTo t w 0 w
none_written t w one = record { ahead = more t none; left = append-nil (nodes t); wanted = one; same = refl }

module _ (t : Tree) (begun : Writing) (i : ℕ) (n : Node) (w : Writing) (within : i < length (nodes t)) (is : n ≡ get_or (nodes t) i n) (h : IsWrittenTo t begun i w) where
  next : nodes_all h.ahead ≡ n ∷ drop (suc i) (nodes t)
  next = h.left ∙ drop-cons (nodes t) i n within ∙ ap (λ m. m ∷ drop (suc i) (nodes t)) (sym is)

  rest : (us : Trees) × (nodes_all us ≡ drop (suc i) (nodes t))
  rest = rest_of h.ahead n (drop (suc i) (nodes t)) next

  first : nodes_all h.ahead ≡ n ∷ nodes_all rest.0
  first = next ∙ ap (λ l. n ∷ l) (sym rest.1)

  pub is_wanted : IsWanted n w
  is_wanted = (h.ahead, rest.0, first, h.wanted)

  pub one_written : (v : Writing) → Goes n w v → IsWrittenTo t begun (i + 1) v
  one_written v goes =
      rw (add-one i)
      (record {
        ahead = rest.0;
        left = rest.1;
        wanted = goes.wanted h.ahead rest.0 first h.wanted;
        same = goes.same h.ahead rest.0 first h.wanted ∙ h.same;
      })

pub all_written : (t : Tree) (begun : Writing) (i : ℕ) (w : Writing) → length (nodes t) ≤ i → IsWrittenTo t begun i w
    → (wants w ≡ 0) × (finished w none ≡ finished begun (more t none))
all_written t begun i w past h =
    let over = none_left h.ahead (h.left ∙ drop_all i (nodes t) past) in
    (h.wanted ∙ ap count over, ap (finished w) (sym over) ∙ h.same)
