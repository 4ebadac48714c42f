-- The nodes of a term of a store, as they are taken one after the other.
use Rattle.std.proofs.Common.{◌≡◌, List, [], ◌∷◌, ◌++◌, length, refl, sym, ap, subst, append_assoc, append-nil, ◌∙◌}
use Rattle.std.specs.List.{All}
use Rattle.std.proofs.lemmas.List.Elements.{All-cons, All-nil}
use Rattle.pl_term.specs.Nodes.{nodes, nodes_all}
use Rattle.pl_term.specs.Tree.{Tree}
use Rattle.atom_api.specs.Names.{Names}
use Rattle.term_store.specs.declared.words.Place.{Place}
use Rattle.term_store.specs.Contents.{Contents, Holds}
use Rattle.named_terms.specs.declared.node.NumberedNode.{NumberedNode}
use Rattle.named_terms.specs.NamedNodes.{Extends, IsNodeNamed, node_by, nodes_by}
use Rattle.named_terms.proofs.NamedLaws.{all_named, one_more}
use Rattle.world_builtins.specs.declared.naming.Taking.{Taking}
use Rattle.world_builtins.specs.Following.{AreReadable, IsFirst, terms_ahead}
use Rattle.world_builtins.specs.Naming.{IsHeldAt}
use Rattle.world_builtins.specs.NamesMet.{Tells}
use Rattle.world_builtins.specs.Spelling.{reads}
use Rattle.world_builtins.specs.TermsTaken.{IsTaken}
use Rattle.world_builtins.proofs.Followed.{last_part, none_ahead, on_top, one_ahead}

-- Nothing was taken, and the term is to come.
pub none_taken : (m : Names) (s : Contents) (p : Place) (k : Taking) → Holds s p → IsHeldAt m s p → k.places.items ≡ p ∷ [] → k.nodes.items ≡ []
    → Tells m k.met.slots.items k.met.names.items → IsTaken m s (reads m s p) k
none_taken m s p k inside held places empty tells =
    record {
      readable =
          record {
            inside = subst (All (Holds s)) (sym places) (All-cons (Holds s) p [] inside (All-nil (Holds s)));
            held = subst (All (IsHeldAt m s)) (sym places) (All-cons (IsHeldAt m s) p [] held (All-nil (IsHeldAt m s)));
          };
      tells = tells;
      named = subst (All (IsNodeNamed (length k.met.names.items))) (sym empty) (All-nil (IsNodeNamed (length k.met.names.items)));
      taken =
          ap (λ ns. nodes_by k.met.names.items ns ++ nodes_all (terms_ahead m s k.places.items)) empty
          ∙ ap nodes_all (one_ahead m s p k.places.items places)
          ∙ append-nil (nodes (reads m s p));
    }

-- The next node was taken.
pub next_taken : (m : Names) (s : Contents) (t : Tree) (k l : Taking) (p : Place) (left : List Place) (n : NumberedNode) → IsTaken m s t k
    → k.places.items ≡ left ++ p ∷ []
    → IsFirst m s p left (node_by l.met.names.items n) l.places.items
    → IsNodeNamed (length l.met.names.items) n
    → AreReadable m s l.places.items
    → Tells m l.met.slots.items l.met.names.items
    → Extends k.met.names.items l.met.names.items
    → l.nodes.items ≡ k.nodes.items ++ n ∷ []
    → IsTaken m s t l
next_taken m s t k l p left n h at first one readable tells extends put =
    let old = k.met.names.items in
    let new = l.met.names.items in
    let front = nodes_by old k.nodes.items in
    let node = node_by new n in
    let ahead = nodes_all (terms_ahead m s l.places.items) in
    let here : nodes_all (terms_ahead m s k.places.items) ≡ node ∷ ahead =
    ap (λ ps. nodes_all (terms_ahead m s ps)) at ∙ ap nodes_all (on_top m s left p) ∙ first in
    record {
      readable = readable;
      tells = tells;
      named = all_named old new k.nodes.items l.nodes.items n extends put h.named one;
      taken =
          ap (λ ns. ns ++ ahead) (one_more old new k.nodes.items l.nodes.items n front node extends put h.named refl refl)
          ∙ append_assoc front (node ∷ []) ahead
          ∙ ap (λ ns. front ++ ns) (sym here)
          ∙ h.taken;
    }

-- All was taken.
pub all_taken : (m : Names) (s : Contents) (t : Tree) (k : Taking) → IsTaken m s t k → k.places.items ≡ [] → nodes_by k.met.names.items k.nodes.items ≡ nodes t
all_taken m s t k h over =
    sym (append-nil (nodes_by k.met.names.items k.nodes.items))
    ∙ ap (λ ns. nodes_by k.met.names.items k.nodes.items ++ ns) (sym (ap nodes_all (none_ahead m s k.places.items (ap length over))))
    ∙ h.taken

-- The place on top, and those under it
pub top_readable : (m : Names) (s : Contents) (ps left : List Place) (p : Place) → ps ≡ left ++ p ∷ [] → AreReadable m s ps
    → AreReadable m s left × (Holds s p × IsHeldAt m s p)
top_readable m s ps left p at h =
    let inside = last_part (Holds s) left p (subst (All (Holds s)) at h.inside) in
    let held = last_part (IsHeldAt m s) left p (subst (All (IsHeldAt m s)) at h.held) in
    (record { inside = inside.0; held = held.0 }, (inside.1, held.1))
