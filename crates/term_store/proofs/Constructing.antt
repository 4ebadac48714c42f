-- A term is built from its last node to its first.
use Rattle.std.proofs.Common.{◌≡◌, ℕ, suc, ◌+◌, ◌-◌, ◌<◌, ◌≤◌, List, [], ◌∷◌, ◌++◌, length, get_or, map, drop, drop-cons, sym, ap, ap₂, subst, ◌∙◌, arith, append-nil}
use Rattle.std.specs.List.{All}
use Rattle.std.proofs.lemmas.List.{drop-map, drop_all, length-map}
use Rattle.pl_term.specs.Tree.{Trees, none, more, count}
use Rattle.pl_term.specs.Nodes.{forest, nodes, tree, forest-nodes, tree-nodes}
use Rattle.pl_term.specs.Variables.{rename_by, rename_all_by}
use Rattle.pl_term.proofs.NodeLemmas.{count-rename_all_by}
use Rattle.term_store.specs.declared.words.Word.{Word}
use Rattle.term_store.specs.declared.nodes.AtomNode.{AtomNode}
use Rattle.term_store.specs.Heap.{Heap, meaning, numbered}
use Rattle.term_store.specs.Fit.{IsIn}
use Rattle.term_store.specs.Nodes.{IsNodeReady, IsSpelled, StandsFor, node_view, node_views, placed, standing}
use Rattle.term_store.proofs.Occurring.{popped}
use Rattle.term_store.proofs.Spelling.{node_ready, forest-placed}
use Rattle.term_store.proofs.Stacking.{length-standing, standing-push}

-- The nodes from a place on.
pub node_at : (ns : List AtomNode) (i : ℕ) (n d : AtomNode) → 0 < i → i ≤ length ns → n ≡ get_or ns (i - 1) d
    → drop (i - 1) (node_views ns) ≡ node_view n ∷ drop i (node_views ns)
node_at ns i n d some within e =
    let up : suc (i - 1) ≡ i = omega arith in
    drop-map node_view (i - 1) ns
    ∙ ap (map node_view) (drop-cons ns (i - 1) d (omega arith))
    ∙ ap₂ (λ m ms. node_view m ∷ ms) (sym e) (ap (λ k. map node_view (drop k ns)) up ∙ sym (drop-map node_view i ns))

module _ (f : ℕ → ℕ) (ns : List AtomNode) where
  pub nothing_built : (h : Heap) (ws : List Word) (i : ℕ) → ws ≡ [] → length ns ≤ i → standing h ws ≡ rename_all_by f (forest (drop i (node_views ns)))
  nothing_built h ws i e all =
      ap (standing h) e ∙ ap (λ ms. rename_all_by f (forest ms)) (sym (drop_all i (node_views ns) (omega (arith, length-map ns node_view))))

  pub next_ready : (h : Heap) (ws : List Word) (i : ℕ) (n e : AtomNode) → IsSpelled ns → 0 < i → i ≤ length ns → n ≡ get_or ns (i - 1) e
      → standing h ws ≡ rename_all_by f (forest (drop i (node_views ns))) → IsNodeReady (length ws) n
  next_ready h ws i n d s some within e stands =
      subst (λ k. IsNodeReady k n)
      (sym (sym (length-standing h ws) ∙ ap count stands ∙ count-rename_all_by f (forest (drop i (node_views ns)))))
      (node_ready n s.0 (i - 1) (drop i (node_views ns)) (ap (drop (i - 1)) (sym s.1) ∙ node_at ns i n d some within e))

  pub next_built : (c d : Heap) (vs ws : List Word) (i : ℕ) (n m : AtomNode) → 0 < i → i ≤ length ns → n ≡ get_or ns (i - 1) m
      → standing c vs ≡ rename_all_by f (forest (drop i (node_views ns))) → standing d ws ≡ placed f n (standing c vs)
      → standing d ws ≡ rename_all_by f (forest (drop (i - 1) (node_views ns)))
  next_built c d vs ws i n m some within e stands step =
      step ∙ ap (placed f n) stands ∙ sym (forest-placed f n (drop i (node_views ns)))
      ∙ ap (λ ms. rename_all_by f (forest ms)) (sym (node_at ns i n m some within e))

  pub all_built : (h : Heap) (vs ws : List Word) (w : Word) → IsSpelled ns → ws ≡ vs ++ w ∷ [] → All (IsIn h) ws
      → standing h ws ≡ rename_all_by f (forest (node_views ns)) → StandsFor h (rename_by f (tree (node_views ns))) w
  all_built h vs ws w s e all stands =
      let spelled : forest (node_views ns) ≡ more s.0 none = ap forest (s.1 ∙ sym (append-nil (nodes s.0))) ∙ forest-nodes s.0 [] in
      let both : more (meaning h w) (standing h vs) ≡ more (rename_by f s.0) none =
      sym (standing-push h vs w) ∙ ap (standing h) (sym e) ∙ stands ∙ ap (rename_all_by f) spelled in
      let first : meaning h w ≡ rename_by f s.0 = cc in
      record {
        inside = (popped (IsIn h) ws vs w e all).1;
        means = first ∙ ap (rename_by f) (sym (ap tree s.1 ∙ tree-nodes s.0));
      }

-- The numbers of the variables stay.
pub same_numbers : (c d : Heap) (base : ℕ) → d.numbers ≡ c.numbers → (n : AtomNode) (ts : Trees)
    → placed (λ x. numbered d (base + x)) n ts ≡ placed (λ x. numbered c (base + x)) n ts
same_numbers c d base e n ts = ap (λ ns. placed (λ x. get_or ns (base + x) 0) n ts) e
