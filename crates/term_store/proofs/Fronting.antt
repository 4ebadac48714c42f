-- The first node of a clause's head.
use Rattle.std.proofs.Common.{◌≡◌, ℕ, suc, ◌<◌, Bool, true, false, cond, ◌&&◌, ◌==◌, List, [], ◌∷◌, ◌++◌, length, get_or, map, refl, ap, ◌∙◌, arith}
use Rattle.std.proofs.lemmas.List.{length-append, length-map}
use Rattle.pl_term.specs.declared.node.Node.{Node}
use Rattle.pl_term.specs.declared.node.Node.TheVariants as terms
use Rattle.pl_term.specs.Nodes.{nodes, nodes_all}
use Rattle.pl_term.specs.Tree.{Chars, Tree, var, int, atom, comp, none, more, count, compound}
use Rattle.pl_term.proofs.Spelled.{count-trees}
use Rattle.pl_model.proofs.KeptKeys.{not_two}
use Rattle.pl_model.proofs.UnifyNodes.{length-nodes_pos}
use Rattle.term_store.specs.declared.words.Word.TheVariants.{Comp}
use Rattle.term_store.specs.declared.block.Block.{Block}
use Rattle.term_store.specs.ArgumentKeys.{begins_rule, head_in, head_nodes}
use Rattle.term_store.specs.Blocks.{IsBlock, block_heap, part_of}
use Rattle.term_store.specs.Fit.{no_head}
use Rattle.term_store.specs.Heap.{atom_name, words_of}
use Rattle.term_store.specs.NumberedNames.{neck, number_of}
use Rattle.term_store.proofs.Opening.{opened}
use Rattle.term_store.proofs.Turning.{length-words}

front_append : (t : Tree) (ns : List Node) (d : Node) → get_or (nodes t ++ ns) 0 d ≡ get_or (nodes t) 0 d
front_append (var x) ns d = refl
front_append (int i) ns d = refl
front_append (atom a) ns d = refl
front_append (comp f t ts) ns d = refl

pub head_front : (t : Tree) (d : Node) → get_or (head_nodes (nodes t)) 0 d ≡ get_or (nodes (head_in t)) 0 d
head_front (var x) d = refl
head_front (int i) d = refl
head_front (atom a) d = refl
head_front (comp f t none) d = refl
head_front (comp f t (more u none)) d = go (number_of f == neck)
  where
    ns : List Node
    ns = nodes t ++ (nodes u ++ [])

    go : (q : Bool) → get_or (cond q ns (terms.Comp f 2 ∷ ns)) 0 d ≡ get_or (nodes (cond q t (comp f t (more u none)))) 0 d
    go true = front_append t (nodes u ++ []) d
    go false = refl
head_front (comp f t (more u (more v ts))) d =
    let ns = nodes t ++ nodes_all (more u (more v ts)) in
    ap (λ b. get_or (cond (b && (number_of f == neck)) ns (terms.Comp f (suc (count (more u (more v ts)))) ∷ ns)) 0 d) (not_two (count ts))

-- There is one.
pub head_some : (t : Tree) → 0 < length (head_nodes (nodes t))
head_some (var x) = omega arith
head_some (int i) = omega arith
head_some (atom a) = omega arith
head_some (comp f t ts) = go (begins_rule (terms.Comp f (suc (count ts))))
  where
    go : (q : Bool) → 0 < length (cond q (nodes t ++ nodes_all ts) (terms.Comp f (suc (count ts)) ∷ (nodes t ++ nodes_all ts)))
    go true = omega (arith, length-nodes_pos t, length-append (nodes t) (nodes_all ts))
    go false = omega arith

compound_front : (f : Chars) (ts : List Tree) (n : ℕ) (d : Node) → length ts ≡ n → 0 < n → get_or (nodes (compound f ts)) 0 d ≡ terms.Comp f n
compound_front f [] n d e some = absurd (omega (arith, e, some))
compound_front f (t ∷ ts) n d e some = ap (terms.Comp f) (ap suc (count-trees ts) ∙ e)

-- That of a compound term of a block, by its head.
pub part_front : (b : Block) → IsBlock b → (k : ℕ) → k < length b.heads.items → (d : Node)
    → get_or (nodes (part_of b (Comp k))) 0 d ≡ terms.Comp (atom_name (get_or b.heads.items k no_head).name) (get_or b.heads.items k no_head).count
part_front b block k inside d =
    let g = get_or b.heads.items k no_head in
    let ws = words_of b.args.items g in
    ap (λ t. get_or (nodes t) 0 d) (opened (block_heap b) k block.fit inside)
    ∙ compound_front (atom_name g.name) (map (part_of b) ws) g.count d (length-map ws (part_of b) ∙ length-words (block_heap b) k block.fit inside) (block.fit.heads k inside).some
