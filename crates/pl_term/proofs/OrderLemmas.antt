-- The standard order of two terms is that of their lists of nodes, one node after the other.
use Rattle.std.proofs.Common.{◌≡◌, ◌<◌, ◌≤◌, ◌+◌, ℕ, suc, false, List, [], ◌∷◌, ◌++◌, length, drop, get_or, min, refl, sym, ◌∙◌, ap, arith, append_assoc, append-nil, length-drop, ◌-◌, drop-cons, add-one}
use Rattle.std.proofs.lemmas.Bool.Decides.{nat_tests}
use Rattle.std.proofs.lemmas.Cmp.{ranked}
use Rattle.std.specs.Cmp.Lexicographic.{slice_cmp}
use Rattle.std.specs.Ordering.{nat_cmp, ordering_then, is_ne}
use Rattle.std.specs.declared.cmp.Ordering.{Ordering}
use Rattle.std.specs.declared.cmp.Ordering.TheVariants.{Less, Equal, Greater}
use Rattle.pl_term.specs.declared.node.Node.{Node}
use Rattle.pl_term.specs.Tree.{Tree, Trees, var, int, atom, comp, none, more, count}
use Rattle.pl_term.specs.Nodes.{nodes, nodes_all}
use Rattle.pl_term.specs.Order.{order, order_all, text_order}
use Rattle.pl_term.specs.NodeLists.{node_order}
use Rattle.pl_term.proofs.TextOrder.{then_assoc, nat_cmp-less, nat_cmp-greater}

nat_cmp-suc : (k l : ℕ) → nat_cmp (suc k) (suc l) ≡ nat_cmp k l
nat_cmp-suc k l = grind (arith, nat_tests)

pub equal_from : (k l : ℕ) → nat_cmp k l ≡ Equal → k ≡ l
equal_from k l e = ranked k l Equal (sym e)

-- A compound term is compared by its arity, then by its name, then by what comes after these.
heads : (k l : ℕ) (p inner whole rest o : Ordering)
    → nat_cmp k l ≡ o
    → (k ≡ l → whole ≡ ordering_then inner rest)
    → ordering_then (ordering_then (nat_cmp (suc k) (suc l)) p) whole
    ≡ ordering_then (ordering_then (nat_cmp k l) (ordering_then p inner)) rest
heads k l p inner whole rest Less e h = rw (nat_cmp-suc k l, e)
heads k l p inner whole rest Equal e h =
    rw (nat_cmp-suc k l, e)
    (ap (ordering_then p) (h (equal_from k l e)) ∙ sym (then_assoc p inner rest))
heads k l p inner whole rest Greater e h = rw (nat_cmp-suc k l, e)

apart : (xs xs' ys ys' : List Node) (ns ms : List Node)
    → slice_cmp node_order ((xs ++ xs') ++ ns) ((ys ++ ys') ++ ms)
    ≡ slice_cmp node_order (xs ++ (xs' ++ ns)) (ys ++ (ys' ++ ms))
apart xs xs' ys ys' ns ms = rw (append_assoc xs xs' ns, append_assoc ys ys' ms)

mutual
  pub order_nodes : (t u : Tree) (ns ms : List Node)
      → slice_cmp node_order (nodes t ++ ns) (nodes u ++ ms) ≡ ordering_then (order t u) (slice_cmp node_order ns ms)
  order_nodes (var x) (var y) ns ms = refl
  order_nodes (int i) (int j) ns ms = refl
  order_nodes (atom a) (atom b) ns ms = refl
  order_nodes (comp f t ts) (comp g u us) ns ms =
      heads
      (count ts)
      (count us)
      (text_order f g)
      (ordering_then (order t u) (order_all ts us))
      (slice_cmp node_order ((nodes t ++ nodes_all ts) ++ ns) ((nodes u ++ nodes_all us) ++ ms))
      (slice_cmp node_order ns ms)
      (nat_cmp (count ts) (count us))
      refl
      (λ e. apart (nodes t) (nodes_all ts) (nodes u) (nodes_all us) ns ms
      ∙ order_nodes t u (nodes_all ts ++ ns) (nodes_all us ++ ms)
      ∙ ap (ordering_then (order t u)) (order_nodes_all ts us ns ms e)
      ∙ sym (then_assoc (order t u) (order_all ts us) (slice_cmp node_order ns ms)))
  order_nodes (var x) (int j) ns ms = refl
  order_nodes (var x) (atom b) ns ms = refl
  order_nodes (var x) (comp g u us) ns ms = refl
  order_nodes (int i) (var y) ns ms = refl
  order_nodes (int i) (atom b) ns ms = refl
  order_nodes (int i) (comp g u us) ns ms = refl
  order_nodes (atom a) (var y) ns ms = refl
  order_nodes (atom a) (int j) ns ms = refl
  order_nodes (atom a) (comp g u us) ns ms = refl
  order_nodes (comp f t ts) (var y) ns ms = refl
  order_nodes (comp f t ts) (int j) ns ms = refl
  order_nodes (comp f t ts) (atom b) ns ms = refl

  pub order_nodes_all : (ts us : Trees) (ns ms : List Node)
      → count ts ≡ count us
      → slice_cmp node_order (nodes_all ts ++ ns) (nodes_all us ++ ms)
      ≡ ordering_then (order_all ts us) (slice_cmp node_order ns ms)
  order_nodes_all none none ns ms e = refl
  order_nodes_all none (more u us) ns ms e = absurd (omega arith)
  order_nodes_all (more t ts) none ns ms e = absurd (omega arith)
  order_nodes_all (more t ts) (more u us) ns ms e =
      apart (nodes t) (nodes_all ts) (nodes u) (nodes_all us) ns ms
      ∙ order_nodes t u (nodes_all ts ++ ns) (nodes_all us ++ ms)
      ∙ ap (ordering_then (order t u)) (order_nodes_all ts us ns ms (omega arith))
      ∙ sym (then_assoc (order t u) (order_all ts us) (slice_cmp node_order ns ms))

then_equal : (o : Ordering) → ordering_then o Equal ≡ o
then_equal Less = refl
then_equal Equal = refl
then_equal Greater = refl

-- The standard order of two terms by their nodes.
pub order_by_nodes : (t u : Tree) → slice_cmp node_order (nodes t) (nodes u) ≡ order t u
order_by_nodes t u =
    let e : slice_cmp node_order (nodes t) (nodes u) ≡ slice_cmp node_order (nodes t ++ []) (nodes u ++ []) =
    rw (append-nil (nodes t), append-nil (nodes u)) in
    e ∙ order_nodes t u [] [] ∙ then_equal (order t u)

equal_from_not_ne : (o : Ordering) → is_ne o ≡ false → o ≡ Equal
equal_from_not_ne Less e = cc
equal_from_not_ne Equal e = refl
equal_from_not_ne Greater e = cc

-- After two nodes that are not apart the lists are compared by what is left.
pub same_step : (xs ys : List Node) (i : ℕ) (x y : Node) (o : Ordering)
    → i < length xs
    → i < length ys
    → x ≡ get_or xs i x
    → y ≡ get_or ys i y
    → o ≡ node_order x y
    → is_ne o ≡ false
    → slice_cmp node_order (drop i xs) (drop i ys) ≡ slice_cmp node_order (drop (i + 1) xs) (drop (i + 1) ys)
same_step xs ys i x y o h k p q is same =
    let e : node_order x y ≡ Equal = sym is ∙ equal_from_not_ne o same in
    ap (λ ns. slice_cmp node_order ns (drop i ys)) (drop-cons xs i x h ∙ ap (λ n. n ∷ drop (suc i) xs) (sym p))
    ∙ ap
    (λ ns. slice_cmp node_order (x ∷ drop (suc i) xs) ns)
    (drop-cons ys i y k ∙ ap (λ n. n ∷ drop (suc i) ys) (sym q))
    ∙ ap (λ r. ordering_then r (slice_cmp node_order (drop (suc i) xs) (drop (suc i) ys))) e
    ∙ ap (λ j. slice_cmp node_order (drop j xs) (drop j ys)) (sym (add-one i))

shorter : (xs ys : List Node)
    → min (length xs) (length ys) ≡ 0
    → slice_cmp node_order xs ys ≡ nat_cmp (length xs) (length ys)
shorter [] [] e = refl
shorter [] (y ∷ ys) e = sym (nat_cmp-less 0 (length (y ∷ ys)) (omega arith))
shorter (x ∷ xs) [] e = sym (nat_cmp-greater (length (x ∷ xs)) 0 (omega arith))
shorter (x ∷ xs) (y ∷ ys) e = absurd (omega arith)

minus_cmp : (i m n : ℕ) → i ≤ m → i ≤ n → nat_cmp (m - i) (n - i) ≡ nat_cmp m n
minus_cmp i m n h k = grind (arith, nat_tests)

-- After the shorter list the lengths decide.
pub same_end : (xs ys : List Node) (i : ℕ)
    → i ≡ min (length xs) (length ys)
    → slice_cmp node_order (drop i xs) (drop i ys) ≡ nat_cmp (length xs) (length ys)
same_end xs ys i e =
    shorter (drop i xs) (drop i ys) (omega (arith, length-drop i xs, length-drop i ys))
    ∙ rw (length-drop i xs, length-drop i ys) (minus_cmp i (length xs) (length ys) (omega arith) (omega arith))
