-- What comes of further arguments, and of what follows an element of a list.
use Rattle.std.proofs.Common.{◌≡◌, ◌+◌, ℕ, suc, Bool, true, false, cond, List, [], ◌∷◌, ◌++◌, drop, refl, sym, ◌∙◌, ap, append_assoc, arith}
use Rattle.std.specs.Prelude.{◌==◌, ◌&&◌, bytes_eq, codes}
use Rattle.std.proofs.lemmas.Bool.{and_parts, eqb-true, eq-eqb}
use Rattle.std.proofs.lemmas.Bool.Decides.{same_from_decides, Decides-eqb}
use Rattle.pl_term.specs.declared.node.Node.{Node}
use Rattle.pl_term.specs.declared.node.Node.TheVariants.{Var, Int, Atom, Comp}
use Rattle.pl_term.specs.Tree.{Chars, Tree, Trees, var, int, atom, comp, none, more, count, join, first, after}
use Rattle.pl_term.specs.Nodes.{nodes, nodes_all, forest}
use Rattle.pl_model.specs.TermGrammar.{Lookup}
use Rattle.pl_model.specs.TermWriting.{Manner, Piece, plain, pieces, arguments, list_tail, elements}
use Rattle.pl_model.specs.Writing.{alone, Tail, ends, goes_on, partial, tail_of}
use Rattle.term_writer.specs.declared.writer.Continues.TheVariants.{Ends, GoesOn, Partial}
use Rattle.term_writer.specs.declared.writer.Work.{Work}
use Rattle.term_writer.specs.declared.writer.Work.TheVariants.{Term, Arguments, Rest, Bracket}
use Rattle.term_writer.specs.declared.operators.Position.TheVariants.{Alone}
use Rattle.term_writer.specs.Work.{Ahead, reads, coming, left, tail_node, continues_view}
use Rattle.term_writer.proofs.Ahead.{ahead, forest_all, leaf_read, Compound, compound_read, compound_ahead}

-- The terms that are still to be read are those that the nodes spell.
pub trees_ahead : (ns : List Node) (at : ℕ) (ws : List Work) → (a : Ahead ns at ws) → forest (drop at ns) ≡ a.trees
trees_ahead ns at ws a = ap forest a.spelled ∙ forest_all a.trees

-- Another item that reads as many terms.
pub ahead_as : (ns : List Node) (at : ℕ) (vs ws : List Work) → Ahead ns at vs → reads ws ≡ reads vs → Ahead ns at ws
ahead_as ns at vs ws a same = ahead ns at ws a.trees a.spelled (same ∙ a.enough)

one_less : (m : ℕ) → (suc m == 2) ≡ (m == 1)
one_less m =
    same_from_decides (suc m == 2) (m == 1) (λ t. let e = eqb-true (suc m) 2 t in omega (arith, e), λ e. eq-eqb (suc m) 2 (omega arith)) (Decides-eqb m 1)

-- The first node of a tail tells what the tail is.
tail_same : (n : Node) (t : Tree) (us : Trees) (ns : List Node)
    → n ∷ ns ≡ nodes t ++ nodes_all us
    → tail_node n ≡ tail_of t
tail_same n (var x) us ns e = let is : n ≡ Var x = cc in ap tail_node is
tail_same n (int i) us ns e = let is : n ≡ Int i = cc in ap tail_node is
tail_same n (atom a) us ns e = let is : n ≡ Atom a = cc in ap tail_node is
tail_same n (comp f t ts) us ns e =
    let is : n ≡ Comp f (suc (count ts)) = cc in
    ap tail_node is ∙ ap (λ b. cond (b && bytes_eq f (codes ".")) goes_on partial) (one_less (count ts))

ends_view : (w : Tail) → Ends ≡ continues_view w → w ≡ ends
ends_view ends e = refl
ends_view goes_on e = cc
ends_view partial e = cc

goes_on_view : (w : Tail) → GoesOn ≡ continues_view w → w ≡ goes_on
goes_on_view ends e = cc
goes_on_view goes_on e = refl
goes_on_view partial e = cc

partial_view : (w : Tail) → Partial ≡ continues_view w → w ≡ partial
partial_view ends e = cc
partial_view goes_on e = cc
partial_view partial e = refl

-- The end of a list.
ends_atom : (n : Node) → tail_node n ≡ ends → (a : Chars) × (n ≡ Atom a)
ends_atom (Var x) e = cc
ends_atom (Int i) e = cc
ends_atom (Atom a) e = (a, refl)
ends_atom (Comp f k) e = no ((k == 2) && bytes_eq f (codes ".")) e
  where
    no : (b : Bool) → cond b goes_on partial ≡ ends → (a : Chars) × (Comp f k ≡ Atom a)
    no true e = cc
    no false e = cc

pub ends_ahead : (ns : List Node) (at : ℕ) (ws : List Work) (n : Node)
    → Ahead ns at (Rest ∷ ws)
    → drop at ns ≡ n ∷ drop (at + 1) ns
    → Ends ≡ continues_view (tail_node n)
    → Ahead ns (at + 1) ws
ends_ahead ns at ws n a e shape =
    let x = ends_atom n (ends_view (tail_node n) shape) in
    leaf_read ns at ws x.0 a.trees (e ∙ ap (λ m. m ∷ drop (at + 1) ns) x.1) a.spelled a.enough

-- A further element of a list.
goes_on_cell : (n : Node) → tail_node n ≡ goes_on → (f : Chars) × (n ≡ Comp f 2)
goes_on_cell (Var x) e = cc
goes_on_cell (Int i) e = cc
goes_on_cell (Atom a) e = no (bytes_eq a (codes "[]")) e
  where
    no : (b : Bool) → cond b ends partial ≡ goes_on → (f : Chars) × (Atom a ≡ Comp f 2)
    no true e = cc
    no false e = cc
goes_on_cell (Comp f k) e = cell ((k == 2) && bytes_eq f (codes ".")) refl e
  where
    cell : (b : Bool) → ((k == 2) && bytes_eq f (codes ".")) ≡ b → cond b goes_on partial ≡ goes_on → (g : Chars) × (Comp f k ≡ Comp g 2)
    cell true t e = (f, ap (Comp f) (eqb-true k 2 (and_parts (k == 2) _ t).0))
    cell false t e = cc

pub cell_at : (ns : List Node) (at : ℕ) (ws : List Work) (n : Node)
    → Ahead ns at (Rest ∷ ws)
    → drop at ns ≡ n ∷ drop (at + 1) ns
    → GoesOn ≡ continues_view (tail_node n)
    → (f : Chars) × Compound ns at (reads ws) f 2
cell_at ns at ws n a e shape =
    let x = goes_on_cell n (goes_on_view (tail_node n) shape) in
    (x.0, compound_read ns at (reads ws) x.0 2 a.trees (e ∙ ap (λ m. m ∷ drop (at + 1) ns) x.1) a.spelled a.enough)

pub goes_on_ahead : (ns : List Node) (at : ℕ) (ws : List Work) (f : Chars)
    → Compound ns at (reads ws) f 2
    → Ahead ns (at + 1) (Term 999 Alone ∷ Rest ∷ ws)
goes_on_ahead ns at ws f c = compound_ahead ns at (reads ws) f 2 (Term 999 Alone ∷ Rest ∷ ws) c (omega arith)

-- The same items under another name.
pub ahead_on : (ns : List Node) (at : ℕ) (vs ws : List Work) → vs ≡ ws → Ahead ns at ws → Ahead ns at vs
ahead_on ns at vs ws e a = ahead_as ns at ws vs a (ap reads e)

module _ (manner : Manner) (ops : Lookup) where
  argument_of : (m : ℕ) (ws : List Work) (ts : Trees)
      → suc m + reads ws ≡ count ts
      → coming manner ops (Arguments (suc m) ∷ ws) ts ≡ plain (codes ",") ∷ coming manner ops (Term 999 Alone ∷ Arguments m ∷ ws) ts
  unfolding pieces
  argument_of m ws none enough = absurd (omega arith)
  argument_of m ws (more t us) enough =
      ap (λ qs. plain (codes ",") ∷ qs) (append_assoc (pieces manner ops 999 alone t) (arguments manner ops (first m us)) (coming manner ops ws (after m us)))

  -- One of the further arguments, after its comma.
  pub argument_left : (ns : List Node) (at k m : ℕ) (ws : List Work)
      → Ahead ns at (Arguments k ∷ ws)
      → k ≡ suc m
      → left manner ops ns at (Arguments k ∷ ws) ≡ plain (codes ",") ∷ left manner ops ns at (Term 999 Alone ∷ Arguments m ∷ ws)
  argument_left ns at k m ws a one_less =
      let e = trees_ahead ns at (Arguments k ∷ ws) a in
      let enough : suc m + reads ws ≡ count a.trees = omega (arith, a.enough) in
      ap (λ j. coming manner ops (Arguments j ∷ ws) (forest (drop at ns))) one_less
      ∙ ap (coming manner ops (Arguments (suc m) ∷ ws)) e
      ∙ argument_of m ws a.trees enough
      ∙ ap (λ ts. plain (codes ",") ∷ coming manner ops (Term 999 Alone ∷ Arguments m ∷ ws) ts) (sym e)

  -- The end of the arguments, whatever terms are still to be read.
  pub arguments_close : (ws : List Work) (ts : Trees) (k : ℕ)
      → k ≡ 0
      → coming manner ops (Arguments k ∷ ws) ts ≡ plain (codes ")") ∷ coming manner ops ws ts
  unfolding pieces
  arguments_close ws ts k none_left = ap (λ j. coming manner ops (Arguments j ∷ ws) ts) none_left

  -- The end of the arguments.
  pub arguments_end : (ns : List Node) (at k : ℕ) (ws : List Work)
      → k ≡ 0
      → left manner ops ns at (Arguments k ∷ ws) ≡ plain (codes ")") ∷ left manner ops ns at ws
  unfolding pieces
  arguments_end ns at k ws none_left = ap (λ j. coming manner ops (Arguments j ∷ ws) (forest (drop at ns))) none_left

  by_tail : Tree → Tail → List Piece
  by_tail t w =
      elim w [
        | ends ↦ plain (codes "]") ∷ []
        | goes_on ↦ elements manner ops t
        | partial ↦ plain (codes "|") ∷ (pieces manner ops 999 alone t ++ plain (codes "]") ∷ [])
      ]

  tail_pieces : (t : Tree) (w : Tail) → tail_of t ≡ w → list_tail manner ops (more t none) ≡ by_tail t w
  unfolding pieces by_tail
  tail_pieces t w e = ap (by_tail t) e

  -- A tail that is no list: it stands after a bar.
  partial_of : (ws : List Work) (t : Tree) (us : Trees)
      → tail_of t ≡ partial
      → coming manner ops (Rest ∷ ws) (more t us) ≡ plain (codes "|") ∷ coming manner ops (Term 999 Alone ∷ Bracket ∷ ws) (more t us)
  unfolding by_tail
  partial_of ws t us e =
      ap (λ qs. qs ++ coming manner ops ws us) (tail_pieces t partial e)
      ∙ ap (λ qs. plain (codes "|") ∷ qs) (append_assoc (pieces manner ops 999 alone t) (plain (codes "]") ∷ []) (coming manner ops ws us))

  partial_in : (ns : List Node) (at : ℕ) (ws : List Work) (n : Node) (ts : Trees)
      → suc (reads ws) ≡ count ts
      → n ∷ drop (at + 1) ns ≡ nodes_all ts
      → tail_node n ≡ partial
      → coming manner ops (Rest ∷ ws) ts ≡ plain (codes "|") ∷ coming manner ops (Term 999 Alone ∷ Bracket ∷ ws) ts
  partial_in ns at ws n none enough spelled w = absurd (omega arith)
  partial_in ns at ws n (more t us) enough spelled w =
      partial_of ws t us (sym (tail_same n t us (drop (at + 1) ns) spelled) ∙ w)

  pub partial_left : (ns : List Node) (at : ℕ) (ws : List Work) (n : Node)
      → Ahead ns at (Rest ∷ ws)
      → drop at ns ≡ n ∷ drop (at + 1) ns
      → Partial ≡ continues_view (tail_node n)
      → left manner ops ns at (Rest ∷ ws) ≡ plain (codes "|") ∷ left manner ops ns at (Term 999 Alone ∷ Bracket ∷ ws)
  partial_left ns at ws n a e shape =
      let r = trees_ahead ns at (Rest ∷ ws) a in
      ap (coming manner ops (Rest ∷ ws)) r
      ∙ partial_in ns at ws n a.trees a.enough (sym e ∙ a.spelled) (partial_view (tail_node n) shape)
      ∙ ap (λ ts. plain (codes "|") ∷ coming manner ops (Term 999 Alone ∷ Bracket ∷ ws) ts) (sym r)

  pub ends_left : (ns : List Node) (at : ℕ) (ws : List Work) (n : Node)
      → drop at ns ≡ n ∷ drop (at + 1) ns
      → Ends ≡ continues_view (tail_node n)
      → left manner ops ns at (Rest ∷ ws) ≡ plain (codes "]") ∷ left manner ops ns (at + 1) ws
  unfolding by_tail
  ends_left ns at ws n e shape =
      let w = ends_view (tail_node n) shape in
      let x = ends_atom n w in
      ap (λ ms. coming manner ops (Rest ∷ ws) (forest ms)) (e ∙ ap (λ m. m ∷ drop (at + 1) ns) x.1)
      ∙ ap (λ qs. qs ++ left manner ops ns (at + 1) ws) (tail_pieces (atom x.0) ends (ap tail_node (sym x.1) ∙ w))

  cell_left : (ws : List Work) (f : Chars) (t : Tree) (ts us : Trees)
      → tail_of (comp f t ts) ≡ goes_on
      → count ts ≡ 1
      → coming manner ops (Rest ∷ ws) (more (comp f t ts) us) ≡ plain (codes ",") ∷ coming manner ops (Term 999 Alone ∷ Rest ∷ ws) (more t (join ts us))
  unfolding by_tail pieces
  cell_left ws f t none us e one = absurd (omega arith)
  cell_left ws f t (more u none) us e one =
      ap (λ qs. qs ++ coming manner ops ws us) (tail_pieces (comp f t (more u none)) goes_on e)
      ∙ ap (λ qs. plain (codes ",") ∷ qs) (append_assoc (pieces manner ops 999 alone t) (list_tail manner ops (more u none)) (coming manner ops ws us))
  cell_left ws f t (more u (more v vs)) us e one = absurd (omega arith)

  pub goes_on_left : (ns : List Node) (at : ℕ) (ws : List Work) (n : Node)
      → (a : Ahead ns at (Rest ∷ ws))
      → (e : drop at ns ≡ n ∷ drop (at + 1) ns)
      → (shape : GoesOn ≡ continues_view (tail_node n))
      → left manner ops ns at (Rest ∷ ws) ≡ plain (codes ",") ∷ left manner ops ns (at + 1) (Term 999 Alone ∷ Rest ∷ ws)
  goes_on_left ns at ws n a e shape =
      let w = goes_on_view (tail_node n) shape in
      let x = goes_on_cell n w in
      let c = compound_read ns at (reads ws) x.0 2 a.trees (e ∙ ap (λ m. m ∷ drop (at + 1) ns) x.1) a.spelled a.enough in
      let one : count c.others ≡ 1 = omega (arith, c.arity) in
      let two : 2 ≡ suc (count c.others) = c.arity in
      let tail : tail_of (comp x.0 c.head c.others) ≡ goes_on = ap (λ b. cond (b && bytes_eq x.0 (codes ".")) goes_on partial) (sym (one_less (count c.others))) ∙ ap (λ k. tail_node (Comp x.0 k)) (sym two) ∙ ap tail_node (sym x.1) ∙ w in
      ap (coming manner ops (Rest ∷ ws)) c.here
      ∙ cell_left ws x.0 c.head c.others c.behind tail one
      ∙ ap (λ ts. plain (codes ",") ∷ coming manner ops (Term 999 Alone ∷ Rest ∷ ws) ts) (sym (ap forest c.spelled ∙ forest_all (more c.head (join c.others c.behind))))
