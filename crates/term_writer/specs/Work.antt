-- What is still to be written of a term: a list of items, the next one first, over the terms that are still to be
-- read from its nodes.
use Rattle.std.specs.Prelude.{◌≡◌, ℕ, ◌+◌, suc, zero, List, [], ◌∷◌, ◌++◌, length, ◌<◌, drop, codes, ◌&&◌, ◌==◌, bytes_eq, if◌then◌else◌}
use Rattle.pl_term.specs.declared.node.Node.{Node}
use Rattle.pl_term.specs.declared.node.Node.TheVariants.{Var, Int, Atom, Comp}
use Rattle.pl_term.specs.Tree.{Chars, Trees, none, more, count, first, after}
use Rattle.pl_term.specs.Nodes.{nodes_all, forest}
use Rattle.pl_model.specs.TermGrammar.{Lookup}
use Rattle.pl_model.specs.TermWriting.{Manner, Piece, plain, pieces, arguments, list_tail, infix_pieces, postfix_pieces}
use Rattle.pl_model.specs.Writing.{Place, operand, Tail, ends, goes_on, partial}
use Rattle.term_writer.specs.declared.writer.Work.{Work}
use Rattle.term_writer.specs.declared.writer.Work.TheVariants.{Term, Infix, Postfix, Arguments, Rest, Parenthesis, Bracket, Brace}
use Rattle.term_writer.specs.declared.writer.Continues.{Continues}
use Rattle.term_writer.specs.declared.writer.Continues.TheVariants.{Ends, GoesOn, Partial}
use Rattle.term_writer.specs.declared.page.Page.{Page}
use Rattle.term_writer.specs.Pages.{behind_page, shown}
use Rattle.term_writer.specs.Styles.{place_of}

-- How many terms the items read.
abbrev pub reads : List Work → ℕ
reads [] = zero
reads (Term m p ∷ ws) = suc (reads ws)
reads (Infix f m ∷ ws) = suc (reads ws)
reads (Postfix f ∷ ws) = reads ws
reads (Arguments k ∷ ws) = k + reads ws
reads (Rest ∷ ws) = suc (reads ws)
reads (Parenthesis ∷ ws) = reads ws
reads (Bracket ∷ ws) = reads ws
reads (Brace ∷ ws) = reads ws

module _ (m : Manner) (ops : Lookup) where
  -- The pieces of the next term, and what comes of the terms after it.
  abbrev pub with_term : ℕ → Place → (Trees → List Piece) → Trees → List Piece
  with_term max place rest none = []
  with_term max place rest (more t ts) = pieces m ops max place t ++ rest ts

  -- What follows an element of a list whose tail is the next term, and what comes of the terms after it.
  abbrev pub with_tail : (Trees → List Piece) → Trees → List Piece
  with_tail rest none = []
  with_tail rest (more t ts) = list_tail m ops (more t none) ++ rest ts

  -- The pieces that the items stand for.
  abbrev pub coming : List Work → Trees → List Piece
  coming [] ts = []
  coming (Term max p ∷ ws) ts = with_term max (place_of p) (coming ws) ts
  coming (Infix f max ∷ ws) ts = infix_pieces m f ++ with_term max operand (coming ws) ts
  coming (Postfix f ∷ ws) ts = postfix_pieces m f ++ coming ws ts
  coming (Arguments k ∷ ws) ts = arguments m ops (first k ts) ++ coming ws (after k ts)
  coming (Rest ∷ ws) ts = with_tail (coming ws) ts
  coming (Parenthesis ∷ ws) ts = plain (codes ")") ∷ coming ws ts
  coming (Bracket ∷ ws) ts = plain (codes "]") ∷ coming ws ts
  coming (Brace ∷ ws) ts = plain (codes "}") ∷ coming ws ts

  abbrev pub left : List Node → ℕ → List Work → List Piece
  left nodes at ws = coming ws (forest (drop at nodes))

-- The nodes from a place on are those of just the terms that the items read.
pub record Ahead (nodes : List Node) (at : ℕ) (ws : List Work) : Type 0 where
  pub trees : Trees
  pub spelled : drop at nodes ≡ nodes_all trees
  pub enough : reads ws ≡ count trees
  pub within : 0 < reads ws → at < length nodes

-- The nodes from a place on begin with this one.
abbrev pub IsNode : List Node → ℕ → Node → Type 0
IsNode ns at n = drop at ns ≡ n ∷ drop (at + 1) ns

-- The node may be the next one of terms that just the items read.
abbrev pub Fits : Node → List Work → Type 0
Fits n ws = (ns : List Node) × (at : ℕ) × IsNode ns at n × Ahead ns at ws

-- With the node one goes on from items and a page to others: whatever nodes follow, the page shows in the end what it would have
-- shown.
pub record Steps (m : Manner) (ops : Lookup) (n : Node) (vs : List Work) (old : Page) (ws : List Work) (new : Page) : Type 0 where
  pub ahead : (ns : List Node) (at : ℕ) → IsNode ns at n → Ahead ns at vs → Ahead ns (at + 1) ws
  pub shows : (ns : List Node) (at : ℕ) → IsNode ns at n → Ahead ns at vs
      → shown new.bytes.items (behind_page new) (left m ops ns (at + 1) ws) ≡ shown old.bytes.items (behind_page old) (left m ops ns at vs)

-- An item that reads no node was written.
pub record Closes (m : Manner) (ops : Lookup) (w : Work) (old new : Page) : Type 0 where
  pub none_read : reads (w ∷ []) ≡ zero
  pub shows : (ws : List Work) (ts : Trees)
      → shown new.bytes.items (behind_page new) (coming m ops ws ts) ≡ shown old.bytes.items (behind_page old) (coming m ops (w ∷ ws) ts)

-- What follows an element of a list, by the first node of the tail.
abbrev pub tail_node : Node → Tail
tail_node (Var n) = partial
tail_node (Int i) = partial
tail_node (Atom a) = if bytes_eq a (codes "[]") then ends else partial
tail_node (Comp f k) = if (k == 2) && bytes_eq f (codes ".") then goes_on else partial

abbrev pub continues_view : Tail → Continues
continues_view ends = Ends
continues_view goes_on = GoesOn
continues_view partial = Partial
