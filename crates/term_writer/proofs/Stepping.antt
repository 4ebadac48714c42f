-- Items that read no node, and the node that is read after them.
use Rattle.std.proofs.Common.{◌≡◌, ◌<◌, ◌+◌, ℕ, suc, zero, List, [], ◌∷◌, ◌++◌, drop, length, reverse, refl, sym, ap, append_assoc, ◌∙◌, arith}
use Rattle.pl_term.specs.declared.node.Node.{Node}
use Rattle.pl_term.specs.Tree.{Trees, none, more, count}
use Rattle.pl_term.specs.Nodes.{forest, nodes, nodes_all}
use Rattle.pl_model.specs.TermGrammar.{Lookup}
use Rattle.pl_model.specs.TermWriting.{Manner}
use Rattle.term_writer.specs.declared.writer.Work.{Work}
use Rattle.term_writer.specs.declared.writer.Work.TheVariants.{Term, Infix, Postfix, Arguments, Rest, Parenthesis, Bracket, Brace}
use Rattle.term_writer.specs.declared.page.Page.{Page}
use Rattle.term_writer.specs.Pages.{Grows, behind_page, shown}
use Rattle.term_writer.specs.Work.{Ahead, Closes, Fits, IsNode, Steps, coming, left, reads}
use Rattle.term_writer.proofs.Ahead.{some_node}
use Rattle.term_writer.proofs.Rest.{ahead_as}

-- An item reads as many terms by itself as before others.
pub reads_one : (w : Work) (ws : List Work) → reads (w ∷ ws) ≡ reads (w ∷ []) + reads ws
reads_one (Term m p) ws = omega arith
reads_one (Infix f m) ws = omega arith
reads_one (Postfix f) ws = omega arith
reads_one (Arguments k) ws = omega arith
reads_one Rest ws = omega arith
reads_one Parenthesis ws = omega arith
reads_one Bracket ws = omega arith
reads_one Brace ws = omega arith

-- Where a node is to be read, an item reads it.
counted : (n : Node) (ns : List Node) (ts : Trees) → n ∷ ns ≡ nodes_all ts → 0 < count ts
counted n ns none e = cc
counted n ns (more t ts) e = omega arith

pub some_read : (ns : List Node) (at : ℕ) (n : Node) (ws : List Work) → IsNode ns at n → Ahead ns at ws → 0 < reads ws
some_read ns at n ws is a = omega (arith, a.enough, counted n (drop (at + 1) ns) a.trees (sym is ∙ a.spelled))

-- Where no node is left, no item reads one.
pub none_read : (ns : List Node) (at : ℕ) (ws : List Work) → drop at ns ≡ [] → Ahead ns at ws → reads ws ≡ 0
none_read ns at ws over a = a.enough ∙ empty a.trees (sym over ∙ a.spelled)
  where
    empty : (ts : Trees) → [] ≡ nodes_all ts → count ts ≡ 0
    empty none e = refl
    empty (more t ts) e = absurd (omega (arith, ap length e, some_node t (nodes_all ts)))

pub fits_as : (n : Node) (vs ws : List Work) → Fits n vs → reads ws ≡ reads vs → Fits n ws
fits_as n vs ws f same = (f.0, f.1, f.2, ahead_as f.0 f.1 vs ws f.3 same)

module _ (m : Manner) (ops : Lookup) where
  -- Items that read no node are written before the node is read.
  pub steps_after : (n : Node) (vs ws xs : List Work) (old mid new : Page)
      → reads ws ≡ reads vs
      → ((ts : Trees) → shown mid.bytes.items (behind_page mid) (coming m ops ws ts) ≡ shown old.bytes.items (behind_page old) (coming m ops vs ts))
      → Steps m ops n ws mid xs new
      → Steps m ops n vs old xs new
  steps_after n vs ws xs old mid new same shows s =
      record {
        ahead = λ ns at is a. s.ahead ns at is (ahead_as ns at vs ws a same);
        shows = λ ns at is a. s.shows ns at is (ahead_as ns at vs ws a same) ∙ shows (forest (drop at ns));
      }

  -- One more of them is written.
  pub closes_more : (w : Work) (old mid new : Page) (vs ws : List Work) → Closes m ops w mid new
      → ((ts : Trees) → shown mid.bytes.items (behind_page mid) (coming m ops (w ∷ ws) ts) ≡ shown old.bytes.items (behind_page old) (coming m ops vs ts))
      → (ts : Trees) → shown new.bytes.items (behind_page new) (coming m ops ws ts) ≡ shown old.bytes.items (behind_page old) (coming m ops vs ts)
  closes_more w old mid new vs ws c before ts = c.shows ws ts ∙ before ts

  pub closes_reads : (w : Work) (old new : Page) (ws : List Work) → Closes m ops w old new → reads ws ≡ reads (w ∷ ws)
  closes_reads w old new ws c = omega (arith, c.none_read, reads_one w ws)

pub grows_then : (a b c : List ℕ) → Grows a b → Grows b c → Grows a c
grows_then a b c (x, e) (y, f) = (x ++ y, f ∙ ap (λ l. l ++ y) e ∙ append_assoc a x y)

pub nothing_read : (ws : List Work) → length ws ≡ 0 → reads (reverse ws) ≡ 0
nothing_read [] e = refl
nothing_read (w ∷ ws) e = absurd (omega (arith, e))
