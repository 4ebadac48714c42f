-- Nodes that come one after the other, as lists of terms.
use Rattle.std.proofs.Common.{◌≡◌, ◌+◌, ℕ, List, [], ◌∷◌, ◌++◌, drop, reverse, None, refl, sym, ap, append-nil, ◌∙◌}
use Rattle.std.specs.Str.{encode_utf8_all}
use Rattle.pl_term.specs.declared.node.Node.{Node}
use Rattle.pl_term.specs.Nodes.{forest, nodes_all}
use Rattle.pl_term.specs.Tree.{Tree, Trees, count, more, none}
use Rattle.pl_model.specs.TermGrammar.{Lookup}
use Rattle.pl_model.specs.TermWriting.{Behind, Manner, pieces, text_behind, text_of}
use Rattle.pl_model.specs.Writing.{alone}
use Rattle.term_writer.specs.declared.operators.Position.TheVariants.{Alone}
use Rattle.term_writer.specs.declared.page.Page.{Page}
use Rattle.term_writer.specs.declared.writer.Work.{Work}
use Rattle.term_writer.specs.declared.writer.Work.TheVariants.{Term}
use Rattle.term_writer.specs.Pages.{behind_page, shown}
use Rattle.term_writer.specs.Work.{Ahead, Fits, IsNode, Steps, coming, reads}
use Rattle.term_writer.proofs.Ahead.{ahead, forest_all}

-- The node stands at the start of the nodes.
first_node : (n : Node) (ts us : Trees) → nodes_all ts ≡ n ∷ nodes_all us → IsNode (nodes_all ts) 0 n
first_node n ts us e = e ∙ ap (λ ns. n ∷ ns) (sym (ap (drop 1) e))

starts : (ws : List Work) (ts : Trees) → reads ws ≡ count ts → Ahead (nodes_all ts) 0 ws
starts ws ts enough = ahead (nodes_all ts) 0 ws ts refl enough

pub fits_trees : (n : Node) (ws : List Work) (ts us : Trees) → nodes_all ts ≡ n ∷ nodes_all us → reads ws ≡ count ts → Fits n ws
fits_trees n ws ts us e enough = (nodes_all ts, 0, first_node n ts us e, starts ws ts enough)

module _ (m : Manner) (ops : Lookup) (n : Node) (vs ws : List Work) (old new : Page) (s : Steps m ops n vs old ws new)
    (ts us : Trees) (e : nodes_all ts ≡ n ∷ nodes_all us) (enough : reads vs ≡ count ts) where
  rest : drop 1 (nodes_all ts) ≡ nodes_all us
  rest = ap (drop 1) e

  pub then_wanted : reads ws ≡ count us
  then_wanted =
      let a = s.ahead (nodes_all ts) 0 (first_node n ts us e) (starts vs ts enough) in
      a.enough ∙ ap count (sym (forest_all a.trees) ∙ ap forest (sym a.spelled ∙ rest) ∙ forest_all us)

  pub then_same : shown new.bytes.items (behind_page new) (coming m ops ws us) ≡ shown old.bytes.items (behind_page old) (coming m ops vs ts)
  then_same =
      ap (λ xs. shown new.bytes.items (behind_page new) (coming m ops ws xs)) (sym (ap forest rest ∙ forest_all us))
      ∙ s.shows (nodes_all ts) 0 (first_node n ts us e) (starts vs ts enough)
      ∙ ap (λ xs. shown old.bytes.items (behind_page old) (coming m ops vs xs)) (forest_all ts)

-- What is to come at the start.
pub begun_wants : (max : ℕ) (s : List Work) → s ≡ Term max Alone ∷ [] → reads (reverse s) ≡ 1
begun_wants max s only = ap (λ ws. reads (reverse ws)) only

pub begun_shows : (m : Manner) (ops : Lookup) (max : ℕ) (s : List Work) (before : List ℕ) (t : Tree) → s ≡ Term max Alone ∷ []
    → shown before (record { last = 32; prefix = None }) (coming m ops (reverse s) (more t none)) ≡ before ++ encode_utf8_all (text_of m ops max t)
unfolding shown text_of
begun_shows m ops max s before t only =
    let start : Behind = record { last = 32; prefix = None } in
    ap (λ ws. before ++ encode_utf8_all (text_behind start (coming m ops (reverse ws) (more t none)))) only
    ∙ ap (λ ps. before ++ encode_utf8_all (text_behind start ps)) (append-nil (pieces m ops max alone t))

-- Nothing is to come.
pub ended_shows : (bytes : List ℕ) (b : Behind) → bytes ≡ shown bytes b []
unfolding shown
ended_shows bytes b = sym (append-nil bytes)
