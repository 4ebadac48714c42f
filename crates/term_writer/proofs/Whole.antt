-- A whole term: what is to come at the start, and what was written at the end.
use Rattle.std.proofs.Common.{◌≡◌, ℕ, List, [], ◌∷◌, ◌++◌, Result, Ok, Err, OnOk, None, reverse, refl, sym, ◌∙◌, ap, append-nil}
use Rattle.std.specs.Str.{encode_utf8_all}
use Rattle.pl_term.specs.declared.memory.Memory.{Memory}
use Rattle.pl_term.specs.declared.node.Node.{Node}
use Rattle.pl_term.specs.Tree.{Tree, none, more}
use Rattle.pl_term.specs.Nodes.{nodes, nodes_all, forest, tree, tree-nodes}
use Rattle.pl_model.specs.TermGrammar.{Lookup}
use Rattle.pl_model.specs.TermWriting.{Manner, Behind, pieces, text_behind, text_of}
use Rattle.pl_model.specs.Writing.{alone}
use Rattle.term_writer.specs.declared.writer.Work.{Work}
use Rattle.term_writer.specs.declared.writer.Work.TheVariants.{Term}
use Rattle.term_writer.specs.declared.operators.Position.TheVariants.{Alone}
use Rattle.term_writer.specs.Pages.{shown}
use Rattle.term_writer.specs.Work.{Ahead, coming, left}
use Rattle.term_writer.proofs.Ahead.{ahead, forest_all}
use Rattle.term_writer.proofs.Rest.{ahead_on}

one_term : (ns : List Node) (t : Tree) → ns ≡ nodes t → ns ≡ nodes_all (more t none)
one_term ns t e = e ∙ sym (append-nil (nodes t))

pub starts_ahead : (ns : List Node) (max : ℕ) (s : List Work)
    → (t : Tree) × (ns ≡ nodes t)
    → s ≡ Term max Alone ∷ []
    → Ahead ns 0 (reverse s)
starts_ahead ns max s (t, e) only =
    ahead_on ns 0 (reverse s) (Term max Alone ∷ []) (ap reverse only) (ahead ns 0 (Term max Alone ∷ []) (more t none) (one_term ns t e) refl)

pub starts_left : (manner : Manner) (ops : Lookup) (ns : List Node) (max : ℕ) (s : List Work)
    → (t : Tree) × (ns ≡ nodes t)
    → s ≡ Term max Alone ∷ []
    → left manner ops ns 0 (reverse s) ≡ pieces manner ops max alone (tree ns)
starts_left manner ops ns max s (t, e) only =
    ap (λ ws. left manner ops ns 0 (reverse ws)) only
    ∙ ap (λ ms. coming manner ops (Term max Alone ∷ []) (forest ms)) (one_term ns t e)
    ∙ ap (coming manner ops (Term max Alone ∷ [])) (forest_all (more t none))
    ∙ append-nil (pieces manner ops max alone t)
    ∙ ap (pieces manner ops max alone) (sym (ap tree e ∙ tree-nodes t))

-- The text of the whole term stands after what was there.
pub whole_text : (r : Result (Unit {0}) Memory) (manner : Manner) (ops : Lookup) (before bytes after : List ℕ) (b : Behind) (max : ℕ) (ns : List Node) (t : Tree)
    → OnOk r (shown after b [] ≡ shown bytes (record { last = 32; prefix = None }) (pieces manner ops max alone (tree ns)))
    → bytes ≡ before
    → ns ≡ nodes t
    → OnOk r (after ≡ before ++ encode_utf8_all (text_of manner ops max t))
unfolding shown text_of
whole_text (Ok u) manner ops before bytes after b max ns t shows same is =
    let start : Behind = record { last = 32; prefix = None } in
    sym (append-nil after)
    ∙ shows
    ∙ ap (λ bs. bs ++ encode_utf8_all (text_behind start (pieces manner ops max alone (tree ns)))) same
    ∙ ap (λ v. before ++ encode_utf8_all (text_behind start (pieces manner ops max alone v))) (ap tree is ∙ tree-nodes t)
whole_text (Err m) manner ops before bytes after b max ns t shows same is = shows
