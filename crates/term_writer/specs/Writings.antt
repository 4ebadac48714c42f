-- Texts to which the nodes of a term are written one after the other.
use Rattle.std.specs.Prelude.{◌≡◌, ℕ, List, ◌∷◌, ◌++◌, reverse}
use Rattle.std.specs.Str.{encode_utf8_all}
use Rattle.pl_term.specs.declared.node.Node.{Node}
use Rattle.pl_term.specs.Nodes.{nodes_all}
use Rattle.pl_term.specs.Tree.{Chars, Tree, Trees, count, more, none}
use Rattle.term_writer.specs.declared.writing.Writing.{Writing}
use Rattle.term_writer.specs.Pages.{behind_page, shown}
use Rattle.term_writer.specs.Styles.{lookup_of, manner_of}
use Rattle.term_writer.specs.Work.{coming, reads}

-- How many terms are still to come.
abbrev pub wants : Writing → ℕ
wants w = reads (reverse w.stack.items)

-- What stands there in the end if these terms come.
abbrev pub finished : Writing → Trees → List ℕ
finished w ts = shown w.page.bytes.items (behind_page w.page) (coming (manner_of w.style) (lookup_of w.style.operators) (reverse w.stack.items) ts)

-- One term is to come, whose text the function gives.
pub record IsBegun (text : Tree → Chars) (before : List ℕ) (w : Writing) : Type 0 where
  pub one : wants w ≡ 1
  pub text_is : (t : Tree) → finished w (more t none) ≡ before ++ encode_utf8_all (text t)

-- The node is the next one of terms of which just so many are wanted.
abbrev pub IsWanted : Node → Writing → Type 0
IsWanted n w = (ts : Trees) × (us : Trees) × (nodes_all ts ≡ n ∷ nodes_all us) × (wants w ≡ count ts)

-- Where the node is the next one of the terms `ts`, and the nodes of the terms `us` follow, these are wanted after it, and what stands
-- there in the end is the same.
pub record Goes (n : Node) (old new : Writing) : Type 0 where
  pub wanted : (ts us : Trees) → nodes_all ts ≡ n ∷ nodes_all us → wants old ≡ count ts → wants new ≡ count us
  pub same : (ts us : Trees) → nodes_all ts ≡ n ∷ nodes_all us → wants old ≡ count ts → finished new us ≡ finished old ts
