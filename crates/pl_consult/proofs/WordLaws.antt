-- What a goal word is read as.
use Rattle.std.proofs.Common.{◌≡◌, ℕ, List, length, sym, ap, ◌∙◌}
use Rattle.pl_term.specs.Tree.{Chars}
use Rattle.pl_model.specs.declared.grammar.Quotes.{Quotes}
use Rattle.pl_model.specs.OperatorTable.{OperatorTable}
use Rattle.pl_model.specs.Grammar.{Item}
use Rattle.pl_model.specs.TermGrammar.{item_of}
use Rattle.run_model.specs.Execution.{goal_text, word_of_item, word_read}

pub word_as : (text : List ℕ) (word : Chars) (ops : OperatorTable) (quotes : Quotes) (size : ℕ) (item : Item)
    → text ≡ goal_text word
    → size ≡ length text
    → item_of text 0 ops quotes ≡ item
    → word_of_item size item ≡ word_read ops quotes word
word_as text word ops quotes size item is at e =
    ap (word_of_item size) (sym e)
    ∙ ap (λ n. word_of_item n (item_of text 0 ops quotes)) at
    ∙ ap (λ bs. word_of_item (length bs) (item_of bs 0 ops quotes)) is
