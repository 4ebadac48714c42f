-- The first engine's run up to its goals, where the file is empty.
use Rattle.std.proofs.Common.{◌≡◌, ◌+◌, ℕ, List, [], ◌∷◌, map, refl, ap, ◌∙◌}
use Rattle.pl_term.specs.Tree.{Chars}
use Rattle.pl_model.specs.declared.grammar.Quotes.TheVariants.{Codes}
use Rattle.pl_model.specs.OperatorTable.{opening_table}
use Rattle.pl_model.specs.LexicalTokens.{token_at}
use Rattle.pl_model.specs.TermGrammar.{item_by}
use Rattle.pl_model.specs.History.{History}
use Rattle.pl_model.specs.SharedState.{state_at}
use Rattle.pl_model.specs.Service.{serve}
use Rattle.run_model.specs.Execution.{Word, initializing, starting, further_goals, word_read, move}
use Rattle.run_model.specs.Lawful.{Standing, run}
use Rattle.model_rows.specs.HistoryRows.{main_of}
use Rattle.model_rows.proofs.Following.{follow, run_more}

-- The file has no items.
abbrev after_file : Standing
after_file =
    record {
      execution =
          record { activity = initializing; consulted = []; later = []; words = []; refusals = []; output = [] };
      asked = 1;
      made = [];
    }

file_is_read : (goals : ℕ) (ws : List Chars) (h : History) (gens : List ℕ)
    → run 1 goals (main_of ws) h (0 ∷ 0 ∷ gens) 1 ≡ after_file
unfolding state_at serve move item_by token_at
file_is_read goals ws h gens = refl

-- The words are read.
abbrev pub with_words : List Word → Standing
with_words ws =
    record {
      execution =
          record {
            activity = starting opening_table (further_goals ws);
            consulted = [];
            later = [];
            words = ws;
            refusals = [];
            output = [];
          };
      asked = 2;
      made = [];
    }

words_next : (goals : ℕ) (ws : List Chars) (h : History) (gens : List ℕ)
    → follow 1 goals (main_of ws) h (0 ∷ 0 ∷ gens) 2 after_file ≡ with_words (map (word_read opening_table Codes) ws)
unfolding state_at serve move
words_next goals ws h gens = refl

pub goals_run : (goals : ℕ) (ws : List Chars) (h : History) (gens : List ℕ) (rs : List Word) (m : ℕ)
    → map (word_read opening_table Codes) ws ≡ rs
    → run 1 goals (main_of ws) h (0 ∷ 0 ∷ gens) (3 + m)
    ≡ follow 1 goals (main_of ws) h (0 ∷ 0 ∷ gens) m (with_words rs)
goals_run goals ws h gens rs m read =
    run_more 1 goals (main_of ws) h (0 ∷ 0 ∷ gens) 3 m
    ∙ ap
    (follow 1 goals (main_of ws) h (0 ∷ 0 ∷ gens) m)
    (run_more 1 goals (main_of ws) h (0 ∷ 0 ∷ gens) 1 2
    ∙ ap (follow 1 goals (main_of ws) h (0 ∷ 0 ∷ gens) 2) (file_is_read goals ws h gens)
    ∙ words_next goals ws h gens
    ∙ ap with_words read)
