-- What a part of the shared state answers to a visit, after all entries of a history. Terms of visits and replies are over
-- atoms.
use Rattle.std.specs.Prelude.{◌≡◌, ℕ, List, [], ◌∷◌, Option, Some}
use Rattle.pl_term.specs.Tree.{Chars, Tree}
use Rattle.pl_model.specs.History.{Kind, History}
use Rattle.pl_model.specs.Requests.{Request}
use Rattle.pl_model.specs.Requests as requests
use Rattle.pl_model.specs.Service.{answers, on_of, served_now, waits}
use Rattle.atom_words.specs.declared.view.Refusal.{Refusal}
use Rattle.atom_words.specs.declared.view.Refusal.TheVariants.{Full as RefusalFull, Again as RefusalAgain, Worn as RefusalWorn}
use Rattle.term_store.specs.NumberedNames.{names_of, term_by}
use Rattle.world_api.specs.declared.reply.Reply.{Reply}
use Rattle.world_api.specs.declared.answer.On.{On}
use Rattle.world_api.specs.Answers.{on_by, on_names}
use Rattle.world_api.specs.Replies.{Says, reply_names}
use Rattle.counted_terms.specs.declared.row.Row.{Row}
use Rattle.counted_terms.specs.declared.row.Row.TheVariants.{Reads, Makes, Waits, NeedsAtoms, Retry, Worn, Memory}

-- The refusals of atoms that a row hands on.
abbrev pub row_refusals : Row → List Refusal
row_refusals (NeedsAtoms p) = RefusalFull p ∷ []
row_refusals (Retry c) = RefusalAgain c ∷ []
row_refusals (Worn w) = RefusalWorn w ∷ []
row_refusals _ = []

-- The atoms that a row names.
abbrev pub row_names : Row → List ℕ
row_names (Reads r) = reply_names names_of r
row_names (Makes r) = reply_names names_of r
row_names (Waits on) = on_names on
row_names _ = []

module _ (goals e : ℕ) (text : ℕ → Chars) (q : Request) (h : History) where
  -- THE STATE AFTER THE HISTORY ANSWERS THE REQUEST of the engine with what the reply says by the texts of the atoms that are held, and with the update
  pub record Answers (r : Reply Tree) (update : Option Kind) : Type 0 where
    pub reply : requests.Reply
    pub serves : served_now e goals h q ≡ answers reply update
    pub says : Says term_by text r reply

  -- The request waits in the state after the history, on this.
  pub record WaitsOn (on : On) : Type 0 where
    pub waiting : served_now e goals h q ≡ waits
    pub awaits : on_of e q ≡ Some (on_by text on)
