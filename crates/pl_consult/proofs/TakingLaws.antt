-- What is taken up of an item that is read from a place on.
use Rattle.std.proofs.Common.{◌≡◌, inl, inr, ℕ, List, [], ◌∷◌, ◌++◌, Some, sym}
use Rattle.std.specs.Prelude.{Result, Ok, Err, IfOk}
use Rattle.pl_term.specs.Tree.{Chars, Tree}
use Rattle.pl_model.specs.declared.grammar.Quotes.{Quotes}
use Rattle.pl_model.specs.OperatorTable.{OperatorTable}
use Rattle.pl_model.specs.Grammar.{clause}
use Rattle.pl_model.specs.TermGrammar.{item_of}
use Rattle.run_model.specs.Execution.{directive_of, initialization_of}
use Rattle.pl_consult.specs.declared.consult.Taken.{Taken}
use Rattle.pl_consult.specs.declared.consult.Taken.TheVariants.{Clause, Directive, Passed}
use Rattle.pl_consult.specs.Taking.{IsReadAt, IsTakenOf, IsTakenAt, MayPutOff, HasPutOff}

pub read_at : {text : List ℕ} {at : ℕ} {ops : OperatorTable} {quotes : Quotes} {t : Tree} {names : List (Chars × ℕ)} {start next : ℕ}
    → item_of text at ops quotes ≡ clause t names start next
    → IsReadAt text at ops quotes t
read_at {text} {at} {ops} {quotes} {t} {names} {start} {next} e = record { names = names; start = start; next = next; is = e }

module _ (text : List ℕ) (at : ℕ) (ops : OperatorTable) (quotes : Quotes) (t : Tree) (read : IsReadAt text at ops quotes t) where
  pub taken_at : {E : Type 0} (r : Result Taken E) → IfOk r (IsTakenOf t) → IfOk r (IsTakenAt text at ops quotes)
  taken_at (Ok (Clause c place)) is = (t, read, is)
  taken_at (Ok (Directive goal place)) is = (t, read, is)
  taken_at (Ok Passed) is = tt
  taken_at (Err e) is = tt

  pub put_off_at : (old new : List (ℕ × Tree)) → MayPutOff t old new → HasPutOff text at ops quotes old new
  put_off_at old new (inl e) = inl e
  put_off_at old new (inr p) = inr (t, read, p)

pub puts_off : (t directive goal : Tree) (place : ℕ) (old new : List (ℕ × Tree))
    → directive_of t ≡ Some directive
    → Some goal ≡ initialization_of directive
    → new ≡ old ++ (place, goal) ∷ []
    → MayPutOff t old new
puts_off t directive goal place old new is later grown =
    inr (record { directive = directive; goal = goal; place = place; item = is; later = sym later; grown = grown })
