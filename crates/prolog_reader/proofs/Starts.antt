-- The turn that begins a term, from the token that was taken.
use Rattle.std.proofs.Common.{◌≡◌, ℕ, List, Result, Ok, Err, refl, sym, subst, ◌∙◌, arith}
use Rattle.pl_model.specs.declared.lexical.TokenKind.{TokenKind}
use Rattle.pl_model.specs.declared.lexical.Lexeme.TheVariants.{Token, End}
use Rattle.pl_model.specs.declared.syntax.SyntaxFault.{SyntaxFault}
use Rattle.pl_model.specs.declared.grammar.Quotes.{Quotes}
use Rattle.pl_model.specs.LexicalTokens.{Lexed}
use Rattle.pl_model.specs.Grammar.{Part, Outcome}
use Rattle.pl_model.specs.TermGrammar.{Lookup, primary}
use Rattle.pl_model.proofs.TermDepth.{whole, sequence}
use Rattle.prolog_reader.specs.declared.stack.Mode.{Mode}
use Rattle.prolog_reader.specs.declared.stack.Mode.TheVariants.{Term as TermMode}
use Rattle.prolog_reader.specs.declared.stack.Reader.{Reader}
use Rattle.prolog_reader.specs.declared.read_error.ReadError.{ReadError}
use Rattle.prolog_reader.specs.Stack.{stack, reading, going, Begins, IsSound, outcome, turns_left, TurnsFrom, TurnsBy}
use Rattle.prolog_reader.proofs.Turns.{turns-same, term-outcome, going-fault, ahead-follows}

-- The reader without its token ahead.
abbrev pub without : Reader → Reader
without old = record old { ahead = Ok End }

pub taken-begins : (text : List ℕ) (old new : Reader) (max : ℕ) (kind : TokenKind) (s e : ℕ) → new ≡ without old → IsSound text old (TermMode max)
    → old.ahead ≡ Ok (Token kind s e) → Begins text new e
taken-begins text old new max kind s e is sound token =
    let found = ahead-follows text old kind s e sound.place token in
    subst (λ (r : Reader). Begins text r e) (sym is)
    (record { forward = omega (arith, found.begins, found.ends); within = found.within; numbered = sound.place.numbered; holds = sound.fits })

module _ (text : List ℕ) (ops : Lookup) (quotes : Quotes) where
  abbrev pub primary_of : Reader → ℕ → Lexed → Outcome Part
  primary_of r max l = primary text ops quotes (whole text ops quotes) (sequence text ops quotes) max (reading r) l

  pub primary-turns : (old mid new : Reader) (max : ℕ) (l : Lexed) (r : Result Mode ReadError) → mid ≡ without old → IsSound text old (TermMode max)
      → old.ahead ≡ l → TurnsBy text ops quotes (primary_of mid max l) mid max new r → TurnsFrom text ops quotes old (TermMode max) new r
  primary-turns old mid new max l r is sound token turns =
      let here = subst (λ (x : Reader). TurnsBy text ops quotes (primary_of x max l) x max new r) is turns in
      turns-same text ops quotes (going text ops quotes (stack old) old.pieces.items max (primary_of old max l)) (outcome text ops quotes old (TermMode max))
      (turns_left text old (TermMode max)) (turns_left text old (TermMode max)) new r
      (term-outcome text ops quotes old max l (sym sound.place.ahead ∙ token)) refl here

  pub primary-fault : (old : Reader) (max : ℕ) (l : Lexed) (f : SyntaxFault) → IsSound text old (TermMode max) → old.ahead ≡ l → primary_of old max l ≡ Err f
      → outcome text ops quotes old (TermMode max) ≡ Err f
  primary-fault old max l f sound token is =
      sym (term-outcome text ops quotes old max l (sym sound.place.ahead ∙ token)) ∙ going-fault text ops quotes old max (primary_of old max l) f is
