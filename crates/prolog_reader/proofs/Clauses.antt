-- The item at a place, from what was read of it.
use Rattle.std.proofs.Common.{◌≡◌, ℕ, ◌≤◌, List, length, Some, None, Ok, Err, refl, sym, ap, ◌∙◌, arith}
use Rattle.pl_term.specs.Tree.{Tree}
use Rattle.pl_term.specs.Nodes.{nodes, tree, tree-nodes}
use Rattle.pl_model.specs.declared.syntax.SyntaxFault.{SyntaxFault}
use Rattle.pl_model.specs.declared.lexical.TokenKind.{TokenKind}
use Rattle.pl_model.specs.declared.lexical.TokenKind.TheVariants.{EndToken}
use Rattle.pl_model.specs.declared.lexical.Lexeme.TheVariants.{Token, End}
use Rattle.pl_model.specs.declared.grammar.Quotes.{Quotes}
use Rattle.pl_model.specs.LexicalTokens.{Lexed, token_at}
use Rattle.pl_model.specs.Grammar.{Part, Outcome, clause, fault, and_then, item}
use Rattle.pl_model.specs.TermGrammar.{Lookup, ended, item_by}
use Rattle.pl_model.proofs.TermDepth.{whole, clause_whole, item_whole, item_by-whole}
use Rattle.prolog_reader.specs.declared.stack.Reader.{Reader}
use Rattle.prolog_reader.specs.declared.read_error.ReadError.{ReadError}
use Rattle.prolog_reader.specs.declared.read_error.ReadError.TheVariants.{Memory, Fault}
use Rattle.prolog_reader.specs.Ahead.{fault_of, clause_end}
use Rattle.prolog_reader.specs.Names.{pairs}
use Rattle.prolog_reader.specs.Pieces.{spelled}
use Rattle.prolog_reader.specs.Stack.{part_at, Stops, Turns, IsRead, start_at}
use Rattle.prolog_reader.proofs.Advances.{token-follows}

-- A stop of a turn is one of what the turn was to give.
pub turns-stop : (text : List ℕ) (ops : Lookup) (quotes : Quotes) (m n : Outcome Part) (bound : ℕ) (new : Reader) (e : ReadError) → m ≡ n
    → Turns text ops quotes m bound new (Err e) → Stops n e
turns-stop text ops quotes m n bound new Memory same turns = tt
turns-stop text ops quotes m n bound new (Fault f) same turns = sym same ∙ turns

end-token : (l : Lexed) (e : ℕ) → Some e ≡ clause_end l → (s : ℕ) × (l ≡ Ok (Token EndToken s e))
end-token (Ok (Token EndToken s e')) e is = let same : e ≡ e' = cc in (s, ap (λ k. Ok (Token EndToken s k)) (sym same))
end-token l e is = cc

ended-fault : (text : List ℕ) (start : ℕ) (p : Part) (l : Lexed) → None ≡ clause_end l → ended text start p l ≡ Err (fault_of text l)
ended-fault text start p (Ok (Token EndToken s e)) is = cc
ended-fault text start p (Ok (Token kind s e)) is = refl
ended-fault text start p (Ok End) is = refl
ended-fault text start p (Err f) is = refl

module _ (text : List ℕ) (ops : Lookup) (quotes : Quotes) (at start : ℕ) where
  -- The end of a clause whose term was read.
  read-end : (r : Reader) → (read : IsRead text ops quotes at r) (l : Lexed) → r.ahead ≡ l
      → clause_whole text ops quotes at start ≡ ended text start (part_at r read.priority 0) l
  read-end r read l is =
      ap (λ (m : Outcome Part). and_then m (λ p. ended text start p (token_at text p.reading.at))) (sym read.given)
      ∙ ap (ended text start (part_at r read.priority 0)) (sym read.sound.place.ahead ∙ is)

  pub clause-fault : (r : Reader) → IsRead text ops quotes at r → None ≡ clause_end r.ahead
      → clause_whole text ops quotes at start ≡ Err (fault_of text r.ahead)
  clause-fault r read no_end =
      read-end r read r.ahead refl ∙ ended-fault text start (part_at r read.priority 0) r.ahead no_end

  pub clause-read : (r : Reader) (next : ℕ) (t : Tree) → IsRead text ops quotes at r → Some next ≡ clause_end r.ahead
      → nodes t ≡ spelled r.pieces.items
      → item (clause_whole text ops quotes at start) ≡ clause t (pairs r.names.list) start next
  clause-read r next t read is_end spells =
      let token = end-token r.ahead next is_end in
      let term : tree (spelled r.pieces.items) ≡ t = ap tree (sym spells) ∙ tree-nodes t in
      ap item (read-end r read (Ok (Token EndToken token.0 next)) token.1)
      ∙ ap (λ (u : Tree). clause u (pairs r.names.list) start next) term

  -- A stop before the end of a clause's term.
  pub clause-stop : (e : ReadError) → Stops (whole text ops quotes 1200 (start_at at)) e → Stops (clause_whole text ops quotes at start) e
  clause-stop Memory stops = tt
  clause-stop (Fault f) stops = ap (λ (m : Outcome Part). and_then m (λ p. ended text start p (token_at text p.reading.at))) stops

  pub stop-reads : (f : SyntaxFault) → Stops (clause_whole text ops quotes at start) (Fault f)
      → item (clause_whole text ops quotes at start) ≡ fault f.kind f.at
  stop-reads f stops = ap item stops

-- The item by what stands at a place.
pub item-token : (text : List ℕ) (ops : Lookup) (quotes : Quotes) (at : ℕ) (l : Lexed) → l ≡ token_at text at
    → item_whole text ops quotes at l ≡ item_by text at ops quotes
item-token text ops quotes at l is = ap (item_whole text ops quotes at) is ∙ sym (item_by-whole text ops quotes at)

pub place-inside : (text : List ℕ) (at : ℕ) (kind : TokenKind) (s e : ℕ) → Ok (Token kind s e) ≡ token_at text at → at ≤ length text
place-inside text at kind s e is =
    let found = token-follows text at kind s e (sym is) in
    omega (arith, found.0, found.1)
