-- Turns in which reading first goes after the token that begins a term.
use Rattle.std.proofs.Common.{◌≡◌, ℕ, ◌+◌, ◌<◌, ◌≤◌, List, [], ◌∷◌, ◌++◌, length, take, drop, Result, Ok, Err, Some, IfOk, IfErr, Vec, Global, refl, sym, ap, subst, ◌∙◌, arith}
use Rattle.pl_term.specs.Tree.{Tree}
use Rattle.pl_term.specs.Nodes.{nodes}
use Rattle.pl_term.specs.declared.node.Node.{Node}
use Rattle.pl_model.specs.declared.lexical.Lexeme.TheVariants.{Token}
use Rattle.pl_model.specs.declared.lexical.TokenKind.{TokenKind}
use Rattle.pl_model.specs.declared.grammar.Quotes.{Quotes}
use Rattle.pl_model.specs.declared.lexical.Mark.{Mark}
use Rattle.pl_model.specs.LexicalTokens.{Lexed, token_at}
use Rattle.pl_model.specs.Grammar.{Part, Outcome}
use Rattle.pl_model.specs.TermGrammar.{Lookup, behind_mark}
use Rattle.pl_model.proofs.TermDepth.{mark-token}
use Rattle.pl_model.proofs.LexicalFollows.{token_at-follows}
use Rattle.prolog_reader.specs.declared.stack.Frame.{Frame}
use Rattle.prolog_reader.specs.declared.stack.Mode.{Mode}
use Rattle.prolog_reader.specs.declared.stack.Mode.TheVariants.{Part as PartMode, Term as TermMode}
use Rattle.prolog_reader.specs.declared.stack.Reader.{Reader}
use Rattle.prolog_reader.specs.declared.read_error.ReadError.{ReadError}
use Rattle.prolog_reader.specs.declared.read_error.ReadError.TheVariants.{Memory, Fault}
use Rattle.prolog_reader.specs.Names.{reading_at}
use Rattle.prolog_reader.specs.Pieces.{spelled}
use Rattle.prolog_reader.specs.Stack.{Begins, Turns, TurnsBy, turns_left, PutsNodes, Pushes}
use Rattle.prolog_reader.proofs.Turns.{leaf-result}
use Rattle.prolog_reader.proofs.Primaries.{PutsOne}

-- The reader after a token.
abbrev pub advanced : List ℕ → Reader → ℕ → Reader
advanced text old end = record old { at = end; ahead = token_at text end }

-- A token ahead lies after the place.
pub token-follows : (text : List ℕ) (at : ℕ) (kind : TokenKind) (s e : ℕ) → token_at text at ≡ Ok (Token kind s e) → (at < e) × (e ≤ length text)
token-follows text at kind s e is =
    let found = token_at-follows text at kind s e is in
    (omega (arith, found.begins, found.ends), found.within)

-- A punctuation token ahead lies after the place.
pub mark-follows : (text : List ℕ) (at : ℕ) (mark : Mark) (l : Lexed) (e : ℕ) → l ≡ token_at text at → Some e ≡ behind_mark mark l → (at < e) × (e ≤ length text)
mark-follows text at mark l e is some =
    let token = mark-token mark l e (sym some) in
    let found = token_at-follows text at _ token.1 e (sym is ∙ token.2) in
    (omega (arith, found.begins, found.ends), found.within)

module _ (text : List ℕ) (old mid : Reader) (end : ℕ) (moved_is : mid ≡ advanced text old end) where
  pub advanced-ahead : mid.ahead ≡ token_at text end
  advanced-ahead = ap (λ (r : Reader). r.ahead) moved_is

  pub advanced-pushes : (frames : Vec Frame Global) (frame : Frame) → frames.items ≡ mid.frames.items ++ frame ∷ []
      → Pushes text old (record mid { frames = frames }) frame end
  advanced-pushes frames frame is = record {
    at = ap (λ (r : Reader). r.at) moved_is;
    ahead = ap (λ (r : Reader). r.ahead) moved_is;
    names = ap (λ (r : Reader). r.names) moved_is;
    frames = is ∙ ap (λ (r : Reader). r.frames.items ++ frame ∷ []) moved_is;
    pieces = ap (λ (r : Reader). r.pieces.items) moved_is;
  }

  pub advanced-pushes_with : (pieces : Vec (Vec Node Global) Global) (frames : Vec Frame Global) (frame : Frame)
      → frames.items ≡ mid.frames.items ++ frame ∷ []
      → Pushes text (record old { pieces = pieces }) (record mid { frames = frames; pieces = pieces }) frame end
  advanced-pushes_with pieces frames frame is = record {
    at = ap (λ (r : Reader). r.at) moved_is;
    ahead = ap (λ (r : Reader). r.ahead) moved_is;
    names = ap (λ (r : Reader). r.names) moved_is;
    frames = is ∙ ap (λ (r : Reader). r.frames.items ++ frame ∷ []) moved_is;
    pieces = refl;
  }

  advanced-length : length mid.pieces.items ≡ length old.pieces.items
  advanced-length = ap (λ (r : Reader). length r.pieces.items) moved_is

  pub advanced-one : (pieces : Vec (Vec Node Global) Global) (node : Node) → take (length mid.pieces.items) pieces.items ≡ mid.pieces.items
      → spelled (drop (length mid.pieces.items) pieces.items) ≡ node ∷ [] → length pieces.items ≡ length mid.pieces.items + 1
      → PutsOne old pieces node
  advanced-one pieces node front leaf more = record {
    front = ap (λ n. take n pieces.items) (sym advanced-length) ∙ front ∙ ap (λ (r : Reader). r.pieces.items) moved_is;
    leaf = ap (λ n. spelled (drop n pieces.items)) (sym advanced-length) ∙ leaf;
    more = more ∙ ap (λ n. n + 1) advanced-length;
  }

  pub advanced-puts : (pieces : Vec (Vec Node Global) Global) (node : Node) → PutsOne old pieces node
      → PutsNodes text old (record mid { pieces = pieces }) (node ∷ []) end
  advanced-puts pieces node puts = record {
    at = ap (λ (r : Reader). r.at) moved_is;
    ahead = ap (λ (r : Reader). r.ahead) moved_is;
    names = ap (λ (r : Reader). r.names) moved_is;
    frames = ap (λ (r : Reader). r.frames.items) moved_is;
    front = puts.front;
    leaf = puts.leaf;
    more = puts.more;
  }

module _ (text : List ℕ) (ops : Lookup) (quotes : Quotes) where
  pub turns-more : (m : Outcome Part) (b c : ℕ) (new : Reader) (r : Result Mode ReadError) → b ≤ c → Turns text ops quotes m b new r → Turns text ops quotes m c new r
  turns-more m b c new (Ok x) h turns = (turns.0, omega (arith, turns.1), turns.2)
  turns-more m b c new (Err Memory) h turns = tt
  turns-more m b c new (Err (Fault f)) h turns = turns

  -- A leaf that ends after a second token.
  pub advanced-leaf : (old mid new : Reader) (max : ℕ) (ns : List Node) (t : Tree) (end behind : ℕ) (m : Outcome Part) (r : Result Mode ReadError)
      → Begins text old end → mid ≡ advanced text old end
      → IfOk r (λ _. PutsNodes text mid new ns behind) → IfOk r (λ x. x ≡ PartMode max 0 (length mid.pieces.items))
      → IfErr r (λ e. e ≡ Memory) → ns ≡ nodes t → end < behind → behind ≤ length text
      → m ≡ Ok (record { term = t; priority = 0; reading = reading_at old.names behind })
      → TurnsBy text ops quotes m old max new r
  advanced-leaf old mid new max ns t end behind m r begins moved_is puts mode stop node_is forward within is =
      let here = advanced text old end in
      let puts_here = subst (λ (x : Reader). IfOk r (λ _. PutsNodes text x new ns behind)) moved_is puts in
      let mode_here = subst (λ (x : Reader). IfOk r (λ y. y ≡ PartMode max 0 (length x.pieces.items))) moved_is mode in
      turns-more _ (turns_left text here (TermMode max)) (turns_left text old (TermMode max)) new r (omega (arith, begins.forward))
      (leaf-result text ops quotes here new old.names max ns t behind m r puts_here mode_here stop begins.holds node_is forward within
      (omega (arith, begins.numbered, begins.forward)) is)
