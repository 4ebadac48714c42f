-- The turns of reading with a stack: how a left part goes on.
use Rattle.std.proofs.Common.{◌≡◌, ℕ, ◌<◌, ◌≤◌, Bool, true, false, cond, List, ◌∷◌, length, take, drop, Result, Ok, Err, Option, Some, None, Vec, Global, codes, refl, sym, ap, subst, ◌∙◌, arith, append-nil}
use Rattle.pl_term.specs.Tree.{Chars, Tree, comp, more, none}
use Rattle.pl_term.specs.Nodes.{nodes, tree}
use Rattle.pl_term.specs.declared.node.Node.{Node}
use Rattle.pl_term.specs.declared.node.Node.TheVariants.{Comp}
use Rattle.pl_term.proofs.Spelled.{tree_spelled, nodes_spelled}
use Rattle.pl_model.specs.declared.syntax.SyntaxFault.{SyntaxFault}
use Rattle.pl_model.specs.declared.lexical.Mark.TheVariants.{Comma}
use Rattle.pl_model.specs.declared.lexical.Lexeme.{Lexeme}
use Rattle.pl_model.specs.declared.lexical.Lexeme.TheVariants.{Token}
use Rattle.pl_model.specs.declared.lexical.TokenKind.{TokenKind}
use Rattle.pl_model.specs.declared.lexical.TokenKind.TheVariants.{Name, Quoted, Punctuation}
use Rattle.pl_model.specs.declared.operators.Place.TheVariants.{Infix as InfixPlace, Postfix as PostfixPlace}
use Rattle.pl_model.specs.declared.grammar.Quotes.{Quotes}
use Rattle.pl_model.specs.OperatorTable.{Entry}
use Rattle.pl_model.specs.LexicalTokens.{Lexed, token_at}
use Rattle.pl_model.specs.Grammar.{Reading, Part, Outcome, and_then, moved}
use Rattle.pl_model.specs.TermGrammar.{Lookup, right_argument, operation, going_on}
use Rattle.pl_model.proofs.TermDepth.{whole, rest, rest-is}
use Rattle.prolog_reader.specs.declared.operations.Joining.{Joining}
use Rattle.prolog_reader.specs.declared.operations.Operation.{Operation}
use Rattle.prolog_reader.specs.declared.operations.Operation.TheVariants.{Infix, Postfix, Ends}
use Rattle.prolog_reader.specs.declared.stack.Frame.TheVariants.{Behind}
use Rattle.prolog_reader.specs.declared.stack.Mode.{Mode}
use Rattle.prolog_reader.specs.declared.stack.Mode.TheVariants.{Term as TermMode, Part as PartMode, Ended}
use Rattle.prolog_reader.specs.declared.stack.Reader.{Reader}
use Rattle.prolog_reader.specs.declared.read_error.ReadError.{ReadError}
use Rattle.prolog_reader.specs.Operations.{is_fitting, operation_by, operation_of, joining_named, joining_ahead}
use Rattle.prolog_reader.specs.Pieces.{spelled}
use Rattle.prolog_reader.specs.Stack.{completed, joined, joined_by, plug, Holds, stack, reading, part_at, IsAt, IsSound, outcome, turns_left, Turns, TurnsFrom, Joins, Pushes}
use Rattle.prolog_reader.proofs.Fronts.{behind-infix, front-infix}
use Rattle.prolog_reader.proofs.Turns.{holds-same, plug-same, plug-fault, push-turns, turns-same}
use Rattle.prolog_reader.proofs.Primaries.{then-pointwise}

-- The token of an operator that joins.
some-end : (f : Chars) (e : ℕ) (o : Operation) (j : Joining) → joining_named f e o ≡ Some j → e ≡ j.end
some-end f e (Infix p r) j is = cc
some-end f e (Postfix p) j is = cc
some-end f e Ends j is = cc

pub joining-token : (ops : Lookup) (l : Lexeme) (max priority : ℕ) (j : Joining) → Some j ≡ joining_ahead ops l max priority
    → (kind : TokenKind) × (s : ℕ) × (l ≡ Token kind s j.end)
joining-token ops (Token (Name f) s e) max priority j is =
    (Name f, s, ap (λ n. Token (Name f) s n) (some-end f e (operation_of ops f max priority) j (sym is)))
joining-token ops (Token (Quoted f) s e) max priority j is =
    (Quoted f, s, ap (λ n. Token (Quoted f) s n) (some-end f e (operation_of ops f max priority) j (sym is)))
joining-token ops (Token (Punctuation Comma) s e) max priority j is =
    (Punctuation Comma, s, ap (λ n. Token (Punctuation Comma) s n) (some-end (codes ",") e (operation_of ops (codes ",") max priority) j (sym is)))
joining-token ops l max priority j is = cc

-- Pieces in which a node was put in front of those from a place on.
pub record PutsFront (old : Reader) (pieces : Vec (Vec Node Global) Global) (start : ℕ) (node : Node) : Type 0 where
  pub front : take start pieces.items ≡ take start old.pieces.items
  pub node_is : spelled (drop start pieces.items) ≡ node ∷ spelled (drop start old.pieces.items)
  pub size : length pieces.items ≡ length old.pieces.items

module _ (text : List ℕ) (ops : Lookup) (quotes : Quotes) where
  infix-choice : (t : Bool) (max : ℕ) (p : Part) (f : Chars) (e : ℕ) (o : Entry)
      → cond t
      (and_then (whole text ops quotes (right_argument o) (moved p.reading e))
      (λ q. rest text ops quotes max (record { term = comp f p.term (more q.term none); priority = o.0; reading = q.reading })))
      (Ok p)
      ≡ joined text ops quotes max p (joining_named f e (cond t (Infix o.0 (right_argument o)) Ends))
  infix-choice true max p f e o = refl
  infix-choice false max p f e o = refl

  postfix-choice : (t : Bool) (max : ℕ) (p : Part) (f : Chars) (e : ℕ) (o : Entry)
      → cond t (rest text ops quotes max (record { term = comp f p.term none; priority = o.0; reading = moved p.reading e })) (Ok p)
      ≡ joined text ops quotes max p (joining_named f e (cond t (Postfix o.0) Ends))
  postfix-choice true max p f e o = refl
  postfix-choice false max p f e o = refl

  operation-joined : (max : ℕ) (p : Part) (f : Chars) (e : ℕ) (o o' : Option Entry)
      → operation text ops quotes (whole text ops quotes) (rest text ops quotes max) max p f e o o'
      ≡ joined text ops quotes max p (joining_named f e (operation_by max p.priority o o'))
  operation-joined max p f e (Some o) o' = infix-choice (is_fitting max p.priority o) max p f e o
  operation-joined max p f e None (Some o) = postfix-choice (is_fitting max p.priority o) max p f e o
  operation-joined max p f e None None = refl

  going_on-joined : (max : ℕ) (p : Part) (l : Lexeme)
      → going_on text ops quotes (whole text ops quotes) (rest text ops quotes max) max p (Ok l) ≡ joined text ops quotes max p (joining_ahead ops l max p.priority)
  going_on-joined max p (Token (Name f) s e) = operation-joined max p f e (ops f InfixPlace) (ops f PostfixPlace)
  going_on-joined max p (Token (Quoted f) s e) = operation-joined max p f e (ops f InfixPlace) (ops f PostfixPlace)
  going_on-joined max p (Token (Punctuation Comma) s e) = operation-joined max p (codes ",") e (ops (codes ",") InfixPlace) (ops (codes ",") PostfixPlace)
  going_on-joined max p l = refl

  rest-ahead : (r : Reader) (max priority start : ℕ) (l : Lexed) → IsAt text r → r.ahead ≡ l
      → rest text ops quotes max (part_at r priority start)
      ≡ going_on text ops quotes (whole text ops quotes) (rest text ops quotes max) max (part_at r priority start) l
  rest-ahead r max priority start l place is =
      rest-is text ops quotes max (part_at r priority start)
      ∙ ap (going_on text ops quotes (whole text ops quotes) (rest text ops quotes max) max (part_at r priority start)) (sym place.ahead ∙ is)

  pub part-fault : (r : Reader) (max priority start : ℕ) (f : SyntaxFault) → IsAt text r → r.ahead ≡ Err f
      → outcome text ops quotes r (PartMode max priority start) ≡ Err f
  part-fault r max priority start f place is =
      ap (plug text ops quotes (stack r) (take start r.pieces.items)) (rest-ahead r max priority start (Err f) place is)
      ∙ plug-fault text ops quotes (stack r) (take start r.pieces.items) f

  pub part-joined : (r new : Reader) (max priority start : ℕ) (l : Lexeme) (j : Option Joining) (x : Result Mode ReadError) → IsAt text r → r.ahead ≡ Ok l
      → j ≡ joining_ahead ops l max priority → Joins text ops quotes r max priority start j new x
      → TurnsFrom text ops quotes r (PartMode max priority start) new x
  part-joined r new max priority start l j x place is joining joins =
      turns-same text ops quotes _ _ (turns_left text r (PartMode max priority start)) (turns_left text r (PartMode max priority start)) new x
      (ap (plug text ops quotes (stack r) (take start r.pieces.items))
      (ap (joined text ops quotes max (part_at r priority start)) joining ∙ sym (going_on-joined max (part_at r priority start) l)
      ∙ sym (rest-ahead r max priority start (Ok l) place is)))
      refl joins

  -- Nothing goes on: the left part is a whole term.
  pub joins-none : (r : Reader) (max priority start : ℕ) (m : Outcome Part) → IsSound text r (PartMode max priority start) → m ≡ Ok (part_at r priority start)
      → Turns text ops quotes (plug text ops quotes (stack r) (take start r.pieces.items) m) (turns_left text r (PartMode max priority start)) r (Ok (Ended priority start))
  joins-none r max priority start m sound is = (
    record { place = sound.place; fits = sound.fits },
    omega arith,
    ap (plug text ops quotes (stack r) (take start r.pieces.items)) (sym is),
  )

  pub joins-infix : (old new : Reader) (pieces : Vec (Vec Node Global) Global) (max priority start : ℕ) (f : Chars) (own right end : ℕ) (m : Outcome Part)
      → IsSound text old (PartMode max priority start) → old.at < end → end ≤ length text → PutsFront old pieces start (Comp f 2)
      → Pushes text (record old { pieces = pieces }) new (Behind max own start) end
      → m ≡ joined_by text ops quotes max (part_at old priority start) f end (Infix own right)
      → Turns text ops quotes (plug text ops quotes (stack old) (take start old.pieces.items) m) (turns_left text old (PartMode max priority start)) new
      (Ok (TermMode right))
  joins-infix old new pieces max priority start f own right end m sound forward within puts pushes is =
      let l = tree (spelled (drop start old.pieces.items)) in
      let r : Reading = moved (reading old) end in
      let front = spelled (drop start pieces.items) in
      let spells : front ≡ Comp f 2 ∷ nodes l = puts.node_is ∙ ap (λ ns. Comp f 2 ∷ ns) (sym sound.fits.term) in
      let holds : Holds (Behind max own start ∷ stack old) pieces.items = (
        omega (arith, puts.size, sound.fits.begins),
        front-infix front f l spells,
        holds-same (stack old) (stack old) (take start pieces.items) (take start old.pieces.items) refl puts.front sound.fits.frames,
      ) in
      push-turns text ops quotes (record old { pieces = pieces }) new (Behind max own start) right (turns_left text old (PartMode max priority start)) end _ pushes
      forward within sound.place.numbered holds (omega arith)
      (plug-same text ops quotes (stack old) (stack old) (take start pieces.items) (take start old.pieces.items)
      (and_then (whole text ops quotes right r) (λ q. rest text ops quotes max (completed front own q))) m refl puts.front
      (then-pointwise (whole text ops quotes right r) (λ q. rest text ops quotes max (completed front own q))
      (λ q. rest text ops quotes max (record { term = comp f l (more q.term none); priority = own; reading = q.reading }))
      (λ q. ap (λ (t : Tree). rest text ops quotes max (record { term = t; priority = own; reading = q.reading })) (behind-infix front f l spells q.term))
      ∙ sym is))

  pub joins-postfix : (old new : Reader) (pieces : Vec (Vec Node Global) Global) (max priority start : ℕ) (f : Chars) (own end : ℕ) (m : Outcome Part)
      → IsSound text old (PartMode max priority start) → old.at < end → end ≤ length text → PutsFront old pieces start (Comp f 1)
      → new ≡ record old { at = end; ahead = token_at text end; pieces = pieces }
      → m ≡ joined_by text ops quotes max (part_at old priority start) f end (Postfix own)
      → Turns text ops quotes (plug text ops quotes (stack old) (take start old.pieces.items) m) (turns_left text old (PartMode max priority start)) new
      (Ok (PartMode max own start))
  joins-postfix old new pieces max priority start f own end m sound forward within puts new_is is =
      let l = tree (spelled (drop start old.pieces.items)) in
      let seg : spelled (drop start pieces.items) ≡ nodes (comp f l none)
      = puts.node_is ∙ ap (λ ns. Comp f 1 ∷ ns) (sym sound.fits.term ∙ sym (append-nil (nodes l))) in
      let reached : Reader = record old { at = end; ahead = token_at text end; pieces = pieces } in
      let bound = turns_left text old (PartMode max priority start) in
      let before = plug text ops quotes (stack old) (take start old.pieces.items) m in
      let turns : Turns text ops quotes before bound reached (Ok (PartMode max own start)) = (
        record {
          place = record { within = within; ahead = refl; numbered = omega (arith, sound.place.numbered) };
          fits = record {
            begins = omega (arith, puts.size, sound.fits.begins);
            term = nodes_spelled (spelled (drop start pieces.items)) (comp f l none) seg;
            frames = holds-same (stack old) (stack old) (take start pieces.items) (take start old.pieces.items) refl puts.front sound.fits.frames;
          };
        },
        omega arith,
        plug-same text ops quotes (stack old) (stack old) (take start pieces.items) (take start old.pieces.items)
            (rest text ops quotes max (part_at reached own start)) m refl puts.front
            (ap (λ (t : Tree). rest text ops quotes max (record { term = t; priority = own; reading = moved (reading old) end }))
            (tree_spelled (spelled (drop start pieces.items)) (comp f l none) seg)
            ∙ sym is),
      ) in
      subst (λ (r : Reader). Turns text ops quotes before bound r (Ok (PartMode max own start))) (sym new_is) turns
