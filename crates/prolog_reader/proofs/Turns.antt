-- The turns of reading with a stack, each an equation of the grammar: leaves and frames.
use Rattle.std.proofs.Common.{◌≡◌, ℕ, ◌+◌, ◌<◌, ◌≤◌, List, [], ◌∷◌, ◌++◌, length, take, drop, Result, Ok, Err, IfOk, IfErr, Vec, reverse, refl, sym, ap, subst, ◌∙◌, arith, length-append}
use Rattle.pl_term.specs.Tree.{Tree}
use Rattle.pl_term.specs.Nodes.{nodes}
use Rattle.pl_term.specs.declared.node.Node.{Node}
use Rattle.pl_term.proofs.Spelled.{tree_spelled, nodes_spelled}
use Rattle.pl_model.specs.declared.syntax.SyntaxFault.{SyntaxFault}
use Rattle.pl_model.specs.declared.lexical.TokenKind.{TokenKind}
use Rattle.pl_model.specs.declared.lexical.Lexeme.TheVariants.{Token}
use Rattle.pl_model.specs.declared.grammar.Quotes.{Quotes}
use Rattle.pl_model.specs.LexicalTokens.{Lexed, token_at}
use Rattle.pl_model.specs.Grammar.{Reading, Part, Outcome, moved}
use Rattle.pl_model.specs.TermGrammar.{Lookup, primary}
use Rattle.pl_model.proofs.TermDepth.{whole, rest, sequence, whole-is}
use Rattle.pl_model.proofs.TokenPlaces.{Follows}
use Rattle.pl_model.proofs.LexicalFollows.{token_at-follows}
use Rattle.prolog_reader.specs.declared.names.Numbered.{Numbered}
use Rattle.prolog_reader.specs.declared.stack.Frame.{Frame}
use Rattle.prolog_reader.specs.declared.stack.Frame.TheVariants.{Behind, Closing, Arguments, Elements}
use Rattle.prolog_reader.specs.declared.stack.Mode.{Mode}
use Rattle.prolog_reader.specs.declared.stack.Mode.TheVariants.{Term as TermMode, Part as PartMode, Whole}
use Rattle.prolog_reader.specs.declared.stack.Reader.{Reader}
use Rattle.prolog_reader.specs.declared.read_error.ReadError.{ReadError}
use Rattle.prolog_reader.specs.declared.read_error.ReadError.TheVariants.{Memory, Fault}
use Rattle.prolog_reader.specs.Names.{reading_at}
use Rattle.prolog_reader.specs.Pieces.{spelled}
use Rattle.prolog_reader.specs.Stack.{plug, going, Holds, stack, reading, part_at, IsBuilt, IsAt, outcome, turns_left, Turns, TurnsBy, PutsNodes, Pushes}
use Rattle.prolog_reader.proofs.Fronts.{reverse-push}

-- The token ahead lies after the place of the reader.
pub ahead-follows : (text : List ℕ) (r : Reader) (kind : TokenKind) (s e : ℕ) → IsAt text r → r.ahead ≡ Ok (Token kind s e) → Follows text r.at s e
ahead-follows text r kind s e place is = token_at-follows text r.at kind s e (sym place.ahead ∙ is)

pub stack-push : (old new : Reader) (f : Frame) → new.frames.items ≡ old.frames.items ++ f ∷ [] → stack new ≡ f ∷ stack old
stack-push old new f e = ap reverse e ∙ reverse-push old.frames.items f

pub moved-place : (text : List ℕ) (new : Reader) (names : Numbered) (end : ℕ) → new.at ≡ end → new.ahead ≡ token_at text end → new.names ≡ names
    → end ≤ length text → names.next ≤ end → IsAt text new
moved-place text new names end at ahead same within numbered =
    let next : new.names.next ≡ names.next = ap (λ (n : Numbered). n.next) same in
    record { within = omega arith; ahead = ahead ∙ ap (token_at text) (sym at); numbered = omega arith }

pub reading-is : (new : Reader) (names : Numbered) (end : ℕ) → new.at ≡ end → new.names ≡ names → reading new ≡ reading_at names end
reading-is new names end at same = ap (λ (n : Numbered). reading_at n new.at) same ∙ ap (reading_at names) at

pub holds-same : {Z : Type 0} (fs gs : List Frame) (ps qs : List (Vec Node Z)) → fs ≡ gs → ps ≡ qs → Holds gs qs → Holds fs ps
holds-same {Z} fs gs ps qs e d h =
    subst (λ (xs : List (Vec Node Z)). Holds fs xs) (sym d) (subst (λ (xs : List Frame). Holds xs qs) (sym e) h)

module _ (text : List ℕ) (ops : Lookup) (quotes : Quotes) where
  -- A turn from another outcome, or within another bound, that is the same.
  pub turns-same : (m n : Outcome Part) (b c : ℕ) (new : Reader) (r : Result Mode ReadError) → m ≡ n → b ≡ c
      → Turns text ops quotes m b new r → Turns text ops quotes n c new r
  turns-same m n b c new r e d h =
      subst (λ k. Turns text ops quotes n k new r) d (subst (λ (x : Outcome Part). Turns text ops quotes x b new r) e h)

  pub plug-same : {Z : Type 0} (fs gs : List Frame) (ps qs : List (Vec Node Z)) (m n : Outcome Part) → fs ≡ gs → ps ≡ qs → m ≡ n
      → plug text ops quotes fs ps m ≡ plug text ops quotes gs qs n
  plug-same {Z} fs gs ps qs m n e d is =
      ap (λ (xs : List Frame). plug text ops quotes xs ps m) e ∙ ap (λ (xs : List (Vec Node Z)). plug text ops quotes gs xs m) d
      ∙ ap (plug text ops quotes gs qs) is

  pub plug-fault : {Z : Type 0} (fs : List Frame) (ps : List (Vec Node Z)) (f : SyntaxFault) → plug text ops quotes fs ps (Err f) ≡ Err f
  plug-fault [] ps f = refl
  plug-fault (Behind max priority start ∷ fs) ps f = plug-fault fs (take start ps) f
  plug-fault (Closing max mark start ∷ fs) ps f = plug-fault fs (take start ps) f
  plug-fault (Arguments max name number start ∷ fs) ps f = plug-fault fs (take start ps) f
  plug-fault (Elements max start ∷ fs) ps f = plug-fault fs (take start ps) f

  pub going-fault : (old : Reader) (max : ℕ) (m : Outcome Part) (f : SyntaxFault) → m ≡ Err f
      → going text ops quotes (stack old) old.pieces.items max m ≡ Err f
  going-fault old max m f is =
      ap (going text ops quotes (stack old) old.pieces.items max) is ∙ plug-fault (stack old) old.pieces.items f

  -- What a primary gives comes from what another that is the same gives.
  pub turns-by : (old : Reader) (max : ℕ) (m n : Outcome Part) (new : Reader) (r : Result Mode ReadError) → m ≡ n
      → TurnsBy text ops quotes m old max new r → TurnsBy text ops quotes n old max new r
  turns-by old max m n new r e h = subst (λ (x : Outcome Part). TurnsBy text ops quotes x old max new r) e h

  pub term-outcome : (r : Reader) (max : ℕ) (l : Lexed) → token_at text r.at ≡ l
      → going text ops quotes (stack r) r.pieces.items max (primary text ops quotes (whole text ops quotes) (sequence text ops quotes) max (reading r) l)
      ≡ outcome text ops quotes r (TermMode max)
  term-outcome r max l is =
      ap (λ k. going text ops quotes (stack r) r.pieces.items max (primary text ops quotes (whole text ops quotes) (sequence text ops quotes) max (reading r) k))
      (sym is)
      ∙ ap (plug text ops quotes (stack r) r.pieces.items) (sym (whole-is text ops quotes max (reading r)))

  -- A term whose nodes are there.
  pub leaf-turns : (old new : Reader) (names : Numbered) (max : ℕ) (ns : List Node) (t : Tree) (end : ℕ) (m : Outcome Part)
      → Holds (stack old) old.pieces.items → PutsNodes text (record old { names = names }) new ns end → ns ≡ nodes t
      → old.at < end → end ≤ length text → names.next ≤ end
      → m ≡ Ok (record { term = t; priority = 0; reading = reading_at names end })
      → TurnsBy text ops quotes m old max new (Ok (PartMode max 0 (length old.pieces.items)))
  leaf-turns old new names max ns t end m holds puts node_is forward within numbered is =
      let n = length old.pieces.items in
      let seg : spelled (drop n new.pieces.items) ≡ nodes t = puts.leaf ∙ node_is in
      let stack_is : stack new ≡ stack old = ap reverse puts.frames in
      let place = moved-place text new names end puts.at puts.ahead puts.names within numbered in
      let built : IsBuilt (stack new) new n = record {
        begins = omega (arith, puts.more);
        term = nodes_spelled (spelled (drop n new.pieces.items)) t seg;
        frames = holds-same (stack new) (stack old) (take n new.pieces.items) old.pieces.items stack_is puts.front holds;
      } in
      let given : Part = record { term = t; priority = 0; reading = reading_at names end } in
      let part_is : part_at new 0 n ≡ given
      = ap (λ (u : Tree). record { term = u; priority = 0; reading = reading new }) (tree_spelled (spelled (drop n new.pieces.items)) t seg)
      ∙ ap (λ (r : Reading). record { term = t; priority = 0; reading = r }) (reading-is new names end puts.at puts.names) in
      let here = plug-same (stack new) (stack old) (take n new.pieces.items) old.pieces.items (rest text ops quotes max (part_at new 0 n))
      (rest text ops quotes max given) stack_is puts.front (ap (rest text ops quotes max) part_is) in (
        record { place = place; fits = built },
        omega (arith, puts.at, ap length puts.frames),
        here ∙ ap (going text ops quotes (stack old) old.pieces.items max) (sym is),
      )

  -- The same for a result, which may be out of memory.
  pub leaf-result : (old new : Reader) (names : Numbered) (max : ℕ) (ns : List Node) (t : Tree) (end : ℕ) (m : Outcome Part) (r : Result Mode ReadError)
      → IfOk r (λ _. PutsNodes text (record old { names = names }) new ns end) → IfOk r (λ x. x ≡ PartMode max 0 (length old.pieces.items))
      → IfErr r (λ e. e ≡ Memory) → Holds (stack old) old.pieces.items → ns ≡ nodes t
      → old.at < end → end ≤ length text → names.next ≤ end
      → m ≡ Ok (record { term = t; priority = 0; reading = reading_at names end })
      → TurnsBy text ops quotes m old max new r
  leaf-result old new names max ns t end m (Ok x) puts mode stop holds node_is forward within numbered is =
      subst (λ (y : Mode). TurnsBy text ops quotes m old max new (Ok y)) (sym mode)
      (leaf-turns old new names max ns t end m holds puts node_is forward within numbered is)
  leaf-result old new names max ns t end m (Err Memory) puts mode stop holds node_is forward within numbered is = tt
  leaf-result old new names max ns t end m (Err (Fault f)) puts mode stop holds node_is forward within numbered is = cc

  -- A frame was put on the stack, and a term of at most `inner` is read next.
  pub push-turns : (old new : Reader) (frame : Frame) (inner bound : ℕ) (end : ℕ) (m : Outcome Part)
      → Pushes text old new frame end → old.at < end → end ≤ length text → old.names.next ≤ old.at
      → Holds (frame ∷ stack old) old.pieces.items → turns_left text old Whole + 2 ≤ bound
      → plug text ops quotes (frame ∷ stack old) old.pieces.items (whole text ops quotes inner (moved (reading old) end)) ≡ m
      → Turns text ops quotes m bound new (Ok (TermMode inner))
  push-turns old new frame inner bound end m pushes forward within numbered holds big is =
      let stack_is : stack new ≡ frame ∷ stack old = stack-push old new frame pushes.frames in
      let place = moved-place text new old.names end pushes.at pushes.ahead pushes.names within (omega arith) in
      let grown : length new.frames.items ≡ length old.frames.items + 1
      = ap length pushes.frames ∙ length-append old.frames.items (frame ∷ []) in (
        record { place = place; fits = holds-same (stack new) (frame ∷ stack old) new.pieces.items old.pieces.items stack_is pushes.pieces holds },
        omega (arith, pushes.at),
        plug-same (stack new) (frame ∷ stack old) new.pieces.items old.pieces.items (whole text ops quotes inner (reading new))
            (whole text ops quotes inner (moved (reading old) end)) stack_is pushes.pieces
            (ap (whole text ops quotes inner) (reading-is new old.names end pushes.at pushes.names))
            ∙ is,
      )
