-- The turns of reading with a stack: the elements of lists, and the frame that is popped.
use Rattle.std.proofs.Common.{◌≡◌, ℕ, ◌+◌, ◌<◌, ◌≤◌, List, [], ◌∷◌, ◌++◌, length, take, drop, Result, Ok, Err, Option, Some, None, Vec, Global, codes, reverse, refl, sym, ap, subst, ◌∙◌, arith, length-append}
use Rattle.std.proofs.lemmas.List.{take-take, length-take-le}
use Rattle.pl_term.specs.Tree.{Chars, Tree, atom, none}
use Rattle.pl_term.specs.Nodes.{nodes, tree}
use Rattle.pl_term.specs.declared.node.Node.{Node}
use Rattle.pl_term.specs.declared.node.Node.TheVariants.{Atom, Comp}
use Rattle.pl_model.specs.declared.lexical.Mark.TheVariants.{CloseList, Bar, Comma}
use Rattle.pl_model.specs.declared.grammar.Quotes.{Quotes}
use Rattle.pl_model.specs.LexicalTokens.{token_at}
use Rattle.pl_model.specs.Grammar.{Reading, Part, Outcome, and_then, moved}
use Rattle.pl_model.specs.TermGrammar.{Items, Lookup, list_with, behind_mark, closed}
use Rattle.pl_model.proofs.TermDepth.{whole, rest, further_at}
use Rattle.prolog_reader.specs.declared.stack.Frame.{Frame}
use Rattle.prolog_reader.specs.declared.stack.Frame.TheVariants.{Closing, Elements}
use Rattle.prolog_reader.specs.declared.stack.Mode.{Mode}
use Rattle.prolog_reader.specs.declared.stack.Mode.TheVariants.{Term as TermMode, Part as PartMode, Ended, Whole}
use Rattle.prolog_reader.specs.declared.stack.Reader.{Reader}
use Rattle.prolog_reader.specs.declared.read_error.ReadError.{ReadError}
use Rattle.prolog_reader.specs.Ahead.{fault_of}
use Rattle.prolog_reader.specs.Pieces.{spelled}
use Rattle.prolog_reader.specs.Stack.{behind, enclosed_by, tailed, listed, plug, Holds, stack, reading, part_at, IsBuilt, IsAt, IsSound, outcome, turns_left, TurnsFrom, Takes, taken, Pushes}
use Rattle.prolog_reader.proofs.Fronts.{spelled-split, behind-cell, front-cell}
use Rattle.prolog_reader.proofs.Turns.{holds-same, stack-push, push-turns, plug-fault, plug-same, turns-same}
use Rattle.prolog_reader.proofs.Primaries.{then-pointwise}
use Rattle.prolog_reader.proofs.Advances.{mark-follows}
use Rattle.prolog_reader.proofs.Joins.{PutsFront}
use Rattle.prolog_reader.proofs.Ends.{closed-none, closed-some, further-none, pushed, sequence-more}

-- The cells of a list with one more element.
record Celled {Z : Type 0} (front : List Node) (t : Tree) (old new : List (Vec Node Z)) (start last : ℕ) : Type 0 where
  order : start < length old
  spells : spelled (drop start new) ≡ front ++ (Comp (codes ".") 2 ∷ nodes t)
  below : take start new ≡ take start (take last old)

celled : (old : Reader) (pieces : Vec (Vec Node Global) Global) (start last : ℕ) → last < length old.pieces.items
    → start ≤ length (take last old.pieces.items) → nodes (tree (spelled (drop last old.pieces.items))) ≡ spelled (drop last old.pieces.items)
    → PutsFront old pieces last (Comp (codes ".") 2)
    → Celled (spelled (drop start (take last old.pieces.items))) (tree (spelled (drop last old.pieces.items))) old.pieces.items pieces.items start last
celled old pieces start last begins from term puts =
    let ps = old.pieces.items in
    let inside : last ≤ length ps = omega arith in
    let order : start ≤ last = omega (arith, length-take-le last ps inside) in
    record {
      order = omega arith;
      spells = spelled-split pieces.items start last order (omega (arith, puts.size))
          ∙ ap (λ (qs : List (Vec Node Global)). spelled (drop start qs) ++ spelled (drop last pieces.items)) puts.front
          ∙ ap (λ ns. spelled (drop start (take last ps)) ++ ns) (puts.node_is ∙ ap (λ ns. Comp (codes ".") 2 ∷ ns) (sym term));
      below = sym (take-take start last pieces.items order) ∙ ap (λ (qs : List (Vec Node Global)). take start qs) puts.front;
    }

module _ (text : List ℕ) (ops : Lookup) (quotes : Quotes) where
  element-outcome : ℕ → List Node → Outcome Items → Outcome Part
  element-outcome max front m = and_then (and_then m (listed text ops quotes front)) (rest text ops quotes max)

  -- The last element, and what stands after it.
  alone : Reader → ℕ → Items
  alone old last = record { first = tree (spelled (drop last old.pieces.items)); others = none; reading = reading old }

  listed-ahead : (old : Reader) (front : List Node) (last : ℕ) (o : Option ℕ) → IsAt text old → o ≡ behind_mark Bar old.ahead
      → listed text ops quotes front (alone old last) ≡ tailed text ops quotes front (alone old last) o
  unfolding alone
  listed-ahead old front last o place is = ap (tailed text ops quotes front (alone old last)) (ap (behind_mark Bar) (sym place.ahead) ∙ sym is)

  last-element : (old : Reader) (max start priority last : ℕ) (o : Option ℕ) → IsAt text old → None ≡ behind_mark Comma old.ahead → o ≡ behind_mark Bar old.ahead
      → taken text ops quotes old (Elements max start) priority last
      ≡ plug text ops quotes (stack old) (take start (take last old.pieces.items))
      (and_then (tailed text ops quotes (spelled (drop start (take last old.pieces.items))) (alone old last) o) (rest text ops quotes max))
  unfolding alone element-outcome
  last-element old max start priority last o place no_comma is =
      let before = take last old.pieces.items in
      let front = spelled (drop start before) in
      ap (λ (m : Outcome Items). plug text ops quotes (stack old) (take start before) (element-outcome max front m)) (further-none text ops quotes old priority last place no_comma)
      ∙ ap (λ (m : Outcome Part). plug text ops quotes (stack old) (take start before) (and_then m (rest text ops quotes max)))
      (listed-ahead old front last o place is)

  pub element-fault : (old : Reader) (max start priority last : ℕ) → IsAt text old → None ≡ behind_mark Comma old.ahead → None ≡ behind_mark Bar old.ahead
      → None ≡ behind_mark CloseList old.ahead → taken text ops quotes old (Elements max start) priority last ≡ Err (fault_of text old.ahead)
  unfolding alone
  element-fault old max start priority last place no_comma no_bar no_close =
      let before = take last old.pieces.items in
      let front = spelled (drop start before) in
      last-element old max start priority last None place no_comma no_bar
      ∙ ap (λ (m : Outcome Part). plug text ops quotes (stack old) (take start before) (and_then m (rest text ops quotes max)))
      (closed-none text CloseList (behind front (list_with (alone old last) (atom (codes "[]")))) (reading old) old.ahead place.ahead no_close)
      ∙ plug-fault text ops quotes (stack old) (take start before) (fault_of text old.ahead)

  tailed-more : (front ns : List Node) (t : Tree) (q : Items) (o : Option ℕ) → ns ≡ front ++ (Comp (codes ".") 2 ∷ nodes t)
      → tailed text ops quotes ns q o ≡ tailed text ops quotes front (pushed text ops quotes t q) o
  tailed-more front ns t q None e = ap (λ (x : Tree). closed text CloseList x q.reading) (behind-cell front ns t e (list_with q (atom (codes "[]"))))
  tailed-more front ns t q (Some end) e =
      then-pointwise (whole text ops quotes 999 (moved q.reading end)) _ _
      (λ p. ap (λ (x : Tree). closed text CloseList x p.reading) (behind-cell front ns t e (list_with q p.term)))

  pub element-goes_on : (old new : Reader) (pieces : Vec (Vec Node Global) Global) (max start priority last end : ℕ)
      → IsAt text old → IsBuilt (Elements max start ∷ stack old) old last → PutsFront old pieces last (Comp (codes ".") 2)
      → Some end ≡ behind_mark Comma old.ahead → Pushes text (record old { pieces = pieces }) new (Elements max start) end
      → Takes text ops quotes old (Elements max start) priority last new (Ok (TermMode 999))
  unfolding element-outcome
  element-goes_on old new pieces max start priority last end place built puts there pushes =
      let before = take last old.pieces.items in
      let front = spelled (drop start before) in
      let t = tree (spelled (drop last old.pieces.items)) in
      let ns = spelled (drop start pieces.items) in
      let r : Reading = moved (reading old) end in
      let cells = celled old pieces start last built.begins built.frames.0 built.term puts in
      let found = mark-follows text old.at Comma old.ahead end place.ahead there in
      let holds : Holds (Elements max start ∷ stack old) pieces.items = (
        omega (arith, cells.order, puts.size),
        front-cell front ns t built.frames.1 cells.spells,
        holds-same (stack old) (stack old) (take start pieces.items) (take start before) refl cells.below built.frames.2,
      ) in
      let terms : Outcome Items = and_then (whole text ops quotes 999 r) (further_at text ops quotes) in
      push-turns text ops quotes (record old { pieces = pieces }) new (Elements max start) 999 (turns_left text old (Ended priority last) + 2) end
      (taken text ops quotes old (Elements max start) priority last) pushes found.0 found.1 place.numbered holds (omega arith)
      (plug-same text ops quotes (stack old) (stack old) (take start pieces.items) (take start before)
      (element-outcome max ns terms) (element-outcome max front (further_at text ops quotes (part_at old priority last))) refl cells.below
      (ap (λ (m : Outcome Part). and_then m (rest text ops quotes max))
      (sequence-more text ops quotes old priority last end (listed text ops quotes front) (listed text ops quotes ns) place there
      (λ q. tailed-more front ns t q (behind_mark Bar (token_at text q.reading.at)) cells.spells))))

  pub element-tail : (old new : Reader) (pieces : Vec (Vec Node Global) Global) (max start priority last end : ℕ)
      → IsAt text old → IsBuilt (Elements max start ∷ stack old) old last → PutsFront old pieces last (Comp (codes ".") 2)
      → None ≡ behind_mark Comma old.ahead → Some end ≡ behind_mark Bar old.ahead
      → Pushes text (record old { pieces = pieces }) new (Closing max CloseList start) end
      → Takes text ops quotes old (Elements max start) priority last new (Ok (TermMode 999))
  unfolding alone
  element-tail old new pieces max start priority last end place built puts no_comma there pushes =
      let before = take last old.pieces.items in
      let front = spelled (drop start before) in
      let t = tree (spelled (drop last old.pieces.items)) in
      let ns = spelled (drop start pieces.items) in
      let r : Reading = moved (reading old) end in
      let cells = celled old pieces start last built.begins built.frames.0 built.term puts in
      let found = mark-follows text old.at Bar old.ahead end place.ahead there in
      let holds : Holds (Closing max CloseList start ∷ stack old) pieces.items = (
        omega (arith, cells.order, puts.size),
        front-cell front ns t built.frames.1 cells.spells,
        holds-same (stack old) (stack old) (take start pieces.items) (take start before) refl cells.below built.frames.2,
      ) in
      push-turns text ops quotes (record old { pieces = pieces }) new (Closing max CloseList start) 999 (turns_left text old (Ended priority last) + 2) end
      (taken text ops quotes old (Elements max start) priority last) pushes found.0 found.1 place.numbered holds (omega arith)
      (plug-same text ops quotes (stack old) (stack old) (take start pieces.items) (take start before)
      (and_then (and_then (whole text ops quotes 999 r) (enclosed_by text ops quotes ns CloseList)) (rest text ops quotes max))
      (and_then (tailed text ops quotes front (alone old last) (Some end)) (rest text ops quotes max)) refl cells.below
      (ap (λ (m : Outcome Part). and_then m (rest text ops quotes max))
      (then-pointwise (whole text ops quotes 999 r) (enclosed_by text ops quotes ns CloseList)
      (λ p. closed text CloseList (behind front (list_with (alone old last) p.term)) p.reading)
      (λ p. ap (λ (x : Tree). closed text CloseList x p.reading) (behind-cell front ns t cells.spells p.term))))
      ∙ sym (last-element old max start priority last (Some end) place no_comma there))

  pub element-closes : (old new : Reader) (pieces ended : Vec (Vec Node Global) Global) (max start priority last end : ℕ) (f : Chars)
      → IsAt text old → IsBuilt (Elements max start ∷ stack old) old last → PutsFront old pieces last (Comp (codes ".") 2)
      → None ≡ behind_mark Comma old.ahead → None ≡ behind_mark Bar old.ahead → Some end ≡ behind_mark CloseList old.ahead
      → f ≡ codes "[]" → take (length pieces.items) ended.items ≡ pieces.items
      → spelled (drop (length pieces.items) ended.items) ≡ Atom f ∷ [] → length ended.items ≡ length pieces.items + 1
      → new ≡ record old { at = end; ahead = token_at text end; pieces = ended }
      → Takes text ops quotes old (Elements max start) priority last new (Ok (PartMode max 0 start))
  unfolding alone
  element-closes old new pieces ended max start priority last end f place built puts no_comma no_bar there name whole_is leaf more_is new_is =
      let before = take last old.pieces.items in
      let front = spelled (drop start before) in
      let t = tree (spelled (drop last old.pieces.items)) in
      let ns = spelled (drop start pieces.items) in
      let nil : Tree = atom (codes "[]") in
      let n = length pieces.items in
      let cells = celled old pieces start last built.begins built.frames.0 built.term puts in
      let found = mark-follows text old.at CloseList old.ahead end place.ahead there in
      let seg : spelled (drop start ended.items) ≡ ns ++ nodes nil
      = spelled-split ended.items start n (omega (arith, cells.order, puts.size)) (omega (arith, more_is))
      ∙ ap (λ (qs : List (Vec Node Global)). spelled (drop start qs) ++ spelled (drop n ended.items)) whole_is
      ∙ ap (λ ms. ns ++ ms) (leaf ∙ ap (λ (g : Chars). Atom g ∷ []) name) in
      let is_front = front-cell front ns t built.frames.1 cells.spells in
      let below : take start ended.items ≡ take start before
      = sym (take-take start n ended.items (omega (arith, cells.order, puts.size))) ∙ ap (λ (qs : List (Vec Node Global)). take start qs) whole_is ∙ cells.below in
      let reached : Reader = record old { at = end; ahead = token_at text end; pieces = ended } in
      let turns : Takes text ops quotes old (Elements max start) priority last reached (Ok (PartMode max 0 start)) = (
        record {
          place = record { within = found.1; ahead = refl; numbered = omega (arith, place.numbered, found.0) };
          fits = record {
            begins = omega (arith, cells.order, puts.size, more_is);
            term = ap (λ ms. nodes (tree ms)) seg ∙ is_front nil ∙ sym seg;
            frames = holds-same (stack old) (stack old) (take start ended.items) (take start before) refl below built.frames.2;
          };
        },
        omega (arith, found.0, found.1),
        plug-same text ops quotes (stack old) (stack old) (take start ended.items) (take start before) (rest text ops quotes max (part_at reached 0 start))
            (and_then (tailed text ops quotes front (alone old last) None) (rest text ops quotes max)) refl below
            (ap (λ (x : Tree). rest text ops quotes max (record { term = x; priority = 0; reading = moved (reading old) end }))
            (ap tree seg ∙ behind-cell front ns t cells.spells nil)
            ∙ ap (λ (m : Outcome Part). and_then m (rest text ops quotes max))
            (sym (closed-some text CloseList (behind front (list_with (alone old last) nil)) (reading old) old.ahead end place.ahead there)))
            ∙ sym (last-element old max start priority last None place no_comma no_bar),
      ) in
      subst (λ (r : Reader). Takes text ops quotes old (Elements max start) priority last r (Ok (PartMode max 0 start))) (sym new_is) turns

  -- No frame waits any more.
  pub whole-turns : (old : Reader) (frames : Vec Frame Global) (priority start : ℕ) → IsSound text old (Ended priority start)
      → old.frames.items ≡ [] → frames.items ≡ []
      → TurnsFrom text ops quotes old (Ended priority start) (record old { frames = frames }) (Ok Whole)
  whole-turns old frames priority start sound empty left =
      let ps = old.pieces.items in
      let stack_is : stack old ≡ [] = ap reverse empty in
      let inside : start ≤ length ps = omega (arith, sound.fits.begins) in
      let nothing : take start ps ≡ [] = subst (λ (fs : List Frame). Holds fs (take start ps)) stack_is sound.fits.frames in
      let first : start ≡ 0 = sym (length-take-le start ps inside) ∙ ap length nothing in (
        record {
          place = record { within = sound.place.within; ahead = sound.place.ahead; numbered = sound.place.numbered };
          fits = subst (λ n. nodes (tree (spelled (drop n ps))) ≡ spelled (drop n ps)) first sound.fits.term;
        },
        omega (arith, ap length left, ap length empty),
        (
          priority,
          ap (λ n. Ok (part_at old priority n)) (sym first)
              ∙ ap (λ (fs : List Frame). plug text ops quotes fs (take start ps) (Ok (part_at old priority start))) (sym stack_is),
        ),
      )

  -- The frame that waits takes the term.
  pub popped-turns : (old new : Reader) (frames : Vec Frame Global) (f : Frame) (priority start : ℕ) (r : Result Mode ReadError)
      → old.frames.items ≡ frames.items ++ f ∷ [] → Takes text ops quotes (record old { frames = frames }) f priority start new r
      → TurnsFrom text ops quotes old (Ended priority start) new r
  popped-turns old new frames f priority start r is turns =
      let stack_is : stack old ≡ f ∷ stack (record old { frames = frames }) = stack-push (record old { frames = frames }) old f is in
      let more : length old.frames.items ≡ length frames.items + 1 = ap length is ∙ length-append frames.items (f ∷ []) in
      turns-same text ops quotes (taken text ops quotes (record old { frames = frames }) f priority start) (outcome text ops quotes old (Ended priority start))
      (turns_left text (record old { frames = frames }) (Ended priority start) + 2) (turns_left text old (Ended priority start)) new r
      (ap (λ (fs : List Frame). plug text ops quotes fs (take start old.pieces.items) (Ok (part_at old priority start))) (sym stack_is)) (omega arith) turns

pub popped-built : (old : Reader) (frames : Vec Frame Global) (f : Frame) (start : ℕ) → old.frames.items ≡ frames.items ++ f ∷ []
    → IsBuilt (stack old) old start → IsBuilt (f ∷ stack (record old { frames = frames })) (record old { frames = frames }) start
popped-built old frames f start is built =
    record {
      begins = built.begins;
      term = built.term;
      frames = subst (λ (fs : List Frame). Holds fs (take start old.pieces.items)) (stack-push (record old { frames = frames }) old f is) built.frames;
    }
