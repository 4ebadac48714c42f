-- Reading a term with a stack. What was begun and waits for a subterm stands in frames, and what was read of it already
-- in pieces; both together say what the grammar makes of the outcome that is still to come.
use Rattle.std.specs.Prelude.{◌≡◌, ℕ, List, [], ◌∷◌, ◌++◌, Result, Ok, Err, Option, Some, None, Vec, ◌+◌, ◌-◌, ◌*◌, ◌<◌, ◌≤◌, codes, length, take, drop, reverse}
use Rattle.pl_term.specs.Tree.{Chars, Tree, Trees, atom, comp, none, more, count, join}
use Rattle.pl_term.specs.Nodes.{nodes, nodes_all, forest, tree}
use Rattle.pl_term.specs.declared.node.Node.{Node}
use Rattle.pl_model.specs.declared.lexical.Mark.{Mark}
use Rattle.pl_model.specs.declared.lexical.Mark.TheVariants.{Close, CloseList, Bar}
use Rattle.pl_model.specs.declared.grammar.Quotes.{Quotes}
use Rattle.pl_model.specs.LexicalTokens.{token_at}
use Rattle.pl_model.specs.Grammar.{Reading, Part, Outcome, and_then, moved}
use Rattle.pl_model.specs.TermGrammar.{Items, Lookup, list_with, behind_mark, closed}
use Rattle.pl_model.proofs.TermDepth.{whole, rest, further_at}
use Rattle.prolog_reader.specs.declared.operations.Joining.{Joining}
use Rattle.prolog_reader.specs.declared.operations.Operation.{Operation}
use Rattle.prolog_reader.specs.declared.operations.Operation.TheVariants.{Infix, Postfix, Ends}
use Rattle.prolog_reader.specs.declared.stack.Frame.{Frame}
use Rattle.prolog_reader.specs.declared.stack.Frame.TheVariants.{Behind, Closing, Arguments, Elements}
use Rattle.prolog_reader.specs.declared.stack.Mode.{Mode}
use Rattle.prolog_reader.specs.declared.stack.Mode.TheVariants.{Term as TermMode, Part as PartMode, Ended, Whole}
use Rattle.prolog_reader.specs.declared.stack.Reader.{Reader}
use Rattle.prolog_reader.specs.declared.read_error.ReadError.{ReadError}
use Rattle.prolog_reader.specs.declared.read_error.ReadError.TheVariants.{Memory, Fault}
use Rattle.prolog_reader.specs.Names.{reading_at}
use Rattle.prolog_reader.specs.Pieces.{spelled}

-- The term with this name and these arguments.
abbrev pub compound_of : Chars → Trees → Tree
compound_of f none = atom f
compound_of f (more t ts) = comp f t ts

-- The term whose nodes are those of a front and those of a last subterm.
abbrev pub behind : List Node → Tree → Tree
behind front t = tree (front ++ nodes t)

-- Nodes that spell a term with those of any last subterm.
abbrev pub IsFront : List Node → Type 0
IsFront front = (t : Tree) → nodes (tree (front ++ nodes t)) ≡ front ++ nodes t

abbrev pub completed : List Node → ℕ → Part → Part
completed front priority q = record { term = behind front q.term; priority = priority; reading = q.reading }

module _ (text : List ℕ) (ops : Lookup) (quotes : Quotes) where
  abbrev pub enclosed_by : List Node → Mark → Part → Outcome Part
  enclosed_by front mark p = closed text mark (behind front p.term) p.reading

  -- The arguments are these and some more.
  abbrev pub applied : Chars → Trees → Items → Outcome Part
  applied name ts q = closed text Close (compound_of name (join ts (more q.first q.others))) q.reading

  -- The last elements of a list, and its tail if it has one.
  abbrev pub tailed : List Node → Items → Option ℕ → Outcome Part
  tailed front q None = closed text CloseList (behind front (list_with q (atom (codes "[]")))) q.reading
  tailed front q (Some end) =
      and_then (whole text ops quotes 999 (moved q.reading end)) (λ p. closed text CloseList (behind front (list_with q p.term)) p.reading)

  abbrev pub listed : List Node → Items → Outcome Part
  listed front q = tailed front q (behind_mark Bar (token_at text q.reading.at))

  -- What the frames make of the outcome of the term that the first one waits for.
  abbrev pub plug : {Z : Type 0} → List Frame → List (Vec Node Z) → Outcome Part → Outcome Part
  plug [] ps m = m
  plug (Behind max priority start ∷ fs) ps m =
      plug fs (take start ps) (and_then m (λ q. rest text ops quotes max (completed (spelled (drop start ps)) priority q)))
  plug (Closing max mark start ∷ fs) ps m =
      plug fs (take start ps) (and_then (and_then m (enclosed_by (spelled (drop start ps)) mark)) (rest text ops quotes max))
  plug (Arguments max name number start ∷ fs) ps m =
      plug fs (take start ps)
      (and_then (and_then (and_then m (further_at text ops quotes)) (applied name (forest (spelled (drop start ps))))) (rest text ops quotes max))
  plug (Elements max start ∷ fs) ps m =
      plug fs (take start ps)
      (and_then (and_then (and_then m (further_at text ops quotes)) (listed (spelled (drop start ps)))) (rest text ops quotes max))

  -- A term goes on after this primary.
  abbrev pub going : {Z : Type 0} → List Frame → List (Vec Node Z) → ℕ → Outcome Part → Outcome Part
  going fs ps max m = plug fs ps (and_then m (rest text ops quotes max))

  -- A term in parentheses, from the place after the opening one.
  abbrev pub in_parentheses : Reading → Outcome Part
  in_parentheses r = and_then (whole text ops quotes 1200 r) (λ p. closed text Close p.term p.reading)

  -- How an operator, or none, goes on with a left part.
  abbrev pub joined_by : ℕ → Part → Chars → ℕ → Operation → Outcome Part
  joined_by max p f end (Infix priority right) =
      and_then (whole text ops quotes right (moved p.reading end))
      (λ q. rest text ops quotes max (record { term = comp f p.term (more q.term none); priority = priority; reading = q.reading }))
  joined_by max p f end (Postfix priority) =
      rest text ops quotes max (record { term = comp f p.term none; priority = priority; reading = moved p.reading end })
  joined_by max p f end Ends = Ok p

  abbrev pub joined : ℕ → Part → Option Joining → Outcome Part
  joined max p None = Ok p
  joined max p (Some j) = joined_by max p j.name j.end j.operation

-- The pieces spell what the frames hold, one after the other.
abbrev pub Holds : {Z : Type 0} → List Frame → List (Vec Node Z) → Type 0
Holds [] ps = ps ≡ []
Holds (Behind max priority start ∷ fs) ps = (start ≤ length ps) × IsFront (spelled (drop start ps)) × Holds fs (take start ps)
Holds (Closing max mark start ∷ fs) ps = (start ≤ length ps) × IsFront (spelled (drop start ps)) × Holds fs (take start ps)
Holds (Arguments max name number start ∷ fs) ps =
    (start + number ≤ length ps) × (nodes_all (forest (spelled (drop start ps))) ≡ spelled (drop start ps))
    × (number ≡ count (forest (spelled (drop start ps)))) × Holds fs (take start ps)
Holds (Elements max start ∷ fs) ps = (start ≤ length ps) × IsFront (spelled (drop start ps)) × Holds fs (take start ps)

abbrev pub stack : Reader → List Frame
stack r = reverse r.frames.items

abbrev pub reading : Reader → Reading
reading r = reading_at r.names r.at

-- The part whose pieces begin at `start`.
abbrev pub part_at : Reader → ℕ → ℕ → Part
part_at r priority start = record { term = tree (spelled (drop start r.pieces.items)); priority = priority; reading = reading r }

-- The pieces from `start` on spell one term, and those before it what these frames hold.
pub record IsBuilt (fs : List Frame) (r : Reader) (start : ℕ) : Type 0 where
  pub begins : start < length r.pieces.items
  pub term : nodes (tree (spelled (drop start r.pieces.items))) ≡ spelled (drop start r.pieces.items)
  pub frames : Holds fs (take start r.pieces.items)

abbrev pub Fits : Mode → Reader → Type 0
Fits (TermMode max) r = Holds (stack r) r.pieces.items
Fits (PartMode max priority start) r = IsBuilt (stack r) r start
Fits (Ended priority start) r = IsBuilt (stack r) r start
Fits Whole r = nodes (tree (spelled r.pieces.items)) ≡ spelled r.pieces.items

-- The reader stands at a place of the text, and has looked ahead there.
pub record IsAt (text : List ℕ) (r : Reader) : Type 0 where
  pub within : r.at ≤ length text
  pub ahead : r.ahead ≡ token_at text r.at
  pub numbered : r.names.next ≤ r.at

-- The reader is in order.
pub record IsSound (text : List ℕ) (r : Reader) (m : Mode) : Type 0 where
  pub place : IsAt text r
  pub fits : Fits m r

-- A term begins at the reader's place, with a token that ends at another.
pub record Begins (text : List ℕ) (r : Reader) (end : ℕ) : Type 0 where
  pub forward : r.at < end
  pub within : end ≤ length text
  pub numbered : r.names.next ≤ r.at
  pub holds : Holds (stack r) r.pieces.items

-- What reading goes on to give from here.
abbrev pub outcome : List ℕ → Lookup → Quotes → Reader → Mode → Outcome Part
outcome text ops quotes r (TermMode max) = plug text ops quotes (stack r) r.pieces.items (whole text ops quotes max (reading r))
outcome text ops quotes r (PartMode max priority start) =
    plug text ops quotes (stack r) (take start r.pieces.items) (rest text ops quotes max (part_at r priority start))
outcome text ops quotes r (Ended priority start) = plug text ops quotes (stack r) (take start r.pieces.items) (Ok (part_at r priority start))
outcome text ops quotes r Whole = Ok (part_at r 0 0)

-- The reader gives this in the end.
abbrev pub Gives : List ℕ → Lookup → Quotes → Reader → Mode → Outcome Part → Type 0
Gives text ops quotes r (TermMode max) m = outcome text ops quotes r (TermMode max) ≡ m
Gives text ops quotes r (PartMode max priority start) m = outcome text ops quotes r (PartMode max priority start) ≡ m
Gives text ops quotes r (Ended priority start) m = outcome text ops quotes r (Ended priority start) ≡ m
Gives text ops quotes r Whole m = (priority : ℕ) × (Ok (part_at r priority 0) ≡ m)

abbrev pub weight : Mode → ℕ
weight (TermMode max) = 2
weight (PartMode max priority start) = 2
weight (Ended priority start) = 1
weight Whole = 0

-- A term of these nodes was put at the end, and reading went to a place.
pub record PutsNodes (text : List ℕ) (old new : Reader) (ns : List Node) (end : ℕ) : Type 0 where
  pub at : new.at ≡ end
  pub ahead : new.ahead ≡ token_at text end
  pub names : new.names ≡ old.names
  pub frames : new.frames.items ≡ old.frames.items
  pub front : take (length old.pieces.items) new.pieces.items ≡ old.pieces.items
  pub leaf : spelled (drop (length old.pieces.items) new.pieces.items) ≡ ns
  pub more : length new.pieces.items ≡ length old.pieces.items + 1

-- A frame was put on the stack, and reading went to a place.
pub record Pushes (text : List ℕ) (old new : Reader) (frame : Frame) (end : ℕ) : Type 0 where
  pub at : new.at ≡ end
  pub ahead : new.ahead ≡ token_at text end
  pub names : new.names ≡ old.names
  pub frames : new.frames.items ≡ old.frames.items ++ frame ∷ []
  pub pieces : new.pieces.items ≡ old.pieces.items

-- A bound on the turns that are left.
abbrev pub turns_left : List ℕ → Reader → Mode → ℕ
turns_left text r m = 4 * (length text - r.at) + 2 * length r.frames.items + weight m

-- A turn was made, from where `m` was to come within a number of turns.
abbrev pub Turns : List ℕ → Lookup → Quotes → Outcome Part → ℕ → Reader → Result Mode ReadError → Type 0
Turns text ops quotes m bound new (Ok mode) =
    IsSound text new mode × (turns_left text new mode < bound) × Gives text ops quotes new mode m
Turns text ops quotes m bound new (Err Memory) = Unit {0}
Turns text ops quotes m bound new (Err (Fault f)) = m ≡ Err f

-- A turn was made from here.
abbrev pub TurnsFrom : List ℕ → Lookup → Quotes → Reader → Mode → Reader → Result Mode ReadError → Type 0
TurnsFrom text ops quotes old mode new r = Turns text ops quotes (outcome text ops quotes old mode) (turns_left text old mode) new r

-- A turn was made from the begin of a term of at most `max` whose primary gives this.
abbrev pub TurnsBy : List ℕ → Lookup → Quotes → Outcome Part → Reader → ℕ → Reader → Result Mode ReadError → Type 0
TurnsBy text ops quotes m old max new r =
    Turns text ops quotes (going text ops quotes (stack old) old.pieces.items max m) (turns_left text old (TermMode max)) new r

-- What a frame makes of a term that has ended.
abbrev pub taken : List ℕ → Lookup → Quotes → Reader → Frame → ℕ → ℕ → Outcome Part
taken text ops quotes r f priority start = plug text ops quotes (f ∷ stack r) (take start r.pieces.items) (Ok (part_at r priority start))

-- A frame took the term that had ended.
abbrev pub Takes : List ℕ → Lookup → Quotes → Reader → Frame → ℕ → ℕ → Reader → Result Mode ReadError → Type 0
Takes text ops quotes old f priority start new r =
    Turns text ops quotes (taken text ops quotes old f priority start) (turns_left text old (Ended priority start) + 2) new r

-- A turn was made by an operator after a left part, or by none.
abbrev pub Joins : List ℕ → Lookup → Quotes → Reader → ℕ → ℕ → ℕ → Option Joining → Reader → Result Mode ReadError → Type 0
Joins text ops quotes old max priority start j new r =
    Turns text ops quotes
    (plug text ops quotes (stack old) (take start old.pieces.items) (joined text ops quotes max (part_at old priority start) j))
    (turns_left text old (PartMode max priority start)) new r

-- Why reading stops: out of memory, or this outcome's fault.
abbrev pub Stops : {A : Type 0} → Outcome A → ReadError → Type 0
Stops m Memory = Unit {0}
Stops m (Fault f) = m ≡ Err f

-- How far reading has come before a clause.
abbrev pub start_at : ℕ → Reading
start_at at = record { at = at; names = []; next = 0 }

-- The reader has read the whole term at a place.
pub record IsRead (text : List ℕ) (ops : Lookup) (quotes : Quotes) (at : ℕ) (r : Reader) : Type 0 where
  pub sound : IsSound text r Whole
  pub priority : ℕ
  pub given : Ok (part_at r priority 0) ≡ whole text ops quotes 1200 (start_at at)
