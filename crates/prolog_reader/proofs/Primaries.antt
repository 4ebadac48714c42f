-- The turns of reading with a stack: what begins a term.
use Rattle.std.proofs.Common.{◌≡◌, ℕ, ◌+◌, ◌^◌, ◌<◌, ◌≤◌, true, false, cond, nat_lt, ◌==◌, List, [], ◌∷◌, length, take, drop, Ok, Err, Option, Some, None, Vec, Global, codes, pos, slice_index, refl, sym, ap, subst, ◌∙◌, arith}
use Rattle.std.proofs.lemmas.Bool.{cond-true, cond-false}
use Rattle.std.proofs.lemmas.Bool.Decides.{nat_tests}
use Rattle.std.proofs.lemmas.List.{take_all, drop_all}
use Rattle.pl_term.specs.Tree.{Chars, Tree, Trees, int, atom, comp, none, count}
use Rattle.pl_term.specs.Nodes.{nodes_all, forest}
use Rattle.pl_term.specs.Texts.{size}
use Rattle.pl_term.specs.declared.node.Node.{Node}
use Rattle.pl_term.specs.declared.node.Node.TheVariants.{Comp}
use Rattle.pl_model.specs.declared.syntax.SyntaxFault.{SyntaxFault}
use Rattle.pl_model.specs.declared.syntax.SyntaxKind.TheVariants.{AtomTooLong, IntegerTooLarge, PriorityClash, UnexpectedToken}
use Rattle.pl_model.specs.declared.lexical.Mark.{Mark}
use Rattle.pl_model.specs.declared.lexical.Mark.TheVariants.{Open, OpenCt, OpenList, OpenCurly, Close, CloseList, CloseCurly, Bar}
use Rattle.pl_model.specs.declared.lexical.Lexeme.{Lexeme}
use Rattle.pl_model.specs.declared.lexical.Lexeme.TheVariants.{Token, End}
use Rattle.pl_model.specs.declared.lexical.TokenKind.TheVariants.{Integer, Punctuation}
use Rattle.pl_model.specs.declared.operators.Place.TheVariants.{Prefix}
use Rattle.pl_model.specs.declared.grammar.Quotes.{Quotes}
use Rattle.pl_model.specs.declared.grammar.Quotes.TheVariants.{Atom as AtomText}
use Rattle.pl_model.specs.OperatorTable.{Entry}
use Rattle.pl_model.specs.LexicalTokens.{Lexed, token_at}
use Rattle.pl_model.specs.Grammar.{Reading, Part, Outcome, and_then, moved}
use Rattle.pl_model.specs.TermGrammar.{Items, Lookup, list_with, behind_mark, closed, right_argument, functional, named_term, atom_or_operator, prefix_term, stands_alone, list_term, with_tail, curly_term, complete, enclosed, negative, double_quoted, integer}
use Rattle.pl_model.proofs.TermDepth.{whole, rest, sequence, further_at, sequence-is}
use Rattle.prolog_reader.specs.declared.stack.Frame.TheVariants.{Behind, Closing, Arguments, Elements}
use Rattle.prolog_reader.specs.declared.stack.Mode.TheVariants.{Term as TermMode}
use Rattle.prolog_reader.specs.declared.stack.Reader.{Reader}
use Rattle.prolog_reader.specs.Ahead.{fault_of, integer_ahead}
use Rattle.prolog_reader.specs.Pieces.{spelled}
use Rattle.prolog_reader.specs.Stack.{completed, enclosed_by, applied, tailed, listed, in_parentheses, Holds, stack, reading, Begins, turns_left, TurnsBy, Pushes}
use Rattle.prolog_reader.proofs.Fronts.{behind-none, front-none, behind-prefix, front-prefix}
use Rattle.prolog_reader.proofs.Turns.{holds-same, plug-same, push-turns}

-- Outcomes one after the other.

pub then-pointwise : {A B : Type 0} (m : Outcome A) (k k' : A → Outcome B) → ((x : A) → k x ≡ k' x) → and_then m k ≡ and_then m k'
then-pointwise {A} {B} (Ok x) k k' h = h x
then-pointwise {A} {B} (Err f) k k' h = refl

pub then-made : {A B C : Type 0} (m : Outcome A) (make : A → B) (k : B → Outcome C) → and_then (and_then m (λ x. Ok (make x))) k ≡ and_then m (λ x. k (make x))
then-made {A} {B} {C} (Ok x) make k = refl
then-made {A} {B} {C} (Err f) make k = refl

-- Nothing is spelled after the last piece.
pub nothing-spelled : {Z : Type 0} (ps : List (Vec Node Z)) → spelled (drop (length ps) ps) ≡ []
nothing-spelled {Z} ps = ap spelled (drop_all (length ps) ps (omega arith))

pub all-pieces : {Z : Type 0} (ps : List (Vec Node Z)) → take (length ps) ps ≡ ps
all-pieces {Z} ps = take_all (length ps) ps (omega arith)

-- A node was put after the pieces.
pub record PutsOne (old : Reader) (pieces : Vec (Vec Node Global) Global) (node : Node) : Type 0 where
  pub front : take (length old.pieces.items) pieces.items ≡ old.pieces.items
  pub leaf : spelled (drop (length old.pieces.items) pieces.items) ≡ node ∷ []
  pub more : length pieces.items ≡ length old.pieces.items + 1

module _ (text : List ℕ) (ops : Lookup) (quotes : Quotes) where
  -- A compound term whose first arguments are these.
  with_arguments : ℕ → Reading → Chars → Trees → Outcome Part
  with_arguments max r name ts =
      and_then (and_then (and_then (whole text ops quotes 999 r) (further_at text ops quotes)) (applied text ops quotes name ts)) (rest text ops quotes max)

  -- The arguments of a compound term begin.
  pub functional-turns : (old new : Reader) (max : ℕ) (name : Chars) (end : ℕ) → Begins text old end
      → Pushes text old new (Arguments max name 0 (length old.pieces.items)) end
      → TurnsBy text ops quotes (functional text ops quotes (sequence text ops quotes) name (moved (reading old) end)) old max new (Ok (TermMode 999))
  unfolding with_arguments
  functional-turns old new max name end begins pushes =
      let ps = old.pieces.items in
      let n = length old.pieces.items in
      let r : Reading = moved (reading old) end in
      let spells : spelled (drop n ps) ≡ [] = nothing-spelled ps in
      let holds : Holds (Arguments max name 0 n ∷ stack old) ps = (
        omega arith,
        subst (λ ns. nodes_all (forest ns) ≡ ns) (sym spells) refl,
        subst (λ ns. 0 ≡ count (forest ns)) (sym spells) refl,
        holds-same (stack old) (stack old) (take n ps) ps refl (all-pieces ps) begins.holds,
      ) in
      push-turns text ops quotes old new (Arguments max name 0 n) 999 (turns_left text old (TermMode max)) end _ pushes
      begins.forward begins.within begins.numbered holds (omega arith)
      (plug-same text ops quotes (stack old) (stack old) (take n ps) ps (with_arguments max r name (forest (spelled (drop n ps))))
      (and_then (functional text ops quotes (sequence text ops quotes) name r) (rest text ops quotes max)) refl (all-pieces ps)
      (ap (λ (ts : Trees). with_arguments max r name ts) (ap forest spells)
      ∙ ap (λ (m : Outcome Items). and_then (and_then m (λ q. closed text Close (comp name q.first q.others) q.reading)) (rest text ops quotes max))
      (sym (sequence-is text ops quotes r))))

  -- A term in parentheses begins.
  pub parenthesis-turns : (old new : Reader) (max : ℕ) (end : ℕ) → Begins text old end
      → Pushes text old new (Closing max Close (length old.pieces.items)) end
      → TurnsBy text ops quotes (in_parentheses text ops quotes (moved (reading old) end)) old max new (Ok (TermMode 1200))
  parenthesis-turns old new max end begins pushes =
      let ps = old.pieces.items in
      let n = length old.pieces.items in
      let r : Reading = moved (reading old) end in
      let front = spelled (drop n ps) in
      let spells : front ≡ [] = nothing-spelled ps in
      let holds : Holds (Closing max Close n ∷ stack old) ps = (
        omega arith,
        front-none front spells,
        holds-same (stack old) (stack old) (take n ps) ps refl (all-pieces ps) begins.holds,
      ) in
      push-turns text ops quotes old new (Closing max Close n) 1200 (turns_left text old (TermMode max)) end _ pushes
      begins.forward begins.within begins.numbered holds (omega arith)
      (plug-same text ops quotes (stack old) (stack old) (take n ps) ps
      (and_then (and_then (whole text ops quotes 1200 r) (enclosed_by text ops quotes front Close)) (rest text ops quotes max))
      (and_then (in_parentheses text ops quotes r) (rest text ops quotes max)) refl (all-pieces ps)
      (ap (λ (m : Outcome Part). and_then m (rest text ops quotes max))
      (then-pointwise (whole text ops quotes 1200 r) (enclosed_by text ops quotes front Close) (λ p. closed text Close p.term p.reading)
      (λ p. ap (λ (t : Tree). closed text Close t p.reading) (behind-none front spells p.term)))))

  -- The elements of a list begin.

  tailed-none : (front : List Node) (q : Items) (o : Option ℕ) → front ≡ [] → tailed text ops quotes front q o ≡ with_tail text ops quotes (whole text ops quotes) q o
  tailed-none front q None e = ap (λ (t : Tree). closed text CloseList t q.reading) (behind-none front e (list_with q (atom (codes "[]"))))
  tailed-none front q (Some end) e =
      then-pointwise (whole text ops quotes 999 (moved q.reading end)) _ _
      (λ p. ap (λ (t : Tree). closed text CloseList t p.reading) (behind-none front e (list_with q p.term)))

  pub list-turns : (old new : Reader) (max : ℕ) (end : ℕ) → Begins text old end → None ≡ behind_mark CloseList (token_at text end)
      → Pushes text old new (Elements max (length old.pieces.items)) end
      → TurnsBy text ops quotes
      (list_term text ops quotes (whole text ops quotes) (sequence text ops quotes) (moved (reading old) end) (behind_mark CloseList (token_at text end)))
      old max new (Ok (TermMode 999))
  list-turns old new max end begins open_list pushes =
      let ps = old.pieces.items in
      let n = length old.pieces.items in
      let r : Reading = moved (reading old) end in
      let front = spelled (drop n ps) in
      let spells : front ≡ [] = nothing-spelled ps in
      let holds : Holds (Elements max n ∷ stack old) ps = (
        omega arith,
        front-none front spells,
        holds-same (stack old) (stack old) (take n ps) ps refl (all-pieces ps) begins.holds,
      ) in
      let terms : Outcome Items = and_then (whole text ops quotes 999 r) (further_at text ops quotes) in
      let tails : Items → Outcome Part = λ q. with_tail text ops quotes (whole text ops quotes) q (behind_mark Bar (token_at text q.reading.at)) in
      push-turns text ops quotes old new (Elements max n) 999 (turns_left text old (TermMode max)) end _ pushes
      begins.forward begins.within begins.numbered holds (omega arith)
      (plug-same text ops quotes (stack old) (stack old) (take n ps) ps
      (and_then (and_then terms (listed text ops quotes front)) (rest text ops quotes max))
      (and_then (list_term text ops quotes (whole text ops quotes) (sequence text ops quotes) r (behind_mark CloseList (token_at text end))) (rest text ops quotes max))
      refl (all-pieces ps)
      (ap (λ (m : Outcome Part). and_then m (rest text ops quotes max))
      (then-pointwise terms (listed text ops quotes front) tails (λ q. tailed-none front q (behind_mark Bar (token_at text q.reading.at)) spells)
      ∙ ap (λ (m : Outcome Items). and_then m tails) (sym (sequence-is text ops quotes r))
      ∙ ap (list_term text ops quotes (whole text ops quotes) (sequence text ops quotes) r) open_list)))

  -- A term in curly brackets begins.
  pub curly-turns : (old new : Reader) (pieces : Vec (Vec Node Global) Global) (max : ℕ) (end : ℕ) → Begins text old end
      → None ≡ behind_mark CloseCurly (token_at text end) → PutsOne old pieces (Comp (codes "{}") 1)
      → Pushes text (record old { pieces = pieces }) new (Closing max CloseCurly (length old.pieces.items)) end
      → TurnsBy text ops quotes (curly_term text ops quotes (whole text ops quotes) (moved (reading old) end) (behind_mark CloseCurly (token_at text end)))
      old max new (Ok (TermMode 1200))
  curly-turns old new pieces max end begins open_curly puts pushes =
      let ps = pieces.items in
      let n = length old.pieces.items in
      let r : Reading = moved (reading old) end in
      let front = spelled (drop n ps) in
      let holds : Holds (Closing max CloseCurly n ∷ stack old) ps = (
        omega (arith, puts.more),
        front-prefix front (codes "{}") puts.leaf,
        holds-same (stack old) (stack old) (take n ps) old.pieces.items refl puts.front begins.holds,
      ) in
      push-turns text ops quotes (record old { pieces = pieces }) new (Closing max CloseCurly n) 1200 (turns_left text old (TermMode max)) end _ pushes
      begins.forward begins.within begins.numbered holds (omega arith)
      (plug-same text ops quotes (stack old) (stack old) (take n ps) old.pieces.items
      (and_then (and_then (whole text ops quotes 1200 r) (enclosed_by text ops quotes front CloseCurly)) (rest text ops quotes max))
      (and_then (curly_term text ops quotes (whole text ops quotes) r (behind_mark CloseCurly (token_at text end))) (rest text ops quotes max)) refl puts.front
      (ap (λ (m : Outcome Part). and_then m (rest text ops quotes max))
      (then-pointwise (whole text ops quotes 1200 r) (enclosed_by text ops quotes front CloseCurly) (λ p. closed text CloseCurly (comp (codes "{}") p.term none) p.reading)
      (λ p. ap (λ (t : Tree). closed text CloseCurly t p.reading) (behind-prefix front (codes "{}") puts.leaf p.term))
      ∙ ap (curly_term text ops quotes (whole text ops quotes) r) open_curly)))

  -- Prefix operators.

  pub operator-fault : (old : Reader) (max : ℕ) (f : Chars) (s e : ℕ) (o : Entry) (l : Lexed) (wrong : SyntaxFault) → l ≡ Err wrong
      → atom_or_operator text ops quotes (whole text ops quotes) max (reading old) f s e (Some o) l ≡ Err wrong
  operator-fault old max f s e o l wrong is = ap (atom_or_operator text ops quotes (whole text ops quotes) max (reading old) f s e (Some o)) is

  operator-choice : (old : Reader) (max : ℕ) (f : Chars) (s e : ℕ) (o : Entry) (l : Lexed) (k : Lexeme) → l ≡ Ok k
      → atom_or_operator text ops quotes (whole text ops quotes) max (reading old) f s e (Some o) l
      ≡ cond (stands_alone text ops quotes (Ok k)) (complete (atom f) (reading old) e) (prefix_term text ops quotes (whole text ops quotes) max (reading old) f s e o)
  operator-choice old max f s e o l k is = ap (atom_or_operator text ops quotes (whole text ops quotes) max (reading old) f s e (Some o)) is

  pub operator-alone : (old : Reader) (max : ℕ) (f : Chars) (s e : ℕ) (o : Entry) (l : Lexed) (k : Lexeme) → l ≡ Ok k
      → stands_alone text ops quotes (Ok k) ≡ true
      → atom_or_operator text ops quotes (whole text ops quotes) max (reading old) f s e (Some o) l ≡ complete (atom f) (reading old) e
  operator-alone old max f s e o l k is alone = operator-choice old max f s e o l k is ∙ cond-true _ _ _ alone

  pub operator-clash : (old : Reader) (max : ℕ) (f : Chars) (s e : ℕ) (o : Entry) (l : Lexed) (k : Lexeme) → l ≡ Ok k
      → stands_alone text ops quotes (Ok k) ≡ false → max < o.0
      → atom_or_operator text ops quotes (whole text ops quotes) max (reading old) f s e (Some o) l ≡ Err (record { kind = PriorityClash; at = s })
  operator-clash old max f s e o l k is alone clash =
      let test : nat_lt max o.0 ≡ true = grind (arith, nat_tests) in
      operator-choice old max f s e o l k is ∙ cond-false _ _ _ alone ∙ cond-true _ _ _ test

  pub operator-operand : (old : Reader) (max : ℕ) (f : Chars) (s e : ℕ) (o : Entry) (l : Lexed) (k : Lexeme) → l ≡ Ok k
      → stands_alone text ops quotes (Ok k) ≡ false → o.0 ≤ max
      → atom_or_operator text ops quotes (whole text ops quotes) max (reading old) f s e (Some o) l
      ≡ and_then (whole text ops quotes (right_argument o) (moved (reading old) e)) (λ p. Ok (record { term = comp f p.term none; priority = o.0; reading = p.reading }))
  operator-operand old max f s e o l k is alone fit =
      let test : nat_lt max o.0 ≡ false = grind (arith, nat_tests) in
      operator-choice old max f s e o l k is ∙ cond-false _ _ _ alone ∙ cond-false _ _ _ test

  pub operand-turns : (old new : Reader) (pieces : Vec (Vec Node Global) Global) (max : ℕ) (f : Chars) (priority right end : ℕ) (m : Outcome Part)
      → Begins text old end → PutsOne old pieces (Comp f 1)
      → Pushes text (record old { pieces = pieces }) new (Behind max priority (length old.pieces.items)) end
      → m ≡ and_then (whole text ops quotes right (moved (reading old) end)) (λ p. Ok (record { term = comp f p.term none; priority = priority; reading = p.reading }))
      → TurnsBy text ops quotes m old max new (Ok (TermMode right))
  operand-turns old new pieces max f priority right end m begins puts pushes is =
      let ps = pieces.items in
      let n = length old.pieces.items in
      let r : Reading = moved (reading old) end in
      let front = spelled (drop n ps) in
      let make : Part → Part = λ p. record { term = comp f p.term none; priority = priority; reading = p.reading } in
      let holds : Holds (Behind max priority n ∷ stack old) ps = (
        omega (arith, puts.more),
        front-prefix front f puts.leaf,
        holds-same (stack old) (stack old) (take n ps) old.pieces.items refl puts.front begins.holds,
      ) in
      push-turns text ops quotes (record old { pieces = pieces }) new (Behind max priority n) right (turns_left text old (TermMode max)) end _ pushes
      begins.forward begins.within begins.numbered holds (omega arith)
      (plug-same text ops quotes (stack old) (stack old) (take n ps) old.pieces.items
      (and_then (whole text ops quotes right r) (λ q. rest text ops quotes max (completed front priority q)))
      (and_then m (rest text ops quotes max)) refl puts.front
      (then-pointwise (whole text ops quotes right r) (λ q. rest text ops quotes max (completed front priority q)) (λ q. rest text ops quotes max (make q))
      (λ q. ap (λ (t : Tree). rest text ops quotes max (record { term = t; priority = priority; reading = q.reading })) (behind-prefix front f puts.leaf q.term))
      ∙ sym (then-made (whole text ops quotes right r) make (rest text ops quotes max))
      ∙ ap (λ (x : Outcome Part). and_then x (rest text ops quotes max)) (sym is)))

  -- Names and numerals.

  pub name-long : (inner : ℕ → Reading → Outcome Part) (listed : Reading → Outcome Items) (max : ℕ) (r : Reading) (f : Chars) (s e : ℕ) → 248 < size f
      → named_term text ops quotes inner listed max r f s e ≡ Err (record { kind = AtomTooLong; at = s })
  name-long inner listed max r f s e long =
      let test : nat_lt 248 (size f) ≡ true = grind (arith, nat_tests) in cond-true _ _ _ test

  pub name-compound : (inner : ℕ → Reading → Outcome Part) (listed : Reading → Outcome Items) (max : ℕ) (r : Reading) (f : Chars) (s e : ℕ)
      → size f ≤ 248 → (slice_index text e == 40) ≡ true
      → functional text ops quotes listed f (moved r (e + 1)) ≡ named_term text ops quotes inner listed max r f s e
  name-compound inner listed max r f s e short opens =
      let test : nat_lt 248 (size f) ≡ false = grind (arith, nat_tests) in sym (cond-false _ _ _ test ∙ cond-true _ _ _ opens)

  pub name-operator : (inner : ℕ → Reading → Outcome Part) (listed : Reading → Outcome Items) (max : ℕ) (r : Reading) (f : Chars) (s e : ℕ) (o : Option Entry)
      → size f ≤ 248 → (slice_index text e == 40) ≡ false → o ≡ ops f Prefix
      → atom_or_operator text ops quotes inner max r f s e o (token_at text e) ≡ named_term text ops quotes inner listed max r f s e
  name-operator inner listed max r f s e o short opens is =
      let test : nat_lt 248 (size f) ≡ false = grind (arith, nat_tests) in
      ap (λ (x : Option Entry). atom_or_operator text ops quotes inner max r f s e x (token_at text e)) is
      ∙ sym (cond-false _ _ _ test ∙ cond-false _ _ _ opens)

  -- Punctuation that begins no term.
  pub enclosed-other : (inner : ℕ → Reading → Outcome Part) (listed : Reading → Outcome Items) (r : Reading) (mark : Mark) (s e : ℕ)
      → (mark ≡ Open → ⊥) → (mark ≡ OpenCt → ⊥) → (mark ≡ OpenList → ⊥) → (mark ≡ OpenCurly → ⊥)
      → enclosed text ops quotes inner listed r mark e (Ok (Token (Punctuation mark) s e)) ≡ Err (record { kind = UnexpectedToken; at = s })
  enclosed-other inner listed r Open s e a b c d = absurd (a refl)
  enclosed-other inner listed r OpenCt s e a b c d = absurd (b refl)
  enclosed-other inner listed r OpenList s e a b c d = absurd (c refl)
  enclosed-other inner listed r OpenCurly s e a b c d = absurd (d refl)
  enclosed-other inner listed r mark s e a b c d = refl

  pub integer-large : (r : Reading) (n s e : ℕ) → 2 ^ 63 ≤ n → integer text ops quotes r n s e ≡ Err (record { kind = IntegerTooLarge; at = s })
  integer-large r n s e large =
      let test : nat_lt n (2 ^ 63) ≡ false = grind (arith, nat_tests) in cond-false _ _ _ test

  pub integer-small : (r : Reading) (n s e : ℕ) → n < 2 ^ 63 → integer text ops quotes r n s e ≡ complete (int (pos n)) r e
  integer-small r n s e small =
      let test : nat_lt n (2 ^ 63) ≡ true = grind (arith, nat_tests) in cond-true _ _ _ test

  pub quoted-long : (r : Reading) (cs : Chars) (s e : ℕ) → 248 < size cs
      → double_quoted text ops quotes r cs s e AtomText ≡ Err (record { kind = AtomTooLong; at = s })
  quoted-long r cs s e long =
      let test : nat_lt 248 (size cs) ≡ true = grind (arith, nat_tests) in cond-true _ _ _ test

  pub quoted-atom : (r : Reading) (cs : Chars) (s e : ℕ) → size cs ≤ 248 → double_quoted text ops quotes r cs s e AtomText ≡ complete (atom cs) r e
  quoted-atom r cs s e short =
      let test : nat_lt 248 (size cs) ≡ false = grind (arith, nat_tests) in cond-false _ _ _ test

-- A negative numeral, by what stands after its minus.

same_pair : (x y : ℕ × ℕ) → Some x ≡ Some y → x ≡ y
same_pair x y e = cc

pub integer-token : (l : Lexed) (n e : ℕ) → Some (n, e) ≡ integer_ahead l → (s : ℕ) × (l ≡ Ok (Token (Integer n) s e))
integer-token (Ok (Token (Integer k) s e')) n e is =
    let pair = same_pair (n, e) (k, e') is in
    (s, ap (λ m. Ok (Token (Integer m) s e')) (sym (ap (λ (p : ℕ × ℕ). p.0) pair)) ∙ ap (λ m. Ok (Token (Integer n) s m)) (sym (ap (λ (p : ℕ × ℕ). p.1) pair)))
integer-token l n e is = cc

pub negative-none : (text : List ℕ) (ops : Lookup) (quotes : Quotes) (r : Reading) (l : Lexed) → None ≡ integer_ahead l
    → negative text ops quotes r l ≡ Err (fault_of text l)
negative-none text ops quotes r (Ok (Token (Integer k) s e)) is = cc
negative-none text ops quotes r (Ok (Token kind s e)) is = refl
negative-none text ops quotes r (Ok End) is = refl
negative-none text ops quotes r (Err f) is = refl
