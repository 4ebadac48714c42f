-- The bound on depth in the grammar of terms is no part of its meaning: one more than the bytes that are left is enough.
-- So the three functions of the grammar satisfy their equations without it.
use Rattle.std.proofs.Common.{◌≡◌, ℕ, ◌+◌, ◌-◌, ◌^◌, ◌<◌, ◌≤◌, zero, suc, Bool, true, false, cond, nat_lt, ◌==◌, List, [], length, Option, Some, None, Ok, Err, refl, sym, ap, ◌∙◌, arith, codes, bytes_eq, pos}
use Rattle.pl_term.specs.Tree.{Chars, Tree, int, atom, comp, none, more}
use Rattle.pl_model.specs.declared.syntax.SyntaxKind.TheVariants.{AtomTooLong, IntegerTooLarge, PriorityClash}
use Rattle.pl_model.specs.declared.lexical.Mark.{Mark}
use Rattle.pl_model.specs.declared.lexical.Mark.TheVariants.{Open, OpenCt, Close, OpenList, CloseList, OpenCurly, CloseCurly, Bar, Comma}
use Rattle.pl_model.specs.declared.lexical.TokenKind.{TokenKind}
use Rattle.pl_model.specs.declared.lexical.TokenKind.TheVariants.{Name, Quoted, Variable, Integer, DoubleQuoted, BackQuoted, Punctuation}
use Rattle.pl_model.specs.declared.lexical.Lexeme.TheVariants.{Token, End}
use Rattle.pl_model.specs.declared.operators.Place.TheVariants.{Prefix, Infix, Postfix}
use Rattle.pl_model.specs.declared.grammar.Quotes.{Quotes}
use Rattle.pl_model.specs.declared.grammar.Quotes.TheVariants.{Codes, Chars as Characters, Atom as AtomText}
use Rattle.pl_model.specs.OperatorTable.{Entry}
use Rattle.pl_model.specs.LexicalTokens.{Lexed, token_at}
use Rattle.pl_model.specs.Grammar.{Reading, Part, Outcome, and_then, moved, refused, variable_named, new_variable, number_of, named, Item, fault, end_of_text, item}
use Rattle.pl_model.specs.TermGrammar.{Items, Lookup, is_too_long, right_argument, fits, list_with, mark_number, behind_mark, complete, unexpected, closed_by, closed, is_minus, negative, double_quoted, is_functor, stands_alone, prefix_term, atom_or_operator, functional, named_term, with_tail, list_term, curly_term, enclosed, primary, name_ahead, infix_term, postfix_term, operation, operation_ahead, going_on, further, term_by, term, operations, items, ended, item_from, item_within, item_by}
use Rattle.pl_model.proofs.LexicalFollows.{token_at-follows}

-- An outcome is a fault, or has less than a number left.
abbrev Below : {A : Type 0} → (A → ℕ) → ℕ → Outcome A → Type 0
Below left n (Ok x) = left x < n
Below left n (Err f) = Unit {0}

then-below : {A B : Type 0} (left : A → ℕ) (left' : B → ℕ) (n n' : ℕ) (m : Outcome A) (k : A → Outcome B)
    → Below left n m → ((x : A) → left x < n → Below left' n' (k x)) → Below left' n' (and_then m k)
then-below {A} {B} left left' n n' (Ok x) k below h = h x below
then-below {A} {B} left left' n n' (Err f) k below h = tt

cond-below : {A : Type 0} (left : A → ℕ) (n : ℕ) (t : Bool) (x y : Outcome A) → Below left n x → Below left n y → Below left n (cond t x y)
cond-below {A} left n true x y a b = a
cond-below {A} left n false x y a b = b

below-more : {A : Type 0} (left : A → ℕ) (n n' : ℕ) (m : Outcome A) → n ≤ n' → Below left n m → Below left n' m
below-more {A} left n n' (Ok x) h below = omega arith
below-more {A} left n n' (Err f) h below = tt

then-same : {A B : Type 0} (left : A → ℕ) (n : ℕ) (m m' : Outcome A) (k k' : A → Outcome B)
    → Below left n m' → m ≡ m' → ((x : A) → left x < n → k x ≡ k' x) → and_then m k ≡ and_then m' k'
then-same {A} {B} left n m (Ok x) k k' below e h = ap (λ (o : Outcome A). and_then o k) e ∙ h x below
then-same {A} {B} left n m (Err f) k k' below e h = ap (λ (o : Outcome A). and_then o k) e

cond-same : {A : Type 0} (t : Bool) (x x' y y' : A) → x ≡ x' → y ≡ y' → cond t x y ≡ cond t x' y'
cond-same {A} true x x' y y' e d = e
cond-same {A} false x x' y y' e d = d

-- A punctuation token that stands ahead.
marked : (t : Bool) (e e' : ℕ) → cond t (Some e) None ≡ Some e' → e ≡ e'
marked true e e' is = cc
marked false e e' is = cc

pub mark-token : (mark : Mark) (l : Lexed) (e : ℕ) → behind_mark mark l ≡ Some e → (m : Mark) × (s : ℕ) × (l ≡ Ok (Token (Punctuation m) s e))
mark-token mark (Ok (Token (Punctuation m) s e')) e is =
    (m, s, ap (λ n. Ok (Token (Punctuation m) s n)) (marked (mark_number m == mark_number mark) e' e is))
mark-token mark l e is = cc

module _ (text : List ℕ) where
  -- The bytes that are left.
  abbrev pub left : Reading → ℕ
  left r = length text - r.at

  abbrev left_part : Part → ℕ
  left_part p = left p.reading

  abbrev left_items : Items → ℕ
  left_items q = left q.reading

  left-less : (r : Reading) (kind : TokenKind) (s e : ℕ) → token_at text r.at ≡ Ok (Token kind s e) → left (moved r e) < left r
  left-less r kind s e is =
      let found = token_at-follows text r.at kind s e is in
      omega (arith, found.begins, found.ends, found.within)

  mark-less : (mark : Mark) (r : Reading) (e : ℕ) → behind_mark mark (token_at text r.at) ≡ Some e → left (moved r e) < left r
  mark-less mark r e is =
      let token = mark-token mark (token_at text r.at) e is in
      left-less r (Punctuation token.0) token.1 e token.2

  unexpected-below : {A : Type 0} (f : A → ℕ) (n : ℕ) (l : Lexed) → Below f n (unexpected text {A = A} l)
  unexpected-below {A} f n (Err wrong) = tt
  unexpected-below {A} f n (Ok End) = tt
  unexpected-below {A} f n (Ok (Token kind s e)) = tt

  closed_by-below : (t : Tree) (r : Reading) (n : ℕ) (l : Lexed) (o : Option ℕ)
      → ((e : ℕ) → o ≡ Some e → left (moved r e) < n) → Below left_part n (closed_by text t r l o)
  closed_by-below t r n l None less = unexpected-below left_part n l
  closed_by-below t r n l (Some e) less = less e refl

  closed-below : (mark : Mark) (t : Tree) (r : Reading) (n : ℕ) → left r ≤ n → Below left_part n (closed text mark t r)
  closed-below mark t r n h =
      closed_by-below t r n (token_at text r.at) (behind_mark mark (token_at text r.at)) (λ e is. omega (arith, mark-less mark r e is))

-- The place after a variable.

named-at : (r : Reading) (name : Chars) (place : ℕ) (n : Option ℕ) → (named r name place n).reading.at ≡ place
named-at r name place (Some n) = refl
named-at r name place None = refl

variable-at : (t : Bool) (r : Reading) (name : Chars) (place : ℕ)
    → (cond t (new_variable r r.names place) (named r name place (number_of r.names name))).reading.at ≡ place
variable-at true r name place = refl
variable-at false r name place = named-at r name place (number_of r.names name)

variable_named-at : (r : Reading) (name : Chars) (place : ℕ) → (variable_named r name place).reading.at ≡ place
variable_named-at r name place = variable-at (bytes_eq name (codes "_")) r name place

module _ (text : List ℕ) (ops : Lookup) (quotes : Quotes) where
  -- A parser that gives a term takes at least one token.
  abbrev Takes : (ℕ → Reading → Outcome Part) → Type 0
  Takes inner = (max : ℕ) (r : Reading) → Below (left_part text) (left text r) (inner max r)

  abbrev TakesAll : (Reading → Outcome Items) → Type 0
  TakesAll listed = (r : Reading) → Below (left_items text) (left text r) (listed r)

  abbrev Keeps : (Part → Outcome Part) → Type 0
  Keeps next = (p : Part) → Below (left_part text) (suc (left_part text p)) (next p)

  negative-below : (r : Reading) (e n : ℕ) (l : Lexed) → token_at text e ≡ l → left text (moved r e) < n
      → Below (left_part text) n (negative text ops quotes r l)
  negative-below r e n (Ok (Token (Integer k) s e')) at less = omega (arith, left-less text (moved r e) (Integer k) s e' at)
  negative-below r e n l at less = unexpected-below text (left_part text) n l

  double_quoted-below : (r : Reading) (cs : Chars) (s e n : ℕ) (q : Quotes) → left text (moved r e) < n
      → Below (left_part text) n (double_quoted text ops quotes r cs s e q)
  double_quoted-below r cs s e n Codes less = less
  double_quoted-below r cs s e n Characters less = less
  double_quoted-below r cs s e n AtomText less =
      cond-below (left_part text) n (is_too_long cs) (refused AtomTooLong s) (complete (atom cs) r e) tt less

  module _ (inner : ℕ → Reading → Outcome Part) (listed : Reading → Outcome Items) (takes : Takes inner) (takes_all : TakesAll listed) where
    prefix_term-below : (max : ℕ) (r : Reading) (f : Chars) (s e n : ℕ) (o : Entry) → left text (moved r e) < n
        → Below (left_part text) n (prefix_term text ops quotes inner max r f s e o)
    prefix_term-below max r f s e n o less =
        cond-below (left_part text) n (nat_lt max o.0) (refused PriorityClash s) _ tt
        (then-below (left_part text) (left_part text) n n (inner (right_argument o) (moved r e)) _
        (below-more (left_part text) (left text (moved r e)) n (inner (right_argument o) (moved r e)) (omega arith) (takes (right_argument o) (moved r e)))
        (λ p h. h))

    atom_or_operator-below : (max : ℕ) (r : Reading) (f : Chars) (s e n : ℕ) (o : Option Entry) (l : Lexed) → left text (moved r e) < n
        → Below (left_part text) n (atom_or_operator text ops quotes inner max r f s e o l)
    atom_or_operator-below max r f s e n None l less = less
    atom_or_operator-below max r f s e n (Some o) (Err wrong) less = tt
    atom_or_operator-below max r f s e n (Some o) (Ok k) less =
        cond-below (left_part text) n (stands_alone text ops quotes (Ok k)) (complete (atom f) r e) (prefix_term text ops quotes inner max r f s e o) less
        (prefix_term-below max r f s e n o less)

    functional-below : (f : Chars) (r : Reading) (n : ℕ) → left text r ≤ n → Below (left_part text) n (functional text ops quotes listed f r)
    functional-below f r n h =
        then-below (left_items text) (left_part text) (left text r) n (listed r) _ (takes_all r)
        (λ q less. closed-below text Close (comp f q.first q.others) q.reading n (omega arith))

    named_term-below : (max : ℕ) (r : Reading) (f : Chars) (s e n : ℕ) → left text (moved r e) < n
        → Below (left_part text) n (named_term text ops quotes inner listed max r f s e)
    named_term-below max r f s e n less =
        cond-below (left_part text) n (is_too_long f) (refused AtomTooLong s) _ tt
        (cond-below (left_part text) n (is_functor text ops quotes e) (functional text ops quotes listed f (moved r (e + 1))) _
        (functional-below f (moved r (e + 1)) n (omega arith))
        (atom_or_operator-below max r f s e n (ops f Prefix) (token_at text e) less))

    with_tail-below : (q : Items) (n : ℕ) (o : Option ℕ) → left_items text q < n → ((e : ℕ) → o ≡ Some e → left text (moved q.reading e) < n)
        → Below (left_part text) n (with_tail text ops quotes inner q o)
    with_tail-below q n None less behind = closed-below text CloseList (list_with q (atom (codes "[]"))) q.reading n (omega arith)
    with_tail-below q n (Some e) less behind =
        then-below (left_part text) (left_part text) (left text (moved q.reading e)) n (inner 999 (moved q.reading e)) _ (takes 999 (moved q.reading e))
        (λ p h. closed-below text CloseList (list_with q p.term) p.reading n (omega (arith, behind e refl)))

    list_term-below : (r : Reading) (n : ℕ) (o : Option ℕ) → left text r ≤ n → ((e : ℕ) → o ≡ Some e → left text (moved r e) < n)
        → Below (left_part text) n (list_term text ops quotes inner listed r o)
    list_term-below r n (Some e) h behind = behind e refl
    list_term-below r n None h behind =
        then-below (left_items text) (left_part text) (left text r) n (listed r) _ (takes_all r)
        (λ q less. with_tail-below q n (behind_mark Bar (token_at text q.reading.at)) (omega arith)
        (λ e is. omega (arith, mark-less text Bar q.reading e is)))

    curly_term-below : (r : Reading) (n : ℕ) (o : Option ℕ) → left text r ≤ n → ((e : ℕ) → o ≡ Some e → left text (moved r e) < n)
        → Below (left_part text) n (curly_term text ops quotes inner r o)
    curly_term-below r n (Some e) h behind = behind e refl
    curly_term-below r n None h behind =
        then-below (left_part text) (left_part text) (left text r) n (inner 1200 r) _ (takes 1200 r)
        (λ p less. closed-below text CloseCurly (comp (codes "{}") p.term none) p.reading n (omega arith))

    paren-below : (r : Reading) (e n : ℕ) → left text (moved r e) < n
        → Below (left_part text) n (and_then (inner 1200 (moved r e)) (λ p. closed text Close p.term p.reading))
    paren-below r e n less =
        then-below (left_part text) (left_part text) (left text (moved r e)) n (inner 1200 (moved r e)) _ (takes 1200 (moved r e))
        (λ p h. closed-below text Close p.term p.reading n (omega arith))

    enclosed-below : (r : Reading) (mark : Mark) (e n : ℕ) (l : Lexed) → left text (moved r e) < n
        → Below (left_part text) n (enclosed text ops quotes inner listed r mark e l)
    enclosed-below r Open e n l less = paren-below r e n less
    enclosed-below r OpenCt e n l less = paren-below r e n less
    enclosed-below r OpenList e n l less =
        list_term-below (moved r e) n (behind_mark CloseList (token_at text e)) (omega arith)
        (λ e' is. omega (arith, mark-less text CloseList (moved r e) e' is))
    enclosed-below r OpenCurly e n l less =
        curly_term-below (moved r e) n (behind_mark CloseCurly (token_at text e)) (omega arith)
        (λ e' is. omega (arith, mark-less text CloseCurly (moved r e) e' is))
    enclosed-below r mark e n l less = unexpected-below text (left_part text) n l

    primary-below : (max : ℕ) (r : Reading) (l : Lexed) → token_at text r.at ≡ l
        → Below (left_part text) (left text r) (primary text ops quotes inner listed max r l)
    primary-below max r (Ok (Token (Name f) s e)) at =
        let less = left-less text r (Name f) s e at in
        cond-below (left_part text) (left text r) (is_minus text ops quotes f e) (negative text ops quotes r (token_at text e)) _
        (negative-below r e (left text r) (token_at text e) refl less) (named_term-below max r f s e (left text r) less)
    primary-below max r (Ok (Token (Quoted f) s e)) at = named_term-below max r f s e (left text r) (left-less text r (Quoted f) s e at)
    primary-below max r (Ok (Token (Variable name) s e)) at =
        let less = left-less text r (Variable name) s e at in
        omega (arith, ap (λ n. length text - n) (variable_named-at r name e))
    primary-below max r (Ok (Token (Integer k) s e)) at =
        cond-below (left_part text) (left text r) (nat_lt k (2 ^ 63)) (complete (int (pos k)) r e) (refused IntegerTooLarge s)
        (left-less text r (Integer k) s e at) tt
    primary-below max r (Ok (Token (DoubleQuoted cs) s e)) at =
        double_quoted-below r cs s e (left text r) quotes (left-less text r (DoubleQuoted cs) s e at)
    primary-below max r (Ok (Token (BackQuoted cs) s e)) at = left-less text r (BackQuoted cs) s e at
    primary-below max r (Ok (Token (Punctuation mark) s e)) at =
        enclosed-below r mark e (left text r) (Ok (Token (Punctuation mark) s e)) (left-less text r (Punctuation mark) s e at)
    primary-below max r l at = unexpected-below text (left_part text) (left text r) l

    further-below : (p : Part) (n : ℕ) (o : Option ℕ) → left_part text p < n → ((e : ℕ) → o ≡ Some e → left text (moved p.reading e) < n)
        → Below (left_items text) n (further text ops quotes listed p o)
    further-below p n None less behind = less
    further-below p n (Some e) less behind =
        then-below (left_items text) (left_items text) n n (listed (moved p.reading e)) _
        (below-more (left_items text) (left text (moved p.reading e)) n (listed (moved p.reading e)) (omega (arith, behind e refl)) (takes_all (moved p.reading e)))
        (λ q h. h)

  -- The token ahead of a name that stands there as an operator would.
  pub name-token : (l : Lexed) (n : Chars × ℕ) → name_ahead text ops quotes l ≡ Some n → (kind : TokenKind) × (s : ℕ) × (l ≡ Ok (Token kind s n.1))
  name-token (Ok (Token (Name f) s e)) n is = let same : e ≡ n.1 = cc in (Name f, s, ap (λ k. Ok (Token (Name f) s k)) same)
  name-token (Ok (Token (Quoted f) s e)) n is = let same : e ≡ n.1 = cc in (Quoted f, s, ap (λ k. Ok (Token (Quoted f) s k)) same)
  name-token (Ok (Token (Punctuation Comma) s e)) n is =
      let same : e ≡ n.1 = cc in (Punctuation Comma, s, ap (λ k. Ok (Token (Punctuation Comma) s k)) same)
  name-token l n is = cc

  name-less : (r : Reading) (n : Chars × ℕ) → name_ahead text ops quotes (token_at text r.at) ≡ Some n → left text (moved r n.1) < left text r
  name-less r n is =
      let token = name-token (token_at text r.at) n is in
      left-less text r token.0 token.1 n.1 token.2

  module _ (inner : ℕ → Reading → Outcome Part) (next : Part → Outcome Part) (takes : Takes inner) (keeps : Keeps next) where
    infix_term-below : (p : Part) (f : Chars) (e n : ℕ) (o : Entry) → left text (moved p.reading e) < n
        → Below (left_part text) n (infix_term text ops quotes inner next p f e o)
    infix_term-below p f e n o less =
        then-below (left_part text) (left_part text) (left text (moved p.reading e)) n (inner (right_argument o) (moved p.reading e)) _
        (takes (right_argument o) (moved p.reading e))
        (λ q h.
        let joined : Part = record { term = comp f p.term (more q.term none); priority = o.0; reading = q.reading } in
        below-more (left_part text) (suc (left_part text joined)) n (next joined) (omega arith) (keeps joined))

    postfix_term-below : (p : Part) (f : Chars) (e n : ℕ) (o : Entry) → left text (moved p.reading e) < n
        → Below (left_part text) n (postfix_term text ops quotes next p f e o)
    postfix_term-below p f e n o less =
        let joined : Part = record { term = comp f p.term none; priority = o.0; reading = moved p.reading e } in
        below-more (left_part text) (suc (left_part text joined)) n (next joined) (omega arith) (keeps joined)

    operation-below : (max : ℕ) (p : Part) (f : Chars) (e n : ℕ) (o o' : Option Entry) → left text (moved p.reading e) < n → left_part text p < n
        → Below (left_part text) n (operation text ops quotes inner next max p f e o o')
    operation-below max p f e n (Some o) o' less here =
        cond-below (left_part text) n (fits max p o) (infix_term text ops quotes inner next p f e o) (Ok p) (infix_term-below p f e n o less) here
    operation-below max p f e n None (Some o) less here =
        cond-below (left_part text) n (fits max p o) (postfix_term text ops quotes next p f e o) (Ok p) (postfix_term-below p f e n o less) here
    operation-below max p f e n None None less here = here

    operation_ahead-below : (max : ℕ) (p : Part) (n : ℕ) (o : Option (Chars × ℕ)) → left_part text p < n
        → ((m : Chars × ℕ) → o ≡ Some m → left text (moved p.reading m.1) < n)
        → Below (left_part text) n (operation_ahead text ops quotes inner next max p o)
    operation_ahead-below max p n None here behind = here
    operation_ahead-below max p n (Some m) here behind =
        operation-below max p m.0 m.1 n (ops m.0 Infix) (ops m.0 Postfix) (behind m refl) here

    going_on-below : (max : ℕ) (p : Part) (l : Lexed) → token_at text p.reading.at ≡ l
        → Below (left_part text) (suc (left_part text p)) (going_on text ops quotes inner next max p l)
    going_on-below max p (Err f) at = tt
    going_on-below max p (Ok k) at =
        operation_ahead-below max p (suc (left_part text p)) (name_ahead text ops quotes (Ok k)) (omega arith)
        (λ m is. omega (arith, name-less p.reading m (ap (name_ahead text ops quotes) at ∙ is)))

  term_by-below : (inner : ℕ → Reading → Outcome Part) (listed : Reading → Outcome Items) (next : ℕ → Part → Outcome Part) (max : ℕ) (r : Reading)
      → Takes inner → TakesAll listed → ((m : ℕ) → Keeps (next m)) → Below (left_part text) (left text r) (term_by text ops quotes inner listed next max r)
  term_by-below inner listed next max r takes takes_all keeps =
      then-below (left_part text) (left_part text) (left text r) (left text r) (primary text ops quotes inner listed max r (token_at text r.at)) (next max)
      (primary-below inner listed takes takes_all max r (token_at text r.at) refl)
      (λ p h. below-more (left_part text) (suc (left_part text p)) (left text r) (next max p) (omega arith) (keeps max p))

  mutual
    unfolding term operations items

    term-takes : (n : ℕ) → Takes (term text ops quotes n)
    term-takes zero max r = tt
    term-takes (suc n) max r =
        term_by-below (term text ops quotes n) (items text ops quotes n) (operations text ops quotes n) max r (term-takes n) (items-takes n) (operations-keeps n)

    operations-keeps : (n max : ℕ) → Keeps (operations text ops quotes n max)
    operations-keeps zero max p = tt
    operations-keeps (suc n) max p =
        going_on-below (term text ops quotes n) (operations text ops quotes n max) (term-takes n) (operations-keeps n max) max p (token_at text p.reading.at) refl

    items-takes : (n : ℕ) → TakesAll (items text ops quotes n)
    items-takes zero r = tt
    items-takes (suc n) r =
        then-below (left_part text) (left_items text) (left text r) (left text r)
        (term_by text ops quotes (term text ops quotes n) (items text ops quotes n) (operations text ops quotes n) 999 r) _
        (term_by-below (term text ops quotes n) (items text ops quotes n) (operations text ops quotes n) 999 r (term-takes n) (items-takes n) (operations-keeps n))
        (λ p h. further-below (term text ops quotes n) (items text ops quotes n) (term-takes n) (items-takes n) p (left text r)
        (behind_mark Comma (token_at text p.reading.at)) h (λ e is. omega (arith, mark-less text Comma p.reading e is)))

  -- Two parsers that agree wherever fewer bytes are left than a number.
  abbrev Agree : ℕ → (ℕ → Reading → Outcome Part) → (ℕ → Reading → Outcome Part) → Type 0
  Agree n inner inner' = (max : ℕ) (r : Reading) → left text r < n → inner max r ≡ inner' max r

  abbrev AgreeAll : ℕ → (Reading → Outcome Items) → (Reading → Outcome Items) → Type 0
  AgreeAll n listed listed' = (r : Reading) → left text r < n → listed r ≡ listed' r

  abbrev AgreeNext : ℕ → (Part → Outcome Part) → (Part → Outcome Part) → Type 0
  AgreeNext n next next' = (p : Part) → left_part text p < n → next p ≡ next' p

  module _ (inner inner' : ℕ → Reading → Outcome Part) (listed listed' : Reading → Outcome Items) (n : ℕ) (takes : Takes inner') (takes_all : TakesAll listed')
      (agree : Agree n inner inner') (agree_all : AgreeAll n listed listed') where
    prefix_term-same : (max : ℕ) (r : Reading) (f : Chars) (s e : ℕ) (o : Entry) → left text (moved r e) < n
        → prefix_term text ops quotes inner max r f s e o ≡ prefix_term text ops quotes inner' max r f s e o
    prefix_term-same max r f s e o less =
        cond-same (nat_lt max o.0) (refused PriorityClash s) (refused PriorityClash s) _ _ refl
        (then-same (left_part text) (left text (moved r e)) (inner (right_argument o) (moved r e)) (inner' (right_argument o) (moved r e)) _ _
        (takes (right_argument o) (moved r e)) (agree (right_argument o) (moved r e) less) (λ p h. refl))

    atom_or_operator-same : (max : ℕ) (r : Reading) (f : Chars) (s e : ℕ) (o : Option Entry) (l : Lexed) → left text (moved r e) < n
        → atom_or_operator text ops quotes inner max r f s e o l ≡ atom_or_operator text ops quotes inner' max r f s e o l
    atom_or_operator-same max r f s e None l less = refl
    atom_or_operator-same max r f s e (Some o) (Err wrong) less = refl
    atom_or_operator-same max r f s e (Some o) (Ok k) less =
        cond-same (stands_alone text ops quotes (Ok k)) (complete (atom f) r e) (complete (atom f) r e) _ _ refl (prefix_term-same max r f s e o less)

    functional-same : (f : Chars) (r : Reading) → left text r < n → functional text ops quotes listed f r ≡ functional text ops quotes listed' f r
    functional-same f r less =
        then-same (left_items text) (left text r) (listed r) (listed' r) _ _ (takes_all r) (agree_all r less) (λ q h. refl)

    named_term-same : (max : ℕ) (r : Reading) (f : Chars) (s e : ℕ) → left text (moved r e) < n
        → named_term text ops quotes inner listed max r f s e ≡ named_term text ops quotes inner' listed' max r f s e
    named_term-same max r f s e less =
        cond-same (is_too_long f) (refused AtomTooLong s) (refused AtomTooLong s) _ _ refl
        (cond-same (is_functor text ops quotes e) (functional text ops quotes listed f (moved r (e + 1))) (functional text ops quotes listed' f (moved r (e + 1))) _ _
        (functional-same f (moved r (e + 1)) (omega arith))
        (atom_or_operator-same max r f s e (ops f Prefix) (token_at text e) less))

    with_tail-same : (q : Items) (o : Option ℕ) → ((e : ℕ) → o ≡ Some e → left text (moved q.reading e) < n)
        → with_tail text ops quotes inner q o ≡ with_tail text ops quotes inner' q o
    with_tail-same q None behind = refl
    with_tail-same q (Some e) behind =
        then-same (left_part text) (left text (moved q.reading e)) (inner 999 (moved q.reading e)) (inner' 999 (moved q.reading e)) _ _
        (takes 999 (moved q.reading e)) (agree 999 (moved q.reading e) (behind e refl)) (λ p h. refl)

    list_term-same : (r : Reading) (o : Option ℕ) → left text r < n
        → list_term text ops quotes inner listed r o ≡ list_term text ops quotes inner' listed' r o
    list_term-same r (Some e) less = refl
    list_term-same r None less =
        then-same (left_items text) (left text r) (listed r) (listed' r) _ _ (takes_all r) (agree_all r less)
        (λ q h. with_tail-same q (behind_mark Bar (token_at text q.reading.at)) (λ e is. omega (arith, mark-less text Bar q.reading e is)))

    curly_term-same : (r : Reading) (o : Option ℕ) → left text r < n → curly_term text ops quotes inner r o ≡ curly_term text ops quotes inner' r o
    curly_term-same r (Some e) less = refl
    curly_term-same r None less =
        then-same (left_part text) (left text r) (inner 1200 r) (inner' 1200 r) _ _ (takes 1200 r) (agree 1200 r less) (λ p h. refl)

    paren-same : (r : Reading) (e : ℕ) → left text (moved r e) < n
        → and_then (inner 1200 (moved r e)) (λ p. closed text Close p.term p.reading) ≡ and_then (inner' 1200 (moved r e)) (λ p. closed text Close p.term p.reading)
    paren-same r e less =
        then-same (left_part text) (left text (moved r e)) (inner 1200 (moved r e)) (inner' 1200 (moved r e)) _ _ (takes 1200 (moved r e))
        (agree 1200 (moved r e) less) (λ p h. refl)

    enclosed-same : (r : Reading) (mark : Mark) (e : ℕ) (l : Lexed) → left text (moved r e) < n
        → enclosed text ops quotes inner listed r mark e l ≡ enclosed text ops quotes inner' listed' r mark e l
    enclosed-same r Open e l less = paren-same r e less
    enclosed-same r OpenCt e l less = paren-same r e less
    enclosed-same r OpenList e l less = list_term-same (moved r e) (behind_mark CloseList (token_at text e)) less
    enclosed-same r OpenCurly e l less = curly_term-same (moved r e) (behind_mark CloseCurly (token_at text e)) less
    enclosed-same r mark e l less = refl

    primary-same : (max : ℕ) (r : Reading) (l : Lexed) → left text r ≤ n → token_at text r.at ≡ l
        → primary text ops quotes inner listed max r l ≡ primary text ops quotes inner' listed' max r l
    primary-same max r (Ok (Token (Name f) s e)) below at =
        let less = left-less text r (Name f) s e at in
        cond-same (is_minus text ops quotes f e) (negative text ops quotes r (token_at text e)) (negative text ops quotes r (token_at text e)) _ _ refl
        (named_term-same max r f s e (omega arith))
    primary-same max r (Ok (Token (Quoted f) s e)) below at =
        let less = left-less text r (Quoted f) s e at in named_term-same max r f s e (omega arith)
    primary-same max r (Ok (Token (Punctuation mark) s e)) below at =
        let less = left-less text r (Punctuation mark) s e at in
        enclosed-same r mark e (Ok (Token (Punctuation mark) s e)) (omega arith)
    primary-same max r l below at = refl

    further-same : (p : Part) (o : Option ℕ) → ((e : ℕ) → o ≡ Some e → left text (moved p.reading e) < n)
        → further text ops quotes listed p o ≡ further text ops quotes listed' p o
    further-same p None behind = refl
    further-same p (Some e) behind =
        then-same (left_items text) (left text (moved p.reading e)) (listed (moved p.reading e)) (listed' (moved p.reading e)) _ _
        (takes_all (moved p.reading e)) (agree_all (moved p.reading e) (behind e refl)) (λ q h. refl)

  module _ (inner inner' : ℕ → Reading → Outcome Part) (next next' : Part → Outcome Part) (n : ℕ) (takes : Takes inner')
      (agree : Agree n inner inner') (agree_next : AgreeNext n next next') where
    infix_term-same : (p : Part) (f : Chars) (e : ℕ) (o : Entry) → left text (moved p.reading e) < n
        → infix_term text ops quotes inner next p f e o ≡ infix_term text ops quotes inner' next' p f e o
    infix_term-same p f e o less =
        then-same (left_part text) (left text (moved p.reading e)) (inner (right_argument o) (moved p.reading e)) (inner' (right_argument o) (moved p.reading e)) _ _
        (takes (right_argument o) (moved p.reading e)) (agree (right_argument o) (moved p.reading e) less)
        (λ q h. agree_next (record { term = comp f p.term (more q.term none); priority = o.0; reading = q.reading }) (omega arith))

    operation-same : (max : ℕ) (p : Part) (f : Chars) (e : ℕ) (o o' : Option Entry) → left text (moved p.reading e) < n
        → operation text ops quotes inner next max p f e o o' ≡ operation text ops quotes inner' next' max p f e o o'
    operation-same max p f e (Some o) o' less = cond-same (fits max p o) _ _ (Ok p) (Ok p) (infix_term-same p f e o less) refl
    operation-same max p f e None (Some o) less =
        cond-same (fits max p o) _ _ (Ok p) (Ok p)
        (agree_next (record { term = comp f p.term none; priority = o.0; reading = moved p.reading e }) less) refl
    operation-same max p f e None None less = refl

    operation_ahead-same : (max : ℕ) (p : Part) (o : Option (Chars × ℕ)) → ((m : Chars × ℕ) → o ≡ Some m → left text (moved p.reading m.1) < n)
        → operation_ahead text ops quotes inner next max p o ≡ operation_ahead text ops quotes inner' next' max p o
    operation_ahead-same max p None behind = refl
    operation_ahead-same max p (Some m) behind = operation-same max p m.0 m.1 (ops m.0 Infix) (ops m.0 Postfix) (behind m refl)

    going_on-same : (max : ℕ) (p : Part) (l : Lexed) → left_part text p ≤ n → token_at text p.reading.at ≡ l
        → going_on text ops quotes inner next max p l ≡ going_on text ops quotes inner' next' max p l
    going_on-same max p (Err f) below at = refl
    going_on-same max p (Ok k) below at =
        operation_ahead-same max p (name_ahead text ops quotes (Ok k))
        (λ m is. omega (arith, name-less p.reading m (ap (name_ahead text ops quotes) at ∙ is)))

  -- The three functions without a bound: each is given one more than the bytes that are left.
  pub whole : ℕ → Reading → Outcome Part
  whole max r = term text ops quotes (suc (left text r)) max r

  pub rest : ℕ → Part → Outcome Part
  rest max p = operations text ops quotes (suc (left_part text p)) max p

  pub sequence : Reading → Outcome Items
  sequence r = items text ops quotes (suc (left text r)) r

  whole-takes : Takes whole
  unfolding whole
  whole-takes max r = term-takes (suc (left text r)) max r

  sequence-takes : TakesAll sequence
  unfolding sequence
  sequence-takes r = items-takes (suc (left text r)) r

  record Enough (n : ℕ) : Type 0 where
    term_same : Agree n (term text ops quotes n) whole
    rest_same : (max : ℕ) → AgreeNext n (operations text ops quotes n max) (rest max)
    sequence_same : AgreeAll n (items text ops quotes n) sequence

  -- One step of a term, in which what is inside has no bound any more.
  step-same : (n max : ℕ) (r : Reading) → Enough n → left text r ≤ n
      → term_by text ops quotes (term text ops quotes n) (items text ops quotes n) (operations text ops quotes n) max r
      ≡ term_by text ops quotes whole sequence rest max r
  step-same n max r enough below =
      then-same (left_part text) (left text r)
      (primary text ops quotes (term text ops quotes n) (items text ops quotes n) max r (token_at text r.at))
      (primary text ops quotes whole sequence max r (token_at text r.at)) (operations text ops quotes n max) (rest max)
      (primary-below whole sequence whole-takes sequence-takes max r (token_at text r.at) refl)
      (primary-same (term text ops quotes n) whole (items text ops quotes n) sequence n whole-takes sequence-takes enough.term_same enough.sequence_same
      max r (token_at text r.at) below refl)
      (λ p h. enough.rest_same max p (omega arith))

  term-step : (n max : ℕ) (r : Reading) → Enough n → left text r ≤ n
      → term text ops quotes (suc n) max r ≡ term_by text ops quotes whole sequence rest max r
  unfolding term
  term-step n max r enough below = step-same n max r enough below

  rest-step : (n max : ℕ) (p : Part) → Enough n → left_part text p ≤ n
      → operations text ops quotes (suc n) max p ≡ going_on text ops quotes whole (rest max) max p (token_at text p.reading.at)
  unfolding operations
  rest-step n max p enough below =
      going_on-same (term text ops quotes n) whole (operations text ops quotes n max) (rest max) n whole-takes enough.term_same (enough.rest_same max)
      max p (token_at text p.reading.at) below refl

  -- After a term among others.
  abbrev pub further_at : Part → Outcome Items
  further_at p = further text ops quotes sequence p (behind_mark Comma (token_at text p.reading.at))

  rest-keeps : (max : ℕ) → Keeps (rest max)
  unfolding rest
  rest-keeps max p = operations-keeps (suc (left_part text p)) max p

  sequence-step : (n : ℕ) (r : Reading) → Enough n → left text r ≤ n
      → items text ops quotes (suc n) r ≡ and_then (term_by text ops quotes whole sequence rest 999 r) further_at
  unfolding items
  sequence-step n r enough below =
      then-same (left_part text) (left text r)
      (term_by text ops quotes (term text ops quotes n) (items text ops quotes n) (operations text ops quotes n) 999 r)
      (term_by text ops quotes whole sequence rest 999 r) _ further_at
      (term_by-below whole sequence rest 999 r whole-takes sequence-takes rest-keeps)
      (step-same n 999 r enough below)
      (λ p h. further-same (term text ops quotes n) whole (items text ops quotes n) sequence n whole-takes sequence-takes enough.term_same enough.sequence_same
      p (behind_mark Comma (token_at text p.reading.at)) (λ e is. omega (arith, mark-less text Comma p.reading e is)))

  enough-zero : Enough 0
  enough-zero = record { term_same = λ max r h. absurd (omega arith); rest_same = λ max p h. absurd (omega arith); sequence_same = λ r h. absurd (omega arith) }

  enough-suc : (n : ℕ) → ((m : ℕ) → m ≤ n → Enough m) → Enough (suc n)
  unfolding whole rest sequence
  enough-suc n all = record {
    term_same = λ max r h.
        term-step n max r (all n (omega arith)) (omega arith) ∙ sym (term-step (left text r) max r (all (left text r) (omega arith)) (omega arith));
    rest_same = λ max p h.
        rest-step n max p (all n (omega arith)) (omega arith)
        ∙ sym (rest-step (left_part text p) max p (all (left_part text p) (omega arith)) (omega arith));
    sequence_same = λ r h.
        sequence-step n r (all n (omega arith)) (omega arith) ∙ sym (sequence-step (left text r) r (all (left text r) (omega arith)) (omega arith));
  }

  enough_below : (n m : ℕ) → m ≤ n → Enough m
  enough_below n zero h = enough-zero
  enough_below zero (suc m) h = absurd (omega arith)
  enough_below (suc n) (suc m) h = enough-suc m (λ k below. enough_below n k (omega arith))

  enough : (n : ℕ) → Enough n
  enough n = enough_below n n (omega arith)

  -- The equations of the three functions.
  pub whole-is : (max : ℕ) (r : Reading) → whole max r ≡ term_by text ops quotes whole sequence rest max r
  unfolding whole
  whole-is max r = term-step (left text r) max r (enough (left text r)) (omega arith)

  pub rest-is : (max : ℕ) (p : Part) → rest max p ≡ going_on text ops quotes whole (rest max) max p (token_at text p.reading.at)
  unfolding rest
  rest-is max p = rest-step (left_part text p) max p (enough (left_part text p)) (omega arith)

  pub sequence-is : (r : Reading) → sequence r ≡ and_then (whole 999 r) further_at
  unfolding sequence
  sequence-is r =
      sequence-step (left text r) r (enough (left text r)) (omega arith)
      ∙ ap (λ (m : Outcome Part). and_then m further_at) (sym (whole-is 999 r))

  -- Any bound above the bytes that are left gives the same.
  pub term-whole : (n max : ℕ) (r : Reading) → left text r < n → term text ops quotes n max r ≡ whole max r
  term-whole n max r h = (enough n).term_same max r h

  -- The item at a place, without a bound.
  abbrev pub clause_whole : ℕ → ℕ → Outcome Item
  clause_whole at start =
      and_then (whole 1200 (record { at = at; names = []; next = 0 })) (λ p. ended text start p (token_at text p.reading.at))

  abbrev pub item_whole : ℕ → Lexed → Item
  item_whole at (Err f) = fault f.kind f.at
  item_whole at (Ok End) = end_of_text
  item_whole at (Ok (Token kind start end)) = item (clause_whole at start)

  item_from-whole : (depth at : ℕ) (l : Lexed) → length text < depth → item_from depth text at ops quotes l ≡ item_whole at l
  item_from-whole depth at (Err f) h = refl
  item_from-whole depth at (Ok End) h = refl
  item_from-whole depth at (Ok (Token kind start end)) h =
      let first : Reading = record { at = at; names = []; next = 0 } in
      ap (λ (m : Outcome Part). item (and_then m (λ p. ended text start p (token_at text p.reading.at))))
      (term-whole depth 1200 first (omega arith))

  pub item_within-whole : (depth at : ℕ) → length text < depth → item_within depth text at ops quotes ≡ item_whole at (token_at text at)
  item_within-whole depth at h = item_from-whole depth at (token_at text at) h

  pub item_by-whole : (at : ℕ) → item_by text at ops quotes ≡ item_whole at (token_at text at)
  unfolding item_by
  item_by-whole at = item_within-whole (suc (length text)) at (omega arith)

-- A deeper bound than the number of bytes changes nothing.
pub depth_is_enough : (text : List ℕ) (ops : Lookup) (quotes : Quotes) (depth at : ℕ) → length text < depth
    → item_within depth text at ops quotes ≡ item_by text at ops quotes
depth_is_enough text ops quotes depth at h = item_within-whole text ops quotes depth at h ∙ sym (item_by-whole text ops quotes at)
