-- Reading step by step: what is told of a term, and what stands after it.
use Rattle.std.proofs.Common.{◌≡◌, ℕ, ◌-◌, ◌≤◌, Bool, true, false, cond, codes, List, ◌∷◌, ◌++◌, Option, Some, None, Ok, Err, refl, ap, ◌∙◌, arith, bytes_eq}
use Rattle.pl_term.specs.Tree.{Chars, Tree, Trees, var, int, atom, comp, none, more}
use Rattle.pl_model.specs.declared.lexical.Mark.{Mark}
use Rattle.pl_model.specs.declared.lexical.Mark.TheVariants.{Open, OpenCt, Close, OpenList, CloseList, OpenCurly, CloseCurly, Bar, Comma}
use Rattle.pl_model.specs.declared.lexical.TokenKind.{TokenKind}
use Rattle.pl_model.specs.declared.lexical.TokenKind.TheVariants.{Punctuation, EndToken}
use Rattle.pl_model.specs.declared.lexical.Lexeme.{Lexeme}
use Rattle.pl_model.specs.declared.lexical.Lexeme.TheVariants.{Token, End}
use Rattle.pl_model.specs.declared.operators.Place.TheVariants.{Infix, Postfix}
use Rattle.pl_model.specs.declared.grammar.Quotes.{Quotes}
use Rattle.pl_model.specs.LexicalTokens.{Lexed, token_at, mark_at}
use Rattle.pl_model.specs.Grammar.{Reading, Part, Outcome, and_then, variable_named, new_variable, named, number_of}
use Rattle.pl_model.specs.TermGrammar.{Lookup, Items, behind_mark, complete, closed, closed_by, primary, name_ahead, operation, operation_ahead, going_on, stands_alone}
use Rattle.pl_model.specs.Writing.{Place, alone, operand, left_operand, is_operand, variable}
use Rattle.pl_model.specs.TermWriting.{Piece, plain, Behind, text_behind}
use Rattle.pl_model.proofs.TermDepth.{whole, rest, sequence, whole-is, rest-is}
use Rattle.term_writer.proofs.Followers.{may_follow}
use Rattle.term_writer.proofs.Places.{Ahead, Exact, exact-ahead, behind_one, open-next, close-next}

-- The named variables so far, and the number of the next one.
abbrev pub Met : Type 0
Met = List (Chars × ℕ) × ℕ

abbrev pub standing : ℕ → Met → Reading
standing at s = record { at = at; names = s.0; next = s.1 }

abbrev pub met : Reading → Met
met r = (r.names, r.next)

-- What a term is read as, and what has been met after it.
abbrev mutual
  pub told : Tree → Met → Tree
  told (var n) s = (variable_named (standing 0 s) (variable n) 0).term
  told (int i) s = int i
  told (atom a) s = atom a
  told (comp f t ts) s = comp f (told t s) (told_all ts (after t s))

  pub told_all : Trees → Met → Trees
  told_all none s = none
  told_all (more t ts) s = more (told t s) (told_all ts (after t s))

  pub after : Tree → Met → Met
  after (var n) s = met (variable_named (standing 0 s) (variable n) 0).reading
  after (int i) s = s
  after (atom a) s = s
  after (comp f t ts) s = after_all ts (after t s)

  pub after_all : Trees → Met → Met
  after_all none s = s
  after_all (more t ts) s = after_all ts (after t s)

-- A variable is read from any place as from the first.
variable_by : (t : Bool) (o : Option ℕ) (name : Chars) (s : Met) (at end : ℕ)
    → cond t (new_variable (standing at s) s.0 end) (named (standing at s) name end o)
    ≡ record {
      term = (cond t (new_variable (standing 0 s) s.0 0) (named (standing 0 s) name 0 o)).term;
      priority = 0;
      reading = standing end (met (cond t (new_variable (standing 0 s) s.0 0) (named (standing 0 s) name 0 o)).reading);
    }
variable_by true o name s at end = refl
variable_by false (Some n) name s at end = refl
variable_by false None name s at end = refl

pub variable-told : (n : ℕ) (s : Met) (at end : ℕ)
    → variable_named (standing at s) (variable n) end ≡ record { term = told (var n) s; priority = 0; reading = standing end (after (var n) s) }
variable-told n s at end = variable_by (bytes_eq (variable n) (codes "_")) (number_of s.0 (variable n)) (variable n) s at end

-- The largest priority that is read at the right end of a term.
abbrev pub edge : ℕ → Place → ℕ
edge m alone = m
edge m operand = m
edge m (left_operand p) = p - 1

-- Whether a token begins a term.
abbrev pub begins_kind : TokenKind → Bool
begins_kind EndToken = false
begins_kind (Punctuation mark) = elim mark [ Open ↦ true | OpenCt ↦ true | OpenList ↦ true | OpenCurly ↦ true | _ ↦ false ]
begins_kind kind = true

abbrev pub begins_term : Lexed → Bool
begins_term (Ok (Token kind start end)) = begins_kind kind
begins_term l = false

pub begins-some : (l : Lexed) → begins_term l ≡ true → (k : Lexeme) × (l ≡ Ok k)
begins-some (Ok k) e = (k, refl)
begins-some (Err f) e = cc

no_end_mark : (mark : Mark) (start end : ℕ) → begins_kind (Punctuation mark) ≡ true
    → (behind_mark CloseList (Ok (Token (Punctuation mark) start end)) ≡ None) × (behind_mark CloseCurly (Ok (Token (Punctuation mark) start end)) ≡ None)
no_end_mark Open start end e = (refl, refl)
no_end_mark OpenCt start end e = (refl, refl)
no_end_mark OpenList start end e = (refl, refl)
no_end_mark OpenCurly start end e = (refl, refl)
no_end_mark Close start end e = cc
no_end_mark CloseList start end e = cc
no_end_mark CloseCurly start end e = cc
no_end_mark Bar start end e = cc
no_end_mark Comma start end e = cc

-- What begins a term closes nothing.
pub begins-open : (l : Lexed) → begins_term l ≡ true → (behind_mark CloseList l ≡ None) × (behind_mark CloseCurly l ≡ None)
begins-open (Err f) e = cc
begins-open (Ok End) e = cc
begins-open (Ok (Token (Punctuation mark) start end)) e = no_end_mark mark start end e
begins-open (Ok (Token kind start end)) e = (refl, refl)

module _ (text : List ℕ) (ops : Lookup) (quotes : Quotes) where
  abbrev pub reads : ℕ → Reading → Outcome Part
  reads max r = whole text ops quotes max r

  abbrev pub reads_on : ℕ → Part → Outcome Part
  reads_on max p = rest text ops quotes max p

  abbrev pub reads_all : Reading → Outcome Items
  reads_all r = sequence text ops quotes r

  abbrev pub begins_with_token : ℕ → ℕ → Met → Lexed → Outcome Part
  begins_with_token max at s l = primary text ops quotes reads reads_all max (standing at s) l

  -- A term goes on from its primary.
  pub from-primary : (max at : ℕ) (s : Met) (l : Lexed) (p : Part) → token_at text at ≡ l → begins_with_token max at s l ≡ Ok p
      → reads max (standing at s) ≡ reads_on max p
  from-primary max at s l p token is =
      whole-is text ops quotes max (standing at s)
      ∙ ap (λ l. and_then (begins_with_token max at s l) (reads_on max)) token
      ∙ ap (λ (o : Outcome Part). and_then o (reads_on max)) is

  -- A token that is no operator ends the term.
  pub ends-at : (max : ℕ) (p : Part) (at : ℕ) (kind : TokenKind) (start end : ℕ) → p.reading.at ≡ at → token_at text at ≡ Ok (Token kind start end)
      → name_ahead text ops quotes (Ok (Token kind start end)) ≡ None → reads_on max p ≡ Ok p
  ends-at max p at kind start end place token nothing =
      rest-is text ops quotes max p
      ∙ ap (going_on text ops quotes reads (reads_on max) max p) (ap (token_at text) place ∙ token)
      ∙ ap (operation_ahead text ops quotes reads (reads_on max) max p) nothing

  -- An operator may go on with it.
  pub goes-on : (max : ℕ) (p : Part) (at : ℕ) (kind : TokenKind) (start end : ℕ) (f : Chars) → p.reading.at ≡ at → token_at text at ≡ Ok (Token kind start end)
      → name_ahead text ops quotes (Ok (Token kind start end)) ≡ Some (f, end)
      → reads_on max p ≡ operation text ops quotes reads (reads_on max) max p f end (ops f Infix) (ops f Postfix)
  goes-on max p at kind start end f place token name =
      rest-is text ops quotes max p
      ∙ ap (going_on text ops quotes reads (reads_on max) max p) (ap (token_at text) place ∙ token)
      ∙ ap (operation_ahead text ops quotes reads (reads_on max) max p) name

  -- What may stand after a term: nothing in it reads on.
  pub record Follow (most : ℕ) (qs : List Piece) : Type 0 where
    pub chars : (b : Behind) → may_follow (text_behind b qs) ≡ true
    pub stops : (b : Behind) (at : ℕ) → Exact text b qs at → (k : ℕ) → k ≤ most → (p : Part) → p.reading.at ≡ at → reads_on k p ≡ Ok p

  pub less-follow : (k most : ℕ) (qs : List Piece) → k ≤ most → Follow most qs → Follow k qs
  less-follow k most qs less f = record { chars = f.chars; stops = λ b at e j below. f.stops b at e j (omega arith) }

  -- What shows that a prefix operator before it is an atom.
  abbrev pub Closes : List Piece → Type 0
  Closes qs = (b : Behind) (at : ℕ) → Exact text b qs at → stands_alone text ops quotes (token_at text at) ≡ true

  -- A term is read as what is told of it, and these pieces stand after it.
  pub record Got (t : Tree) (max : ℕ) (s : Met) (qs : List Piece) (at : ℕ) : Type 0 where
    pub to : ℕ
    pub b : Behind
    pub exact : Exact text b qs to
    pub priority : ℕ
    pub is : reads max (standing at s) ≡ reads_on max (record { term = told t s; priority = priority; reading = standing to (after t s) })
    pub begins : begins_term (token_at text at) ≡ true

  pub record Read (t : Tree) (m : ℕ) (place : Place) (max : ℕ) (s : Met) (qs : List Piece) (at : ℕ) : Type 0 where
    pub got : Got t max s qs at
    pub low : got.priority ≤ m
    pub shows : is_operand place ≡ true → stands_alone text ops quotes (token_at text at) ≡ false

  -- Parentheses

  pub closes-paren : (t : Tree) (r : Reading) (start end : ℕ) → token_at text r.at ≡ Ok (Token (Punctuation Close) start end) → closed text Close t r ≡ complete t r end
  closes-paren t r start end e = ap (λ l. closed_by text t r l (behind_mark Close l)) e

  pub closes-list : (t : Tree) (r : Reading) (start end : ℕ) → token_at text r.at ≡ Ok (Token (Punctuation CloseList) start end) → closed text CloseList t r ≡ complete t r end
  closes-list t r start end e = ap (λ l. closed_by text t r l (behind_mark CloseList l)) e

  pub closes-curly : (t : Tree) (r : Reading) (start end : ℕ) → token_at text r.at ≡ Ok (Token (Punctuation CloseCurly) start end) → closed text CloseCurly t r ≡ complete t r end
  closes-curly t r start end e = ap (λ l. closed_by text t r l (behind_mark CloseCurly l)) e

  parenthesis-begins : (direct : Bool) (max at : ℕ) (s : Met) (start end : ℕ)
      → begins_with_token max at s (Ok (Token (Punctuation (mark_at direct Open)) start end)) ≡ and_then (reads 1200 (standing end s)) (λ p. closed text Close p.term p.reading)
  parenthesis-begins true max at s start end = refl
  parenthesis-begins false max at s start end = refl

  parenthesis-opens : (direct : Bool) (start end : ℕ)
      → (begins_term (Ok (Token (Punctuation (mark_at direct Open)) start end)) ≡ true) × (stands_alone text ops quotes (Ok (Token (Punctuation (mark_at direct Open)) start end)) ≡ false)
  parenthesis-opens true start end = (refl, refl)
  parenthesis-opens false start end = (refl, refl)

  -- A term in parentheses is read with priority 0.
  pub in_parentheses : (t : Tree) (body qs : List Piece) (m : ℕ) (place : Place) (max : ℕ) (s : Met) (b : Behind) (at : ℕ)
      → Ahead text b (plain (codes "(") ∷ (body ++ plain (codes ")") ∷ qs)) at
      → ((b : Behind) (at : ℕ) → Ahead text b (body ++ plain (codes ")") ∷ qs) at → Got t 1200 s (plain (codes ")") ∷ qs) at)
      → Read t m place max s qs at
  in_parentheses t body qs m place max s b at ahead inside =
      let behind = plain (codes ")") ∷ qs in
      let opening = open-next text b (body ++ behind) at ahead in
      let inner = inside (behind_one 40) opening.end (exact-ahead text (behind_one 40) (body ++ behind) opening.end opening.exact) in
      let closing = close-next text inner.b qs inner.to (exact-ahead text inner.b behind inner.to inner.exact) in
      let part : Part = record { term = told t s; priority = inner.priority; reading = standing inner.to (after t s) } in
      let opens = parenthesis-opens opening.direct opening.start opening.end in
      record {
        got = record {
          to = closing.end;
          b = behind_one 41;
          exact = closing.exact;
          priority = 0;
          is =
              from-primary max at s (Ok (Token (Punctuation (mark_at opening.direct Open)) opening.start opening.end)) _ opening.is
              (parenthesis-begins opening.direct max at s opening.start opening.end
              ∙ ap (λ (o : Outcome Part). and_then o (λ p. closed text Close p.term p.reading))
              (inner.is ∙ ends-at 1200 part inner.to (Punctuation Close) closing.start closing.end refl closing.is refl)
              ∙ closes-paren (told t s) part.reading closing.start closing.end closing.is);
          begins = ap begins_term opening.is ∙ opens.0;
        };
        low = omega arith;
        shows = λ _. ap (stands_alone text ops quotes) opening.is ∙ opens.1;
      }
