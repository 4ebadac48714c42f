-- Variables, integers and atoms are read as they are written; and what may stand after a term in brackets.
use Rattle.std.proofs.Common.{◌≡◌, ℕ, pos, negsuc, ◌+◌, ◌^◌, ◌<◌, ◌≤◌, suc, Bool, true, false, ◌&&◌, ◌||◌, not, ◌==◌, nat_lt, nat_le, codes, List, [], ◌∷◌, ◌++◌, drop, slice_index, Option, Some, None, Ok, Err, is_some, refl, sym, ap, subst, ◌∙◌, arith, bytes_eq}
use Rattle.std.specs.Char.{is_ascii_digit}
use Rattle.std.specs.Str.{all_scalars, encode_utf8_all}
use Rattle.std.specs.Fmt.{decimal}
use Rattle.std.proofs.lemmas.Bool.{cond-true, cond-false}
use Rattle.std.proofs.lemmas.Bool.Decides.{nat_tests}
use Rattle.std.proofs.Math.Utf8.{encode}
use Rattle.pl_term.specs.Tree.{Chars, Tree, var, int, atom}
use Rattle.pl_model.specs.declared.syntax.SyntaxKind.TheVariants.{AtomTooLong, IntegerTooLarge}
use Rattle.pl_model.specs.declared.lexical.Mark.TheVariants.{Close, OpenList, CloseList, OpenCurly, CloseCurly, Bar, Comma}
use Rattle.pl_model.specs.declared.lexical.TokenKind.TheVariants.{Name, Variable, Integer, Punctuation}
use Rattle.pl_model.specs.declared.lexical.Lexeme.TheVariants.{Token}
use Rattle.pl_model.specs.declared.operators.Place.TheVariants.{Prefix, Infix, Postfix}
use Rattle.pl_model.specs.declared.operators.Kind.TheVariants.{Xfy}
use Rattle.pl_model.specs.declared.grammar.Quotes.{Quotes}
use Rattle.pl_model.specs.OperatorTable.{Entry}
use Rattle.pl_model.specs.LexicalTokens.{Lexed, token_at}
use Rattle.pl_model.specs.Grammar.{Part, moved, refused}
use Rattle.pl_model.specs.TermGrammar.{Lookup, is_too_long, behind_mark, complete, list_term, curly_term, is_minus, negative, is_functor, stands_alone, is_operator as begins_as_operator, named_term, atom_or_operator, prefix_term, infix_term, postfix_term, functional, fits, operation, left_argument}
use Rattle.pl_model.specs.Writing.{Place, alone, operand, left_operand, is_operand, variable, name}
use Rattle.pl_model.specs.TermWriting.{Piece, plain, Behind, text_behind, quoting, pieces, is_operator, parenthesized}
use Rattle.pl_model.proofs.LexicalReads.{open_list-reads, close_list-reads, open_curly-reads, close_curly-reads}
use Rattle.term_writer.specs.ReadingBack.{is_readable, is_readable_text, IsRegular}
use Rattle.term_writer.proofs.Bits.{both, neither, not_true, first_false, second_false, none_true, differ, is_above, same_text}
use Rattle.term_writer.proofs.Seams.{lead, blanks, apart}
use Rattle.term_writer.proofs.FirstBytes.{no_layout}
use Rattle.term_writer.proofs.NameTokens.{NoBrackets, no_brackets, name_kind, name-token}
use Rattle.term_writer.proofs.Places.{Ahead, exact-ahead, byte-at, token-here, name-next, behind_one, close-next, close_list-next, close_curly-next, bar-next, comma-next}
use Rattle.term_writer.proofs.Followers.{follower, follow-put}
use Rattle.term_writer.proofs.NumberTokens.{integer-next, negative-next, variable-next}
use Rattle.term_writer.proofs.Shapes.{pieces-var, pieces-int, pieces-atom}
use Rattle.term_writer.proofs.Steps.{Met, standing, variable-told, edge, begins_term, reads, reads_on, reads_all, begins_with_token, from-primary, ends-at, goes-on, Follow, Closes, Got, Read, in_parentheses}

none_of : (o : Option Entry) → is_some o ≡ false → o ≡ None
none_of None e = refl
none_of (Some x) e = absurd (differ e)

module _ (text : List ℕ) (ops : Lookup) (quotes : Quotes) (regular : IsRegular ops) where
  -- What may stand after a term in brackets, an argument or an element.

  pub follow-close : (k : ℕ) (qs : List Piece) → Follow text ops quotes k (plain (codes ")") ∷ qs)
  follow-close k qs = record {
    chars = λ b. follow-put b 41 [] (text_behind (behind_one 41) qs) refl;
    stops = λ b at e j below p place.
        let t = close-next text b qs at (exact-ahead text b (plain (codes ")") ∷ qs) at e) in
        ends-at text ops quotes j p at (Punctuation Close) t.start t.end place t.is refl;
  }

  pub closes-close : (qs : List Piece) → Closes text ops quotes (plain (codes ")") ∷ qs)
  closes-close qs b at e =
      let t = close-next text b qs at (exact-ahead text b (plain (codes ")") ∷ qs) at e) in ap (stands_alone text ops quotes) t.is

  pub follow-close_list : (k : ℕ) (qs : List Piece) → Follow text ops quotes k (plain (codes "]") ∷ qs)
  follow-close_list k qs = record {
    chars = λ b. follow-put b 93 [] (text_behind (behind_one 93) qs) refl;
    stops = λ b at e j below p place.
        let t = close_list-next text b qs at (exact-ahead text b (plain (codes "]") ∷ qs) at e) in
        ends-at text ops quotes j p at (Punctuation CloseList) t.start t.end place t.is refl;
  }

  pub closes-close_list : (qs : List Piece) → Closes text ops quotes (plain (codes "]") ∷ qs)
  closes-close_list qs b at e =
      let t = close_list-next text b qs at (exact-ahead text b (plain (codes "]") ∷ qs) at e) in ap (stands_alone text ops quotes) t.is

  pub follow-close_curly : (k : ℕ) (qs : List Piece) → Follow text ops quotes k (plain (codes "}") ∷ qs)
  follow-close_curly k qs = record {
    chars = λ b. follow-put b 125 [] (text_behind (behind_one 125) qs) refl;
    stops = λ b at e j below p place.
        let t = close_curly-next text b qs at (exact-ahead text b (plain (codes "}") ∷ qs) at e) in
        ends-at text ops quotes j p at (Punctuation CloseCurly) t.start t.end place t.is refl;
  }

  pub closes-close_curly : (qs : List Piece) → Closes text ops quotes (plain (codes "}") ∷ qs)
  closes-close_curly qs b at e =
      let t = close_curly-next text b qs at (exact-ahead text b (plain (codes "}") ∷ qs) at e) in ap (stands_alone text ops quotes) t.is

  pub follow-bar : (k : ℕ) (qs : List Piece) → Follow text ops quotes k (plain (codes "|") ∷ qs)
  follow-bar k qs = record {
    chars = λ b. follow-put b 124 [] (text_behind (behind_one 124) qs) refl;
    stops = λ b at e j below p place.
        let t = bar-next text b qs at (exact-ahead text b (plain (codes "|") ∷ qs) at e) in
        ends-at text ops quotes j p at (Punctuation Bar) t.start t.end place t.is refl;
  }

  pub closes-bar : (qs : List Piece) → Closes text ops quotes (plain (codes "|") ∷ qs)
  closes-bar qs b at e =
      let t = bar-next text b qs at (exact-ahead text b (plain (codes "|") ∷ qs) at e) in ap (stands_alone text ops quotes) t.is

  -- An operator of higher priority than what is read ends a term.
  pub infix-stops : (j : ℕ) (p : Part) (f : Chars) (end : ℕ) (e : Entry) (o : Option Entry) → j < e.0
      → operation text ops quotes (reads text ops quotes) (reads_on text ops quotes j) j p f end (Some e) o ≡ Ok p
  infix-stops j p f end e o above =
      cond-false (fits j p e) (infix_term text ops quotes (reads text ops quotes) (reads_on text ops quotes j) p f end e) (Ok p)
      (first_false (nat_le e.0 j) (nat_le p.priority (left_argument e)) (is_above e.0 j above))

  pub postfix-stops : (j : ℕ) (p : Part) (f : Chars) (end : ℕ) (e : Entry) → j < e.0
      → operation text ops quotes (reads text ops quotes) (reads_on text ops quotes j) j p f end None (Some e) ≡ Ok p
  postfix-stops j p f end e above =
      cond-false (fits j p e) (postfix_term text ops quotes (reads_on text ops quotes j) p f end e) (Ok p)
      (first_false (nat_le e.0 j) (nat_le p.priority (left_argument e)) (is_above e.0 j above))

  -- The comma is an operator of priority 1000, which nothing of priority 999 takes.
  comma-stops : (j : ℕ) (p : Part) (end : ℕ) → j ≤ 999
      → operation text ops quotes (reads text ops quotes) (reads_on text ops quotes j) j p (codes ",") end (ops (codes ",") Infix) (ops (codes ",") Postfix) ≡ Ok p
  comma-stops j p end below =
      ap (λ o. operation text ops quotes (reads text ops quotes) (reads_on text ops quotes j) j p (codes ",") end o (ops (codes ",") Postfix)) regular.comma
      ∙ infix-stops j p (codes ",") end (1000, Xfy) (ops (codes ",") Postfix) (omega arith)

  pub follow-comma : (k : ℕ) (qs : List Piece) → k ≤ 999 → Follow text ops quotes k (plain (codes ",") ∷ qs)
  follow-comma k qs low = record {
    chars = λ b. follow-put b 44 [] (text_behind (behind_one 44) qs) refl;
    stops = λ b at e j below p place.
        let t = comma-next text b qs at (exact-ahead text b (plain (codes ",") ∷ qs) at e) in
        goes-on text ops quotes j p at (Punctuation Comma) t.start t.end (codes ",") place t.is refl ∙ comma-stops j p t.end (omega arith);
  }

  pub closes-comma : (qs : List Piece) → Closes text ops quotes (plain (codes ",") ∷ qs)
  closes-comma qs b at e =
      let t = comma-next text b qs at (exact-ahead text b (plain (codes ",") ∷ qs) at e) in ap (stands_alone text ops quotes) t.is

  -- What is to be shown of each term.

  abbrev pub Fitting : ℕ → Place → Type 0
  Fitting m alone = Unit {0}
  Fitting m operand = Unit {0}
  Fitting m (left_operand p) = m ≤ p

  abbrev pub IsRead : Tree → Type 0
  IsRead t = (m : ℕ) (place : Place) (max : ℕ) (s : Met) (b : Behind) (qs : List Piece) (at : ℕ) → m ≤ max → Fitting m place
      → Ahead text b (pieces quoting ops m place t ++ qs) at → Follow text ops quotes (edge m place) qs
      → (is_operand place ≡ false → Closes text ops quotes qs) → Read text ops quotes t m place max s qs at

  -- Variables and integers

  pub var-read : (n : ℕ) → is_readable (var n) ≡ true → IsRead (var n)
  var-read n e m place max s b qs at below fitting ahead follow closes =
      let fits : n < 2 ^ 64 = grind (arith, nat_tests) in
      let here : Ahead text b (plain (variable n) ∷ qs) at = subst (λ ps. Ahead text b (ps ++ qs) at) (pieces-var ops m place n) ahead in
      let t = variable-next text n b qs at here fits (follower _ (follow.chars _)).word in
      record {
        got = record {
          to = t.end;
          b = _;
          exact = t.exact;
          priority = 0;
          is = from-primary text ops quotes max at s (Ok (Token (Variable (variable n)) t.start t.end)) _ t.is (ap (λ (p : Part). Ok p) (variable-told n s at t.end));
          begins = ap begins_term t.is;
        };
        low = omega arith;
        shows = λ _. ap (stands_alone text ops quotes) t.is;
      }

  pub positive-read : (n : ℕ) → is_readable (int (pos n)) ≡ true → IsRead (int (pos n))
  positive-read n e m place max s b qs at below fitting ahead follow closes =
      let fits : n < 2 ^ 63 = grind (arith, nat_tests) in
      let here : Ahead text b (plain (decimal n) ∷ qs) at = subst (λ ps. Ahead text b (ps ++ qs) at) (pieces-int ops m place (pos n)) ahead in
      let t = integer-next text n b qs at here (omega arith) (follower _ (follow.chars _)).numeral in
      record {
        got = record {
          to = t.end;
          b = _;
          exact = t.exact;
          priority = 0;
          is =
              from-primary text ops quotes max at s (Ok (Token (Integer n) t.start t.end)) _ t.is
              (cond-true (nat_lt n (2 ^ 63)) (complete (int (pos n)) (standing at s) t.end) (refused IntegerTooLarge t.start) e);
          begins = ap begins_term t.is;
        };
        low = omega arith;
        shows = λ _. ap (stands_alone text ops quotes) t.is;
      }

  pub negative-read : (n : ℕ) → is_readable (int (negsuc n)) ≡ true → IsRead (int (negsuc n))
  negative-read n e m place max s b qs at below fitting ahead follow closes =
      let fits : n < 2 ^ 63 = grind (arith, nat_tests) in
      let here : Ahead text b (plain (45 ∷ decimal (suc n)) ∷ qs) at = subst (λ ps. Ahead text b (ps ++ qs) at) (pieces-int ops m place (negsuc n)) ahead in
      let t = negative-next text (suc n) b qs at here (omega arith) (follower _ (follow.chars _)).numeral in
      let r = standing at s in
      record {
        got = record {
          to = t.end;
          b = _;
          exact = t.exact;
          priority = 0;
          is =
              from-primary text ops quotes max at s (Ok (Token (Name (codes "-")) t.minus_start t.minus_end)) _ t.minus
              (cond-true (is_minus text ops quotes (codes "-") t.minus_end) (negative text ops quotes r (token_at text t.minus_end)) _ t.digit
              ∙ ap (negative text ops quotes r) t.is);
          begins = ap begins_term t.minus;
        };
        low = omega arith;
        shows = λ _. ap (stands_alone text ops quotes) t.minus
            ∙ second_false (begins_as_operator text ops quotes (codes "-")) _ (ap not (right_true (is_functor text ops quotes t.minus_end) _ t.digit));
      }
    where
      right_true : (a b : Bool) → b ≡ true → (a || b) ≡ true
      right_true true b e = refl
      right_true false b e = e

  -- Atoms

  pub named-is : (bare : Bool) (f : Chars) (max at : ℕ) (s : Met) (start end : ℕ) → is_minus text ops quotes f end ≡ false
      → begins_with_token text ops quotes max at s (Ok (Token (name_kind bare f) start end))
      ≡ named_term text ops quotes (reads text ops quotes) (reads_all text ops quotes) max (standing at s) f start end
  named-is true f max at s start end no_sign = cond-false (is_minus text ops quotes f end) (negative text ops quotes (standing at s) (token_at text end)) _ no_sign
  named-is false f max at s start end no_sign = refl

  -- A name that is no functor is an atom, or a prefix operator.
  pub named-atom : (bare : Bool) (f : Chars) (max at : ℕ) (s : Met) (start end : ℕ) → is_minus text ops quotes f end ≡ false → is_too_long f ≡ false
      → is_functor text ops quotes end ≡ false
      → begins_with_token text ops quotes max at s (Ok (Token (name_kind bare f) start end))
      ≡ atom_or_operator text ops quotes (reads text ops quotes) max (standing at s) f start end (ops f Prefix) (token_at text end)
  named-atom bare f max at s start end no_sign short no_functor =
      named-is bare f max at s start end no_sign
      ∙ cond-false (is_too_long f) (refused AtomTooLong start) _ short
      ∙ cond-false (is_functor text ops quotes end) (functional text ops quotes (reads_all text ops quotes) f (moved (standing at s) (end + 1))) _ no_functor

  alone-atom : (f : Chars) (max at : ℕ) (s : Met) (start end : ℕ) (o : Option Entry) (l : Lexed) → (o ≡ None → ⊥ → ⊥) → (is_some o ≡ true → stands_alone text ops quotes l ≡ true)
      → atom_or_operator text ops quotes (reads text ops quotes) max (standing at s) f start end o l ≡ complete (atom f) (standing at s) end
  alone-atom f max at s start end None l _ h = refl
  alone-atom f max at s start end (Some x) (Err wrong) _ h = absurd (differ (sym (h refl)))
  alone-atom f max at s start end (Some x) (Ok k) _ h =
      cond-true (stands_alone text ops quotes (Ok k)) (complete (atom f) (standing at s) end) (prefix_term text ops quotes (reads text ops quotes) max (standing at s) f start end x) (h refl)

  pub name-begins : (bare : Bool) (f : Chars) (start end : ℕ) → begins_term (Ok (Token (name_kind bare f) start end)) ≡ true
  name-begins true f start end = refl
  name-begins false f start end = refl

  -- A name that is no infix operator begins a term.
  pub name-shows : (bare : Bool) (f : Chars) (start end : ℕ) → begins_as_operator text ops quotes f ≡ false → stands_alone text ops quotes (Ok (Token (name_kind bare f) start end)) ≡ false
  name-shows true f start end e = first_false (begins_as_operator text ops quotes f) _ e
  name-shows false f start end e = first_false (begins_as_operator text ops quotes f) _ e

  -- An atom that is no operator, or before what closes.
  record GotAtom (a : Chars) (max : ℕ) (s : Met) (qs : List Piece) (at : ℕ) : Type 0 where
    got : Got text ops quotes (atom a) max s qs at
    low : got.priority ≡ 0
    shows : begins_as_operator text ops quotes a ≡ false → stands_alone text ops quotes (token_at text at) ≡ false

  plain-atom : (a : Chars) (k max : ℕ) (s : Met) (b : Behind) (qs : List Piece) (at : ℕ) → is_readable_text a ≡ true → NoBrackets a
      → Ahead text b (plain (name a) ∷ qs) at → Follow text ops quotes k qs → (is_some (ops a Prefix) ≡ true → Closes text ops quotes qs) → GotAtom a max s qs at
  plain-atom a k max s b qs at e brackets ahead follow closes =
      let readable = both (all_scalars a) (not (is_too_long a)) e in
      let f = follower _ (follow.chars _) in
      let r = name-token a b None _ readable.0 brackets (apart _ qs) f.first in
      let t = name-next text a b (plain (name a)) qs at ahead r in
      let no_functor : is_functor text ops quotes t.end ≡ false = ap (λ n. n == 40) (byte-at text t.end _ t.exact) ∙ f.no_open in
      let no_digit : is_ascii_digit (slice_index text t.end) ≡ false = ap is_ascii_digit (byte-at text t.end _ t.exact) ∙ f.no_digit in
      record {
        got = record {
          to = t.end;
          b = _;
          exact = t.exact;
          priority = 0;
          is =
              from-primary text ops quotes max at s (Ok (Token (name_kind r.bare a) t.start t.end)) _ t.is
              (named-atom r.bare a max at s t.start t.end (second_false (bytes_eq a (codes "-")) _ no_digit) (not_true _ readable.1) no_functor
              ∙ alone-atom a max at s t.start t.end (ops a Prefix) (token_at text t.end) (λ _ x. x) (λ some. closes some _ t.end t.exact));
          begins = ap begins_term t.is ∙ name-begins r.bare a t.start t.end;
        };
        low = refl;
        shows = λ e. ap (stands_alone text ops quotes) t.is ∙ name-shows r.bare a t.start t.end e;
      }

  -- Brackets that are atoms: two tokens.
  list-bytes : (rest : List ℕ) → encode_utf8_all (codes "[]") ++ rest ≡ 91 ∷ 93 ∷ rest
  unfolding encode
  list-bytes rest = refl

  curly-bytes : (rest : List ℕ) → encode_utf8_all (codes "{}") ++ rest ≡ 123 ∷ 125 ∷ rest
  unfolding encode
  curly-bytes rest = refl

  list-atom : (max : ℕ) (s : Met) (b : Behind) (qs : List Piece) (at : ℕ) → Ahead text b (plain (codes "[]") ∷ qs) at → GotAtom (codes "[]") max s qs at
  list-atom max s b qs at ahead =
      let b' : Behind = record { last = 93; prefix = None } in
      let rest = encode_utf8_all (text_behind b' qs) in
      let stands = lead b (plain (codes "[]")) qs 91 (codes "]") ahead.spaces (drop at text) refl ahead.is in
      let first = token-here text at stands.0 1 (91 ∷ 93 ∷ rest) (93 ∷ rest) (λ direct. Punctuation OpenList) (stands.1 ∙ ap (λ bs. blanks stands.0 ++ bs) (list-bytes rest))
      (no_layout (91 ∷ 93 ∷ rest) 91 1 refl refl refl refl) (λ direct. open_list-reads direct (93 ∷ rest)) refl in
      let second = token-here text first.end 0 1 (93 ∷ rest) rest (λ direct. Punctuation CloseList) first.rest
      (no_layout (93 ∷ rest) 93 1 refl refl refl refl) (λ direct. close_list-reads direct rest) refl in
      record {
        got = record {
          to = second.end;
          b = b';
          exact = second.rest;
          priority = 0;
          is =
              from-primary text ops quotes max at s (Ok (Token (Punctuation OpenList) first.start first.end)) _ first.is
              (ap (λ l. list_term text ops quotes (reads text ops quotes) (reads_all text ops quotes) (standing first.end s) (behind_mark CloseList l)) second.is);
          begins = ap begins_term first.is;
        };
        low = refl;
        shows = λ _. ap (stands_alone text ops quotes) first.is;
      }

  curly-atom : (max : ℕ) (s : Met) (b : Behind) (qs : List Piece) (at : ℕ) → Ahead text b (plain (codes "{}") ∷ qs) at → GotAtom (codes "{}") max s qs at
  curly-atom max s b qs at ahead =
      let b' : Behind = record { last = 125; prefix = None } in
      let rest = encode_utf8_all (text_behind b' qs) in
      let stands = lead b (plain (codes "{}")) qs 123 (codes "}") ahead.spaces (drop at text) refl ahead.is in
      let first = token-here text at stands.0 1 (123 ∷ 125 ∷ rest) (125 ∷ rest) (λ direct. Punctuation OpenCurly) (stands.1 ∙ ap (λ bs. blanks stands.0 ++ bs) (curly-bytes rest))
      (no_layout (123 ∷ 125 ∷ rest) 123 1 refl refl refl refl) (λ direct. open_curly-reads direct (125 ∷ rest)) refl in
      let second = token-here text first.end 0 1 (125 ∷ rest) rest (λ direct. Punctuation CloseCurly) first.rest
      (no_layout (125 ∷ rest) 125 1 refl refl refl refl) (λ direct. close_curly-reads direct rest) refl in
      record {
        got = record {
          to = second.end;
          b = b';
          exact = second.rest;
          priority = 0;
          is =
              from-primary text ops quotes max at s (Ok (Token (Punctuation OpenCurly) first.start first.end)) _ first.is
              (ap (λ l. curly_term text ops quotes (reads text ops quotes) (standing first.end s) (behind_mark CloseCurly l)) second.is);
          begins = ap begins_term first.is;
        };
        low = refl;
        shows = λ _. ap (stands_alone text ops quotes) first.is;
      }

  -- An atom as it is written without parentheses.
  bare-atom : (a : Chars) (k max : ℕ) (s : Met) (b : Behind) (qs : List Piece) (at : ℕ) → is_readable_text a ≡ true
      → Ahead text b (plain (name a) ∷ qs) at → Follow text ops quotes k qs → (is_some (ops a Prefix) ≡ true → Closes text ops quotes qs) → GotAtom a max s qs at
  bare-atom a k max s b qs at e ahead follow closes = by (bytes_eq a (codes "[]")) (bytes_eq a (codes "{}")) refl refl where
    moved_to : (f : Chars) → a ≡ f → Ahead text b (plain (name f) ∷ qs) at
    moved_to f same = subst (λ f. Ahead text b (plain (name f) ∷ qs) at) same ahead

    by : (t u : Bool) → bytes_eq a (codes "[]") ≡ t → bytes_eq a (codes "{}") ≡ u → GotAtom a max s qs at
    by true u is_list is_curly =
        let same = same_text a (codes "[]") is_list in
        subst (λ f. GotAtom f max s qs at) (sym same) (list-atom max s b qs at (moved_to (codes "[]") same))
    by false true is_list is_curly =
        let same = same_text a (codes "{}") is_curly in
        subst (λ f. GotAtom f max s qs at) (sym same) (curly-atom max s b qs at (moved_to (codes "{}") same))
    by false false is_list is_curly =
        plain-atom a k max s b qs at e (no_brackets a (none_true (bytes_eq a (codes "[]")) (bytes_eq a (codes "{}")) is_list is_curly)) ahead follow closes

  no_operator : (a : Chars) → is_operator ops a ≡ false → (is_some (ops a Prefix) ≡ false) × (begins_as_operator text ops quotes a ≡ false)
  no_operator a e =
      let t = neither (is_some (ops a Prefix)) _ e in
      (t.0, first_false (is_some (ops a Infix)) _ (neither (is_some (ops a Infix)) _ t.1).0)

  pub atom-read : (a : Chars) → is_readable (atom a) ≡ true → IsRead (atom a)
  atom-read a e m place max s b qs at below fitting ahead follow closes =
      by (is_operand place) (is_operator ops a) refl refl (subst (λ ps. Ahead text b (ps ++ qs) at) (pieces-atom ops m place a) ahead)
    where
      by : (t u : Bool) → is_operand place ≡ t → is_operator ops a ≡ u → Ahead text b (parenthesized (is_operand place && is_operator ops a) (plain (name a) ∷ []) ++ qs) at
          → Read text ops quotes (atom a) m place max s qs at
      by true true is_one is_op ahead =
          in_parentheses text ops quotes (atom a) (plain (name a) ∷ []) qs m place max s b at
          (subst (λ t. Ahead text b (parenthesized t (plain (name a) ∷ []) ++ qs) at) (ap (λ t. t && is_operator ops a) is_one ∙ is_op) ahead)
          (λ b at ahead. (bare-atom a 0 1200 s b (plain (codes ")") ∷ qs) at e ahead (follow-close 0 qs) (λ _. closes-close qs)).got)
      by true false is_one is_op ahead =
          let n = no_operator a is_op in
          let g = bare-atom a (edge m place) max s b qs at e
          (subst (λ t. Ahead text b (parenthesized t (plain (name a) ∷ []) ++ qs) at) (ap (λ t. t && is_operator ops a) is_one ∙ is_op) ahead)
          follow (λ some. absurd (differ (sym some ∙ n.0))) in
          record { got = g.got; low = omega (arith, g.low); shows = λ _. g.shows n.1 }
      by false u is_one is_op ahead =
          let g = bare-atom a (edge m place) max s b qs at e
          (subst (λ t. Ahead text b (parenthesized t (plain (name a) ∷ []) ++ qs) at) (ap (λ t. t && is_operator ops a) is_one) ahead)
          follow (λ _. closes is_one) in
          record { got = g.got; low = omega (arith, g.low); shows = λ one. absurd (differ (sym one ∙ is_one)) }
