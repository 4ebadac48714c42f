-- Compound terms in functional notation, lists and terms in curly brackets are read as they are written.
use Rattle.std.proofs.Common.{◌≡◌, ℕ, ◌+◌, suc, Bool, true, false, cond, ◌&&◌, ◌||◌, not, ◌==◌, codes, List, [], ◌∷◌, ◌++◌, slice_index, Option, Some, None, Ok, append_assoc, refl, sym, ap, subst, ◌∙◌, arith, bytes_eq, ℤ}
use Rattle.std.specs.Char.{is_ascii_digit}
use Rattle.std.specs.Str.{all_scalars}
use Rattle.std.proofs.lemmas.Bool.{cond-true, cond-false}
use Rattle.pl_term.specs.Tree.{Chars, Tree, Trees, var, int, atom, comp, none, more, count}
use Rattle.pl_model.specs.declared.syntax.SyntaxKind.TheVariants.{AtomTooLong}
use Rattle.pl_model.specs.declared.lexical.Mark.TheVariants.{Close, OpenList, CloseList, OpenCurly, CloseCurly, Bar, Comma}
use Rattle.pl_model.specs.declared.lexical.TokenKind.TheVariants.{Punctuation}
use Rattle.pl_model.specs.declared.lexical.Lexeme.TheVariants.{Token}
use Rattle.pl_model.specs.declared.operators.Place.TheVariants.{Prefix}
use Rattle.pl_model.specs.declared.grammar.Quotes.{Quotes}
use Rattle.pl_model.specs.LexicalTokens.{token_at}
use Rattle.pl_model.specs.Grammar.{Reading, Part, Outcome, and_then, moved, refused}
use Rattle.pl_model.specs.TermGrammar.{Lookup, Items, is_too_long, behind_mark, complete, closed, cons, list_behind, list_with, further, functional, with_tail, list_term, curly_term, is_minus, is_functor, stands_alone, is_operator as begins_as_operator, atom_or_operator}
use Rattle.pl_model.specs.Writing.{Place, alone, functor, Tail, ends, goes_on, partial, tail_of}
use Rattle.pl_model.specs.TermWriting.{Piece, plain, Behind, behind, text_behind, quoting, pieces, arguments, list_tail, functor_by}
use Rattle.pl_model.proofs.TermDepth.{sequence-is, further_at}
use Rattle.term_writer.specs.ReadingBack.{is_readable_text, IsRegular}
use Rattle.term_writer.proofs.Bits.{both, not_true, second_false, differ, same_text, same_number}
use Rattle.term_writer.proofs.Seams.{apart}
use Rattle.term_writer.proofs.NameTokens.{name_kind, functor-token}
use Rattle.term_writer.proofs.Places.{Ahead, Exact, exact-ahead, byte-at, name-next, behind_one, close-next, open_list-next, close_list-next, open_curly-next, close_curly-next, bar-next, comma-next, open-bytes, one-more}
use Rattle.term_writer.proofs.Leads.{leads-first, leads-plain}
use Rattle.term_writer.proofs.Shapes.{arguments-none, arguments-more, tail_by, list_tail-more, elements-comp}
use Rattle.term_writer.proofs.Steps.{Met, standing, told, told_all, after, after_all, begins_term, begins-open, reads, reads_all, from-primary, Follow, Closes, Got, closes-paren, closes-list, closes-curly}
use Rattle.term_writer.proofs.Leaves.{follow-close, closes-close, follow-close_list, closes-close_list, follow-close_curly, closes-close_curly, follow-bar, closes-bar, follow-comma, closes-comma, IsRead, name-begins, named-is}
use Rattle.term_writer.proofs.Affixes.{prefix-behind}

module _ (text : List ℕ) (ops : Lookup) (quotes : Quotes) (regular : IsRegular ops) where
  -- An argument or element, and what follows it.
  element : (t : Tree) (s : Met) (b : Behind) (qs : List Piece) (at : ℕ) → IsRead text ops quotes regular t → Ahead text b (pieces quoting ops 999 alone t ++ qs) at
      → Follow text ops quotes 999 qs → Closes text ops quotes qs → Got text ops quotes t 999 s qs at
  element t s b qs at read ahead follow closes = (read 999 alone 999 s b qs at (omega arith) tt ahead follow (λ _. closes)).got

  abbrev part_of : (t : Tree) (s : Met) (priority at : ℕ) → Part
  part_of t s priority at = record { term = told t s; priority = priority; reading = standing at (after t s) }

  abbrev pub goes_further : Part → Outcome Items
  goes_further p = further_at text ops quotes p

  -- The terms after one, to the closing parenthesis.
  pub record GotFurther (ts : Trees) (p : Tree) (priority : ℕ) (s : Met) (qs : List Piece) (at : ℕ) : Type 0 where
    pub to : ℕ
    pub b : Behind
    pub exact : Exact text b (plain (codes ")") ∷ qs) to
    pub is : goes_further (record { term = p; priority = priority; reading = standing at s })
        ≡ Ok (record { first = p; others = told_all ts s; reading = standing to (after_all ts s) })

  abbrev pub ArgumentsAreRead : Trees → Type 0
  ArgumentsAreRead ts = (p : Tree) (priority : ℕ) (s : Met) (b : Behind) (qs : List Piece) (at : ℕ) → Exact text b (arguments quoting ops ts ++ qs) at
      → GotFurther ts p priority s qs at

  arguments-follow : (ts : Trees) (qs : List Piece) → Follow text ops quotes 999 (arguments quoting ops ts ++ qs)
  arguments-follow none qs = subst (λ ps. Follow text ops quotes 999 (ps ++ qs)) (sym (arguments-none ops)) (follow-close text ops quotes regular 999 qs)
  arguments-follow (more t ts) qs =
      subst (λ ps. Follow text ops quotes 999 (ps ++ qs)) (sym (arguments-more ops t ts))
      (follow-comma text ops quotes regular 999 ((pieces quoting ops 999 alone t ++ arguments quoting ops ts) ++ qs) (omega arith))

  arguments-close : (ts : Trees) (qs : List Piece) → Closes text ops quotes (arguments quoting ops ts ++ qs)
  arguments-close none qs = subst (λ ps. Closes text ops quotes (ps ++ qs)) (sym (arguments-none ops)) (closes-close text ops quotes regular qs)
  arguments-close (more t ts) qs =
      subst (λ ps. Closes text ops quotes (ps ++ qs)) (sym (arguments-more ops t ts))
      (closes-comma text ops quotes regular ((pieces quoting ops 999 alone t ++ arguments quoting ops ts) ++ qs))

  -- Some terms with commas between them, to the closing parenthesis.
  record GotAll (t : Tree) (ts : Trees) (s : Met) (qs : List Piece) (at : ℕ) : Type 0 where
    to : ℕ
    b : Behind
    exact : Exact text b (plain (codes ")") ∷ qs) to
    is : reads_all text ops quotes (standing at s) ≡ Ok (record { first = told t s; others = told_all ts (after t s); reading = standing to (after_all ts (after t s)) })

  all-read : (t : Tree) (ts : Trees) (s : Met) (b : Behind) (qs : List Piece) (at : ℕ) → IsRead text ops quotes regular t → ArgumentsAreRead ts
      → Ahead text b (pieces quoting ops 999 alone t ++ (arguments quoting ops ts ++ qs)) at → GotAll t ts s qs at
  all-read t ts s b qs at read others ahead =
      let behind = arguments quoting ops ts ++ qs in
      let e = element t s b behind at read ahead (arguments-follow ts qs) (arguments-close ts qs) in
      let P = part_of t s e.priority e.to in
      let g = others (told t s) e.priority (after t s) e.b qs e.to e.exact in
      record {
        to = g.to;
        b = g.b;
        exact = g.exact;
        is =
            sequence-is text ops quotes (standing at s)
            ∙ ap (λ (o : Outcome Part). and_then o goes_further) (e.is ∙ (arguments-follow ts qs).stops e.b e.to e.exact 999 (omega arith) P refl)
            ∙ g.is;
      }

  pub no_arguments-read : ArgumentsAreRead none
  no_arguments-read p priority s b qs at exact =
      let here : Exact text b (plain (codes ")") ∷ qs) at = subst (λ ps. Exact text b (ps ++ qs) at) (arguments-none ops) exact in
      let t = close-next text b qs at (exact-ahead text b (plain (codes ")") ∷ qs) at here) in
      let P : Part = record { term = p; priority = priority; reading = standing at s } in
      record { to = at; b = b; exact = here; is = ap (λ l. further text ops quotes (reads_all text ops quotes) P (behind_mark Comma l)) t.is }

  pub more_arguments-read : (t : Tree) (ts : Trees) → IsRead text ops quotes regular t → ArgumentsAreRead ts → ArgumentsAreRead (more t ts)
  more_arguments-read t ts read others p priority s b qs at exact =
      let inner = pieces quoting ops 999 alone t in
      let tail = arguments quoting ops ts in
      let here : Exact text b (plain (codes ",") ∷ (inner ++ (tail ++ qs))) at
      = subst (λ ps. Exact text b (plain (codes ",") ∷ ps) at) (append_assoc inner tail qs) (subst (λ ps. Exact text b (ps ++ qs) at) (arguments-more ops t ts) exact) in
      let c = comma-next text b (inner ++ (tail ++ qs)) at (exact-ahead text b (plain (codes ",") ∷ (inner ++ (tail ++ qs))) at here) in
      let g = all-read t ts s (behind_one 44) qs c.end read others (exact-ahead text (behind_one 44) (inner ++ (tail ++ qs)) c.end c.exact) in
      let P : Part = record { term = p; priority = priority; reading = standing at s } in
      record {
        to = g.to;
        b = g.b;
        exact = g.exact;
        is =
            ap (λ l. further text ops quotes (reads_all text ops quotes) P (behind_mark Comma l)) c.is
            ∙ ap (λ (o : Outcome Items). and_then o (λ q. Ok (record { first = p; others = more q.first q.others; reading = q.reading }))) g.is;
      }

  -- Functional notation

  functor-shows : (bare : Bool) (f : Chars) (start end : ℕ) → is_functor text ops quotes end ≡ true → stands_alone text ops quotes (Ok (Token (name_kind bare f) start end)) ≡ false
  functor-shows true f start end e = second_false (begins_as_operator text ops quotes f) _ (ap (λ t. not (t || is_minus text ops quotes f end)) e)
  functor-shows false f start end e = second_false (begins_as_operator text ops quotes f) _ (ap not e)

  pub functional-read : (f : Chars) (t : Tree) (ts : Trees) → is_readable_text f ≡ true → IsRead text ops quotes regular t → ArgumentsAreRead ts
      → ((m : ℕ) (place : Place) → pieces quoting ops m place (comp f t ts) ≡ plain (functor_by quoting f) ∷ plain (codes "(") ∷ (pieces quoting ops 999 alone t ++ arguments quoting ops ts))
      → IsRead text ops quotes regular (comp f t ts)
  functional-read f t ts readable read others written m place max s b qs at below fitting ahead follow closes =
      let text_of_name = both (all_scalars f) (not (is_too_long f)) readable in
      let inner = pieces quoting ops 999 alone t in
      let tail = arguments quoting ops ts in
      let R = inner ++ (tail ++ qs) in
      let here : Ahead text b (plain (functor f) ∷ plain (codes "(") ∷ R) at
      = subst (λ ps. Ahead text b (plain (functor f) ∷ plain (codes "(") ∷ ps) at) (append_assoc inner tail qs) (subst (λ ps. Ahead text b (ps ++ qs) at) (written m place) ahead) in
      let b1 : Behind = behind b None (functor f) in
      let r = functor-token f b None (text_behind b1 (plain (codes "(") ∷ R)) text_of_name.0 (apart b1 (plain (codes "(") ∷ R)) (leads-first b1 (plain (codes "(") ∷ R) (leads-plain 40 [] R refl)) in
      let n = name-next text f b (plain (functor f)) (plain (codes "(") ∷ R) at here r in
      let bytes = open-bytes text (behind b None (functor f)) R n.end (prefix-behind b None (functor f) r.first r.more r.spelled) n.exact in
      let byte : slice_index text n.end ≡ 40 = byte-at text n.end _ bytes in
      let behind : Exact text (behind_one 40) R (n.end + 1) = one-more text n.end 40 _ bytes in
      let g = all-read t ts s (behind_one 40) qs (n.end + 1) read others (exact-ahead text (behind_one 40) R (n.end + 1) behind) in
      let c = close-next text g.b qs g.to (exact-ahead text g.b (plain (codes ")") ∷ qs) g.to g.exact) in
      let is_call : is_functor text ops quotes n.end ≡ true = ap (λ d. d == 40) byte in
      let s' = after_all ts (after t s) in
      record {
        got = record {
          to = c.end;
          b = behind_one 41;
          exact = c.exact;
          priority = 0;
          is =
              from-primary text ops quotes max at s (Ok (Token (name_kind r.bare f) n.start n.end)) _ n.is
              (named-is text ops quotes regular r.bare f max at s n.start n.end (second_false (bytes_eq f (codes "-")) _ (ap is_ascii_digit byte))
              ∙ cond-false (is_too_long f) (refused AtomTooLong n.start) _ (not_true _ text_of_name.1)
              ∙ cond-true (is_functor text ops quotes n.end) (functional text ops quotes (reads_all text ops quotes) f (standing (n.end + 1) s))
              (atom_or_operator text ops quotes (reads text ops quotes) max (standing at s) f n.start n.end (ops f Prefix) (token_at text n.end)) is_call
              ∙ ap (λ (o : Outcome Items). and_then o (λ q. closed text Close (comp f q.first q.others) q.reading)) g.is
              ∙ closes-paren text ops quotes (told (comp f t ts) s) (standing g.to s') c.start c.end c.is);
          begins = ap begins_term n.is ∙ name-begins text ops quotes regular r.bare f n.start n.end;
        };
        low = omega arith;
        shows = λ _. ap (stands_alone text ops quotes) n.is ∙ functor-shows r.bare f n.start n.end is_call;
      }

  -- Curly brackets

  pub curly-read : (f : Chars) (t : Tree) → f ≡ codes "{}" → IsRead text ops quotes regular t
      → ((m : ℕ) (place : Place) → pieces quoting ops m place (comp f t none) ≡ plain (codes "{") ∷ (pieces quoting ops 1200 alone t ++ plain (codes "}") ∷ []))
      → IsRead text ops quotes regular (comp f t none)
  curly-read f t same read written m place max s b qs at below fitting ahead follow closes =
      let inner = pieces quoting ops 1200 alone t in
      let R = inner ++ (plain (codes "}") ∷ qs) in
      let here : Ahead text b (plain (codes "{") ∷ R) at
      = subst (λ ps. Ahead text b (plain (codes "{") ∷ ps) at) (append_assoc inner (plain (codes "}") ∷ []) qs) (subst (λ ps. Ahead text b (ps ++ qs) at) (written m place) ahead) in
      let n = open_curly-next text b R at here in
      let e = (read 1200 alone 1200 s (behind_one 123) (plain (codes "}") ∷ qs) n.end (omega arith) tt (exact-ahead text (behind_one 123) R n.end n.exact)
      (follow-close_curly text ops quotes regular 1200 qs) (λ _. closes-close_curly text ops quotes regular qs)).got in
      let c = close_curly-next text e.b qs e.to (exact-ahead text e.b (plain (codes "}") ∷ qs) e.to e.exact) in
      let P = part_of t s e.priority e.to in
      record {
        got = record {
          to = c.end;
          b = behind_one 125;
          exact = c.exact;
          priority = 0;
          is =
              from-primary text ops quotes max at s (Ok (Token (Punctuation OpenCurly) n.start n.end)) _ n.is
              (ap (curly_term text ops quotes (reads text ops quotes) (standing n.end s)) (begins-open (token_at text n.end) e.begins).1
              ∙ ap (λ (o : Outcome Part). and_then o (λ p. closed text CloseCurly (comp (codes "{}") p.term none) p.reading))
              (e.is ∙ (follow-close_curly text ops quotes regular 1200 qs).stops e.b e.to e.exact 1200 (omega arith) P refl)
              ∙ closes-curly text ops quotes (comp (codes "{}") (told t s) none) P.reading c.start c.end c.is
              ∙ ap (λ g. complete (comp g (told t s) none) P.reading c.end) (sym same));
          begins = ap begins_term n.is;
        };
        low = omega arith;
        shows = λ _. ap (stands_alone text ops quotes) n.is;
      }

  -- Lists

  -- What follows the elements of a list, to its closing bracket, where the elements are put before the tail.
  abbrev pub tailed : (Tree → Tree) → Reading → Option ℕ → Outcome Part
  tailed with r None = closed text CloseList (with (atom (codes "[]"))) r
  tailed with r (Some end) = and_then (reads text ops quotes 999 (moved r end)) (λ p. closed text CloseList (with p.term) p.reading)

  with_tail-is : (q : Items) (o : Option ℕ) → with_tail text ops quotes (reads text ops quotes) q o ≡ tailed (list_with q) q.reading o
  with_tail-is q None = refl
  with_tail-is q (Some end) = refl

  pub record GotTail (u p : Tree) (priority : ℕ) (s : Met) (qs : List Piece) (at : ℕ) : Type 0 where
    pub others : Trees
    pub middle : Reading
    pub is : goes_further (record { term = p; priority = priority; reading = standing at s }) ≡ Ok (record { first = p; others = others; reading = middle })
    pub tail : Tree
    pub to : ℕ
    pub b : Behind
    pub exact : Exact text b qs to
    pub ends_list : (with : Tree → Tree) → tailed with middle (behind_mark Bar (token_at text middle.at)) ≡ Ok (record { term = with tail; priority = 0; reading = standing to (after u s) })
    pub makes : list_behind others tail ≡ told u s

  -- A term as the tail of a list.
  abbrev pub TailIsRead : Tree → Type 0
  TailIsRead u = (p : Tree) (priority : ℕ) (s : Met) (b : Behind) (qs : List Piece) (at : ℕ) → Exact text b (list_tail quoting ops (more u none) ++ qs) at
      → GotTail u p priority s qs at

  end-read : (u : Tree) → tail_of u ≡ ends → u ≡ atom (codes "[]") → TailIsRead u
  end-read u e same p priority s b qs at exact =
      let here : Exact text b (plain (codes "]") ∷ qs) at
      = subst (λ ps. Exact text b (ps ++ qs) at) (list_tail-more ops u none ∙ ap (tail_by ops u) e) exact in
      let c = close_list-next text b qs at (exact-ahead text b (plain (codes "]") ∷ qs) at here) in
      let P : Part = record { term = p; priority = priority; reading = standing at s } in
      record {
        others = none;
        middle = standing at s;
        is = ap (λ l. further text ops quotes (reads_all text ops quotes) P (behind_mark Comma l)) c.is;
        tail = atom (codes "[]");
        to = c.end;
        b = behind_one 93;
        exact = c.exact;
        ends_list = λ with.
            ap (λ l. tailed with (standing at s) (behind_mark Bar l)) c.is
            ∙ closes-list text ops quotes (with (atom (codes "[]"))) (standing at s) c.start c.end c.is
            ∙ ap (λ v. Ok (record { term = with (atom (codes "[]")); priority = 0; reading = standing c.end (after v s) })) (sym same);
        makes = ap (λ v. told v s) (sym same);
      }

  bar-read : (u : Tree) → tail_of u ≡ partial → IsRead text ops quotes regular u → TailIsRead u
  bar-read u e read p priority s b qs at exact =
      let inner = pieces quoting ops 999 alone u in
      let R = inner ++ (plain (codes "]") ∷ qs) in
      let here : Exact text b (plain (codes "|") ∷ R) at
      = subst (λ ps. Exact text b (plain (codes "|") ∷ ps) at) (append_assoc inner (plain (codes "]") ∷ []) qs)
      (subst (λ ps. Exact text b (ps ++ qs) at) (list_tail-more ops u none ∙ ap (tail_by ops u) e) exact) in
      let n = bar-next text b R at (exact-ahead text b (plain (codes "|") ∷ R) at here) in
      let g = element u s (behind_one 124) (plain (codes "]") ∷ qs) n.end read (exact-ahead text (behind_one 124) R n.end n.exact)
      (follow-close_list text ops quotes regular 999 qs) (closes-close_list text ops quotes regular qs) in
      let c = close_list-next text g.b qs g.to (exact-ahead text g.b (plain (codes "]") ∷ qs) g.to g.exact) in
      let P : Part = record { term = p; priority = priority; reading = standing at s } in
      let Q = part_of u s g.priority g.to in
      record {
        others = none;
        middle = standing at s;
        is = ap (λ l. further text ops quotes (reads_all text ops quotes) P (behind_mark Comma l)) n.is;
        tail = told u s;
        to = c.end;
        b = behind_one 93;
        exact = c.exact;
        ends_list = λ with.
            ap (λ l. tailed with (standing at s) (behind_mark Bar l)) n.is
            ∙ ap (λ (o : Outcome Part). and_then o (λ p. closed text CloseList (with p.term) p.reading))
            (g.is ∙ (follow-close_list text ops quotes regular 999 qs).stops g.b g.to g.exact 999 (omega arith) Q refl)
            ∙ closes-list text ops quotes (with (told u s)) Q.reading c.start c.end c.is;
        makes = refl;
      }

  -- What may stand after an element.
  record Behindhand (u : Tree) (qs : List Piece) : Type 0 where
    follow : Follow text ops quotes 999 (list_tail quoting ops (more u none) ++ qs)
    closes : Closes text ops quotes (list_tail quoting ops (more u none) ++ qs)

  tail-pieces : (u : Tree) (w : Tail) (ps qs : List Piece) → tail_of u ≡ w → tail_by ops u w ≡ ps → Follow text ops quotes 999 (ps ++ qs) → Closes text ops quotes (ps ++ qs) → Behindhand u qs
  tail-pieces u w ps qs e f follow closes =
      let same : list_tail quoting ops (more u none) ≡ ps = list_tail-more ops u none ∙ ap (tail_by ops u) e ∙ f in
      record {
        follow = subst (λ ps. Follow text ops quotes 999 (ps ++ qs)) (sym same) follow;
        closes = subst (λ ps. Closes text ops quotes (ps ++ qs)) (sym same) closes;
      }

  ends-behind : (u : Tree) (qs : List Piece) → tail_of u ≡ ends → Behindhand u qs
  ends-behind u qs e = tail-pieces u ends (plain (codes "]") ∷ []) qs e refl (follow-close_list text ops quotes regular 999 qs) (closes-close_list text ops quotes regular qs)

  partial-behind : (u : Tree) (qs : List Piece) → tail_of u ≡ partial → Behindhand u qs
  partial-behind u qs e =
      let ps = pieces quoting ops 999 alone u ++ plain (codes "]") ∷ [] in
      tail-pieces u partial (plain (codes "|") ∷ ps) qs e refl (follow-bar text ops quotes regular 999 (ps ++ qs)) (closes-bar text ops quotes regular (ps ++ qs))

  goes-behind : (f : Chars) (h : Tree) (ts : Trees) (qs : List Piece) → tail_of (comp f h ts) ≡ goes_on → Behindhand (comp f h ts) qs
  goes-behind f h ts qs e =
      let ps = pieces quoting ops 999 alone h ++ list_tail quoting ops ts in
      tail-pieces (comp f h ts) goes_on (plain (codes ",") ∷ ps) qs e (elements-comp ops f h ts)
      (follow-comma text ops quotes regular 999 (ps ++ qs) (omega arith)) (closes-comma text ops quotes regular (ps ++ qs))

  atom-behind : (a : Chars) (qs : List Piece) (t : Bool) → bytes_eq a (codes "[]") ≡ t → Behindhand (atom a) qs
  atom-behind a qs true e = ends-behind (atom a) qs (ap (λ t. cond t ends partial) e)
  atom-behind a qs false e = partial-behind (atom a) qs (ap (λ t. cond t ends partial) e)

  comp-behind : (f : Chars) (h : Tree) (ts : Trees) (qs : List Piece) (t : Bool) → ((count ts == 1) && bytes_eq f (codes ".")) ≡ t → Behindhand (comp f h ts) qs
  comp-behind f h ts qs true e = goes-behind f h ts qs (ap (λ t. cond t goes_on partial) e)
  comp-behind f h ts qs false e = partial-behind (comp f h ts) qs (ap (λ t. cond t goes_on partial) e)

  list-behind : (u : Tree) (qs : List Piece) → Behindhand u qs
  list-behind (var n) qs = partial-behind (var n) qs refl
  list-behind (int i) qs = partial-behind (int i) qs refl
  list-behind (atom a) qs = atom-behind a qs (bytes_eq a (codes "[]")) refl
  list-behind (comp f h ts) qs = comp-behind f h ts qs ((count ts == 1) && bytes_eq f (codes ".")) refl

  -- The elements of a list, to its closing bracket.
  record GotElements (t u : Tree) (s : Met) (qs : List Piece) (at : ℕ) : Type 0 where
    others : Trees
    middle : Reading
    is : reads_all text ops quotes (standing at s) ≡ Ok (record { first = told t s; others = others; reading = middle })
    tail : Tree
    to : ℕ
    b : Behind
    exact : Exact text b qs to
    ends_list : (with : Tree → Tree) → tailed with middle (behind_mark Bar (token_at text middle.at)) ≡ Ok (record { term = with tail; priority = 0; reading = standing to (after u (after t s)) })
    makes : list_behind others tail ≡ told u (after t s)
    begins : begins_term (token_at text at) ≡ true

  elements-read : (t u : Tree) (s : Met) (b : Behind) (qs : List Piece) (at : ℕ) → IsRead text ops quotes regular t → TailIsRead u
      → Ahead text b (pieces quoting ops 999 alone t ++ (list_tail quoting ops (more u none) ++ qs)) at → GotElements t u s qs at
  elements-read t u s b qs at read tail_read ahead =
      let h = list-behind u qs in
      let e = element t s b (list_tail quoting ops (more u none) ++ qs) at read ahead h.follow h.closes in
      let P = part_of t s e.priority e.to in
      let g = tail_read (told t s) e.priority (after t s) e.b qs e.to e.exact in
      record {
        others = g.others;
        middle = g.middle;
        is =
            sequence-is text ops quotes (standing at s)
            ∙ ap (λ (o : Outcome Part). and_then o goes_further) (e.is ∙ h.follow.stops e.b e.to e.exact 999 (omega arith) P refl)
            ∙ g.is;
        tail = g.tail;
        to = g.to;
        b = g.b;
        exact = g.exact;
        ends_list = g.ends_list;
        makes = g.makes;
        begins = e.begins;
      }

  further-read : (h v : Tree) → IsRead text ops quotes regular h → TailIsRead v → TailIsRead (comp (codes ".") h (more v none))
  further-read h v read tail_read p priority s b qs at exact =
      let inner = pieces quoting ops 999 alone h in
      let tail = list_tail quoting ops (more v none) in
      let R = inner ++ (tail ++ qs) in
      let written : list_tail quoting ops (more (comp (codes ".") h (more v none)) none) ≡ plain (codes ",") ∷ (inner ++ tail)
      = list_tail-more ops (comp (codes ".") h (more v none)) none ∙ elements-comp ops (codes ".") h (more v none) in
      let here : Exact text b (plain (codes ",") ∷ R) at
      = subst (λ ps. Exact text b (plain (codes ",") ∷ ps) at) (append_assoc inner tail qs) (subst (λ ps. Exact text b (ps ++ qs) at) written exact) in
      let n = comma-next text b R at (exact-ahead text b (plain (codes ",") ∷ R) at here) in
      let g = elements-read h v s (behind_one 44) qs n.end read tail_read (exact-ahead text (behind_one 44) R n.end n.exact) in
      let P : Part = record { term = p; priority = priority; reading = standing at s } in
      record {
        others = more (told h s) g.others;
        middle = g.middle;
        is =
            ap (λ l. further text ops quotes (reads_all text ops quotes) P (behind_mark Comma l)) n.is
            ∙ ap (λ (o : Outcome Items). and_then o (λ q. Ok (record { first = p; others = more q.first q.others; reading = q.reading }))) g.is;
        tail = g.tail;
        to = g.to;
        b = g.b;
        exact = g.exact;
        ends_list = g.ends_list;
        makes = ap (cons (told h s)) g.makes;
      }

  -- A list whose elements are written in brackets.
  pub list-read : (f : Chars) (t u : Tree) → f ≡ codes "." → IsRead text ops quotes regular t → TailIsRead u
      → ((m : ℕ) (place : Place) → pieces quoting ops m place (comp f t (more u none)) ≡ plain (codes "[") ∷ (pieces quoting ops 999 alone t ++ list_tail quoting ops (more u none)))
      → IsRead text ops quotes regular (comp f t (more u none))
  list-read f t u same read tail_read written m place max s b qs at below fitting ahead follow closes =
      let inner = pieces quoting ops 999 alone t in
      let tail = list_tail quoting ops (more u none) in
      let R = inner ++ (tail ++ qs) in
      let here : Ahead text b (plain (codes "[") ∷ R) at
      = subst (λ ps. Ahead text b (plain (codes "[") ∷ ps) at) (append_assoc inner tail qs) (subst (λ ps. Ahead text b (ps ++ qs) at) (written m place) ahead) in
      let n = open_list-next text b R at here in
      let g = elements-read t u s (behind_one 91) qs n.end read tail_read (exact-ahead text (behind_one 91) R n.end n.exact) in
      let q : Items = record { first = told t s; others = g.others; reading = g.middle } in
      let last : Tree → Outcome Part = λ v. Ok (record { term = v; priority = 0; reading = standing g.to (after u (after t s)) }) in
      record {
        got = record {
          to = g.to;
          b = g.b;
          exact = g.exact;
          priority = 0;
          is =
              from-primary text ops quotes max at s (Ok (Token (Punctuation OpenList) n.start n.end)) _ n.is
              (ap (list_term text ops quotes (reads text ops quotes) (reads_all text ops quotes) (standing n.end s)) (begins-open (token_at text n.end) g.begins).0
              ∙ ap (λ (o : Outcome Items). and_then o (λ q. with_tail text ops quotes (reads text ops quotes) q (behind_mark Bar (token_at text q.reading.at)))) g.is
              ∙ with_tail-is q (behind_mark Bar (token_at text g.middle.at))
              ∙ g.ends_list (list_with q)
              ∙ ap (λ v. last (cons (told t s) v)) g.makes
              ∙ ap (λ g. last (comp g (told t s) (more (told u (after t s)) none))) (sym same));
          begins = ap begins_term n.is;
        };
        low = omega arith;
        shows = λ _. ap (stands_alone text ops quotes) n.is;
      }

  -- Tails

  goes_on-two : (ts : Trees) → (count ts == 1) ≡ true → (v : Tree) × (ts ≡ more v none)
  goes_on-two none e = absurd (differ (sym e))
  goes_on-two (more v none) e = (v, refl)
  goes_on-two (more v (more w ws)) e = let bad : suc (suc (count ws)) ≡ 1 = same_number (suc (suc (count ws))) 1 e in absurd (omega arith)

  pub var-tail : (n : ℕ) → IsRead text ops quotes regular (var n) → TailIsRead (var n)
  var-tail n read = bar-read (var n) refl read

  pub int-tail : (i : ℤ) → IsRead text ops quotes regular (int i) → TailIsRead (int i)
  int-tail i read = bar-read (int i) refl read

  pub atom-tail : (a : Chars) → IsRead text ops quotes regular (atom a) → TailIsRead (atom a)
  atom-tail a read = by (bytes_eq a (codes "[]")) refl where
    by : (t : Bool) → bytes_eq a (codes "[]") ≡ t → TailIsRead (atom a)
    by true e = end-read (atom a) (ap (λ t. cond t ends partial) e) (ap atom (same_text a (codes "[]") e))
    by false e = bar-read (atom a) (ap (λ t. cond t ends partial) e) read

  pub comp-tail : (f : Chars) (h : Tree) (ts : Trees) → IsRead text ops quotes regular (comp f h ts) → IsRead text ops quotes regular h
      → ((v : Tree) → ts ≡ more v none → TailIsRead v) → TailIsRead (comp f h ts)
  comp-tail f h ts read head later = by ((count ts == 1) && bytes_eq f (codes ".")) refl where
    by : (t : Bool) → ((count ts == 1) && bytes_eq f (codes ".")) ≡ t → TailIsRead (comp f h ts)
    by true e =
        let parts = both (count ts == 1) (bytes_eq f (codes ".")) e in
        let two = goes_on-two ts parts.0 in
        subst (λ g. TailIsRead (comp g h ts)) (sym (same_text f (codes ".") parts.1))
        (subst (λ us. TailIsRead (comp (codes ".") h us)) (sym two.1) (further-read h two.0 head (later two.0 two.1)))
    by false e = bar-read (comp f h ts) (ap (λ t. cond t goes_on partial) e) read
