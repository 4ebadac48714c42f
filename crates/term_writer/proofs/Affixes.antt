-- Terms of prefix and postfix operators are read as they are written.
use Rattle.std.proofs.Common.{◌≡◌, ℕ, ◌-◌, ◌<◌, ◌≤◌, Bool, true, false, cond, ◌&&◌, ◌||◌, not, ◌==◌, nat_lt, nat_le, codes, List, [], ◌∷◌, ◌++◌, slice_index, Option, Some, None, Ok, is_some, IfSome, append_assoc, refl, sym, ap, subst, ◌∙◌, arith, bytes_eq}
use Rattle.std.specs.Char.{is_ascii_digit}
use Rattle.std.specs.Str.{all_scalars, encode_utf8_all}
use Rattle.std.proofs.lemmas.Bool.{cond-true, cond-false}
use Rattle.std.proofs.lemmas.Bool.Decides.{nat_tests}
use Rattle.pl_term.specs.Tree.{Chars, Tree, atom, comp, none}
use Rattle.pl_model.specs.declared.syntax.SyntaxKind.TheVariants.{PriorityClash}
use Rattle.pl_model.specs.declared.lexical.Lexeme.TheVariants.{Token}
use Rattle.pl_model.specs.declared.operators.Place.TheVariants.{Prefix, Infix, Postfix}
use Rattle.pl_model.specs.declared.grammar.Quotes.{Quotes}
use Rattle.pl_model.specs.OperatorTable.{Entry}
use Rattle.pl_model.specs.LexicalTokens.{Lexed, token_at}
use Rattle.pl_model.specs.Grammar.{Part, Outcome, and_then, refused}
use Rattle.pl_model.specs.TermGrammar.{Lookup, is_too_long, complete, stands_alone, atom_or_operator, prefix_term, postfix_term, fits, operation, left_argument, right_argument}
use Rattle.pl_model.specs.Writing.{operand, left_operand, name, would_join}
use Rattle.pl_model.specs.TermWriting.{Piece, plain, before_operand, Behind, behind, would_bind, text_behind, quoting, pieces, is_tight, operator_name, postfix_pieces}
use Rattle.term_writer.specs.ReadingBack.{is_readable, is_readable_text, IsRegular}
use Rattle.term_writer.proofs.Bits.{both, neither, all_true, not_true, second_false, differ, is_at_most, not_below, other_text, choose}
use Rattle.term_writer.proofs.Seams.{apart, Apart}
use Rattle.term_writer.proofs.FirstBytes.{FirstScalar, byte-fails}
use Rattle.term_writer.proofs.NameTokens.{NoBrackets, name_kind, name-token}
use Rattle.term_writer.proofs.Places.{Ahead, exact-ahead, space-ahead, byte-at, name-next, behind_one}
use Rattle.term_writer.proofs.Followers.{may_follow, follower}
use Rattle.term_writer.proofs.Leads.{Leads, leads-first, leads-append, leads}
use Rattle.term_writer.proofs.Steps.{Met, standing, told, after, begins_term, begins-some, reads, reads_on, from-primary, goes-on, Follow}
use Rattle.term_writer.proofs.Leaves.{postfix-stops, IsRead, named-atom, name-begins, name-shows}
use Rattle.term_writer.proofs.Operations.{left-most, BodyIsRead, OperatorNext, operator-no_brackets, operator-next, tight-follows, space-follows}

-- A piece of a prefix operator is no functor of what is after it, and no sign.
record Unbound (f : Chars) (T : Chars) : Type 0 where
  no_open : (slice_index (encode_utf8_all T) 0 == 40) ≡ false
  no_sign : (bytes_eq f (codes "-") && is_ascii_digit (slice_index (encode_utf8_all T) 0)) ≡ false

binds_not : (b : Behind) (f : Chars) (x : ℕ) → b.prefix ≡ Some f → (would_join b.last x || would_bind b.prefix x) ≡ false → would_bind (Some f) x ≡ false
binds_not b f x is e = ap (λ o. would_bind o x) (sym is) ∙ (neither (would_join b.last x) (would_bind b.prefix x) e).1

binds_first : (b : Behind) (f : Chars) (T : Chars) → b.prefix ≡ Some f → Apart b T → (x : ℕ) (xs : Chars) → T ≡ x ∷ xs → would_bind (Some f) x ≡ false
binds_first b f [] is h x xs e = cc
binds_first b f (y ∷ ys) is h x xs e = let same : y ≡ x = cc in ap (would_bind (Some f)) (sym same) ∙ binds_not b f y is h

unbound : (b : Behind) (f : Chars) (T : Chars) → b.prefix ≡ Some f → Apart b T → FirstScalar T → Unbound f T
unbound b f T is h first = record {
  no_open =
      byte-fails (λ d. d == 40) (λ d high. grind (arith, nat_tests)) refl T first
      (λ x xs e. (neither (x == 40) (bytes_eq f (codes "-") && is_ascii_digit x) (binds_first b f T is h x xs e)).0);
  no_sign =
      byte-fails (λ d. bytes_eq f (codes "-") && is_ascii_digit d) (λ d high. second_false (bytes_eq f (codes "-")) (is_ascii_digit d) (no_digit d high))
      (second_false (bytes_eq f (codes "-")) (is_ascii_digit 0) refl) T first
      (λ x xs e. (neither (x == 40) (bytes_eq f (codes "-") && is_ascii_digit x) (binds_first b f T is h x xs e)).1);
} where
  no_digit : (d : ℕ) → 128 ≤ d → is_ascii_digit d ≡ false
  no_digit d high = grind (arith, nat_tests)

pub prefix-behind : (b : Behind) (o : Option Chars) (p : Chars) (d : ℕ) (ds : Chars) → p ≡ d ∷ ds → (behind b o p).prefix ≡ o
prefix-behind b o p d ds e = ap (λ cs. (behind b o cs).prefix) e

module _ (text : List ℕ) (ops : Lookup) (quotes : Quotes) (regular : IsRegular ops) where
  pub not_comma : (f : Chars) (e : Entry) → ops f Prefix ≡ Some e → bytes_eq f (codes ",") ≡ false
  not_comma f e is =
      other_text f (codes ",") (λ same. let none_here : None ≡ Some e = sym regular.no_prefix ∙ ap (λ g. ops g Prefix) (sym same) ∙ is in cc)

  operand-reads : (f : Chars) (t : Tree) (e : Entry) (max at start end : ℕ) (s : Met) (o : Option Entry) (l : Lexed) (P : Part) → o ≡ Some e → e.0 ≤ max
      → begins_term l ≡ true → stands_alone text ops quotes l ≡ false → reads text ops quotes (right_argument e) (standing end s) ≡ Ok P
      → atom_or_operator text ops quotes (reads text ops quotes) max (standing at s) f start end o l
      ≡ Ok (record { term = comp f P.term none; priority = e.0; reading = P.reading })
  operand-reads f t e max at start end s o l P is below begins shows inner =
      let k = begins-some l begins in
      ap (λ o. atom_or_operator text ops quotes (reads text ops quotes) max (standing at s) f start end o l) is
      ∙ ap (atom_or_operator text ops quotes (reads text ops quotes) max (standing at s) f start end (Some e)) k.1
      ∙ cond-false (stands_alone text ops quotes (Ok k.0)) (complete (atom f) (standing at s) end) (prefix_term text ops quotes (reads text ops quotes) max (standing at s) f start end e)
      (ap (stands_alone text ops quotes) (sym k.1) ∙ shows)
      ∙ cond-false (nat_lt max e.0) (refused PriorityClash start) _ (not_below max e.0 below)
      ∙ ap (λ (o : Outcome Part). and_then o (λ p. Ok (record { term = comp f p.term none; priority = e.0; reading = p.reading }))) inner

  pub prefix-body : (f : Chars) (t : Tree) (e : Entry) → ops f Prefix ≡ Some e → is_readable_text f ≡ true → is_readable t ≡ true → IsRead text ops quotes regular t
      → BodyIsRead text ops quotes regular (comp f t none) e (before_operand f (operator_name quoting f) ∷ pieces quoting ops (right_argument e) operand t)
  prefix-body f t e is readable readable_t read max s b qs at below ahead follow =
      let text_of_name = both (all_scalars f) (not (is_too_long f)) readable in
      let Tp = pieces quoting ops (right_argument e) operand t in
      let R = Tp ++ qs in
      let lead : Leads R = leads-append Tp qs (leads ops t readable_t (right_argument e) operand) in
      let here : Ahead text b (before_operand f (name f) ∷ R) at = subst (λ u. Ahead text b (before_operand f (cond u f (name f)) ∷ R) at) (not_comma f e is) ahead in
      let r = name-token f b (Some f) _ text_of_name.0 (operator-no_brackets text ops quotes regular f Prefix e is) (apart _ R) (leads-first _ R lead) in
      let n = name-next text f b (before_operand f (name f)) R at here r in
      let free = unbound (behind b (Some f) (name f)) f _ (prefix-behind b (Some f) (name f) r.first r.more r.spelled) (apart _ R) (leads-first _ R lead) in
      let inner = read (right_argument e) operand (right_argument e) s _ qs n.end (omega arith) tt (exact-ahead text _ R n.end n.exact) follow (λ no_operand. absurd (differ no_operand)) in
      let P : Part = record { term = told t s; priority = inner.got.priority; reading = standing inner.got.to (after t s) } in
      let byte = byte-at text n.end _ n.exact in
      record {
        got = record {
          to = inner.got.to;
          b = inner.got.b;
          exact = inner.got.exact;
          priority = e.0;
          is =
              from-primary text ops quotes max at s (Ok (Token (name_kind r.bare f) n.start n.end)) _ n.is
              (named-atom text ops quotes regular r.bare f max at s n.start n.end (ap (λ d. bytes_eq f (codes "-") && is_ascii_digit d) byte ∙ free.no_sign) (not_true _ text_of_name.1)
              (ap (λ d. d == 40) byte ∙ free.no_open)
              ∙ operand-reads f t e max at n.start n.end s (ops f Prefix) (token_at text n.end) P is below inner.got.begins (inner.shows refl)
              (inner.got.is ∙ follow.stops inner.got.b inner.got.to inner.got.exact (right_argument e) (omega arith) P refl));
          begins = ap begins_term n.is ∙ name-begins text ops quotes regular r.bare f n.start n.end;
        };
        same = refl;
        shows = ap (stands_alone text ops quotes) n.is
            ∙ name-shows text ops quotes regular r.bare f n.start n.end (second_false (is_some (ops f Infix)) _ (ap (λ o. not (is_some o)) is));
      }

  -- Postfix operators

  no_infix : (f : Chars) (e : Entry) → ops f Postfix ≡ Some e → ops f Infix ≡ None
  no_infix f e is = by (ops f Infix) refl where
    by : (o : Option Entry) → ops f Infix ≡ o → o ≡ None
    by None h = refl
    by (Some x) h =
        let none_here : None ≡ Some e = sym (regular.apart f (ap is_some h)) ∙ is in cc

  postfix-next : (f : Chars) (b : Behind) (R : List Piece) (at : ℕ) → all_scalars f ≡ true → NoBrackets f → Ahead text b (postfix_pieces quoting f ++ R) at
      → ((b : Behind) → FirstScalar (text_behind b R)) → OperatorNext text ops quotes regular f R at
  postfix-next f b R at scalars brackets ahead first = by (is_tight f) refl where
    tight : List Piece
    tight = plain (operator_name quoting f) ∷ []

    spaced : List Piece
    spaced = plain (codes " ") ∷ plain (operator_name quoting f) ∷ []

    by : (t : Bool) → is_tight f ≡ t → OperatorNext text ops quotes regular f R at
    by true e = operator-next text ops quotes regular f b R at scalars brackets (subst (λ t. Ahead text b (cond t tight spaced ++ R) at) e ahead) first
    by false e =
        operator-next text ops quotes regular f (behind_one 32) R at scalars brackets
        (space-ahead text b (plain (operator_name quoting f) ∷ R) at (subst (λ t. Ahead text b (cond t tight spaced ++ R) at) e ahead)) first

  postfix-follow : (f : Chars) (e : Entry) (R : List Piece) → all_scalars f ≡ true → ops f Postfix ≡ Some e → ((b : Behind) → FirstScalar (text_behind b R))
      → Follow text ops quotes (e.0 - 1) (postfix_pieces quoting f ++ R)
  postfix-follow f e R scalars is first = record {
    chars = λ b.
        choose (λ ps. may_follow (text_behind b (ps ++ R)) ≡ true) (is_tight f) _ _ (tight-follows text ops quotes regular f b R)
        (λ _. space-follows text ops quotes regular b (plain (operator_name quoting f) ∷ R));
    stops = λ b at exact k below p place.
        let n = postfix-next f b R at scalars (operator-no_brackets text ops quotes regular f Postfix e is) (exact-ahead text b (postfix_pieces quoting f ++ R) at exact) first in
        goes-on text ops quotes k p at n.kind n.start n.end f place n.is n.named
        ∙ ap (λ o. operation text ops quotes (reads text ops quotes) (reads_on text ops quotes k) k p f n.end o (ops f Postfix)) (no_infix f e is)
        ∙ ap (operation text ops quotes (reads text ops quotes) (reads_on text ops quotes k) k p f n.end None) is
        ∙ postfix-stops text ops quotes regular k p f n.end e (less-one e.0 k positive below);
  } where
    less-one : (n k : ℕ) → 0 < n → k ≤ n - 1 → k < n
    less-one n k some below = omega arith

    positive : 0 < e.0
    positive = (subst (λ o. IfSome o (λ (e : Entry). (0 < e.0) × (e.0 ≤ 1200))) is (regular.bounded f Postfix)).0

  pub postfix-body : (f : Chars) (t : Tree) (e : Entry) → ops f Postfix ≡ Some e → all_scalars f ≡ true → IsRead text ops quotes regular t
      → BodyIsRead text ops quotes regular (comp f t none) e (pieces quoting ops (left_argument e) (left_operand e.0) t ++ postfix_pieces quoting f)
  postfix-body f t e is scalars read max s b qs at below ahead follow =
      let Tp = pieces quoting ops (left_argument e) (left_operand e.0) t in
      let first : (b : Behind) → FirstScalar (text_behind b qs) = λ b. (follower _ (follow.chars b)).first in
      let inner = read (left_argument e) (left_operand e.0) max s b (postfix_pieces quoting f ++ qs) at (omega (arith, left-most e.0 e.1)) (left-most e.0 e.1)
      (subst (λ ps. Ahead text b ps at) (append_assoc Tp (postfix_pieces quoting f) qs) ahead) (postfix-follow f e qs scalars is first) (λ no_operand. absurd (differ no_operand)) in
      let n = postfix-next f inner.got.b qs inner.got.to scalars (operator-no_brackets text ops quotes regular f Postfix e is)
      (exact-ahead text inner.got.b (postfix_pieces quoting f ++ qs) inner.got.to inner.got.exact) first in
      let P : Part = record { term = told t s; priority = inner.got.priority; reading = standing inner.got.to (after t s) } in
      let fit : fits max P e ≡ true = all_true (nat_le e.0 max) (nat_le inner.got.priority (left_argument e)) (is_at_most e.0 max below) (is_at_most inner.got.priority (left_argument e) inner.low) in
      record {
        got = record {
          to = n.end;
          b = n.b;
          exact = n.ahead;
          priority = e.0;
          is =
              inner.got.is
              ∙ goes-on text ops quotes max P inner.got.to n.kind n.start n.end f refl n.is n.named
              ∙ ap (λ o. operation text ops quotes (reads text ops quotes) (reads_on text ops quotes max) max P f n.end o (ops f Postfix)) (no_infix f e is)
              ∙ ap (operation text ops quotes (reads text ops quotes) (reads_on text ops quotes max) max P f n.end None) is
              ∙ cond-true (fits max P e) (postfix_term text ops quotes (reads_on text ops quotes max) P f n.end e) (Ok P) fit;
          begins = inner.got.begins;
        };
        same = refl;
        shows = inner.shows refl;
      }
