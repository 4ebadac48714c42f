-- Terms of operators are read as they are written.
use Rattle.std.proofs.Common.{◌≡◌, ℕ, ◌-◌, ◌<◌, ◌≤◌, Bool, true, false, cond, ◌&&◌, ◌||◌, not, ◌==◌, nat_lt, nat_le, codes, List, [], ◌∷◌, ◌++◌, Some, None, Ok, append_assoc, refl, sym, ap, subst, ◌∙◌, arith, bytes_eq, IfSome}
use Rattle.std.specs.Str.{all_scalars}
use Rattle.std.proofs.lemmas.Bool.{cond-true}
use Rattle.std.proofs.lemmas.Bool.Decides.{nat_tests}
use Rattle.pl_term.specs.Tree.{Chars, Tree, comp, none, more}
use Rattle.pl_model.specs.declared.lexical.Mark.TheVariants.{Comma}
use Rattle.pl_model.specs.declared.lexical.TokenKind.{TokenKind}
use Rattle.pl_model.specs.declared.lexical.TokenKind.TheVariants.{Punctuation}
use Rattle.pl_model.specs.declared.lexical.Lexeme.TheVariants.{Token}
use Rattle.pl_model.specs.declared.operators.Kind.{Kind}
use Rattle.pl_model.specs.declared.operators.Kind.TheVariants.{Xfx, Xfy, Yfx, Fy, Fx, Xf, Yf}
use Rattle.pl_model.specs.declared.operators.Place.{Place as OperatorPlace}
use Rattle.pl_model.specs.declared.operators.Place.TheVariants.{Infix, Postfix}
use Rattle.pl_model.specs.declared.grammar.Quotes.{Quotes}
use Rattle.pl_model.specs.OperatorTable.{Entry}
use Rattle.pl_model.specs.Characters.{is_symbol_name, is_letter_name, is_solo_name, is_bare_name}
use Rattle.pl_model.specs.LexicalTokens.{token_at}
use Rattle.pl_model.specs.Grammar.{Part, Outcome, and_then}
use Rattle.pl_model.specs.TermGrammar.{Lookup, stands_alone, name_ahead, infix_term, fits, operation, left_argument, right_argument}
use Rattle.pl_model.specs.Writing.{Place, alone, operand, left_operand, name, quoted}
use Rattle.pl_model.specs.TermWriting.{Piece, plain, Behind, text_behind, quoting, pieces, parenthesized, needs_parentheses, clashes, is_left_associative, is_tight, operator_name, infix_pieces}
use Rattle.term_writer.specs.ReadingBack.{is_readable, IsRegular}
use Rattle.term_writer.proofs.Bits.{neither, all_true, differ, is_at_most, at_least, same_text, same_number, choose}
use Rattle.term_writer.proofs.Seams.{apart}
use Rattle.term_writer.proofs.FirstBytes.{FirstScalar}
use Rattle.term_writer.proofs.NameTokens.{NoBrackets, name_kind, name-token}
use Rattle.term_writer.proofs.Places.{Ahead, Exact, exact-ahead, space-ahead, name-next, behind_one, comma-next}
use Rattle.term_writer.proofs.Followers.{may_follow, follow-put, follow-symbol_name}
use Rattle.term_writer.proofs.Leads.{Leads, leads-first, leads-plain, leads-append, leads}
use Rattle.term_writer.proofs.Steps.{Met, standing, told, after, edge, reads, reads_on, goes-on, Follow, less-follow, Got, Read, in_parentheses}
use Rattle.term_writer.proofs.Leaves.{follow-close, infix-stops, Fitting, IsRead}

either : {A : Type 0} (a b : Bool) → (a || b) ≡ true → (a ≡ true → A) → (b ≡ true → A) → A
either {A} true b e f g = f refl
either {A} false b e f g = g e

-- Priorities

right-left : (n : ℕ) (k : Kind) → is_left_associative k ≡ true → right_argument (n, k) ≡ n - 1
right-left n Yfx e = refl
right-left n Xf e = refl
right-left n Yf e = refl
right-left n Xfx e = refl
right-left n Fx e = refl
right-left n Xfy e = cc
right-left n Fy e = cc

right-most : (n : ℕ) (k : Kind) → right_argument (n, k) ≤ n
right-most n Xfy = omega arith
right-most n Fy = omega arith
right-most n Yfx = omega arith
right-most n Xf = omega arith
right-most n Yf = omega arith
right-most n Xfx = omega arith
right-most n Fx = omega arith

pub left-most : (n : ℕ) (k : Kind) → left_argument (n, k) ≤ n
left-most n Yfx = omega arith
left-most n Yf = omega arith
left-most n Xfy = omega arith
left-most n Fy = omega arith
left-most n Xf = omega arith
left-most n Xfx = omega arith
left-most n Fx = omega arith

not_not : (t : Bool) → not t ≡ false → t ≡ true
not_not true e = refl
not_not false e = cc

-- What is read at the right end of a term without parentheses stays below what may stand after it.
edge-left : (n m p : ℕ) (k : Kind) (t : Bool) → (n == p) ≡ t → (t && not (is_left_associative k)) ≡ false → n ≤ m → m ≤ p → right_argument (n, k) ≤ p - 1
edge-left n m p k true same e low fitting =
    let is : n ≡ p = same_number n p same in
    omega (arith, right-left n k (not_not (is_left_associative k) e))
edge-left n m p k false differs e low fitting =
    let less : n < p = grind (arith, nat_tests) in
    omega (arith, right-most n k)

module _ (text : List ℕ) (ops : Lookup) (quotes : Quotes) (regular : IsRegular ops) where
  right-edge : (m : ℕ) (place : Place) (e : Entry) → e.0 ≤ m → clashes place e ≡ false → Fitting text ops quotes regular m place → right_argument e ≤ edge m place
  right-edge m alone e low no_clash fitting = omega (arith, right-most e.0 e.1)
  right-edge m operand e low no_clash fitting = omega (arith, right-most e.0 e.1)
  right-edge m (left_operand p) e low no_clash fitting = edge-left e.0 m p e.1 (e.0 == p) refl no_clash low fitting

  -- A term of an operator, without parentheses.
  pub record GotBody (t : Tree) (e : Entry) (max : ℕ) (s : Met) (qs : List Piece) (at : ℕ) : Type 0 where
    pub got : Got text ops quotes t max s qs at
    pub same : got.priority ≡ e.0
    pub shows : stands_alone text ops quotes (token_at text at) ≡ false

  abbrev pub BodyIsRead : Tree → Entry → List Piece → Type 0
  BodyIsRead t e body = (max : ℕ) (s : Met) (b : Behind) (qs : List Piece) (at : ℕ) → e.0 ≤ max → Ahead text b (body ++ qs) at
      → Follow text ops quotes (right_argument e) qs → GotBody t e max s qs at

  parens-append : (body qs : List Piece) → parenthesized true body ++ qs ≡ plain (codes "(") ∷ (body ++ plain (codes ")") ∷ qs)
  parens-append body qs = ap (λ ps. plain (codes "(") ∷ ps) (append_assoc body (plain (codes ")") ∷ []) qs)

  pub operation-read : (t : Tree) (e : Entry) (body : List Piece) → e.0 ≤ 1200 → BodyIsRead t e body
      → ((m : ℕ) (place : Place) → pieces quoting ops m place t ≡ parenthesized (needs_parentheses m place e) body) → IsRead text ops quotes regular t
  operation-read t e body bound is_read written m place max s b qs at below fitting ahead follow closes =
      by (needs_parentheses m place e) refl (subst (λ ps. Ahead text b (ps ++ qs) at) (written m place) ahead)
    where
      by : (u : Bool) → needs_parentheses m place e ≡ u → Ahead text b (parenthesized (needs_parentheses m place e) body ++ qs) at → Read text ops quotes t m place max s qs at
      by true needs ahead =
          in_parentheses text ops quotes t body qs m place max s b at
          (subst (λ ps. Ahead text b ps at) (ap (λ u. parenthesized u body ++ qs) needs ∙ parens-append body qs) ahead)
          (λ b at ahead. (is_read 1200 s b (plain (codes ")") ∷ qs) at bound ahead (follow-close text ops quotes regular (right_argument e) qs)).got)
      by false needs ahead =
          let parts = neither (nat_lt m e.0) (clashes place e) needs in
          let low = at_least m e.0 parts.0 in
          let g = is_read max s b qs at (omega arith) (subst (λ ps. Ahead text b ps at) (ap (λ u. parenthesized u body ++ qs) needs) ahead)
          (less-follow text ops quotes (right_argument e) (edge m place) qs (right-edge m place e low parts.1 fitting) follow) in
          record { got = g.got; low = omega (arith, g.same); shows = λ _. g.shows }

  -- The token of an operator, and what stands after it.
  pub record OperatorNext (f : Chars) (R : List Piece) (at : ℕ) : Type 0 where
    pub kind : TokenKind
    pub start : ℕ
    pub end : ℕ
    pub is : token_at text at ≡ Ok (Token kind start end)
    pub named : name_ahead text ops quotes (Ok (Token kind start end)) ≡ Some (f, end)
    pub b : Behind
    pub ahead : Exact text b R end

  kind-ahead : (bare : Bool) (f : Chars) (start end : ℕ) → name_ahead text ops quotes (Ok (Token (name_kind bare f) start end)) ≡ Some (f, end)
  kind-ahead true f start end = refl
  kind-ahead false f start end = refl

  pub operator-no_brackets : (f : Chars) (p : OperatorPlace) (e : Entry) → ops f p ≡ Some e → NoBrackets f
  operator-no_brackets f p e is = record {
    no_list = λ same. let none_here : None ≡ Some e = sym (regular.no_brackets p) ∙ ap (λ g. ops g p) (sym same) ∙ is in cc;
    no_curly = λ same. let none_here : None ≡ Some e = sym (regular.no_curly p) ∙ ap (λ g. ops g p) (sym same) ∙ is in cc;
  }

  pub operator-next : (f : Chars) (b : Behind) (R : List Piece) (at : ℕ) → all_scalars f ≡ true → NoBrackets f → Ahead text b (plain (operator_name quoting f) ∷ R) at
      → ((b : Behind) → FirstScalar (text_behind b R)) → OperatorNext f R at
  operator-next f b R at scalars brackets ahead first = by (bytes_eq f (codes ",")) refl where
    by : (t : Bool) → bytes_eq f (codes ",") ≡ t → OperatorNext f R at
    by true e =
        let same = same_text f (codes ",") e in
        let here : Ahead text b (plain (codes ",") ∷ R) at
        = subst (λ g. Ahead text b (plain g ∷ R) at) same (subst (λ t. Ahead text b (plain (cond t f (name f)) ∷ R) at) e ahead) in
        let t = comma-next text b R at here in
        record {
          kind = Punctuation Comma;
          start = t.start;
          end = t.end;
          is = t.is;
          named = ap (λ g. Some (g, t.end)) (sym same);
          b = behind_one 44;
          ahead = t.exact;
        }
    by false e =
        let here : Ahead text b (plain (name f) ∷ R) at = subst (λ t. Ahead text b (plain (cond t f (name f)) ∷ R) at) e ahead in
        let r = name-token f b None _ scalars brackets (apart _ R) (first _) in
        let t = name-next text f b (plain (name f)) R at here r in
        record {
          kind = name_kind r.bare f;
          start = t.start;
          end = t.end;
          is = t.is;
          named = kind-ahead r.bare f t.start t.end;
          b = _;
          ahead = t.exact;
        }

  -- An infix operator between its operands.
  record InfixNext (f : Chars) (R : List Piece) (at : ℕ) : Type 0 where
    kind : TokenKind
    start : ℕ
    end : ℕ
    is : token_at text at ≡ Ok (Token kind start end)
    named : name_ahead text ops quotes (Ok (Token kind start end)) ≡ Some (f, end)
    b : Behind
    ahead : Ahead text b R end

  infix-next : (f : Chars) (b : Behind) (R : List Piece) (at : ℕ) → all_scalars f ≡ true → NoBrackets f → Ahead text b (infix_pieces quoting f ++ R) at
      → Leads R → InfixNext f R at
  infix-next f b R at scalars brackets ahead l = by (is_tight f) refl where
    tight : List Piece
    tight = plain (operator_name quoting f) ∷ []

    spaced : List Piece
    spaced = plain (codes " ") ∷ plain (operator_name quoting f) ∷ plain (codes " ") ∷ []

    by : (t : Bool) → is_tight f ≡ t → InfixNext f R at
    by true e =
        let n = operator-next f b R at scalars brackets (subst (λ t. Ahead text b (cond t tight spaced ++ R) at) e ahead) (λ b. leads-first b R l) in
        record { kind = n.kind; start = n.start; end = n.end; is = n.is; named = n.named; b = n.b; ahead = exact-ahead text n.b R n.end n.ahead }
    by false e =
        let here = space-ahead text b (plain (operator_name quoting f) ∷ plain (codes " ") ∷ R) at (subst (λ t. Ahead text b (cond t tight spaced ++ R) at) e ahead) in
        let n = operator-next f (behind_one 32) (plain (codes " ") ∷ R) at scalars brackets here (λ b. leads-first b (plain (codes " ") ∷ R) (leads-plain 32 [] R refl)) in
        record {
          kind = n.kind;
          start = n.start;
          end = n.end;
          is = n.is;
          named = n.named;
          b = behind_one 32;
          ahead = space-ahead text n.b R n.end (exact-ahead text n.b (plain (codes " ") ∷ R) n.end n.ahead);
        }

  bare-name : (f : Chars) → is_symbol_name f ≡ true → name f ≡ f
  bare-name f e = cond-true (is_bare_name f) f (quoted f) (right_true (is_letter_name f) _ (left (is_symbol_name f) (is_solo_name f) e)) where
    right_true : (a b : Bool) → b ≡ true → (a || b) ≡ true
    right_true true b e = refl
    right_true false b e = e

    left : (a b : Bool) → a ≡ true → (a || b) ≡ true
    left true b e = refl
    left false b e = cc

  symbol-follows : (f : Chars) (b : Behind) (R : List Piece) → is_symbol_name f ≡ true → may_follow (text_behind b (plain f ∷ R)) ≡ true
  symbol-follows [] b R e = cc
  symbol-follows (d ∷ ds) b R e = follow-put b d ds _ (follow-symbol_name d ds _ e)

  -- The comma, the semicolon and symbol names may follow an operand directly.
  pub tight-follows : (f : Chars) (b : Behind) (R : List Piece) → is_tight f ≡ true → may_follow (text_behind b (plain (operator_name quoting f) ∷ R)) ≡ true
  tight-follows f b R e =
      choose (λ g. may_follow (text_behind b (plain g ∷ R)) ≡ true) (bytes_eq f (codes ",")) f (name f)
      (λ is. subst (λ g. may_follow (text_behind b (plain g ∷ R)) ≡ true) (sym (same_text f (codes ",") is)) (follow-put b 44 [] _ refl))
      (λ no_comma. either (bytes_eq f (codes ",")) _ e (λ is. absurd (differ (sym is ∙ no_comma)))
      (λ e. either (bytes_eq f (codes ";")) (is_symbol_name f) e
      (λ is. subst (λ g. may_follow (text_behind b (plain (name g) ∷ R)) ≡ true) (sym (same_text f (codes ";") is)) (follow-put b 59 [] _ refl))
      (λ is. subst (λ g. may_follow (text_behind b (plain g ∷ R)) ≡ true) (sym (bare-name f is)) (symbol-follows f b R is))))

  pub space-follows : (b : Behind) (R : List Piece) → may_follow (text_behind b (plain (codes " ") ∷ R)) ≡ true
  space-follows b R = follow-put b 32 [] _ refl

  infix-follow : (f : Chars) (e : Entry) (R : List Piece) → all_scalars f ≡ true → ops f Infix ≡ Some e → Leads R → Follow text ops quotes (e.0 - 1) (infix_pieces quoting f ++ R)
  infix-follow f e R scalars is l = record {
    chars = λ b.
        choose (λ ps. may_follow (text_behind b (ps ++ R)) ≡ true) (is_tight f) _ _ (tight-follows f b R) (λ _. space-follows b (plain (operator_name quoting f) ∷ plain (codes " ") ∷ R));
    stops = λ b at exact k below p place.
        let n = infix-next f b R at scalars (operator-no_brackets f Infix e is) (exact-ahead text b (infix_pieces quoting f ++ R) at exact) l in
        goes-on text ops quotes k p at n.kind n.start n.end f place n.is n.named
        ∙ ap (λ o. operation text ops quotes (reads text ops quotes) (reads_on text ops quotes k) k p f n.end o (ops f Postfix)) is
        ∙ infix-stops text ops quotes regular k p f n.end e (ops f Postfix) (less-one e.0 k (positive f Infix e is) below);
  } where
    less-one : (n k : ℕ) → 0 < n → k ≤ n - 1 → k < n
    less-one n k some below = omega arith

    positive : (f : Chars) (p : OperatorPlace) (e : Entry) → ops f p ≡ Some e → 0 < e.0
    positive f p e is = (subst (λ o. IfSome o (λ (e : Entry). (0 < e.0) × (e.0 ≤ 1200))) is (regular.bounded f p)).0

  pub infix-body : (f : Chars) (l r : Tree) (e : Entry) → ops f Infix ≡ Some e → all_scalars f ≡ true → is_readable r ≡ true
      → IsRead text ops quotes regular l → IsRead text ops quotes regular r
      → BodyIsRead (comp f l (more r none)) e (pieces quoting ops (left_argument e) (left_operand e.0) l ++ (infix_pieces quoting f ++ pieces quoting ops (right_argument e) operand r))
  infix-body f l r e is scalars readable left_read right_read max s b qs at below ahead follow =
      let Lp = pieces quoting ops (left_argument e) (left_operand e.0) l in
      let Rp = pieces quoting ops (right_argument e) operand r in
      let R = Rp ++ qs in
      let apart_again : (Lp ++ (infix_pieces quoting f ++ Rp)) ++ qs ≡ Lp ++ (infix_pieces quoting f ++ R)
      = append_assoc Lp (infix_pieces quoting f ++ Rp) qs ∙ ap (λ ps. Lp ++ ps) (append_assoc (infix_pieces quoting f) Rp qs) in
      let lead : Leads R = leads-append Rp qs (leads ops r readable (right_argument e) operand) in
      let left_low = left-most e.0 e.1 in
      let L = left_read (left_argument e) (left_operand e.0) max s b (infix_pieces quoting f ++ R) at (omega arith) left_low
      (subst (λ ps. Ahead text b ps at) apart_again ahead) (infix-follow f e R scalars is lead) (λ no_operand. absurd (differ no_operand)) in
      let n = infix-next f L.got.b R L.got.to scalars (operator-no_brackets f Infix e is) (exact-ahead text L.got.b (infix_pieces quoting f ++ R) L.got.to L.got.exact) lead in
      let s1 = after l s in
      let right = right_read (right_argument e) operand (right_argument e) s1 n.b qs n.end (omega arith) tt n.ahead follow (λ no_operand. absurd (differ no_operand)) in
      let P : Part = record { term = told l s; priority = L.got.priority; reading = standing L.got.to s1 } in
      let Q : Part = record { term = told r s1; priority = right.got.priority; reading = standing right.got.to (after r s1) } in
      let fit : fits max P e ≡ true = all_true (nat_le e.0 max) (nat_le L.got.priority (left_argument e)) (is_at_most e.0 max below) (is_at_most L.got.priority (left_argument e) L.low) in
      record {
        got = record {
          to = right.got.to;
          b = right.got.b;
          exact = right.got.exact;
          priority = e.0;
          is =
              L.got.is
              ∙ goes-on text ops quotes max P L.got.to n.kind n.start n.end f refl n.is n.named
              ∙ ap (λ o. operation text ops quotes (reads text ops quotes) (reads_on text ops quotes max) max P f n.end o (ops f Postfix)) is
              ∙ cond-true (fits max P e) (infix_term text ops quotes (reads text ops quotes) (reads_on text ops quotes max) P f n.end e) (Ok P) fit
              ∙ ap (λ (o : Outcome Part). and_then o (λ q. reads_on text ops quotes max (record { term = comp f (told l s) (more q.term none); priority = e.0; reading = q.reading })))
              (right.got.is ∙ follow.stops right.got.b right.got.to right.got.exact (right_argument e) (omega arith) Q refl);
          begins = L.got.begins;
        };
        same = refl;
        shows = L.shows refl;
      }
