-- The first character of a written term.
use Rattle.std.proofs.Common.{◌≡◌, ℕ, ℤ, pos, negsuc, ◌^◌, ◌<◌, suc, Bool, true, false, cond, ◌&&◌, ◌||◌, not, codes, List, [], ◌∷◌, ◌++◌, None, refl, sym, ap, subst, ◌∙◌, arith, bytes_eq}
use Rattle.std.specs.Char.{IsScalar}
use Rattle.std.specs.Str.{all_scalars}
use Rattle.std.specs.Str.Parse.{AllDigits}
use Rattle.std.specs.Fmt.{decimal, signed_decimal}
use Rattle.std.proofs.lemmas.Bool.Decides.{nat_tests}
use Rattle.std.proofs.lemmas.Str.Parse.{digit_from_value}
use Rattle.std.proofs.Math.Utf8.{low_scalar}
use Rattle.pl_term.specs.Tree.{Chars, Tree, Trees, var, int, atom, comp, none, more, count}
use Rattle.pl_model.specs.TermGrammar.{Lookup, is_too_long, left_argument}
use Rattle.pl_model.specs.Writing.{Place, left_operand, would_join, name, functor}
use Rattle.pl_model.specs.TermWriting.{Piece, plain, before_operand, Behind, would_bind, put, text_behind, quoting, pieces, parenthesized, needs_parentheses, operator_name, functor_by, list, curly_brackets, infix_operation, prefix_operation, postfix_operation, functional}
use Rattle.term_writer.specs.ReadingBack.{is_readable, all_readable, is_readable_text, has_64_bits}
use Rattle.term_writer.proofs.Bits.{both, same_text, choose}
use Rattle.term_writer.proofs.Seams.{chars_of, after_piece, text-piece}
use Rattle.term_writer.proofs.FirstBytes.{FirstScalar}
use Rattle.term_writer.proofs.NameTokens.{no_brackets, ReadsName, name-token, functor-token}
use Rattle.term_writer.proofs.NumberTokens.{digits_of}
use Rattle.term_writer.proofs.Shapes.{OfOne, in_curly, prefixed, postfixed, called, of_one, OfTwo, listed, infixed, called_two, of_two, of_more, pieces-form, pieces-var, pieces-int, pieces-atom}

-- The first piece has a character.
pub record Leads (ps : List Piece) : Type 0 where
  pub piece : Piece
  pub others : List Piece
  pub first : ℕ
  pub more : Chars
  pub is : ps ≡ piece ∷ others
  pub spelled : chars_of piece ≡ first ∷ more
  pub some : IsScalar first

pub leads-append : (ps qs : List Piece) → Leads ps → Leads (ps ++ qs)
leads-append ps qs l = record {
  piece = l.piece;
  others = l.others ++ qs;
  first = l.first;
  more = l.more;
  is = ap (λ ps. ps ++ qs) l.is;
  spelled = l.spelled;
  some = l.some;
}

first-put : (b : Behind) (d : ℕ) (ds rest : Chars) → IsScalar d → FirstScalar (put b (d ∷ ds) ++ rest)
first-put b d ds rest is = by (would_join b.last d || would_bind b.prefix d) where
  by : (t : Bool) → FirstScalar ((cond t (codes " ") [] ++ d ∷ ds) ++ rest)
  by true = refl
  by false = is

pub leads-first : (b : Behind) (ps : List Piece) → Leads ps → FirstScalar (text_behind b ps)
leads-first b ps l =
    let text : text_behind b ps ≡ put b (l.first ∷ l.more) ++ text_behind (after_piece b l.piece) l.others
    = ap (text_behind b) l.is ∙ text-piece b l.piece l.others ∙ ap (λ cs. put b cs ++ text_behind (after_piece b l.piece) l.others) l.spelled in
    subst FirstScalar (sym text) (first-put b l.first l.more (text_behind (after_piece b l.piece) l.others) l.some)

-- A piece of some characters.
pub leads-plain : (c : ℕ) (cs : Chars) (ps : List Piece) → IsScalar c → Leads (plain (c ∷ cs) ∷ ps)
leads-plain c cs ps is = record { piece = plain (c ∷ cs); others = ps; first = c; more = cs; is = refl; spelled = refl; some = is }

-- A text with a first character.
pub record Spelled (cs : Chars) : Type 0 where
  pub first : ℕ
  pub more : Chars
  pub spelled : cs ≡ first ∷ more
  pub some : IsScalar first

spelled-is : (c : ℕ) (cs : Chars) → IsScalar c → Spelled (c ∷ cs)
spelled-is c cs is = record { first = c; more = cs; spelled = refl; some = is }

nowhere : Behind
nowhere = record { last = 32; prefix = None }

read-spelled : (f p : Chars) (rest : List ℕ) → ReadsName f p rest → Spelled p
read-spelled f p rest r = record { first = r.first; more = r.more; spelled = r.spelled; some = r.plain }

either : {A : Type 0} (a b : Bool) → (a || b) ≡ true → (a ≡ true → A) → (b ≡ true → A) → A
either {A} true b e f g = f refl
either {A} false b e f g = g e

name-spelled : (f : Chars) → all_scalars f ≡ true → Spelled (name f)
name-spelled f scalars = by (bytes_eq f (codes "[]") || bytes_eq f (codes "{}")) refl where
  by : (t : Bool) → (bytes_eq f (codes "[]") || bytes_eq f (codes "{}")) ≡ t → Spelled (name f)
  by true e =
      either (bytes_eq f (codes "[]")) (bytes_eq f (codes "{}")) e
      (λ e. subst (λ g. Spelled (name g)) (sym (same_text f (codes "[]") e)) (spelled-is 91 (codes "]") refl))
      (λ e. subst (λ g. Spelled (name g)) (sym (same_text f (codes "{}") e)) (spelled-is 123 (codes "}") refl))
  by false e = read-spelled f (name f) [] (name-token f nowhere None [] scalars (no_brackets f e) tt tt)

functor-spelled : (f : Chars) → all_scalars f ≡ true → Spelled (functor f)
functor-spelled f scalars = read-spelled f (functor f) [] (functor-token f nowhere None [] scalars tt tt)

pub operator-spelled : (f : Chars) → all_scalars f ≡ true → Spelled (operator_name quoting f)
operator-spelled f scalars =
    choose Spelled (bytes_eq f (codes ",")) f (name f)
    (λ e. subst Spelled (sym (same_text f (codes ",") e)) (spelled-is 44 [] refl))
    (λ _. name-spelled f scalars)

pub leads-text : (cs : Chars) (ps : List Piece) → Spelled cs → Leads (plain cs ∷ ps)
leads-text cs ps s = record { piece = plain cs; others = ps; first = s.first; more = s.more; is = refl; spelled = s.spelled; some = s.some }

leads-prefix : (f cs : Chars) (ps : List Piece) → Spelled cs → Leads (before_operand f cs ∷ ps)
leads-prefix f cs ps s = record { piece = before_operand f cs; others = ps; first = s.first; more = s.more; is = refl; spelled = s.spelled; some = s.some }

leads-parenthesized : (t : Bool) (ps : List Piece) → Leads ps → Leads (parenthesized t ps)
leads-parenthesized true ps l = leads-plain 40 [] (ps ++ plain (codes ")") ∷ []) refl
leads-parenthesized false ps l = l

digit-scalar : (d : ℕ) (ds : Chars) → AllDigits 10 (d ∷ ds) → IsScalar d
digit-scalar d ds all = let range = digit_from_value d all.0 in low_scalar d (omega arith)

int-spelled : (i : ℤ) → has_64_bits i ≡ true → Spelled (signed_decimal i)
int-spelled (pos n) e =
    let fits : n < 2 ^ 63 = grind (arith, nat_tests) in
    let ds = digits_of n (omega arith) in
    record { first = ds.first; more = ds.more; spelled = ds.is; some = digit-scalar ds.first ds.more ds.all }
int-spelled (negsuc n) e = spelled-is 45 (decimal (suc n)) refl

module _ (ops : Lookup) where
  abbrev LeadsAt : Tree → Type 0
  LeadsAt t = (m : ℕ) (place : Place) → Leads (pieces quoting ops m place t)

  leads-one : (f : Chars) (t : Tree) → all_scalars f ≡ true → LeadsAt t → OfOne ops f → LeadsAt (comp f t none)
  leads-one f t scalars l (in_curly is e) m place = subst Leads (sym (pieces-form ops f m place t none curly_brackets e)) (leads-plain 123 [] _ refl)
  leads-one f t scalars l (prefixed x is e) m place =
      subst Leads (sym (pieces-form ops f m place t none (prefix_operation x) e))
      (leads-parenthesized (needs_parentheses m place x) _ (leads-prefix f (operator_name quoting f) _ (operator-spelled f scalars)))
  leads-one f t scalars l (postfixed x is e) m place =
      subst Leads (sym (pieces-form ops f m place t none (postfix_operation x) e))
      (leads-parenthesized (needs_parentheses m place x) _ (leads-append (pieces quoting ops (left_argument x) (left_operand x.0) t) _ (l (left_argument x) (left_operand x.0))))
  leads-one f t scalars l (called e) m place =
      subst Leads (sym (pieces-form ops f m place t none functional e)) (leads-text (functor_by quoting f) _ (functor-spelled f scalars))

  leads-two : (f : Chars) (t u : Tree) → all_scalars f ≡ true → LeadsAt t → OfTwo ops f → LeadsAt (comp f t (more u none))
  leads-two f t u scalars l (listed is e) m place = subst Leads (sym (pieces-form ops f m place t (more u none) list e)) (leads-plain 91 [] _ refl)
  leads-two f t u scalars l (infixed x is e) m place =
      subst Leads (sym (pieces-form ops f m place t (more u none) (infix_operation x) e))
      (leads-parenthesized (needs_parentheses m place x) _ (leads-append (pieces quoting ops (left_argument x) (left_operand x.0) t) _ (l (left_argument x) (left_operand x.0))))
  leads-two f t u scalars l (called_two e) m place =
      subst Leads (sym (pieces-form ops f m place t (more u none) functional e)) (leads-text (functor_by quoting f) _ (functor-spelled f scalars))

  leads-comp : (f : Chars) (t : Tree) (ts : Trees) → all_scalars f ≡ true → LeadsAt t → LeadsAt (comp f t ts)
  leads-comp f t none scalars l m place = leads-one f t scalars l (of_one ops f) m place
  leads-comp f t (more u none) scalars l m place = leads-two f t u scalars l (of_two ops f) m place
  leads-comp f t (more u (more v vs)) scalars l m place =
      subst Leads (sym (pieces-form ops f m place t (more u (more v vs)) functional (of_more ops f (count vs)))) (leads-text (functor_by quoting f) _ (functor-spelled f scalars))

  pub leads : (t : Tree) → is_readable t ≡ true → LeadsAt t
  leads (var n) e m place = subst Leads (sym (pieces-var ops m place n)) (leads-plain 95 (decimal n) [] refl)
  leads (int i) e m place = subst Leads (sym (pieces-int ops m place i)) (leads-text (signed_decimal i) [] (int-spelled i e))
  leads (atom a) e m place =
      let s = both (all_scalars a) (not (is_too_long a)) e in
      subst Leads (sym (pieces-atom ops m place a)) (leads-parenthesized _ _ (leads-text (name a) [] (name-spelled a s.0)))
  leads (comp f t ts) e m place =
      let s = both (is_readable_text f) (is_readable t && all_readable ts) e in
      let u = both (is_readable t) (all_readable ts) s.1 in
      leads-comp f t ts (both (all_scalars f) (not (is_too_long f)) s.0).0 (leads t u.0) m place
