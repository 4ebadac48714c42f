-- No layout stands at the front of a written term, so it is read from its first byte.
use Rattle.std.proofs.Common.{◌≡◌, ℕ, ℤ, pos, negsuc, ◌^◌, ◌<◌, suc, Bool, true, false, cond, ◌&&◌, ◌||◌, not, codes, List, [], ◌∷◌, ◌++◌, Some, None, append_assoc, refl, sym, ap, subst, ◌∙◌, arith, bytes_eq}
use Rattle.std.specs.Char.{encode_utf8}
use Rattle.std.specs.Str.{all_scalars, encode_utf8_all}
use Rattle.std.specs.Fmt.{decimal, signed_decimal}
use Rattle.std.proofs.lemmas.Bool.Decides.{nat_tests}
use Rattle.std.proofs.lemmas.Str.{encodes-append}
use Rattle.std.proofs.Math.Utf8.{encode}
use Rattle.pl_term.specs.Tree.{Chars, Tree, Trees, var, int, atom, comp, none, more, count}
use Rattle.pl_model.specs.declared.operators.Place.TheVariants.{Prefix}
use Rattle.pl_model.specs.declared.grammar.Quotes.TheVariants.{Codes}
use Rattle.pl_model.specs.OperatorTable.{Entry}
use Rattle.pl_model.specs.TermGrammar.{Lookup, is_too_long, left_argument, right_argument}
use Rattle.pl_model.specs.Writing.{Place, alone, operand, left_operand, is_operand, name, functor}
use Rattle.pl_model.specs.TermWriting.{Piece, plain, before_operand, Behind, behind, put, text_behind, quoting, pieces, right_operand, arguments, list_tail, is_operator, is_tight, parenthesized, needs_parentheses, operator_name, infix_pieces, postfix_pieces, list, curly_brackets, infix_operation, prefix_operation, postfix_operation, functional}
use Rattle.term_writer.specs.ReadingBack.{is_readable, all_readable, is_readable_text, has_64_bits, IsRegular}
use Rattle.term_writer.proofs.Bits.{both, same_text, choose}
use Rattle.term_writer.proofs.Seams.{chars_of, after_piece, text-piece, apart}
use Rattle.term_writer.proofs.FirstBytes.{FirstScalar, NoLayout, no_layout}
use Rattle.term_writer.proofs.NameTokens.{no_brackets, ReadsName, name-token, functor-token}
use Rattle.term_writer.proofs.NumberTokens.{digits_of, digits-bytes, digit, digit-layout}
use Rattle.term_writer.proofs.Leads.{Leads, leads-first, leads-plain, leads-append, leads-text, leads, operator-spelled}
use Rattle.term_writer.proofs.Shapes.{OfOne, in_curly, prefixed, postfixed, called, of_one, OfTwo, listed, infixed, called_two, of_two, of_more, pieces-form, pieces-var, pieces-int, pieces-atom}
use Rattle.term_writer.proofs.Operations.{operator-no_brackets}
use Rattle.term_writer.proofs.Affixes.{not_comma}

-- After layout, or where nothing stands before.
abbrev pub start_of_text : Behind
start_of_text = record { last = 32; prefix = None }

-- What is to be shown of pieces: no layout stands before them.
abbrev Clear : List Piece → Type 0
Clear ps = NoLayout (encode_utf8_all (text_behind start_of_text ps))

first-bytes : (p : Piece) (ps : List Piece) (d : ℕ) (ds : Chars) → chars_of p ≡ d ∷ ds
    → encode_utf8_all (text_behind start_of_text (p ∷ ps)) ≡ encode_utf8_all (d ∷ ds) ++ encode_utf8_all (text_behind (after_piece start_of_text p) ps)
first-bytes p ps d ds spelled =
    ap encode_utf8_all (text-piece start_of_text p ps ∙ ap (λ cs. put start_of_text cs ++ text_behind (after_piece start_of_text p) ps) spelled)
    ∙ encodes-append (d ∷ ds) (text_behind (after_piece start_of_text p) ps)

clear-name : (f : Chars) (p : Piece) (ps : List Piece) → ReadsName f (chars_of p) (encode_utf8_all (text_behind (after_piece start_of_text p) ps)) → Clear (p ∷ ps)
clear-name f p ps r = subst NoLayout (sym (first-bytes p ps r.first r.more r.spelled)) r.layout

-- A piece whose first character is one of ASCII that begins no layout.
clear-ascii : (c : ℕ) (cs : Chars) (ps : List Piece) → encode_utf8 c ≡ c ∷ [] → ((rest : List ℕ) → NoLayout (c ∷ rest)) → Clear (plain (c ∷ cs) ∷ ps)
clear-ascii c cs ps one layout =
    let behind = encode_utf8_all (text_behind (after_piece start_of_text (plain (c ∷ cs))) ps) in
    subst NoLayout (sym (first-bytes (plain (c ∷ cs)) ps c cs refl ∙ ap (λ xs. (xs ++ encode_utf8_all cs) ++ behind) one)) (layout (encode_utf8_all cs ++ behind))

clear-open : (ps : List Piece) → Clear (plain (codes "(") ∷ ps)
unfolding encode
clear-open ps = clear-ascii 40 [] ps refl (λ rest. no_layout (40 ∷ rest) 40 1 refl refl refl refl)

clear-list : (cs : Chars) (ps : List Piece) → Clear (plain (91 ∷ cs) ∷ ps)
unfolding encode
clear-list cs ps = clear-ascii 91 cs ps refl (λ rest. no_layout (91 ∷ rest) 91 1 refl refl refl refl)

clear-curly : (cs : Chars) (ps : List Piece) → Clear (plain (123 ∷ cs) ∷ ps)
unfolding encode
clear-curly cs ps = clear-ascii 123 cs ps refl (λ rest. no_layout (123 ∷ rest) 123 1 refl refl refl refl)

clear-variable : (cs : Chars) (ps : List Piece) → Clear (plain (95 ∷ cs) ∷ ps)
unfolding encode
clear-variable cs ps = clear-ascii 95 cs ps refl (λ rest. no_layout (95 ∷ rest) 95 1 refl refl refl refl)

clear-minus : (cs : Chars) (ps : List Piece) → Clear (plain (45 ∷ cs) ∷ ps)
unfolding encode
clear-minus cs ps = clear-ascii 45 cs ps refl (λ rest. no_layout (45 ∷ rest) 45 1 refl refl refl refl)

clear-int : (i : ℤ) (ps : List Piece) → has_64_bits i ≡ true → Clear (plain (signed_decimal i) ∷ ps)
clear-int (pos n) ps e =
    let fits : n < 2 ^ 63 = grind (arith, nat_tests) in
    let ds = digits_of n (omega arith) in
    let rest = encode_utf8_all (text_behind (after_piece start_of_text (plain (decimal n))) ps) in
    subst NoLayout (sym (first-bytes (plain (decimal n)) ps ds.first ds.more ds.is ∙ ap (λ bs. bs ++ rest) (digits-bytes (ds.first ∷ ds.more) ds.all)))
    (digit-layout ds.first (ds.more ++ rest) (digit ds.first ds.more ds.all))
clear-int (negsuc n) ps e = clear-minus (decimal (suc n)) ps

-- What stands after a piece begins with a character, if there is something.
abbrev Firsts : List Piece → Type 0
Firsts ps = (b : Behind) → FirstScalar (text_behind b ps)

firsts : (ps : List Piece) → Leads ps → Firsts ps
firsts ps l b = leads-first b ps l

either : {A : Type 0} (a b : Bool) → (a || b) ≡ true → (a ≡ true → A) → (b ≡ true → A) → A
either {A} true b e f g = f refl
either {A} false b e f g = g e

clear-atom : (a : Chars) (ps : List Piece) → all_scalars a ≡ true → Firsts ps → Clear (plain (name a) ∷ ps)
clear-atom a ps scalars first = by (bytes_eq a (codes "[]") || bytes_eq a (codes "{}")) refl where
  by : (t : Bool) → (bytes_eq a (codes "[]") || bytes_eq a (codes "{}")) ≡ t → Clear (plain (name a) ∷ ps)
  by true e =
      either (bytes_eq a (codes "[]")) (bytes_eq a (codes "{}")) e
      (λ e. subst (λ g. Clear (plain (name g) ∷ ps)) (sym (same_text a (codes "[]") e)) (clear-list (codes "]") ps))
      (λ e. subst (λ g. Clear (plain (name g) ∷ ps)) (sym (same_text a (codes "{}") e)) (clear-curly (codes "}") ps))
  by false e =
      clear-name a (plain (name a)) ps
      (name-token a start_of_text None (text_behind (behind start_of_text None (name a)) ps) scalars (no_brackets a e) (apart (behind start_of_text None (name a)) ps)
      (first (behind start_of_text None (name a))))

clear-functor : (f : Chars) (ps : List Piece) → all_scalars f ≡ true → Clear (plain (functor f) ∷ plain (codes "(") ∷ ps)
clear-functor f ps scalars =
    let b : Behind = behind start_of_text None (functor f) in
    clear-name f (plain (functor f)) (plain (codes "(") ∷ ps)
    (functor-token f start_of_text None (text_behind b (plain (codes "(") ∷ ps)) scalars (apart b (plain (codes "(") ∷ ps)) (leads-first b (plain (codes "(") ∷ ps) (leads-plain 40 [] ps refl)))

infix-leads : (f : Chars) (ps qs : List Piece) → all_scalars f ≡ true → Leads ((infix_pieces quoting f ++ ps) ++ qs)
infix-leads f ps qs scalars =
    choose (λ os. Leads ((os ++ ps) ++ qs)) (is_tight f) (plain (operator_name quoting f) ∷ []) (plain (codes " ") ∷ plain (operator_name quoting f) ∷ plain (codes " ") ∷ [])
    (λ _. leads-text (operator_name quoting f) (ps ++ qs) (operator-spelled f scalars))
    (λ _. leads-plain 32 [] (plain (operator_name quoting f) ∷ plain (codes " ") ∷ (ps ++ qs)) refl)

postfix-leads : (f : Chars) (qs : List Piece) → all_scalars f ≡ true → Leads (postfix_pieces quoting f ++ qs)
postfix-leads f qs scalars =
    choose (λ os. Leads (os ++ qs)) (is_tight f) (plain (operator_name quoting f) ∷ []) (plain (codes " ") ∷ plain (operator_name quoting f) ∷ [])
    (λ _. leads-text (operator_name quoting f) qs (operator-spelled f scalars))
    (λ _. leads-plain 32 [] (plain (operator_name quoting f) ∷ qs) refl)

clear-parenthesized : (t : Bool) (ps qs : List Piece) → Clear (ps ++ qs) → Clear (parenthesized t ps ++ qs)
clear-parenthesized true ps qs clear = clear-open ((ps ++ plain (codes ")") ∷ []) ++ qs)
clear-parenthesized false ps qs clear = clear

module _ (ops : Lookup) (regular : IsRegular ops) where
  abbrev IsClear : Tree → Type 0
  IsClear t = (m : ℕ) (place : Place) (qs : List Piece) → Firsts qs → Clear (pieces quoting ops m place t ++ qs)

  clear-prefix : (f : Chars) (t : Tree) (e : Entry) (qs : List Piece) → ops f Prefix ≡ Some e → all_scalars f ≡ true → is_readable t ≡ true
      → Clear ((before_operand f (operator_name quoting f) ∷ pieces quoting ops (right_argument e) operand t) ++ qs)
  clear-prefix f t e qs is scalars readable =
      let R = pieces quoting ops (right_argument e) operand t ++ qs in
      let b : Behind = behind start_of_text (Some f) (name f) in
      let l : Leads R = leads-append (pieces quoting ops (right_argument e) operand t) qs (leads ops t readable (right_argument e) operand) in
      subst (λ u. Clear (before_operand f (cond u f (name f)) ∷ R)) (sym (not_comma [] ops Codes regular f e is))
      (clear-name f (before_operand f (name f)) R
      (name-token f start_of_text (Some f) (text_behind b R) scalars (operator-no_brackets [] ops Codes regular f Prefix e is) (apart b R) (leads-first b R l)))

  clear-one : (f : Chars) (t : Tree) → is_readable_text f ≡ true → is_readable t ≡ true → IsClear t → OfOne ops f → IsClear (comp f t none)
  clear-one f t ef et clear (in_curly same e) m place qs first =
      subst (λ ps. Clear (ps ++ qs)) (sym (pieces-form ops f m place t none curly_brackets e)) (clear-curly [] ((pieces quoting ops 1200 alone t ++ plain (codes "}") ∷ []) ++ qs))
  clear-one f t ef et clear (prefixed x is e) m place qs first =
      subst (λ ps. Clear (ps ++ qs)) (sym (pieces-form ops f m place t none (prefix_operation x) e))
      (clear-parenthesized (needs_parentheses m place x) (before_operand f (operator_name quoting f) ∷ pieces quoting ops (right_argument x) operand t) qs (clear-prefix f t x qs is (both (all_scalars f) (not (is_too_long f)) ef).0 et))
  clear-one f t ef et clear (postfixed x is e) m place qs first =
      let Tp = pieces quoting ops (left_argument x) (left_operand x.0) t in
      subst (λ ps. Clear (ps ++ qs)) (sym (pieces-form ops f m place t none (postfix_operation x) e))
      (clear-parenthesized (needs_parentheses m place x) (Tp ++ postfix_pieces quoting f) qs
      (subst Clear (sym (append_assoc Tp (postfix_pieces quoting f) qs))
      (clear (left_argument x) (left_operand x.0) (postfix_pieces quoting f ++ qs)
      (firsts (postfix_pieces quoting f ++ qs) (postfix-leads f qs (both (all_scalars f) (not (is_too_long f)) ef).0)))))
  clear-one f t ef et clear (called e) m place qs first =
      subst (λ ps. Clear (ps ++ qs)) (sym (pieces-form ops f m place t none functional e)) (clear-functor f ((pieces quoting ops 999 alone t ++ arguments quoting ops none) ++ qs) (both (all_scalars f) (not (is_too_long f)) ef).0)

  clear-two : (f : Chars) (t u : Tree) → is_readable_text f ≡ true → IsClear t → OfTwo ops f → IsClear (comp f t (more u none))
  clear-two f t u ef clear (listed same e) m place qs first = subst (λ ps. Clear (ps ++ qs)) (sym (pieces-form ops f m place t (more u none) list e)) (clear-list [] ((pieces quoting ops 999 alone t ++ list_tail quoting ops (more u none)) ++ qs))
  clear-two f t u ef clear (infixed x is e) m place qs first =
      let Tp = pieces quoting ops (left_argument x) (left_operand x.0) t in
      let Op = infix_pieces quoting f ++ right_operand quoting ops x (more u none) in
      subst (λ ps. Clear (ps ++ qs)) (sym (pieces-form ops f m place t (more u none) (infix_operation x) e))
      (clear-parenthesized (needs_parentheses m place x) (Tp ++ Op) qs
      (subst Clear (sym (append_assoc Tp Op qs))
      (clear (left_argument x) (left_operand x.0) (Op ++ qs)
      (firsts (Op ++ qs) (infix-leads f (right_operand quoting ops x (more u none)) qs (both (all_scalars f) (not (is_too_long f)) ef).0)))))
  clear-two f t u ef clear (called_two e) m place qs first =
      subst (λ ps. Clear (ps ++ qs)) (sym (pieces-form ops f m place t (more u none) functional e)) (clear-functor f ((pieces quoting ops 999 alone t ++ arguments quoting ops (more u none)) ++ qs) (both (all_scalars f) (not (is_too_long f)) ef).0)

  clear-comp : (f : Chars) (t : Tree) (ts : Trees) → is_readable_text f ≡ true → is_readable t ≡ true → IsClear t → IsClear (comp f t ts)
  clear-comp f t none ef et clear m place qs first = clear-one f t ef et clear (of_one ops f) m place qs first
  clear-comp f t (more u none) ef et clear m place qs first = clear-two f t u ef clear (of_two ops f) m place qs first
  clear-comp f t (more u (more v vs)) ef et clear m place qs first =
      subst (λ ps. Clear (ps ++ qs)) (sym (pieces-form ops f m place t (more u (more v vs)) functional (of_more ops f (count vs)))) (clear-functor f ((pieces quoting ops 999 alone t ++ arguments quoting ops (more u (more v vs))) ++ qs) (both (all_scalars f) (not (is_too_long f)) ef).0)

  -- The text of a term begins with its first token.
  pub clear-term : (t : Tree) → is_readable t ≡ true → IsClear t
  clear-term (var n) e m place qs first = subst (λ ps. Clear (ps ++ qs)) (sym (pieces-var ops m place n)) (clear-variable (decimal n) qs)
  clear-term (int i) e m place qs first = subst (λ ps. Clear (ps ++ qs)) (sym (pieces-int ops m place i)) (clear-int i qs e)
  clear-term (atom a) e m place qs first =
      subst (λ ps. Clear (ps ++ qs)) (sym (pieces-atom ops m place a))
      (clear-parenthesized (is_operand place && is_operator ops a) (plain (name a) ∷ []) qs (clear-atom a qs (both (all_scalars a) (not (is_too_long a)) e).0 first))
  clear-term (comp f t ts) e m place qs first =
      let s = both (is_readable_text f) (is_readable t && all_readable ts) e in
      let u = both (is_readable t) (all_readable ts) s.1 in
      clear-comp f t ts s.0 u.0 (clear-term t u.0) m place qs first
