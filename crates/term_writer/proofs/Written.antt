-- Each term is read as it is written; and a whole text of one, with an end after it.
use Rattle.std.proofs.Common.{◌≡◌, ℕ, ◌<◌, ◌≤◌, true, ◌&&◌, not, codes, List, [], ◌∷◌, ◌++◌, length, drop, Some, Ok, Err, IfSome, refl, sym, ap, subst, ◌∙◌, arith, pos, negsuc}
use Rattle.std.specs.Str.{all_scalars}
use Rattle.pl_term.specs.Tree.{Chars, Tree, Trees, var, int, atom, comp, none, more, count}
use Rattle.pl_model.specs.declared.lexical.TokenKind.TheVariants.{EndToken}
use Rattle.pl_model.specs.declared.lexical.Lexeme.TheVariants.{Token, End}
use Rattle.pl_model.specs.declared.operators.Place.{Place as OperatorPlace}
use Rattle.pl_model.specs.declared.grammar.Quotes.{Quotes}
use Rattle.pl_model.specs.OperatorTable.{Entry}
use Rattle.pl_model.specs.LexicalTokens.{Lexed, token_at}
use Rattle.pl_model.specs.Grammar.{Part, Outcome, and_then, clause, item}
use Rattle.pl_model.specs.TermGrammar.{Lookup, is_too_long, left_argument, right_argument, stands_alone, ended, item_by}
use Rattle.pl_model.specs.Writing.{alone, operand, left_operand}
use Rattle.pl_model.specs.TermWriting.{parenthesized, needs_parentheses, plain, before_operand, Behind, text_behind, quoting, pieces, operator_name, infix_pieces, postfix_pieces, functional, list, curly_brackets, infix_operation, prefix_operation, postfix_operation}
use Rattle.pl_model.proofs.TermDepth.{whole, item_whole, item_by-whole}
use Rattle.pl_model.proofs.LexicalReads.{end-reads}
use Rattle.pl_model.proofs.LexicalFollows.{token_at-follows}
use Rattle.pl_model.proofs.LexicalSpans.{token_next}
use Rattle.pl_model.specs.Tokens.{skip_layout}
use Rattle.pl_model.specs.declared.lexical.TokenKind.{TokenKind}
use Rattle.term_writer.proofs.Leads.{leads-first, leads-plain}
use Rattle.term_writer.proofs.Clear.{start_of_text, clear-term}
use Rattle.std.proofs.lemmas.List.{length-drop}
use Rattle.std.proofs.Math.Utf8.{encode}
use Rattle.term_writer.specs.ReadingBack.{is_readable, all_readable, is_readable_text, IsRegular}
use Rattle.term_writer.proofs.Bits.{both}
use Rattle.term_writer.proofs.FirstBytes.{NoLayout, no_layout}
use Rattle.term_writer.proofs.Places.{Exact, exact-ahead, space-ahead, Next, piece-next, behind_one}
use Rattle.term_writer.proofs.Followers.{follow-put}
use Rattle.term_writer.proofs.Shapes.{OfOne, in_curly, prefixed, postfixed, called, of_one, OfTwo, listed, infixed, called_two, of_two, of_more, pieces-form, right-more}
use Rattle.term_writer.proofs.Steps.{standing, told, after, begins_term, ends-at, Follow, Closes}
use Rattle.term_writer.proofs.Leaves.{IsRead, var-read, positive-read, negative-read, atom-read}
use Rattle.term_writer.proofs.Operations.{operation-read, infix-body}
use Rattle.term_writer.proofs.Affixes.{prefix-body, postfix-body}
use Rattle.term_writer.proofs.Bracketed.{ArgumentsAreRead, no_arguments-read, more_arguments-read, functional-read, curly-read, TailIsRead, list-read, var-tail, int-tail, atom-tail, comp-tail}
use Rattle.term_writer.proofs.Numbering.{nothing_met}

module _ (text : List ℕ) (ops : Lookup) (quotes : Quotes) (regular : IsRegular ops) where
  bound : (f : Chars) (p : OperatorPlace) (e : Entry) → ops f p ≡ Some e → e.0 ≤ 1200
  bound f p e is = (subst (λ o. IfSome o (λ (e : Entry). (0 < e.0) × (e.0 ≤ 1200))) is (regular.bounded f p)).1

  one-read : (f : Chars) (t : Tree) → is_readable_text f ≡ true → is_readable t ≡ true → IsRead text ops quotes regular t → OfOne ops f → IsRead text ops quotes regular (comp f t none)
  one-read f t ef et read (in_curly same e) = curly-read text ops quotes regular f t same read (λ m place. pieces-form ops f m place t none curly_brackets e)
  one-read f t ef et read (prefixed x is e) =
      operation-read text ops quotes regular (comp f t none) x (before_operand f (operator_name quoting f) ∷ pieces quoting ops (right_argument x) operand t)
      (bound f _ x is) (prefix-body text ops quotes regular f t x is ef et read) (λ m place. pieces-form ops f m place t none (prefix_operation x) e)
  one-read f t ef et read (postfixed x is e) =
      operation-read text ops quotes regular (comp f t none) x (pieces quoting ops (left_argument x) (left_operand x.0) t ++ postfix_pieces quoting f)
      (bound f _ x is) (postfix-body text ops quotes regular f t x is (both (all_scalars f) (not (is_too_long f)) ef).0 read) (λ m place. pieces-form ops f m place t none (postfix_operation x) e)
  one-read f t ef et read (called e) =
      functional-read text ops quotes regular f t none ef read (no_arguments-read text ops quotes regular) (λ m place. pieces-form ops f m place t none functional e)

  two-read : (f : Chars) (t u : Tree) → is_readable_text f ≡ true → is_readable u ≡ true → IsRead text ops quotes regular t → IsRead text ops quotes regular u
      → TailIsRead text ops quotes regular u → OfTwo ops f → IsRead text ops quotes regular (comp f t (more u none))
  two-read f t u ef eu read read_u tail (listed same e) = list-read text ops quotes regular f t u same read tail (λ m place. pieces-form ops f m place t (more u none) list e)
  two-read f t u ef eu read read_u tail (infixed x is e) =
      let Lp = pieces quoting ops (left_argument x) (left_operand x.0) t in
      operation-read text ops quotes regular (comp f t (more u none)) x (Lp ++ (infix_pieces quoting f ++ pieces quoting ops (right_argument x) operand u))
      (bound f _ x is) (infix-body text ops quotes regular f t u x is (both (all_scalars f) (not (is_too_long f)) ef).0 eu read read_u)
      (λ m place. pieces-form ops f m place t (more u none) (infix_operation x) e ∙ ap (λ ps. parenthesized (needs_parentheses m place x) (Lp ++ (infix_pieces quoting f ++ ps))) (right-more ops x u none))
  two-read f t u ef eu read read_u tail (called_two e) =
      functional-read text ops quotes regular f t (more u none) ef read (more_arguments-read text ops quotes regular u none read_u (no_arguments-read text ops quotes regular))
      (λ m place. pieces-form ops f m place t (more u none) functional e)

  more-read : (f : Chars) (t u v : Tree) (vs : Trees) → is_readable_text f ≡ true → IsRead text ops quotes regular t → ArgumentsAreRead text ops quotes regular (more u (more v vs))
      → IsRead text ops quotes regular (comp f t (more u (more v vs)))
  more-read f t u v vs ef read others =
      functional-read text ops quotes regular f t (more u (more v vs)) ef read others (λ m place. pieces-form ops f m place t (more u (more v vs)) functional (of_more ops f (count vs)))

  record Parts (f : Chars) (t : Tree) (ts : Trees) : Type 0 where
    name : is_readable_text f ≡ true
    first : is_readable t ≡ true
    others : all_readable ts ≡ true

  parts : (f : Chars) (t : Tree) (ts : Trees) → is_readable (comp f t ts) ≡ true → Parts f t ts
  parts f t ts e =
      let s = both (is_readable_text f) (is_readable t && all_readable ts) e in
      let u = both (is_readable t) (all_readable ts) s.1 in
      record { name = s.0; first = u.0; others = u.1 }

  no_tail : (v : Tree) → none ≡ more v none → ⊥
  no_tail v e = cc

  long_tail : (v w : Tree) (ws : Trees) (x : Tree) → more v (more w ws) ≡ more x none → ⊥
  long_tail v w ws x e = cc

  same_tail : (v w : Tree) → more v none ≡ more w none → v ≡ w
  same_tail v w e = cc

  mutual
    pub term-read : (t : Tree) → is_readable t ≡ true → IsRead text ops quotes regular t
    term-read (var n) e = var-read text ops quotes regular n e
    term-read (int (pos n)) e = positive-read text ops quotes regular n e
    term-read (int (negsuc n)) e = negative-read text ops quotes regular n e
    term-read (atom a) e = atom-read text ops quotes regular a e
    term-read (comp f t none) e =
        let p = parts f t none e in one-read f t p.name p.first (term-read t p.first) (of_one ops f)
    term-read (comp f t (more u none)) e =
        let p = parts f t (more u none) e in
        let eu = (both (is_readable u) true p.others).0 in
        let read_u = term-read u eu in
        two-read f t u p.name eu (term-read t p.first) read_u (tail-read u eu read_u) (of_two ops f)
    term-read (comp f t (more u (more v vs))) e =
        let p = parts f t (more u (more v vs)) e in
        let s = both (is_readable u) (is_readable v && all_readable vs) p.others in
        let r = both (is_readable v) (all_readable vs) s.1 in
        more-read f t u v vs p.name (term-read t p.first)
        (more_arguments-read text ops quotes regular u (more v vs) (term-read u s.0)
        (more_arguments-read text ops quotes regular v vs (term-read v r.0) (arguments-read vs r.1)))

    arguments-read : (ts : Trees) → all_readable ts ≡ true → ArgumentsAreRead text ops quotes regular ts
    arguments-read none e = no_arguments-read text ops quotes regular
    arguments-read (more t ts) e =
        let s = both (is_readable t) (all_readable ts) e in
        more_arguments-read text ops quotes regular t ts (term-read t s.0) (arguments-read ts s.1)

    tail-read : (u : Tree) → is_readable u ≡ true → IsRead text ops quotes regular u → TailIsRead text ops quotes regular u
    tail-read (var n) e read = var-tail text ops quotes regular n read
    tail-read (int i) e read = int-tail text ops quotes regular i read
    tail-read (atom a) e read = atom-tail text ops quotes regular a read
    tail-read (comp f h none) e read =
        let p = parts f h none e in comp-tail text ops quotes regular f h none read (term-read h p.first) (λ v is. absurd (no_tail v is))
    tail-read (comp f h (more v none)) e read =
        let p = parts f h (more v none) e in
        let ev = (both (is_readable v) true p.others).0 in
        let tail = tail-read v ev (term-read v ev) in
        comp-tail text ops quotes regular f h (more v none) read (term-read h p.first) (λ w is. subst (TailIsRead text ops quotes regular) (same_tail v w is) tail)
    tail-read (comp f h (more v (more w ws))) e read =
        let p = parts f h (more v (more w ws)) e in
        comp-tail text ops quotes regular f h (more v (more w ws)) read (term-read h p.first) (λ x is. absurd (long_tail v w ws x is))

  -- The end of a clause.

  point-next : (b : Behind) (at : ℕ) → Exact text b (plain (codes " ") ∷ plain (codes ".") ∷ []) at → Next text (λ direct. EndToken) (behind_one 46) [] at
  unfolding encode
  point-next b at e =
      piece-next text (λ direct. EndToken) (behind_one 32) (plain (codes ".")) [] at 46 [] refl
      (space-ahead text b (plain (codes ".") ∷ []) at (exact-ahead text b (plain (codes " ") ∷ plain (codes ".") ∷ []) at e))
      (no_layout (46 ∷ []) 46 1 refl refl refl refl) (λ direct. end-reads direct [] refl)

  end-follow : Follow text ops quotes 1200 (plain (codes " ") ∷ plain (codes ".") ∷ [])
  end-follow = record {
    chars = λ b. follow-put b 32 [] (text_behind (behind_one 32) (plain (codes ".") ∷ [])) refl;
    stops = λ b at e k below p place.
        let t = point-next b at e in
        ends-at text ops quotes k p at EndToken t.start t.end place t.is refl;
  }

  end-closes : Closes text ops quotes (plain (codes " ") ∷ plain (codes ".") ∷ [])
  end-closes b at e = let t = point-next b at e in ap (stands_alone text ops quotes) t.is

  -- A text of a term is read as a clause of it.
  pub record Clause (t : Tree) : Type 0 where
    pub names : List (Chars × ℕ)
    pub is : item_by text 0 ops quotes ≡ clause (told t nothing_met) names 0 (length text)

  -- The first token begins where the text begins.
  starts-text : (kind : TokenKind) (start end : ℕ) → token_at text 0 ≡ Ok (Token kind start end) → NoLayout text → start ≡ 0
  starts-text kind start end here clear =
      let found = token_next text 0 kind start end here in
      let same : skip_layout 0 0 text ≡ Ok start = found.layout in
      let both_are : Ok 0 ≡ Ok start = sym (clear 0) ∙ same in cc

  begun : (o : Lexed) (P : Part) (stop_start stop : ℕ) → token_at text 0 ≡ o → NoLayout text → begins_term o ≡ true → whole text ops quotes 1200 (standing 0 nothing_met) ≡ Ok P
      → token_at text P.reading.at ≡ Ok (Token EndToken stop_start stop)
      → item_whole text ops quotes 0 o ≡ clause P.term P.reading.names 0 stop
  begun (Err f) P a stop here clear begins read last = cc
  begun (Ok End) P a stop here clear begins read last = cc
  begun (Ok (Token kind start end)) P a stop here clear begins read last =
      ap (λ n. item_whole text ops quotes 0 (Ok (Token kind n end))) (starts-text kind start end here clear)
      ∙ ap (λ (o : Outcome Part). item (and_then o (λ p. ended text 0 p (token_at text p.reading.at)))) read
      ∙ ap (λ l. item (ended text 0 P l)) last

  -- The end token is the last one of the text.
  ends-text : (at start end : ℕ) → token_at text at ≡ Ok (Token EndToken start end) → drop end text ≡ [] → end ≡ length text
  ends-text at start end is nothing =
      let within = token_at-follows text at EndToken start end is in
      omega (arith, within.within, length-drop end text, ap length nothing)

  pub clause-read : (t : Tree) → is_readable t ≡ true → Exact text start_of_text (pieces quoting ops 1200 alone t ++ plain (codes " ") ∷ plain (codes ".") ∷ []) 0 → Clause t
  clause-read t e exact =
      let qs = plain (codes " ") ∷ plain (codes ".") ∷ [] in
      let ps = pieces quoting ops 1200 alone t ++ qs in
      let g = (term-read t e 1200 alone 1200 nothing_met start_of_text qs 0 (omega arith) tt (exact-ahead text start_of_text ps 0 exact) end-follow (λ _. end-closes)).got in
      let P : Part = record { term = told t nothing_met; priority = g.priority; reading = standing g.to (after t nothing_met) } in
      let last = point-next g.b g.to g.exact in
      let clear = clear-term ops regular t e 1200 alone qs (λ b. leads-first b qs (leads-plain 32 [] (plain (codes ".") ∷ []) refl)) in
      record {
        names = (after t nothing_met).0;
        is =
            item_by-whole text ops quotes 0
            ∙ begun (token_at text 0) P last.start last.end refl (subst NoLayout (sym exact) clear) g.begins (g.is ∙ end-follow.stops g.b g.to g.exact 1200 (omega arith) P refl) last.is
            ∙ ap (clause (told t nothing_met) (after t nothing_met).0 0) (ends-text g.to last.start last.end last.is last.exact);
      }
