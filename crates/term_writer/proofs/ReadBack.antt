-- What writeq writes is read back.
use Rattle.std.proofs.Common.{◌≡◌, true, codes, List, [], ◌∷◌, ◌++◌, append_assoc, refl, sym, ap, ◌∙◌}
use Rattle.std.specs.Str.{encode_utf8_all}
use Rattle.pl_term.specs.Tree.{Tree}
use Rattle.pl_model.specs.declared.grammar.Quotes.{Quotes}
use Rattle.pl_model.specs.OperatorTable.{OperatorTable, operator_at, IsSound}
use Rattle.pl_model.specs.TermGrammar.{Lookup}
use Rattle.pl_model.specs.Writing.{alone}
use Rattle.pl_model.specs.TermWriting.{Piece, plain, Behind, put, text_behind, text_of, quoting, pieces}
use Rattle.term_writer.specs.ReadingBack.{is_readable, IsRegular, KeepsNames, Change, table_after, with_end, ReadsAs, ReadsBack}
use Rattle.term_writer.proofs.Seams.{after_piece, text-piece, chars_of}
use Rattle.term_writer.proofs.Places.{no_gap, joins_nothing, space_binds}
use Rattle.term_writer.proofs.Steps.{told}
use Rattle.term_writer.proofs.Clear.{start_of_text}
use Rattle.term_writer.proofs.Written.{clause-read}
use Rattle.term_writer.proofs.Numbering.{nothing_met, told-variant}
use Rattle.term_writer.proofs.KeptNames.{keeps}

-- The state after pieces.
behind_all : Behind → List Piece → Behind
behind_all b [] = b
behind_all b (p ∷ ps) = behind_all (after_piece b p) ps

text-append : (b : Behind) (ps qs : List Piece) → text_behind b (ps ++ qs) ≡ text_behind b ps ++ text_behind (behind_all b ps) qs
unfolding behind_all
text-append b [] qs = refl
text-append b (p ∷ ps) qs =
    text-piece b p (ps ++ qs)
    ∙ ap (λ cs. put b (chars_of p) ++ cs) (text-append (after_piece b p) ps qs)
    ∙ sym (append_assoc (put b (chars_of p)) (text_behind (after_piece b p) ps) (text_behind (behind_all (after_piece b p) ps) qs))
    ∙ ap (λ cs. cs ++ text_behind (behind_all (after_piece b p) ps) qs) (sym (text-piece b p ps))

end-text : (b : Behind) → text_behind b (plain (codes " ") ∷ plain (codes ".") ∷ []) ≡ codes " ."
end-text b = ap (λ cs. cs ++ codes ".") (no_gap b 32 [] (joins_nothing b.last 32 refl refl refl) (space_binds b.prefix))

with_end-text : (ops : Lookup) (t : Tree)
    → with_end (text_of quoting ops 1200 t) ≡ encode_utf8_all (text_behind start_of_text (pieces quoting ops 1200 alone t ++ plain (codes " ") ∷ plain (codes ".") ∷ []))
unfolding text_of
with_end-text ops t =
    let ps = pieces quoting ops 1200 alone t in
    ap encode_utf8_all
    (sym (text-append start_of_text ps (plain (codes " ") ∷ plain (codes ".") ∷ []) ∙ ap (λ cs. text_behind start_of_text ps ++ cs) (end-text (behind_all start_of_text ps))))

pub reads_as : (ops : Lookup) (quotes : Quotes) (t : Tree) → IsRegular ops → is_readable t ≡ true → ReadsAs ops quotes t
reads_as ops quotes t regular e =
    let text = with_end (text_of quoting ops 1200 t) in
    let c = clause-read text ops quotes regular t e (with_end-text ops t) in
    record { term = told t nothing_met; names = c.names; is = c.is; variant = told-variant t e }

regular_table : (ops : OperatorTable) → IsSound ops → KeepsNames ops → IsRegular (operator_at ops)
regular_table ops sound kept = record {
  bounded = sound.bounded;
  apart = sound.apart;
  comma = kept.comma;
  no_prefix = kept.no_prefix;
  no_postfix = kept.no_postfix;
  no_brackets = λ p. kept.reserved (codes "[]") p refl;
  no_curly = λ p. kept.reserved (codes "{}") p refl;
}

pub reads_back : (ops : OperatorTable) (quotes : Quotes) (t : Tree) → IsSound ops → KeepsNames ops → is_readable t ≡ true → ReadsBack ops quotes t
reads_back ops quotes t sound kept e =
    let r = reads_as (operator_at ops) quotes t (regular_table ops sound kept) e in
    record { term = r.term; names = r.names; is = r.is; variant = r.variant }

pub reads_back_after : (cs : List Change) (quotes : Quotes) (t : Tree) → is_readable t ≡ true → ReadsBack (table_after cs) quotes t
reads_back_after cs quotes t e = let kept = keeps cs in reads_back (table_after cs) quotes t kept.sound kept.names e
