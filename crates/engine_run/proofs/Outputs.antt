-- What was written in several pieces.
use Rattle.std.proofs.Common.{◌≡◌, ℕ, List, [], ◌∷◌, ◌++◌, refl, sym, ap, ◌∙◌, append_assoc, append-nil}
use Rattle.std.specs.Prelude.{encode_utf8_all}
use Rattle.std.specs.Char.{encode_utf8}
use Rattle.pl_term.specs.Tree.{Chars, Tree}
use Rattle.pl_model.specs.OperatorTable.{OperatorTable}
use Rattle.pl_model.specs.Resolution.{Output, text, solution, solution_count}
use Rattle.run_model.specs.Report.{solution_line, texts, with_line, with_output}
use Rattle.iso_engine.specs.Slices.{written_text}
use Rattle.engine_run.specs.declared.runner.Lines.{Lines}
use Rattle.engine_run.specs.declared.runner.Lines.TheVariants.{Texts, Solutions}
use Rattle.engine_run.specs.Runners.{put_by}

pub encode-append : (xs ys : Chars) → encode_utf8_all (xs ++ ys) ≡ encode_utf8_all xs ++ encode_utf8_all ys
encode-append [] ys = refl
encode-append (x ∷ xs) ys =
    ap (λ l. encode_utf8 x ++ l) (encode-append xs ys) ∙ sym (append_assoc (encode_utf8 x) (encode_utf8_all xs) (encode_utf8_all ys))

pub texts-append : (t : Chars) (xs ys : List Output) → texts t (xs ++ ys) ≡ texts (texts t xs) ys
texts-append t [] ys = refl
texts-append t (text u ∷ xs) ys = texts-append (t ++ u) xs ys
texts-append t (solution ops ts ∷ xs) ys = texts-append t xs ys

pub texts-written : (t : Chars) (xs : List Output) → texts t xs ≡ t ++ written_text xs
texts-written t [] = sym (append-nil t)
texts-written t (text u ∷ xs) = texts-written (t ++ u) xs ∙ append_assoc t u (written_text xs)
texts-written t (solution ops ts ∷ xs) = texts-written t xs

-- The bytes that are put after a text are those of the texts.
pub bytes-texts : (old new : List ℕ) (xs : List Output) → new ≡ old ++ encode_utf8_all (written_text xs)
    → (before : Chars) → old ≡ encode_utf8_all before → new ≡ encode_utf8_all (texts before xs)
bytes-texts old new xs grown before is =
    grown
    ∙ ap (λ l. l ++ encode_utf8_all (written_text xs)) is
    ∙ sym (encode-append before (written_text xs))
    ∙ ap encode_utf8_all (sym (texts-written before xs))

-- Lines of solutions

pub output-append : (names : List (Chars × ℕ)) (t : Chars) (xs ys : List Output) → with_output names t (xs ++ ys) ≡ with_output names (with_output names t xs) ys
output-append names t [] ys = refl
output-append names t (text u ∷ xs) ys = output-append names (t ++ u) xs ys
output-append names t (solution ops ts ∷ xs) ys = output-append names (with_line t (solution_line names ops ts)) xs ys

-- Piece after piece, as the lines are written.
pub put-append : (l : Lines) (names : List (Chars × ℕ)) (t : Chars) (xs ys : List Output) → put_by l names t (xs ++ ys) ≡ put_by l names (put_by l names t xs) ys
put-append Texts names t xs ys = texts-append t xs ys
put-append Solutions names t xs ys = output-append names t xs ys

pub put-none : (l : Lines) (names : List (Chars × ℕ)) (t : Chars) → put_by l names t [] ≡ t
put-none Texts names t = refl
put-none Solutions names t = refl

-- Where there is no solution among them, the texts stand one after the other.
output-texts : (names : List (Chars × ℕ)) (t : Chars) (xs : List Output) → solution_count xs ≡ 0 → with_output names t xs ≡ t ++ written_text xs
output-texts names t [] e = sym (append-nil t)
output-texts names t (text u ∷ xs) e = output-texts names (t ++ u) xs e ∙ append_assoc t u (written_text xs)
output-texts names t (solution ops ts ∷ xs) e = absurd (cc)

output-answer : (names : List (Chars × ℕ)) (t : Chars) (xs : List Output) (ops : OperatorTable) (ts : List Tree) → solution_count xs ≡ 0
    → with_output names t (xs ++ solution ops ts ∷ []) ≡ with_line (t ++ written_text xs) (solution_line names ops ts)
output-answer names t xs ops ts e =
    output-append names t xs (solution ops ts ∷ []) ∙ ap (λ u. with_line u (solution_line names ops ts)) (output-texts names t xs e)

written-answer : (xs : List Output) (ops : OperatorTable) (ts : List Tree) → written_text (xs ++ solution ops ts ∷ []) ≡ written_text xs
written-answer [] ops ts = refl
written-answer (text u ∷ xs) ops ts = ap (λ l. u ++ l) (written-answer xs ops ts)
written-answer (solution o us ∷ xs) ops ts = written-answer xs ops ts

bytes-behind : (old new : List ℕ) (before behind : Chars) → new ≡ old ++ encode_utf8_all behind → old ≡ encode_utf8_all before → new ≡ encode_utf8_all (before ++ behind)
bytes-behind old new before behind grown is = grown ∙ ap (λ l. l ++ encode_utf8_all behind) is ∙ sym (encode-append before behind)

pub bytes-silent : (names : List (Chars × ℕ)) (old mid new : List ℕ) (xs : List Output) → solution_count xs ≡ 0 → mid ≡ old ++ encode_utf8_all (written_text xs) → new ≡ mid
    → (before : Chars) → old ≡ encode_utf8_all before → new ≡ encode_utf8_all (with_output names before xs)
bytes-silent names old mid new xs none grown same before is =
    same ∙ bytes-behind old mid before (written_text xs) grown is ∙ ap encode_utf8_all (sym (output-texts names before xs none))

pub bytes-answer : (names : List (Chars × ℕ)) (old mid new : List ℕ) (xs ys : List Output) (ops : OperatorTable) (ts : List Tree)
    → solution_count ys ≡ 0
    → xs ≡ ys ++ solution ops ts ∷ []
    → mid ≡ old ++ encode_utf8_all (written_text xs)
    → ((t : Chars) → mid ≡ encode_utf8_all t → new ≡ encode_utf8_all (with_line t (solution_line names ops ts)))
    → (before : Chars) → old ≡ encode_utf8_all before → new ≡ encode_utf8_all (with_output names before xs)
bytes-answer names old mid new xs ys ops ts none are grown puts before is =
    let short : mid ≡ old ++ encode_utf8_all (written_text ys) =
    grown ∙ ap (λ l. old ++ encode_utf8_all l) (ap written_text are ∙ written-answer ys ops ts) in
    puts (before ++ written_text ys) (bytes-behind old mid before (written_text ys) short is)
    ∙ ap encode_utf8_all (sym (ap (with_output names before) are ∙ output-answer names before ys ops ts none))
