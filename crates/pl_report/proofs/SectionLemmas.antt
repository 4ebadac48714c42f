-- The bytes of sections are those of their texts.
use Rattle.std.proofs.Common.{◌≡◌, ◌<◌, ◌+◌, ℕ, zero, suc, Bool, true, false, List, [], ◌∷◌, ◌++◌, length, refl, sym, ◌∙◌, ap, append_assoc, append-nil, arith, add-one, get_or, take, Option, Some, None}
use Rattle.std.proofs.lemmas.Bool.{ne_eqb}
use Rattle.std.proofs.lemmas.Str.{encodes-append, length-le-encodes}
use Rattle.std.specs.Prelude.{not, ◌&&◌, ◌==◌, if◌then◌else◌}
use Rattle.std.specs.List.{flat_map}
use Rattle.std.specs.Str.{encode_utf8_all}
use Rattle.pl_term.specs.Tree.{Chars, Tree}
use Rattle.pl_model.specs.OperatorTable.{OperatorTable}
use Rattle.run_model.specs.Report.{newline, closed, with_line, with_end, goal_line}
use Rattle.pl_model.specs.declared.ends.How.{How}
use Rattle.pl_model.specs.declared.ends.How.TheVariants.{Solved, False, Threw, Exited, Halted, AtomSpace}
use Rattle.run_model.specs.declared.ends.GoalHow.{GoalHow}
use Rattle.run_model.specs.declared.ends.GoalHow.TheVariants.{Ended, Waits, Syntax}
use Rattle.pl_report.specs.declared.parts.SectionKind.{SectionKind}
use Rattle.pl_report.specs.declared.parts.SectionKind.TheVariants.{Consult, Goal, Thread}
use Rattle.pl_report.specs.declared.parts.Section.{Section}
use Rattle.pl_report.specs.Sections.{with_goal_how, thread_head, thread_last, thread_text, section_text, AreWritten, transcript_text}
use Rattle.pl_report.specs.Pieces.{line_text, how_last, goal_last, has_line, is_silent, goal_bytes, thread_bytes, bytes_by, section_bytes}
use Rattle.pl_report.specs.Adds.{Adds}
use Rattle.pl_report.proofs.Endings.{closed_bytes}
use Rattle.pl_report.proofs.LineLemmas.{closed_line}

-- A text with its last line.
with_last_line : Chars → Option Chars → Chars
with_last_line t None = t
with_last_line t (Some line) = with_line t line

closed_last : (t : Chars) (last : Option Chars) → closed (with_last_line t last) ≡ closed t ++ line_text last
unfolding with_last_line
closed_last t None = sym (append-nil (closed t))
closed_last t (Some line) = closed_line t line

how_is : (ops : OperatorTable) (t : Chars) (how : How Tree) → with_end ops t how ≡ with_last_line t (how_last ops how)
unfolding with_last_line
how_is ops t Solved = refl
how_is ops t False = refl
how_is ops t (Threw b) = refl
how_is ops t (Exited u) = refl
how_is ops t (Halted n) = refl
how_is ops t (AtomSpace found) = refl

goal_how_is : (enough : Bool) (ops : OperatorTable) (t : Chars) (how : Option GoalHow) → with_goal_how enough ops t how ≡ with_last_line t (goal_last enough ops how)
unfolding with_last_line
goal_how_is true ops t how = refl
goal_how_is false ops t None = refl
goal_how_is false ops t (Some (Ended how)) = how_is ops t how
goal_how_is false ops t (Some (Waits on)) = refl
goal_how_is false ops t (Some (Syntax kind at)) = refl

-- A head, a text and its last line, in bytes.
pieces_are : (head : Chars) (bytes : List ℕ) (t : Chars) (last : Option Chars) → bytes ≡ encode_utf8_all t
    → encode_utf8_all head ++ (closed bytes ++ encode_utf8_all (line_text last)) ≡ encode_utf8_all (head ++ (closed t ++ line_text last))
pieces_are head bytes t last e =
    ap (λ x. encode_utf8_all head ++ (x ++ encode_utf8_all (line_text last))) (ap closed e ∙ closed_bytes t)
    ∙ ap (λ x. encode_utf8_all head ++ x) (sym (encodes-append (closed t) (line_text last)))
    ∙ sym (encodes-append head (closed t ++ line_text last))

goal_is : (word : Chars) (enough : Bool) (s : Section) (t : Chars) → s.text.now ≡ encode_utf8_all t → bytes_by (Goal word enough) s ≡ encode_utf8_all (section_text (Goal word enough) t s.how s.ops.now)
goal_is word enough s t e =
    pieces_are (goal_line word) s.text.now t (goal_last enough s.ops.now s.how) e
    ∙ ap (λ x. encode_utf8_all (goal_line word ++ x)) (sym (closed_last t (goal_last enough s.ops.now s.how)) ∙ ap closed (sym (goal_how_is enough s.ops.now t s.how)))

-- Bytes of a text are none exactly where the text is empty.
length-text : (c : ℕ) (cs : Chars) → (length (encode_utf8_all (c ∷ cs)) == 0) ≡ false
length-text c cs =
    ne_eqb (length (encode_utf8_all (c ∷ cs))) 0 (λ e. omega (arith, e, length-le-encodes (c ∷ cs)))

thread_by : (name : Chars) (bytes : List ℕ) (t : Chars) (last : Option Chars) → bytes ≡ encode_utf8_all t
    → (if (length bytes == 0) && not (has_line last) then [] else encode_utf8_all (thread_head name) ++ (closed bytes ++ encode_utf8_all (line_text last)))
    ≡ encode_utf8_all (thread_text name t last)
thread_by name bytes [] None e =
    ap (λ (bs : List ℕ). let x : List ℕ = (if (length bs == 0) && true then [] else encode_utf8_all (thread_head name) ++ (closed bs ++ [])) in x) e
thread_by name bytes (c ∷ cs) None e =
    ap (λ b. if b && true then [] else encode_utf8_all (thread_head name) ++ (closed bytes ++ [])) (ap (λ bs. length bs == 0) e ∙ length-text c cs)
    ∙ pieces_are (thread_head name) bytes (c ∷ cs) None e
    ∙ ap (λ x. encode_utf8_all (thread_head name ++ x)) (append-nil (closed (c ∷ cs)))
thread_by name bytes t (Some line) e = loud (length bytes == 0) ∙ pieces_are (thread_head name) bytes t (Some line) e
  where
    loud : (b : Bool)
        → (if b && false then [] else encode_utf8_all (thread_head name) ++ (closed bytes ++ encode_utf8_all (line ++ newline)))
        ≡ encode_utf8_all (thread_head name) ++ (closed bytes ++ encode_utf8_all (line ++ newline))
    loud true = refl
    loud false = refl

by_kind : (kind : SectionKind) (s : Section) (t : Chars) → s.text.now ≡ encode_utf8_all t → bytes_by kind s ≡ encode_utf8_all (section_text kind t s.how s.ops.now)
by_kind Consult s t e = ap closed e ∙ closed_bytes t
by_kind (Goal word enough) s t e = goal_is word enough s t e
by_kind (Thread name) s t e = thread_by name s.text.now t (thread_last s.how) e

-- All sections.
pub all_sections : (ss : List Section) (ts : List Chars) → AreWritten ss ts → flat_map section_bytes ss ≡ encode_utf8_all (transcript_text ss ts)
all_sections [] [] w = refl
all_sections [] (t ∷ ts) w = absurd w
all_sections (s ∷ ss) [] w = absurd w
all_sections (s ∷ ss) (t ∷ ts) w =
    ap (λ x. x ++ flat_map section_bytes ss) (by_kind s.kind s t w.0)
    ∙ ap (λ x. encode_utf8_all (section_text s.kind t s.how s.ops.now) ++ x) (all_sections ss ts w.1)
    ∙ sym (encodes-append (section_text s.kind t s.how s.ops.now) (transcript_text ss ts))

-- One section more.
pub section_more : (ss : List Section) (i : ℕ) (s : Section) → i < length ss → s ≡ get_or ss i s → flat_map section_bytes (take i ss) ++ section_bytes s ≡ flat_map section_bytes (take (i + 1) ss)
section_more [] i s h e = absurd (omega (arith, h))
section_more (x ∷ xs) zero s h e = ap section_bytes e ∙ sym (append-nil (section_bytes x))
section_more (x ∷ xs) (suc i) s h e =
    let k : i < length xs = omega (arith, h) in
    rw (add-one (suc i))
    (append_assoc (section_bytes x) (flat_map section_bytes (take i xs)) (section_bytes s)
    ∙ ap (λ y. section_bytes x ++ y) (section_more xs i s k e)
    ∙ ap (λ j. section_bytes x ++ flat_map section_bytes (take j xs)) (add-one i))

pub silent_put : (name : Chars) (s : Section) (a : List ℕ) → is_silent s.text.now s.how ≡ true → a ≡ a ++ thread_bytes name s
silent_put name s a e =
    sym (append-nil a)
    ∙ ap (λ b. a ++ (if b then [] else encode_utf8_all (thread_head name) ++ (closed s.text.now ++ encode_utf8_all (line_text (thread_last s.how))))) (sym e)

-- Three pieces one after the other.
three_put : {a b c d : List ℕ} {head last : Chars} (xs : List ℕ) → Adds a b head → c ≡ b ++ xs → Adds c d last → d ≡ a ++ (encode_utf8_all head ++ (xs ++ encode_utf8_all last))
three_put {a = a} {head = head} {last = last} xs p e q =
    q.added
    ∙ ap (λ x. x ++ encode_utf8_all last) (e ∙ ap (λ x. x ++ xs) p.added)
    ∙ append_assoc (a ++ encode_utf8_all head) xs (encode_utf8_all last)
    ∙ append_assoc a (encode_utf8_all head) (xs ++ encode_utf8_all last)

pub goal_put : {a b c d : List ℕ} (word : Chars) (enough : Bool) (s : Section) → Adds a b (goal_line word) → c ≡ b ++ closed s.text.now → Adds c d (line_text (goal_last enough s.ops.now s.how)) → d ≡ a ++ goal_bytes word enough s
goal_put word enough s p e q = three_put (closed s.text.now) p e q

pub thread_put : {a b c d : List ℕ} (name : Chars) (s : Section) → is_silent s.text.now s.how ≡ false → Adds a b (thread_head name) → c ≡ b ++ closed s.text.now → Adds c d (line_text (thread_last s.how)) → d ≡ a ++ thread_bytes name s
thread_put {a = a} name s loud p e q =
    three_put (closed s.text.now) p e q
    ∙ ap (λ b. a ++ (if b then [] else encode_utf8_all (thread_head name) ++ (closed s.text.now ++ encode_utf8_all (line_text (thread_last s.how))))) (sym loud)
