-- The sections of the file and of the goals.
use Rattle.std.proofs.Common.{◌≡◌, ◌++◌, ℕ, zero, suc, List, [], ◌∷◌, drop, slice_get, Option, Some, None, refl, sym, ◌∙◌, ap, ap₂, subst, append_assoc, append-nil}
use Rattle.std.specs.Prelude.{encode_utf8_all}
use Rattle.std.specs.Arc.{arc_value}
use Rattle.pl_term.specs.Tree.{Chars, Tree}
use Rattle.pl_model.specs.OperatorTable.{OperatorTable}
use Rattle.pl_model.specs.declared.ends.How.{How}
use Rattle.pl_model.specs.declared.threads.On.{On}
use Rattle.run_model.specs.Execution.{Execution, Refusal, Word, goal_word}
use Rattle.run_model.specs.Lawful.{Program, Told}
use Rattle.run_model.specs.Report.{Finals, end_in, end_operators, final_of, goal_line, goal_sections, goal_text, of_engine, refusal_of as refusal_with, refused_text, with_goal_line, word_section}
use Rattle.run_model.specs.Ends.{goal_how}
use Rattle.pl_report.specs.declared.parts.Section.{Section}
use Rattle.pl_report.specs.Reported.{Tells}
use Rattle.pl_report.specs.Sections.{AreWritten, section_text, transcript_text}
use Rattle.word_board.specs.declared.word.GoalWord.{GoalWord}
use Rattle.pl_consult.specs.declared.goal_words.RefusedGoal.{RefusedGoal}
use Rattle.pl_consult.specs.GoalWords.{refusal_of, word_of, words_of}
use Rattle.run_report.specs.declared.parts.Part.{Part}
use Rattle.run_report.specs.Parts.{HasWaited, IsRefusal, names_at, names_in}
use Rattle.run_report.specs.Sections.{AreSections, IsPart, IsSection, PutSo}

-- What is told of an engine is how it ended or that it waits.
pub tells_how : (on : Option On) (end : Option (How Tree)) → HasWaited end on → Tells (goal_how on end) end
tells_how on (Some how) w = refl
tells_how None None w = absurd (let no : ⊥ = cc in no)
tells_how (Some on) None w = tt

-- Sections one after the other.
written_more : (ss : List Section) (ts : List Chars) (s : Section) (t : Chars) → AreWritten ss ts → s.text.now ≡ encode_utf8_all t → AreWritten (ss ++ s ∷ []) (ts ++ t ∷ [])
written_more [] [] s t are is = (is, tt)
written_more [] (u ∷ ts) s t are is = absurd are
written_more (r ∷ ss) [] s t are is = absurd are
written_more (r ∷ ss) (u ∷ ts) s t are is = (are.0, written_more ss ts s t are.1 is)

text_more : (ss : List Section) (ts : List Chars) (s : Section) (t : Chars) → AreWritten ss ts → transcript_text (ss ++ s ∷ []) (ts ++ t ∷ []) ≡ transcript_text ss ts ++ section_text s.kind t s.how s.ops.now
text_more [] [] s t are = append-nil (section_text s.kind t s.how s.ops.now)
text_more [] (u ∷ ts) s t are = absurd are
text_more (r ∷ ss) [] s t are = absurd are
text_more (r ∷ ss) (u ∷ ts) s t are =
    ap (λ (v : Chars). section_text r.kind u r.how r.ops.now ++ v) (text_more ss ts s t are.1)
    ∙ sym (append_assoc (section_text r.kind u r.how r.ops.now) (transcript_text ss ts) (section_text s.kind t s.how s.ops.now))

pub sections_none : AreSections [] []
sections_none = record { written = []; spelled = tt; says = refl }

pub sections_more : (old new : List Section) (s : Section) (t u : Chars) → new ≡ old ++ s ∷ [] → AreSections old t → IsSection s u → AreSections new (t ++ u)
sections_more old new s t u put are is =
    subst (λ (ss : List Section). AreSections ss (t ++ u)) (sym put)
    (record {
      written = are.written ++ is.written ∷ [];
      spelled = written_more old are.written s is.written are.spelled is.spelled;
      says = text_more old are.written s is.written are.spelled ∙ ap₂ (λ (v w : Chars). v ++ w) are.says is.says;
    })

-- A goal's section by what is kept of its engine.
pub refused_so : (p : Program) (told : Told) (finals : Finals) (rs : List Refusal) (n : ℕ) (goal : Chars) (t : Tree) (names : List (Chars × ℕ)) (r : RefusedGoal)
    → IsRefusal (refusal_with rs n) (Some r)
    → goal_line goal ++ refused_text (refusal_of r) ≡ with_goal_line goal (word_section p told finals rs n (goal_word t names))
refused_so p told finals rs n goal t names r is =
    sym (ap (λ (o : Option Refusal). with_goal_line goal (of_engine (end_operators p told n) names (end_in told.history n) (final_of finals n) o)) is)

pub absent_so : (p : Program) (told : Told) (finals : Finals) (rs : List Refusal) (n : ℕ) (goal : Chars) (t : Tree) (names : List (Chars × ℕ))
    → IsRefusal (refusal_with rs n) None
    → final_of finals n ≡ None
    → with_goal_line goal (word_section p told finals rs n (goal_word t names)) ≡ []
absent_so p told finals rs n goal t names unrefused none =
    ap (λ (o : Option Refusal). with_goal_line goal (of_engine (end_operators p told n) names (end_in told.history n) (final_of finals n) o)) unrefused
    ∙ ap (λ (o : Option Execution). with_goal_line goal (of_engine (end_operators p told n) names (end_in told.history n) o None)) none

pub engine_so : (p : Program) (told : Told) (finals : Finals) (rs : List Refusal) (n : ℕ) (goal : Chars) (t : Tree) (names : List (Chars × ℕ)) (k : Part) (x : Execution)
    → IsRefusal (refusal_with rs n) None
    → k.number ≡ n
    → final_of finals k.number ≡ Some x
    → end_in told.history k.number ≡ k.end
    → end_operators p told k.number ≡ arc_value k.operators
    → goal_line goal ++ goal_text (arc_value k.operators) names x k.end ≡ with_goal_line goal (word_section p told finals rs n (goal_word t names))
engine_so p told finals rs n goal t names k x unrefused number final end operators =
    ap₂ (λ (o : OperatorTable) (e : Option (How Tree)). goal_line goal ++ goal_text o names x e) (sym operators) (sym end)
    ∙ ap (λ (m : ℕ). goal_line goal ++ goal_text (end_operators p told m) names x (end_in told.history m)) number
    ∙ sym (ap (λ (o : Option Execution). with_goal_line goal (of_engine (end_operators p told n) names (end_in told.history n) o None)) (sym (ap (final_of finals) number) ∙ final))
    ∙ sym (ap (λ (o : Option Refusal). with_goal_line goal (of_engine (end_operators p told n) names (end_in told.history n) (final_of finals n) o)) unrefused)

-- The names are those of the word.
pub names_so : (ws : List Word) (n i : ℕ) (t : Tree) (names : List (Chars × ℕ)) → n ≡ suc i → slice_get ws i ≡ Some (goal_word t names) → names_at n ws ≡ names
names_so ws n i t names is at = ap (λ (m : ℕ). names_at m ws) is ∙ ap names_in at

-- The loop over the words.
pub record Written (p : Program) (told : Told) (finals : Finals) (rs : List Refusal) (i : ℕ) (goals : List Chars) (words : List Word) (ss : List Section) (whole : Chars) : Type 0 where
  pub text : Chars
  pub are : AreSections ss text
  pub rest : text ++ goal_sections p told finals rs (suc i) goals words ≡ whole

pub goals_start : (p : Program) (told : Told) (finals : Finals) (rs : List Refusal) (goals : List Chars) (words : List Word) (ss : List Section) (t : Chars)
    → AreSections ss t
    → Written p told finals rs 0 goals words ss (t ++ goal_sections p told finals rs 1 goals words)
goals_start p told finals rs goals words ss t are = record { text = t; are = are; rest = refl }

put_part : (old new : List Section) (o : Option Section) (t u : Chars) → IsPart o u → PutSo old new o → AreSections old t → AreSections new (t ++ u)
put_part old new None t u is put are =
    subst (λ (ss : List Section). AreSections ss (t ++ u)) (sym put) (subst (AreSections old) (sym (ap (λ (v : Chars). t ++ v) is ∙ append-nil t)) are)
put_part old new (Some s) t u is put are = sections_more old new s t u put are is

pub goals_more : (p : Program) (told : Told) (finals : Finals) (rs : List Refusal) (i : ℕ) (goals gs : List Chars) (words ws : List GoalWord) (g : Chars) (w : GoalWord) (old new : List Section) (o : Option Section) (whole : Chars)
    → goals ≡ g ∷ gs
    → words ≡ w ∷ ws
    → IsPart o (with_goal_line g (word_section p told finals rs (suc i) (word_of w)))
    → PutSo old new o
    → Written p told finals rs i goals (words_of words) old whole
    → Written p told finals rs (suc i) gs (words_of ws) new whole
goals_more p told finals rs i goals gs words ws g w old new o whole at here is put so =
    let u : Chars = with_goal_line g (word_section p told finals rs (suc i) (word_of w)) in
    record {
      text = so.text ++ u;
      are = put_part old new o so.text u is put so.are;
      rest =
          append_assoc so.text u (goal_sections p told finals rs (suc (suc i)) gs (words_of ws))
          ∙ ap₂ (λ (ds : List Chars) (vs : List GoalWord). so.text ++ goal_sections p told finals rs (suc i) ds (words_of vs)) (sym at) (sym here)
          ∙ so.rest;
    }

-- After the last goal, or the last word.
pub no_goals : (p : Program) (told : Told) (finals : Finals) (rs : List Refusal) (i : ℕ) (goals : List Chars) (words : List Word) (ss : List Section) (whole : Chars)
    → goals ≡ []
    → Written p told finals rs i goals words ss whole
    → AreSections ss whole
no_goals p told finals rs i goals words ss whole none so =
    subst (AreSections ss) (sym (append-nil so.text) ∙ ap (λ (gs : List Chars). so.text ++ goal_sections p told finals rs (suc i) gs words) (sym none) ∙ so.rest) so.are

without_words : (p : Program) (told : Told) (finals : Finals) (rs : List Refusal) (n : ℕ) (goals : List Chars) → goal_sections p told finals rs n goals [] ≡ []
without_words p told finals rs n [] = refl
without_words p told finals rs n (g ∷ gs) = refl

pub no_words : (p : Program) (told : Told) (finals : Finals) (rs : List Refusal) (i : ℕ) (goals : List Chars) (words : List Word) (ss : List Section) (whole : Chars)
    → words ≡ []
    → Written p told finals rs i goals words ss whole
    → AreSections ss whole
no_words p told finals rs i goals words ss whole none so =
    subst (AreSections ss)
    (sym (append-nil so.text)
    ∙ ap (λ (u : Chars). so.text ++ u) (sym (without_words p told finals rs (suc i) goals))
    ∙ ap (λ (ws : List Word). so.text ++ goal_sections p told finals rs (suc i) goals ws) (sym none)
    ∙ so.rest)
    so.are

-- The word at a place of the list.
pub word_at : (ws : List GoalWord) (i : ℕ) (w : GoalWord) (rest : List GoalWord) → drop i ws ≡ w ∷ rest → slice_get (words_of ws) i ≡ Some (word_of w)
word_at [] zero w rest is = absurd (let no : ⊥ = cc in no)
word_at [] (suc i) w rest is = absurd (let no : ⊥ = cc in no)
word_at (v ∷ ws) zero w rest is = let same : v ≡ w = cc in ap (λ (x : GoalWord). Some (word_of x)) same
word_at (v ∷ ws) (suc i) w rest is = word_at ws i w rest is
