-- What is written of the first engine.
use Rattle.std.proofs.Common.{◌≡◌, ℕ, zero, Bool, true, false, List, [], ◌∷◌, ◌++◌, map, Option, Some, None, refl, sym, ◌∙◌, ap, arith}
use Rattle.std.specs.Prelude.{◌||◌, Vec, codes, encode_utf8_all, length}
use Rattle.std.proofs.lemmas.List.{length-append}
use Rattle.std.proofs.lemmas.Str.{length-le-encodes}
use Rattle.std.specs.Arc.{arc_value}
use Rattle.pl_term.specs.Tree.{Chars, Tree}
use Rattle.pl_model.specs.declared.ends.AtomRecord.{AtomRecord}
use Rattle.pl_model.specs.declared.ends.How.{How}
use Rattle.pl_model.specs.declared.ends.How.TheVariants.{Solved, False, Threw, Exited, Halted, AtomSpace}
use Rattle.pl_model.specs.declared.grammar.Quotes.{Quotes}
use Rattle.pl_model.specs.History.{History}
use Rattle.pl_model.specs.OperatorTable.{OperatorTable}
use Rattle.pl_model.specs.Resolution.{Output, State, text, solution}
use Rattle.pl_model.specs.SharedState.{SharedState}
use Rattle.run_model.specs.Execution.{Activity, Consulted, Execution, Job, Script, Word, taking, adding, directing, reporting, initializing, reading, starting, beginning, searching, over, wrote, too_large, syntax_fault, ball_of_item, directive_failed, directive_halted, texts_of, bytes_in, words_in as goals_in, word_read, consults}
use Rattle.run_model.specs.Lawful.{Program, Told, main_job}
use Rattle.run_model.specs.Report.{all_consulted, closed, consult_text, end_in, item_line, newline, no_atoms_text, output_of, output_of_directive, place_at_hand, place_of_main, solution_line, with_consulted, with_directive, with_line, with_output, with_stop, with_unplaced, words_behind, words_by as words_at, words_of as words_told, words_read}
use Rattle.run_model.specs.Ends.{is_fault, some_fault}
use Rattle.script_api.specs.Parts.{Part, of_goal, of_directive, with_search}
use Rattle.script_api.specs.Scripts as scripts
use Rattle.script_api.specs.Scripts.{texts_at, written_at}
use Rattle.word_board.specs.declared.word.GoalWord.{GoalWord}
use Rattle.word_board.specs.declared.word.GoalWord.TheVariants.{Goal, Faulty}
use Rattle.pl_consult.specs.declared.file_script.FileScript.{FileScript}
use Rattle.pl_consult.specs.FileScripts.{IsOf, execution_of, is_over as is_done, part_in}
use Rattle.pl_consult.specs.GoalWords.{names_by, read_of, refusals_of, words_of}
use Rattle.pl_consult.specs.Hands.{StandsThere, between, at_item, at_end}
use Rattle.pl_consult.specs.Steps.{directive_place}
use Rattle.engine_run.specs.Items.{IsText}
use Rattle.run_report.specs.declared.parts.Part.{Part as PartOf}
use Rattle.run_report.specs.Parts.{names_at}
use Rattle.toplevel.specs.declared.main_engine.Main.{Main}
use Rattle.toplevel.specs.Mains.{FileStands, HasWritten, IsUnread, told_at, words_in, words_kept}
use Rattle.toplevel.specs.Opened.{state_of}
use Rattle.toplevel.proofs.StandingLaws.{over_no_part, words_there}

-- Faults.
same_fault : (c : Consulted) → is_fault c ≡ scripts.is_fault c
same_fault (wrote t) = refl
same_fault too_large = refl
same_fault (syntax_fault kind at) = refl
same_fault (ball_of_item ops at b) = refl
same_fault (directive_failed at) = refl
same_fault (directive_halted at n) = refl

same_faults : (cs : List Consulted) → some_fault cs ≡ scripts.some_fault cs
same_faults [] = refl
same_faults (c ∷ cs) = ap (λ (b : Bool). b || some_fault cs) (same_fault c) ∙ ap (λ (b : Bool). scripts.is_fault c || b) (same_faults cs)

texts_no_fault : (os : List Output) → scripts.some_fault (texts_of os) ≡ false
texts_no_fault [] = refl
texts_no_fault (text t ∷ os) = texts_no_fault os
texts_no_fault (solution ops ts ∷ os) = texts_no_fault os

or_same : (b : Bool) (x y : Bool) → x ≡ y → (b || x) ≡ (b || y)
or_same b x y e = ap (λ (z : Bool). b || z) e

faults_before : (cs : List Consulted) (os : List Output) → scripts.some_fault (cs ++ texts_of os) ≡ scripts.some_fault cs
faults_before [] os = texts_no_fault os
faults_before (c ∷ cs) os = or_same (scripts.is_fault c) (scripts.some_fault (cs ++ texts_of os)) (scripts.some_fault cs) (faults_before cs os)

-- The texts of a directive that has not been reported.
texts_same : (a : Activity) → texts_at a ≡ texts_of (output_of_directive a)
texts_same (taking at) = refl
texts_same (adding ops at next c) = refl
texts_same (directing at rest s) = refl
texts_same (reporting at rest how) = refl
texts_same initializing = refl
texts_same reading = refl
texts_same (starting ops gs) = refl
texts_same (beginning t) = refl
texts_same (searching s) = refl
texts_same (over ending) = refl

pub faults_there : (name : Chars) (kept : Bool) (x : Execution) (bytes : List ℕ) → IsText name kept x bytes → kept ≡ some_fault x.consulted
faults_there name kept x bytes is =
    sym is.1
    ∙ ap (λ (cs : List Consulted). scripts.some_fault (x.consulted ++ cs)) (texts_same x.activity)
    ∙ faults_before x.consulted (output_of_directive x.activity)
    ∙ sym (same_faults x.consulted)

-- Lines.
lines_behind : (name t : Chars) (cs ds : List Consulted) → all_consulted name t (cs ++ ds) ≡ all_consulted name (all_consulted name t cs) ds
lines_behind name t [] ds = refl
lines_behind name t (c ∷ cs) ds = lines_behind name (with_consulted name t c) cs ds

-- What is written of the file, with what a directive has given.
abbrev file_text : Chars → Execution → Chars
file_text name x = all_consulted name [] x.consulted

written_so : (name : Chars) (kept : Bool) (x : Execution) (bytes : List ℕ) → IsText name kept x bytes
    → bytes ≡ encode_utf8_all (all_consulted name (file_text name x) (texts_at x.activity))
written_so name kept x bytes is = is.0 ∙ ap encode_utf8_all (lines_behind name [] x.consulted (texts_at x.activity))

-- No directive is run where no item is at hand.
record IsNoDirective (a : Activity) : Type 0 where
  silent : texts_at a ≡ []
  waits : (name t : Chars) → with_directive name t a ≡ t

no_directive : (bytes : List ℕ) (s : SharedState) (x : Execution) (a : Activity) → place_at_hand bytes s x a ≡ None → IsNoDirective a
no_directive bytes s x (taking at) none = record { silent = refl; waits = λ name t. refl }
no_directive bytes s x (adding ops at next c) none = record { silent = refl; waits = λ name t. refl }
no_directive bytes s x (directing at rest d) none = absurd (let no : ⊥ = cc in no)
no_directive bytes s x (reporting at rest how) none = record { silent = refl; waits = λ name t. refl }
no_directive bytes s x initializing none = record { silent = refl; waits = λ name t. refl }
no_directive bytes s x reading none = record { silent = refl; waits = λ name t. refl }
no_directive bytes s x (starting ops gs) none = record { silent = refl; waits = λ name t. refl }
no_directive bytes s x (beginning t) none = record { silent = refl; waits = λ name t. refl }
no_directive bytes s x (searching d) none = record { silent = refl; waits = λ name t. refl }
no_directive bytes s x (over ending) none = record { silent = refl; waits = λ name t. refl }

-- Words.
first_names : (ws : List GoalWord) → names_by ws ≡ names_at 1 (words_of ws)
first_names [] = refl
first_names (Goal t names ∷ ws) = refl
first_names (Faulty f ∷ ws) = refl

ended_words : (p : Program) (told : Told) (x : Execution) (how : How Tree) → ((found : AtomRecord) → how ≡ AtomSpace found → ⊥) → words_at p told x (Some how) ≡ x.words
ended_words p told x Solved other = refl
ended_words p told x False other = refl
ended_words p told x (Threw b) other = refl
ended_words p told x (Exited b) other = refl
ended_words p told x (Halted n) other = refl
ended_words p told x (AtomSpace found) other = absurd (other found refl)

ended_text : (name t : Chars) (a : Activity) (place : Option ℕ) (how : How Tree) → ((found : AtomRecord) → how ≡ AtomSpace found → ⊥) → with_stop name t a place (Some how) ≡ t
ended_text name t a place Solved other = refl
ended_text name t a place False other = refl
ended_text name t a place (Threw b) other = refl
ended_text name t a place (Exited b) other = refl
ended_text name t a place (Halted n) other = refl
ended_text name t a place (AtomSpace found) other = absurd (other found refl)

-- Where nothing was written under some names, nothing is under others.
closed_some : (t line : Chars) → closed t ++ (line ++ newline) ≡ [] → ⊥
closed_some t line is = absurd (let some_ : length (closed t ++ (line ++ newline)) ≡ 0 = ap length is in let a = length-append (closed t) (line ++ newline) in let b = length-append line newline in omega (arith, some_, a, b))

grows : (names : List (Chars × ℕ)) (t : Chars) (os : List Output) → with_output names t os ≡ [] → t ≡ []
grows names t [] is = is
grows names t (text u ∷ os) is = front_nil t u (grows names (t ++ u) os is)
  where
    front_nil : (a b : Chars) → a ++ b ≡ [] → a ≡ []
    front_nil [] b e = refl
    front_nil (c ∷ cs) b e = absurd (let no : ⊥ = cc in no)
grows names t (solution ops ts ∷ os) is = absurd (closed_some t (solution_line names ops ts) (grows names (with_line t (solution_line names ops ts)) os is))

silent_by : (names others : List (Chars × ℕ)) (t : Chars) (os : List Output) → with_output names t os ≡ [] → with_output others t os ≡ []
silent_by names others t [] is = is
silent_by names others t (text u ∷ os) is = silent_by names others (t ++ u) os is
silent_by names others t (solution ops ts ∷ os) is = absurd (closed_some t (solution_line names ops ts) (grows names (with_line t (solution_line names ops ts)) os is))

nothing : (t : Chars) → encode_utf8_all t ≡ [] → t ≡ []
nothing [] is = refl
nothing (c ∷ cs) is = absurd (let long = length-le-encodes (c ∷ cs) in let none : length (encode_utf8_all (c ∷ cs)) ≡ 0 = ap length is in omega (arith, long, none))

module _ (p : Program) (file : Chars) (h : History) (s : FileScript) (bytes : List ℕ) (k : PartOf) (quotes : Quotes) (x : Execution) (f : FileStands p file h s bytes k quotes x) where
  abbrev place : Option ℕ
  place = place_of_main p (told_at h) x

  read_words : x.words ≡ words_of (read_of s.read)
  read_words = words_there s (main_job p) f.lines x f.there

  given_read : k.output.items ≡ encode_utf8_all (with_output (names_at 1 (words_of (read_of s.read))) [] (output_of x))
  given_read = f.given ∙ ap (λ (ns : List (Chars × ℕ)). encode_utf8_all (with_output ns [] (output_of x))) (first_names (read_of s.read))

  written : bytes ≡ encode_utf8_all (all_consulted file (file_text file x) (texts_at x.activity))
  written = written_so file s.faulty x bytes f.written

  -- the script's words are kept
  words_still : (words : words_told p (told_at h) x ≡ x.words) (m : Main) → m.under ≡ None → m.script ≡ s → words_told p (told_at h) x ≡ words_of (words_kept m)
  words_still words m none same =
      words
      ∙ read_words
      ∙ ap (λ (r : FileScript). words_of (read_of r.read)) (sym same)
      ∙ sym (let e : words_kept m ≡ read_of m.script.read = rw none refl in ap words_of e)

  output_still : (m : Main) → m.under ≡ None → m.script ≡ s → k.output.items ≡ encode_utf8_all (with_output (names_at 1 (words_of (words_kept m))) [] (output_of x))
  output_still m none same =
      given_read
      ∙ ap (λ (r : FileScript). encode_utf8_all (with_output (names_at 1 (words_of (read_of r.read))) [] (output_of x))) (sym same)
      ∙ sym (let e : words_kept m ≡ read_of m.script.read = rw none refl in ap (λ (ws : List GoalWord). encode_utf8_all (with_output (names_at 1 (words_of ws)) [] (output_of x))) e)

  by_text : (m : Main) → m.under ≡ None → m.script ≡ s → words_told p (told_at h) x ≡ x.words
      → m.text.items ≡ encode_utf8_all (consult_text file x place (end_in h 1))
      → HasWritten p file h x s k m
  by_text m none same words text_is =
      record { script = same; output = output_still m none same; text = text_is; words = words_still words m none same }

  -- No item is at hand.
  quiet_text : place ≡ None → bytes ≡ encode_utf8_all (file_text file x)
  quiet_text none = written ∙ ap (λ (cs : List Consulted). encode_utf8_all (all_consulted file (file_text file x) cs)) (no_directive p.bytes (state_of p h 1) x x.activity none).silent

  -- It has ended by itself.
  pub ended_so : (m : Main) (how : How Tree) → m.under ≡ None → m.script ≡ s → m.text.items ≡ bytes → k.end ≡ Some how → ((found : AtomRecord) → how ≡ AtomSpace found → ⊥) → place ≡ None
      → HasWritten p file h x s k m
  ended_so m how none same text_is end other hand =
      by_text m none same (ap (words_at p (told_at h) x) (f.end ∙ end) ∙ ended_words p (told_at h) x how other)
      (text_is
      ∙ quiet_text hand
      ∙ ap encode_utf8_all (sym (ended_text file (file_text file x) x.activity place how other))
      ∙ ap (λ (e : Option (How Tree)). encode_utf8_all (consult_text file x place e)) (sym (f.end ∙ end)))

  -- It waits, and no directive is searched for.
  waits_words : k.end ≡ None → words_told p (told_at h) x ≡ x.words
  waits_words end = ap (words_at p (told_at h) x) (f.end ∙ end)

  pub waits_so : (m : Main) → m.under ≡ None → m.script ≡ s → m.text.items ≡ bytes → k.end ≡ None → place ≡ None → HasWritten p file h x s k m
  waits_so m none same text_is end hand =
      by_text m none same (waits_words end)
      (text_is
      ∙ quiet_text hand
      ∙ ap encode_utf8_all (sym ((no_directive p.bytes (state_of p h 1) x x.activity hand).waits file (file_text file x)))
      ∙ ap (λ (e : Option (How Tree)). encode_utf8_all (consult_text file x place e)) (sym (f.end ∙ end)))

  -- Or one is.
  directive_line : (at : ℕ) → directive_place (part_in s) ≡ Some at
      → with_line (all_consulted file (file_text file x) (texts_at x.activity)) (item_line file at (codes "waiting")) ≡ with_directive file (file_text file x) x.activity
  directive_line at is = by_place f.there
    where
      by_item : (q : Part) (d : State) → part_in s ≡ Some q → x ≡ with_search (execution_of s (main_job p) f.lines) q d
          → with_line (all_consulted file (file_text file x) (texts_at x.activity)) (item_line file at (codes "waiting")) ≡ with_directive file (file_text file x) x.activity
      by_item of_goal d item same = absurd (let e : directive_place (Some of_goal) ≡ Some at = ap directive_place (sym item) ∙ is in let no : ⊥ = cc in no)
      by_item (of_directive there rest) d item same =
          let e : Some there ≡ Some at = ap directive_place (sym item) ∙ is in
          let n : there ≡ at = cc in
          let a : x.activity ≡ directing there rest d = ap (λ (y : Execution). y.activity) same in
          ap (λ (b : Activity). with_line (all_consulted file (file_text file x) (texts_at b)) (item_line file at (codes "waiting"))) a
          ∙ ap (λ (i : ℕ). with_line (all_consulted file (file_text file x) (texts_of d.output)) (item_line file i (codes "waiting"))) (sym n)
          ∙ ap (λ (b : Activity). with_directive file (file_text file x) b) (sym a)

      by_place : StandsThere s (main_job p) f.lines x
          → with_line (all_consulted file (file_text file x) (texts_at x.activity)) (item_line file at (codes "waiting")) ≡ with_directive file (file_text file x) x.activity
      by_place (between none yet same) = absurd (let e : directive_place None ≡ Some at = ap directive_place (sym none) ∙ is in let no : ⊥ = cc in no)
      by_place (at_item q d item same) = by_item q d item same
      by_place (at_end ending os done same) =
          absurd (let e : directive_place None ≡ Some at = ap directive_place (sym (over_no_part s.consult.place s.stage done)) ∙ is in let no : ⊥ = cc in no)

  pub waits_at : (m : Main) (at : ℕ) → m.under ≡ None → m.script ≡ s → k.end ≡ None → directive_place (part_in s) ≡ Some at
      → ((t : Chars) → bytes ≡ encode_utf8_all t → m.text.items ≡ encode_utf8_all (with_line t (item_line file at (codes "waiting"))))
      → HasWritten p file h x s k m
  waits_at m at none same end is put =
      by_text m none same (waits_words end)
      (put (all_consulted file (file_text file x) (texts_at x.activity)) written
      ∙ ap encode_utf8_all (directive_line at is)
      ∙ ap (λ (e : Option (How Tree)). encode_utf8_all (consult_text file x place e)) (sym (f.end ∙ end)))

  -- It found no place for an atom of the item at hand.
  pub unplaced_at : (m : Main) (at : ℕ) (found : AtomRecord) → m.under ≡ None → m.script ≡ s → k.end ≡ Some (AtomSpace found) → place ≡ Some at
      → ((t : Chars) → bytes ≡ encode_utf8_all t → m.text.items ≡ encode_utf8_all (with_line t (item_line file at no_atoms_text)))
      → HasWritten p file h x s k m
  unplaced_at m at found none same end hand put =
      by_text m none same
      (ap (words_at p (told_at h) x) (f.end ∙ end) ∙ ap (words_behind p (state_of p h 1) x.words) hand)
      (put (all_consulted file (file_text file x) (texts_at x.activity)) written
      ∙ ap (λ (cs : List Consulted). encode_utf8_all (with_line (all_consulted file (file_text file x) cs) (item_line file at no_atoms_text))) (texts_same x.activity)
      ∙ ap (λ (o : Option ℕ). encode_utf8_all (with_unplaced file (file_text file x) x.activity o)) (sym hand)
      ∙ ap (λ (e : Option (How Tree)). encode_utf8_all (consult_text file x place e)) (sym (f.end ∙ end)))

  -- Or of none, and the words of the goals were read.
  read_still : (st : SharedState) (ws : List GoalWord) → (ws ≡ [] → ⊥) → words_read p st (words_of ws) ≡ words_of ws
  read_still st [] some_ = absurd (some_ refl)
  read_still st (w ∷ ws) some_ = refl

  none_text : (m : Main) (found : AtomRecord) → m.text.items ≡ bytes → k.end ≡ Some (AtomSpace found) → place ≡ None → m.text.items ≡ encode_utf8_all (consult_text file x place (end_in h 1))
  none_text m found text_is end hand =
      text_is
      ∙ quiet_text hand
      ∙ ap (λ (o : Option ℕ). encode_utf8_all (with_unplaced file (file_text file x) x.activity o)) (sym hand)
      ∙ ap (λ (e : Option (How Tree)). encode_utf8_all (consult_text file x place e)) (sym (f.end ∙ end))

  behind : (found : AtomRecord) → k.end ≡ Some (AtomSpace found) → place ≡ None → words_told p (told_at h) x ≡ words_read p (state_of p h 1) x.words
  behind found end hand = ap (words_at p (told_at h) x) (f.end ∙ end) ∙ ap (words_behind p (state_of p h 1) x.words) hand

  pub read_before : (m : Main) (found : AtomRecord) → m.under ≡ None → m.script ≡ s → m.text.items ≡ bytes → k.end ≡ Some (AtomSpace found) → place ≡ None → (read_of s.read ≡ [] → ⊥)
      → HasWritten p file h x s k m
  read_before m found none same text_is end hand some_ =
      by_text m none same
      (behind found end hand
      ∙ ap (words_read p (state_of p h 1)) read_words
      ∙ read_still (state_of p h 1) (read_of s.read) some_
      ∙ sym read_words)
      (none_text m found text_is end hand)

  -- Or they were not, and are read as the state stands.
  goals_same : p.words ≡ s.words.items
  goals_same = ap goals_in f.of.script

  bytes_same : p.bytes ≡ s.consult.text.items
  bytes_same = ap bytes_in f.of.script

  unread_words : (words : List GoalWord) → read_of s.read ≡ [] → words_of words ≡ map (word_read (arc_value k.operators) quotes) s.words.items → words_read p (state_of p h 1) x.words ≡ words_of words
  unread_words words unread are =
      ap (words_read p (state_of p h 1)) (read_words ∙ ap (λ (ws : List GoalWord). words_of ws) unread)
      ∙ ap (λ (gs : List Chars). map (word_read (state_of p h 1).operators (state_of p h 1).flags.double_quotes) gs) goals_same
      ∙ ap (λ (o : OperatorTable). map (word_read o (state_of p h 1).flags.double_quotes) s.words.items) (sym f.operators)
      ∙ ap (λ (q : Quotes). map (word_read (arc_value k.operators) q) s.words.items) (sym f.quotes_are)
      ∙ sym are

  pub read_now : (m : Main) (found : AtomRecord) (words : List GoalWord) → words_kept m ≡ words → m.script ≡ s → m.text.items ≡ bytes → k.end ≡ Some (AtomSpace found) → place ≡ None
      → read_of s.read ≡ [] → k.output.items ≡ [] → words_of words ≡ map (word_read (arc_value k.operators) quotes) s.words.items
      → HasWritten p file h x s k m
  read_now m found words are same text_is end hand unread nothing_given read =
      record {
        script = same;
        output = nothing_given ∙ sym (ap encode_utf8_all (silent_by (names_by (read_of s.read)) (names_at 1 (words_of (words_kept m))) [] (output_of x) (nothing _ (sym f.given ∙ nothing_given))));
        text = none_text m found text_is end hand;
        words = behind found end hand ∙ unread_words words unread read ∙ ap (λ (ws : List GoalWord). words_of ws) (sym are);
      }

  pub unread_so : {Z : Type 0} (m : Main) (found : AtomRecord) (under : Option (Vec GoalWord Z)) → words_kept m ≡ words_in (read_of m.script.read) under → (under ≡ None → m.under ≡ None) → m.script ≡ s → m.text.items ≡ bytes → k.end ≡ Some (AtomSpace found) → place ≡ None
      → IsUnread s k quotes under
      → HasWritten p file h x s k m
  unread_so m found None are none same text_is end hand unread = read_before m found (none refl) same text_is end hand unread
  unread_so m found (Some words) are none same text_is end hand unread = read_now m found words.items are same text_is end hand unread.0 unread.1 unread.2

  -- Where it stands.
  pub place_is : (hand : Option ℕ)
      → ((job : Job) (cs : List Consulted) (y : Execution) (state : SharedState) → state.operators ≡ arc_value k.operators → state.flags.double_quotes ≡ quotes → StandsThere s job cs y
      → hand ≡ place_at_hand s.consult.text.items state y y.activity)
      → place ≡ hand
  place_is hand says =
      ap (λ (bs : List ℕ). place_at_hand bs (state_of p h 1) x x.activity) bytes_same
      ∙ sym (says (main_job p) f.lines x (state_of p h 1) (sym f.operators) (sym f.quotes_are) f.there)
