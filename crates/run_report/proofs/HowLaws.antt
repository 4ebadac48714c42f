-- How the goals end, by what is kept of their engines.
use Rattle.std.proofs.Common.{◌≡◌, ◌++◌, ◌+◌, ◌<◌, ◌≤◌, ℕ, suc, List, [], ◌∷◌, length, drop, Option, Some, None, refl, sym, ◌∙◌, ap, ap₂, subst, arith, append_assoc, append-nil}
use Rattle.pl_term.specs.Tree.{Tree}
use Rattle.pl_model.specs.declared.ends.How.{How}
use Rattle.pl_model.specs.declared.threads.On.{On}
use Rattle.run_model.specs.Execution.{Execution, Refusal, Word, goal_word, faulty_word, move}
use Rattle.run_model.specs.Lawful.{Program, Told, beginnings}
use Rattle.run_model.specs.Report.{Finals, end_in, final_of, refusal_of as refusal_with}
use Rattle.run_model.specs.Ends.{awaited_by, ends_from, engine_how, goal_how, job_of, with_end, word_how}
use Rattle.run_model.specs.declared.ends.GoalEnd.{GoalEnd}
use Rattle.run_model.specs.declared.ends.GoalHow.{GoalHow}
use Rattle.word_board.specs.declared.word.GoalWord.{GoalWord}
use Rattle.pl_consult.specs.GoalWords.{word_of, words_of}
use Rattle.run_report.specs.declared.parts.Part.{Part}
use Rattle.run_report.specs.Parts.{IsAwaited, IsKept, IsKeptOf, ends_over, how_of, part_how, part_in}
use Rattle.run_report.proofs.LookupLaws.{found_part}

how_same : (end : Option (How Tree)) (on wanted : Option On) → IsAwaited end on wanted → goal_how wanted end ≡ goal_how on end
how_same (Some how) on wanted is = refl
how_same None on wanted is = ap (λ (o : Option On). goal_how o None) is

-- What is kept of the engine tells how it ended.
kept_how : (p : Program) (told : Told) (finals : Finals) (n : ℕ) (k : Part) (x : Execution) (rs : Option Refusal)
    → k.number ≡ n
    → IsKeptOf p told finals k x
    → engine_how n (job_of p (beginnings told.history) n) (end_in told.history n) (final_of finals n) rs ≡ part_how rs (Some k)
kept_how p told finals n k x (Some r) is kept = refl
kept_how p told finals n k x None is kept =
    subst (λ (m : ℕ). engine_how m (job_of p (beginnings told.history) m) (end_in told.history m) (final_of finals m) None ≡ goal_how k.awaits k.end) is
    (ap (λ (o : Option Execution). engine_how k.number (job_of p (beginnings told.history) k.number) (end_in told.history k.number) o None) kept.final
    ∙ ap (goal_how (awaited_by k.number (move (job_of p (beginnings told.history) k.number) x))) kept.end
    ∙ how_same k.end k.awaits (awaited_by k.number (move (job_of p (beginnings told.history) k.number) x)) kept.awaits)

absent_how : (n : ℕ) (p : Program) (told : Told) (finals : Finals) (rs : Option Refusal)
    → final_of finals n ≡ None
    → engine_how n (job_of p (beginnings told.history) n) (end_in told.history n) (final_of finals n) rs ≡ part_how rs None
absent_how n p told finals (Some r) none = refl
absent_how n p told finals None none =
    ap (λ (o : Option Execution). engine_how n (job_of p (beginnings told.history) n) (end_in told.history n) o None) none

module _ (p : Program) (told : Told) (finals : Finals) (all : List Word) (ks : List Part) (rs : List Refusal) (kept : IsKept p told finals all ks) where
  engine_so : (i : ℕ) (o : Option Part)
      → i < length all
      → part_in ks (suc i) ≡ o
      → engine_how (suc i) (job_of p (beginnings told.history) (suc i)) (end_in told.history (suc i)) (final_of finals (suc i)) (refusal_with rs (suc i)) ≡ part_how (refusal_with rs (suc i)) o
  engine_so i None low is = absent_how (suc i) p told finals (refusal_with rs (suc i)) (kept.absent i low is)
  engine_so i (Some k) low is =
      let f = found_part p told finals all ks (suc i) k kept.each is in
      kept_how p told finals (suc i) k f.1.0 (refusal_with rs (suc i)) f.0 f.1.1

  how_so : (i : ℕ) (w : Word) → i < length all → word_how p told.history finals rs (suc i) w ≡ how_of ks rs (suc i) w
  how_so i (faulty_word kind at) low = refl
  how_so i (goal_word t names) low = engine_so i (part_in ks (suc i)) low refl

  -- The ends of the words from one on.
  ends_so : (i : ℕ) (ws : List Word) → i + length ws ≤ length all → ends_from p told.history finals rs (suc i) ws ≡ ends_over ks rs (suc i) ws
  ends_so i [] low = refl
  ends_so i (w ∷ ws) low =
      let here : i < length all = omega arith in
      let rest : suc i + length ws ≤ length all = omega arith in
      ap₂ (with_end (suc i)) (how_so i w here) (ends_so (suc i) ws rest)

  pub ends_told : ends_from p told.history finals rs 1 all ≡ ends_over ks rs 1 all
  ends_told = ends_so 0 all (let e : 0 + length all ≤ length all = omega arith in e)

-- The loop over the words.
with_end_more : (n : ℕ) (o : Option GoalHow) (es : List GoalEnd) → with_end n o [] ++ es ≡ with_end n o es
with_end_more n None es = refl
with_end_more n (Some how) es = refl

pub ends_more : (ks : List Part) (rs : List Refusal) (all : List GoalWord) (i : ℕ) (w : GoalWord) (old new : List GoalEnd) (o : Option GoalHow)
    → drop i all ≡ w ∷ drop (suc i) all
    → o ≡ how_of ks rs (suc i) (word_of w)
    → new ≡ old ++ with_end (suc i) o []
    → old ++ ends_over ks rs (suc i) (words_of (drop i all)) ≡ ends_over ks rs 1 (words_of all)
    → new ++ ends_over ks rs (suc (suc i)) (words_of (drop (suc i) all)) ≡ ends_over ks rs 1 (words_of all)
ends_more ks rs all i w old new o at how put so =
    ap (λ (es : List GoalEnd). es ++ ends_over ks rs (suc (suc i)) (words_of (drop (suc i) all))) put
    ∙ append_assoc old (with_end (suc i) o []) (ends_over ks rs (suc (suc i)) (words_of (drop (suc i) all)))
    ∙ ap (λ (es : List GoalEnd). old ++ es) (with_end_more (suc i) o (ends_over ks rs (suc (suc i)) (words_of (drop (suc i) all))))
    ∙ ap (λ (q : Option GoalHow). old ++ with_end (suc i) q (ends_over ks rs (suc (suc i)) (words_of (drop (suc i) all)))) how
    ∙ ap (λ (ws : List GoalWord). old ++ ends_over ks rs (suc i) (words_of ws)) (sym at)
    ∙ so

pub ends_all : (ks : List Part) (rs : List Refusal) (all : List GoalWord) (i : ℕ) (es : List GoalEnd)
    → drop i all ≡ []
    → es ++ ends_over ks rs (suc i) (words_of (drop i all)) ≡ ends_over ks rs 1 (words_of all)
    → es ≡ ends_over ks rs 1 (words_of all)
ends_all ks rs all i es none so =
    sym (append-nil es) ∙ ap (λ (ws : List GoalWord). es ++ ends_over ks rs (suc i) (words_of ws)) (sym none) ∙ so
