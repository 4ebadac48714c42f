-- Going back to the newest choice point, by the definition.
use Rattle.std.proofs.Common.{◌≡◌, ℕ, [], ◌∷◌, drop, Vec, refl, sym, ap, ap₂, ◌∙◌}
use Rattle.std.specs.declared.alloc.Global.{Global}
use Rattle.pl_model.specs.Resolution.{running, failing, ended, no_more}
use Rattle.pl_model.specs.BuiltinRows.{unifying}
use Rattle.pl_model.specs.Control.{gone_back, list_made, next_answer, next_clause}
use Rattle.pl_model.specs.Predicates.{proc_of}
use Rattle.pl_model.specs.Terms.{arguments}
use Rattle.term_store.specs.declared.words.Place.{Place}
use Rattle.iso_search.specs.declared.choices.Alternative.{Alternative}
use Rattle.iso_search.specs.declared.choices.Alternative.TheVariants.{Clauses, Answers, Told, Branch, Barrier, Catch, Findall}
use Rattle.iso_search.specs.declared.failure.Back.TheVariants.{Exhausted, Run, Fail, Retry, Answers as Tried, Told as ToldBack, Found}
use Rattle.iso_search.specs.declared.choices.Purpose.{Purpose}
use Rattle.iso_search.specs.declared.search.Search.{Search}
use Rattle.iso_search.specs.declared.told.Line.{Line}
use Rattle.iso_search.specs.Choices.{choice_at, listed_goal, purpose_of}
use Rattle.iso_search.specs.declared.copies.Collection.{Collection}
use Rattle.iso_search.specs.Collecting.{copies_of}
use Rattle.iso_search.specs.Failures.{back_result}
use Rattle.iso_search.specs.Lines.{lines_of}
use Rattle.iso_search.specs.Outcomes.{Setting, limits_in, state_in}
use Rattle.iso_search.specs.Reading.{reads}
use Rattle.iso_search.specs.Searching.{node_of, choices_of}
use Rattle.iso_search.specs.Told.{told_answers}
use Rattle.iso_search.proofs.Over.{state_by, same_limits}

pub back_exhausted : (t : Setting) (e d : Search) → choices_of t.view e ≡ [] → choices_of t.view d ≡ [] → d.next_variable ≡ e.next_variable → d.inferences ≡ e.inferences
    → back_result t d Exhausted ≡ gone_back (limits_in t e) (state_in t e) (choices_of t.view e)
unfolding gone_back
back_exhausted t e d none left next inferences =
    state_by (ended no_more) (ended no_more) (choices_of t.view d) (choices_of t.view e) d.next_variable e.next_variable d.inferences e.inferences t.output
    refl (left ∙ sym none) next inferences
    ∙ sym (ap (gone_back (limits_in t e) (state_in t e)) none)

module _ (t : Setting) (e d : Search) (list : ℕ) (a : Alternative)
    (back : choices_of t.view e ≡ choice_at t.view (reads t.view d.store) (node_of t.view d list) a ∷ choices_of t.view d)
    (next : d.next_variable ≡ e.next_variable) (inferences : d.inferences ≡ e.inferences) where
  newest : (b : Alternative) → a ≡ b → choices_of t.view e ≡ choice_at t.view (reads t.view d.store) (node_of t.view d list) b ∷ choices_of t.view d
  newest b is = back ∙ ap (λ x. choice_at t.view (reads t.view d.store) (node_of t.view d list) x ∷ choices_of t.view d) is

  pub back_branch : a ≡ Branch → back_result t d (Run list) ≡ gone_back (limits_in t e) (state_in t e) (choices_of t.view e)
  unfolding gone_back
  back_branch is =
      state_by (running (node_of t.view d list)) (running (node_of t.view d list)) (choices_of t.view d) (choices_of t.view d)
      d.next_variable e.next_variable d.inferences e.inferences t.output refl refl next inferences
      ∙ sym (ap (gone_back (limits_in t e) (state_in t e)) (newest Branch is))

  pub back_barrier : t.doing ≡ failing → a ≡ Barrier → back_result t d Fail ≡ gone_back (limits_in t e) (state_in t e) (choices_of t.view e)
  unfolding gone_back
  back_barrier fails is =
      state_by failing t.doing (choices_of t.view d) (choices_of t.view d) d.next_variable e.next_variable d.inferences e.inferences t.output (sym fails) refl next inferences
      ∙ sym (ap (gone_back (limits_in t e) (state_in t e)) (newest Barrier is))

  pub back_catch : t.doing ≡ failing → (c r : Place) → a ≡ Catch c r → back_result t d Fail ≡ gone_back (limits_in t e) (state_in t e) (choices_of t.view e)
  unfolding gone_back
  back_catch fails c r is =
      state_by failing t.doing (choices_of t.view d) (choices_of t.view d) d.next_variable e.next_variable d.inferences e.inferences t.output (sym fails) refl next inferences
      ∙ sym (ap (gone_back (limits_in t e) (state_in t e)) (newest (Catch c r) is))

  pub back_clauses : d.budgets ≡ e.budgets → (p : Purpose) (g : Place) (generation place : ℕ) → a ≡ Clauses p g generation place
      → back_result t d (Retry p g generation place list) ≡ gone_back (limits_in t e) (state_in t e) (choices_of t.view e)
  unfolding gone_back
  back_clauses budgets p g generation place is =
      ap₂
      (λ l s. next_clause l (purpose_of p) s (reads t.view d.store g) (node_of t.view d list)
      (t.view.left (listed_goal (purpose_of p) (reads t.view d.store g)) generation place))
      (same_limits t d e budgets)
      (state_by t.doing t.doing (choices_of t.view d) (choices_of t.view d) d.next_variable e.next_variable d.inferences e.inferences t.output refl refl next inferences)
      ∙ sym (ap (gone_back (limits_in t e) (state_in t e)) (newest (Clauses p g generation place) is))

  pub back_answers : d.budgets ≡ e.budgets → (g : Place) (line : ℕ) → a ≡ Answers g line
      → back_result t d (Tried g line list) ≡ gone_back (limits_in t e) (state_in t e) (choices_of t.view e)
  unfolding gone_back
  back_answers budgets g line is =
      let r = reads t.view d.store g in
      ap₂ (λ l s. next_answer l s (node_of t.view d list) (proc_of r) (arguments r) (unifying (arguments r) (drop line (lines_of r))))
      (same_limits t d e budgets)
      (state_by t.doing t.doing (choices_of t.view d) (choices_of t.view d) d.next_variable e.next_variable d.inferences e.inferences t.output refl refl next inferences)
      ∙ sym (ap (gone_back (limits_in t e) (state_in t e)) (newest (Answers g line) is))

  pub back_told : d.budgets ≡ e.budgets → (g : Place) (ls : Vec Line Global) (line : ℕ) → a ≡ Told g ls line
      → back_result t d (ToldBack g ls line list) ≡ gone_back (limits_in t e) (state_in t e) (choices_of t.view e)
  unfolding gone_back
  back_told budgets g ls line is =
      let r = reads t.view d.store g in
      ap₂ (λ l s. next_answer l s (node_of t.view d list) (proc_of r) (arguments r) (told_answers t.view.names r ls.items line))
      (same_limits t d e budgets)
      (state_by t.doing t.doing (choices_of t.view d) (choices_of t.view d) d.next_variable e.next_variable d.inferences e.inferences t.output refl refl next inferences)
      ∙ sym (ap (gone_back (limits_in t e) (state_in t e)) (newest (Told g ls line) is))

  pub back_findall : d.budgets ≡ e.budgets → (l : Place) (f : Collection) → a ≡ Findall l f
      → back_result t d (Found l f list) ≡ gone_back (limits_in t e) (state_in t e) (choices_of t.view e)
  unfolding gone_back
  back_findall budgets l f is =
      ap₂ (λ m s. list_made m s (node_of t.view d list) (reads t.view d.store l) (copies_of t.view f))
      (same_limits t d e budgets)
      (state_by t.doing t.doing (choices_of t.view d) (choices_of t.view d) d.next_variable e.next_variable d.inferences e.inferences t.output refl refl next inferences)
      ∙ sym (ap (gone_back (limits_in t e) (state_in t e)) (newest (Findall l f) is))
