use Rattle.std.proofs.Common.{◌≡◌, ◌∷◌, ap, subst}
use Rattle.iso_search.specs.Choices.{choice_at}
use Rattle.iso_search.specs.Reading.{reads}
use Rattle.iso_search.specs.Searching.{choices_of, node_of}
use Rattle.iso_search.specs.declared.search.Search.{Search}
use Rattle.iso_search.proofs.Resuming.{back_answers, back_barrier, back_branch, back_catch, back_clauses, back_exhausted, back_findall, back_told}
use Rattle.iso_search.proofs.search.Search.resume.Goals as goal

pub returns-in_default-clause-step : goal.returns-in_default-clause-step
returns-in_default-clause-step c t fails =
    let e = c.args.self.now in
    let d = c.backtrack.new.self in
    let kept = c.backtrack.ensures.kept in
    let back = c.in_default.ensures.back t.view in
    back_exhausted t e d back.0 back.1 (ap (λ (s : Search). s.next_variable) kept) (ap (λ (s : Search). s.inferences) kept)

pub returns-in-Clauses-clause-step : goal.returns-in-Clauses-clause-step
returns-in-Clauses-clause-step c t fails =
    let kept = c.backtrack.ensures.kept in
    back_clauses t c.args.self.now c.backtrack.new.self c.in-Some.k.next c.in-Some.k.alternative (c.in-Some.ensures.back t.view)
    (ap (λ (s : Search). s.next_variable) kept) (ap (λ (s : Search). s.inferences) kept) (ap (λ (s : Search). s.budgets) kept)
    c.in-Clauses.purpose c.in-Clauses.goal c.in-Clauses.generation c.in-Clauses.place c.in-Clauses.is

pub returns-in-Branch-clause-step : goal.returns-in-Branch-clause-step
returns-in-Branch-clause-step c t fails =
    let kept = c.backtrack.ensures.kept in
    back_branch t c.args.self.now c.backtrack.new.self c.in-Some.k.next c.in-Some.k.alternative (c.in-Some.ensures.back t.view)
    (ap (λ (s : Search). s.next_variable) kept) (ap (λ (s : Search). s.inferences) kept) c.in-Branch.is

pub returns-in-Barrier-clause-step : goal.returns-in-Barrier-clause-step
returns-in-Barrier-clause-step c t fails =
    let kept = c.backtrack.ensures.kept in
    back_barrier t c.args.self.now c.backtrack.new.self c.in-Some.k.next c.in-Some.k.alternative (c.in-Some.ensures.back t.view)
    (ap (λ (s : Search). s.next_variable) kept) (ap (λ (s : Search). s.inferences) kept) fails c.in-Barrier.is

pub returns-in-Catch-clause-step : goal.returns-in-Catch-clause-step
returns-in-Catch-clause-step c t fails =
    let kept = c.backtrack.ensures.kept in
    back_catch t c.args.self.now c.backtrack.new.self c.in-Some.k.next c.in-Some.k.alternative (c.in-Some.ensures.back t.view)
    (ap (λ (s : Search). s.next_variable) kept) (ap (λ (s : Search). s.inferences) kept) fails c.in-Catch.catcher c.in-Catch.recovery c.in-Catch.is

pub returns-in-Clauses-clause-taken : goal.returns-in-Clauses-clause-taken
returns-in-Clauses-clause-taken c v =
    let d = c.backtrack.new.self in
    subst (λ a. choices_of v c.args.self.now ≡ choice_at v (reads v d.store) (node_of v d c.in-Some.k.next) a ∷ choices_of v d) c.in-Clauses.is
    (c.in-Some.ensures.back v)

pub returns-in-Answers-clause-step : goal.returns-in-Answers-clause-step
returns-in-Answers-clause-step c t fails =
    let kept = c.backtrack.ensures.kept in
    back_answers t c.args.self.now c.backtrack.new.self c.in-Some.k.next c.in-Some.k.alternative (c.in-Some.ensures.back t.view)
    (ap (λ (s : Search). s.next_variable) kept) (ap (λ (s : Search). s.inferences) kept) (ap (λ (s : Search). s.budgets) kept)
    c.in-Answers.goal c.in-Answers.line c.in-Answers.is

pub returns-in-Answers-clause-taken : goal.returns-in-Answers-clause-taken
returns-in-Answers-clause-taken c v =
    let d = c.backtrack.new.self in
    subst (λ a. choices_of v c.args.self.now ≡ choice_at v (reads v d.store) (node_of v d c.in-Some.k.next) a ∷ choices_of v d) c.in-Answers.is
    (c.in-Some.ensures.back v)

pub returns-in-Told-clause-step : goal.returns-in-Told-clause-step
returns-in-Told-clause-step c t fails =
    let kept = c.backtrack.ensures.kept in
    back_told t c.args.self.now c.backtrack.new.self c.in-Some.k.next c.in-Some.k.alternative (c.in-Some.ensures.back t.view)
    (ap (λ (s : Search). s.next_variable) kept) (ap (λ (s : Search). s.inferences) kept) (ap (λ (s : Search). s.budgets) kept)
    c.in-Told.goal c.in-Told.lines c.in-Told.line c.in-Told.is

pub returns-in-Told-clause-taken : goal.returns-in-Told-clause-taken
returns-in-Told-clause-taken c v =
    let d = c.backtrack.new.self in
    subst (λ a. choices_of v c.args.self.now ≡ choice_at v (reads v d.store) (node_of v d c.in-Some.k.next) a ∷ choices_of v d) c.in-Told.is
    (c.in-Some.ensures.back v)

pub returns-in-Findall-clause-step : goal.returns-in-Findall-clause-step
returns-in-Findall-clause-step c t fails =
    let kept = c.backtrack.ensures.kept in
    back_findall t c.args.self.now c.backtrack.new.self c.in-Some.k.next c.in-Some.k.alternative (c.in-Some.ensures.back t.view)
    (ap (λ (s : Search). s.next_variable) kept) (ap (λ (s : Search). s.inferences) kept) (ap (λ (s : Search). s.budgets) kept)
    c.in-Findall.list c.in-Findall.found c.in-Findall.is
