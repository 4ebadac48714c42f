use Rattle.std.proofs.Common.{[], ◌∷◌}
use Rattle.std.specs.List.{All}
use Rattle.std.proofs.lemmas.List.Elements.{All-cons, All-nil}
use Rattle.world_builtins.specs.Spelling.{reads}
use Rattle.shared_builtins.specs.declared.checks.Check.TheVariants.{Bound, Callable}
use Rattle.shared_builtins.specs.Checks.{IsCheckHeld}
use Rattle.shared_builtins.specs.Faults.{fault_term}
use Rattle.shared_builtins.proofs.ClauseTerms.{body_from, head_refused}
use Rattle.shared_builtins.proofs.clauses.body_at.Goals as goal

pub returns-in-Some-clause-body : goal.returns-in-Some-clause-body
returns-in-Some-clause-body c m tells hh hb =
    let s = c.args.store.now in
    let h = c.args.parts.head in
    let all : All (IsCheckHeld m s) (Bound h ∷ (Callable h ∷ [])) =
    All-cons (IsCheckHeld m s) (Bound h) (Callable h ∷ []) hh (All-cons (IsCheckHeld m s) (Callable h) [] hh (All-nil (IsCheckHeld m s))) in (
      head_refused (reads m s h) (reads m s c.args.parts.body) (fault_term m s c.in-Some.fault) (c.in-Some.ensures.error m tells.naming all),
      (c.in-Some.ensures.inside, c.in-Some.ensures.held m all),
    )

pub returns-in_ok-body-in-None-clause-body : goal.returns-in_ok-body-in-None-clause-body
returns-in_ok-body-in-None-clause-body c m tells hh hb =
    let s = c.args.store.now in
    let h = c.args.parts.head in
    let all : All (IsCheckHeld m s) (Bound h ∷ (Callable h ∷ [])) =
    All-cons (IsCheckHeld m s) (Bound h) (Callable h ∷ []) hh (All-cons (IsCheckHeld m s) (Callable h) [] hh (All-nil (IsCheckHeld m s))) in
    body_from m s c.goal_at.new.store c.args.parts c.in_ok-body-in-None.body (c.in-None.ensures.error m tells.naming all) (c.in_ok-body-in-None.ensures.goal m tells hb)
