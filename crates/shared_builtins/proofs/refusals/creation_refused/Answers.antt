use Rattle.std.proofs.Common.{refl, sym, ap, subst, ◌∙◌}
use Rattle.pl_model.specs.BuiltinRows.{error}
use Rattle.pl_model.specs.Terms.{arguments}
use Rattle.world_builtins.specs.Spelling.{reads}
use Rattle.shared_builtins.specs.Faults.{IsFaultIn}
use Rattle.shared_builtins.specs.Following.{IsErrorOf}
use Rattle.shared_builtins.proofs.Choosing.{some_of}
use Rattle.shared_builtins.proofs.Creating.{ground_error, no_error, wrong_error}
use Rattle.shared_builtins.proofs.refusals.creation_refused.Goals as goal

pub returns-then-count-eq0 : goal.returns-then-count-eq0
returns-then-count-eq0 c m e next n held names is h =
    (ap error (ground_error m e c.args.error is (sym c.variables-count.ensures ∙ c.if-count-eq0.true)), (refl, names))

pub returns-in-Some : goal.returns-in-Some
returns-in-Some c m e next n held names is h =
    let s = c.args.store.now in
    let us = arguments (reads m s c.args.goal.now.place) in
    let w =
    wrong_error m e c.args.error is s us c.in-Some.fault c.in_ok-wrong.wrong c.in-Some.is (λ closed. c.if-count-eq0.false (c.variables-count.ensures ∙ closed))
    (subst (λ p. IsErrorOf p us e) c.requires.creates h) (c.in_ok-wrong.ensures.error m n held) in
    (ap error w.0, (refl, (some_of (IsFaultIn s) c.in_ok-wrong.wrong c.in-Some.fault c.in-Some.is c.in_ok-wrong.ensures.inside, w.1)))

pub returns-in-None : goal.returns-in-None
returns-in-None c m e next n held names is h =
    let s = c.args.store.now in
    let us = arguments (reads m s c.args.goal.now.place) in
    absurd
    (no_error m e c.args.error is s us c.in_ok-wrong.wrong c.in-None.is (λ closed. c.if-count-eq0.false (c.variables-count.ensures ∙ closed))
    (subst (λ p. IsErrorOf p us e) c.requires.creates h) (c.in_ok-wrong.ensures.error m n held))
