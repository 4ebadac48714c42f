use Rattle.std.proofs.Common.{◌≡◌, [], ◌∷◌, pos, ap, ◌∙◌, w64}
use Rattle.std.proofs.lemmas.Int.{to_z-of_z}
use Rattle.std.proofs.lemmas.List.Elements.{All-cons, All-nil}
use mir.Val.{of_z, to_z}
use Rattle.pl_term.specs.Tree.{int}
use Rattle.term_store.specs.Contents.{Holds, term_at}
use Rattle.term_store.proofs.KeptTerms.{stored_names}
use Rattle.iso_search.specs.Spelling.{spelled, text_of}
use Rattle.iso_engine.proofs.Errors.{ball_made, ball_read}
use Rattle.iso_engine.proofs.refused.error_of.Goals as goal

pub make_compound-requires-2-clause-places : goal.make_compound-requires-2-clause-places
make_compound-requires-2-clause-places c =
    let s = c.make_compound.new.self in
    All-cons (Holds s) c.in_ok-culprit.culprit (c.in_ok-indicator.indicator ∷ [])
    (c.in_ok-indicator.ensures.adds.places c.in_ok-culprit.culprit c.in_ok-culprit.ensures.built.holds)
    (All-cons (Holds s) c.in_ok-indicator.indicator [] c.in_ok-indicator.ensures.made.holds (All-nil (Holds s)))

pub returns-clause-over : goal.returns-clause-over
returns-clause-over c = stored_names c.args.error.now c.nodes-numbered.result.now c.nodes-numbered.ensures.spelled

pub returns-clause-ball : goal.returns-clause-ball
returns-clause-ball c v view =
    let s = c.build.new.self in
    let r = c.make_compound.new.self in
    let counted : to_z w64 (of_z w64 c.in-Ok.arity) ≡ pos c.args.procedure.arity =
    ap (λ z. to_z w64 (of_z w64 z)) c.in-Ok.ensures.1 ∙ to_z-of_z w64 (pos c.args.procedure.arity) c.in-Ok.ensures.0 in
    ap (spelled (text_of v.names))
    (ball_made c.in_ok-thrown.thrown (term_at r c.in_ok-culprit.culprit) (term_at r c.in_ok-indicator.indicator) (term_at s c.atom.result) (term_at s c.integer.result)
    c.args.error.now c.args.procedure.name c.args.procedure.arity
    (c.in_ok-thrown.ensures ∙ c.in_ok-ball.ensures.made.means)
    (c.in_ok-indicator.ensures.made.others c.in_ok-culprit.culprit c.in_ok-culprit.ensures.built.holds ∙ c.in_ok-culprit.ensures.built.means ∙ c.nodes-numbered.ensures.numbered)
    c.in_ok-indicator.ensures.made.means
    (c.atom.ensures s).1
    ((c.integer.ensures s).1 ∙ ap int counted))
    ∙ ball_read v view c.args.error.now c.args.procedure.name c.args.procedure.arity
