use Rattle.std.proofs.Common.{◌≡◌, [], ◌∷◌, IfOk, pos, ap, subst, ◌∙◌, w64}
use Rattle.std.proofs.lemmas.Int.{to_z-of_z}
use Rattle.std.proofs.lemmas.Result.{IfOk-weaker}
use Rattle.std.proofs.lemmas.List.Elements.{All-cons, All-nil}
use mir.Val.{of_z, to_z}
use Rattle.pl_term.specs.Tree.{int}
use Rattle.term_store.specs.Contents.{Holds, term_at}
use Rattle.iso_search.specs.Errors.{error_tree, fault_tree}
use Rattle.iso_search.specs.Spelling.{spelled, text_of}
use Rattle.iso_search.proofs.Erring.{ball_made, error_spelled}
use Rattle.iso_search.proofs.balls.Ball.error.Goals as goal

pub make_compound-requires-2-clause-places : goal.make_compound-requires-2-clause-places
make_compound-requires-2-clause-places c =
    let s = c.make_compound.new.self in
    All-cons (Holds s) c.in_ok-term.term (c.in_ok-indicator.indicator ∷ [])
    (c.in_ok-indicator.ensures.adds.places c.in_ok-term.term c.in_ok-term.ensures.holds)
    (All-cons (Holds s) c.in_ok-indicator.indicator [] c.in_ok-indicator.ensures.made.holds (All-nil (Holds s)))

pub returns-clause-tree : goal.returns-clause-tree
returns-clause-tree c =
    let s = c.args.store.now in
    let q = c.fault_in.new.own in
    let r = c.make_compound.new.self in
    let counted : to_z w64 (of_z w64 c.in-Ok.count) ≡ pos c.args.arity =
    ap (λ z. to_z w64 (of_z w64 z)) c.in-Ok.ensures.1 ∙ to_z-of_z w64 (pos c.args.arity) c.in-Ok.ensures.0 in
    let is = ball_made (term_at c.make_compound-2.new.self c.in_ok-place.place) (term_at r c.in_ok-term.term) (term_at r c.in_ok-indicator.indicator)
    (term_at q c.atom.result) (term_at q c.integer.result) (fault_tree s c.args.fault) c.args.name c.args.arity c.in_ok-place.ensures.made.means
    (c.in_ok-indicator.ensures.made.others c.in_ok-term.term c.in_ok-term.ensures.holds ∙ c.in_ok-term.ensures.means)
    c.in_ok-indicator.ensures.made.means (c.atom.ensures q).1 ((c.integer.ensures q).1 ∙ ap int counted) in
    subst (λ t. IfOk c.kept.result (λ b. b ≡ t)) is c.kept.ensures

pub returns-clause-reads : goal.returns-clause-reads
returns-clause-reads c =
    let s = c.args.store.now in
    IfOk-weaker c.kept.result (λ b. b ≡ error_tree s c.args.fault c.args.name c.args.arity) _
    (λ b is v view. ap (spelled (text_of v.names)) is ∙ error_spelled v view s c.args.fault c.args.name c.args.arity) (returns-clause-tree c)
