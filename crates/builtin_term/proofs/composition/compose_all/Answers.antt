use Rattle.std.proofs.Common.{◌-◌, codes, length, map, sym, subst}
use Rattle.std.proofs.lemmas.List.Elements.{All-drop, All-get_or, All-take}
use Rattle.pl_model.specs.History.{proc}
use Rattle.pl_model.specs.TermBuiltins.{composes}
use Rattle.term_store.specs.Contents.{Holds}
use Rattle.world_builtins.specs.Naming.{IsHeldAt}
use Rattle.world_builtins.specs.Spelling.{reads}
use Rattle.builtin_term.proofs.PartAnswers.{ok_weaker}
use Rattle.builtin_term.specs.Giving.{IsGiven}
use Rattle.builtin_term.proofs.Composed.{empty_of, first_and_rest, some_in}
use Rattle.builtin_term.proofs.FixedNames.{univ_is}
use Rattle.builtin_term.proofs.composition.compose_all.Goals as goal

pub returns-then-is_empty-clause-row : goal.returns-then-is_empty-clause-row
returns-then-is_empty-clause-row c =
    let s = c.args.store.now in
    let none = empty_of c.args.elements.now c.if-is_empty.ensures in
    ok_weaker _ _ c.raise.result c.raise.ensures.row
    (λ r h m stands list all.
    subst (λ ps. IsGiven s c.args.next (proc (codes "=..") 2) (composes (reads m s c.args.list) (map (reads m s) ps)) m c.raise.new.store r) (sym none)
    (h m (codes "=..") c.args.next stands tt univ_is))

pub compose_compound-requires-clause-rest : goal.compose_compound-requires-clause-rest
compose_compound-requires-clause-rest c =
    let H = Holds c.args.store.now in
    let ps = c.args.elements.now in
    All-take H (length ps - 1) _ (All-drop H 1 ps c.requires.elements)

pub returns-else-is_empty-2-clause-row : goal.returns-else-is_empty-2-clause-row
returns-else-is_empty-2-clause-row c =
    let s = c.args.store.now in
    let ps = c.args.elements.now in
    let some = some_in ps c.if-is_empty.ensures in
    ok_weaker _ _ c.compose_compound.result c.compose_compound.ensures.row
    (λ r h m stands list all.
    let H = IsHeldAt m s in
    subst (λ qs. IsGiven s c.args.next (proc (codes "=..") 2) (composes (reads m s c.args.list) (map (reads m s) qs)) m c.compose_compound.new.store r)
    (sym (first_and_rest ps _ some)) (h m stands list (All-get_or H ps 0 _ some all) (All-take H (length ps - 1) _ (All-drop H 1 ps all))))
