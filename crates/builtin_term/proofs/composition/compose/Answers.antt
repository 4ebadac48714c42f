use Rattle.std.proofs.Common.{codes, map, sym, ap, subst}
use Rattle.pl_model.specs.Checks.{elements}
use Rattle.pl_model.specs.History.{proc}
use Rattle.pl_model.specs.TermBuiltins.{composes, on_list}
use Rattle.world_builtins.specs.Spelling.{reads}
use Rattle.builtin_rows.specs.Lists.{EndsAs}
use Rattle.builtin_term.proofs.PartAnswers.{ok_weaker}
use Rattle.builtin_term.specs.Giving.{IsGiven}
use Rattle.builtin_term.proofs.FixedNames.{univ_is}
use Rattle.builtin_term.proofs.composition.compose.Goals as goal

pub returns-in-Open-clause-row : goal.returns-in-Open-clause-row
returns-in-Open-clause-row c =
    let s = c.args.store.now in
    ok_weaker _ _ c.raise.result c.raise.ensures.row
    (λ r h m x naming held.
    let whole = reads m s c.args.list in
    let all = map (reads m s) c.list_elements.new.all.items in
    let ended = subst (λ e. EndsAs e whole all (elements whole)) c.in-Open.is (c.in_ok-end.ensures.ended m naming held) in
    subst (λ d. IsGiven s c.args.next (proc (codes "=..") 2) d m c.raise.new.store r) (sym (ap (λ q. on_list q (composes whole)) ended))
    (h m (codes "=..") c.args.next naming.stands tt univ_is))

pub returns-in-Broken-clause-row : goal.returns-in-Broken-clause-row
returns-in-Broken-clause-row c =
    let s = c.args.store.now in
    ok_weaker _ _ c.raise-in-Broken.result c.raise-in-Broken.ensures.row
    (λ r h m x naming held.
    let whole = reads m s c.args.list in
    let all = map (reads m s) c.list_elements.new.all.items in
    let ended = subst (λ e. EndsAs e whole all (elements whole)) c.in-Broken.is (c.in_ok-end.ensures.ended m naming held) in
    subst (λ d. IsGiven s c.args.next (proc (codes "=..") 2) d m c.raise-in-Broken.new.store r) (sym (ap (λ q. on_list q (composes whole)) ended))
    (h m (codes "=..") c.args.next naming.stands held univ_is))
