use Rattle.std.proofs.Common.{◌<◌, [], codes, length, map, sym, ap, subst, ◌∙◌, arith}
use Rattle.std.proofs.lemmas.List.Elements.{All-cons, All-nil}
use Rattle.pl_model.specs.History.{proc}
use Rattle.pl_model.specs.TermBuiltins.{univ}
use Rattle.term_store.specs.declared.views.View.TheVariants.{Compound}
use Rattle.term_store.specs.Heap.{atom_name}
use Rattle.term_store.specs.Contents.{arguments_at, term_at}
use Rattle.world_builtins.specs.Naming.{IsHeldAt}
use Rattle.world_builtins.specs.Spelling.{reads, spelled, text_of}
use Rattle.builtin_term.proofs.PartAnswers.{ok_weaker}
use Rattle.builtin_term.proofs.Seeing.{arguments_long, held_parts}
use Rattle.builtin_term.specs.Giving.{IsGiven}
use Rattle.builtin_term.proofs.Parts.{atom_row, compound_row, integer_row, parts_held}
use Rattle.builtin_term.proofs.FixedNames.{univ_is}
use Rattle.builtin_term.proofs.decomposition.univ.Goals as goal

pub returns-in-Variable-clause-row : goal.returns-in-Variable-clause-row
returns-in-Variable-clause-row c =
    let s = c.args.store.now in
    ok_weaker _ _ c.compose.result c.compose.ensures.row
    (λ r h m naming term list.
    subst (λ u. IsGiven s c.args.next (proc (codes "=..") 2) (univ (spelled (text_of m) u) (reads m s c.args.list)) m c.compose.new.store r)
    (sym c.in-Variable.ensures) (h m c.in-Variable.field-0 naming list))

pub returns-in-Integer-clause-row : goal.returns-in-Integer-clause-row
returns-in-Integer-clause-row c =
    let s = c.args.store.now in
    let p = c.args.term in
    ok_weaker _ _ c.list_answer.result c.list_answer.ensures.row
    (λ r h m naming term list.
    subst (λ d. IsGiven s c.args.next (proc (codes "=..") 2) d m c.list_answer.new.store r)
    (integer_row m s p (reads m s c.args.list) c.in-Integer.field-0 c.in-Integer.ensures)
    (h m (codes "=..") naming.stands term (All-cons (IsHeldAt m s) p [] term (All-nil (IsHeldAt m s))) univ_is))

pub returns-in-Atom-clause-row : goal.returns-in-Atom-clause-row
returns-in-Atom-clause-row c =
    let s = c.args.store.now in
    let p = c.args.term in
    ok_weaker _ _ c.list_answer-in-Atom.result c.list_answer-in-Atom.ensures.row
    (λ r h m naming term list.
    subst (λ d. IsGiven s c.args.next (proc (codes "=..") 2) d m c.list_answer-in-Atom.new.store r)
    (atom_row m s p (reads m s c.args.list) (atom_name c.in-Atom.field-0) c.in-Atom.ensures)
    (h m (codes "=..") naming.stands term (All-cons (IsHeldAt m s) p [] term (All-nil (IsHeldAt m s))) univ_is))

pub returns-in_ok-parts-in-Compound-clause-row : goal.returns-in_ok-parts-in-Compound-clause-row
returns-in_ok-parts-in-Compound-clause-row c =
    let s = c.args.store.now in
    let p = c.args.term in
    let v = c.in-Compound in
    let ts = arguments_at s v.arguments in
    let ps = c.deref.result.now in
    let stand = ap (map (term_at s)) c.deref.ensures.value ∙ c.in_ok-parts-in-Compound.ensures.terms in
    let some : 0 < length ts = omega (arith, arguments_long s v.arguments v.ensures.1.0, v.ensures.1.1) in
    ok_weaker _ _ c.list_answer-in-Compound.result c.list_answer-in-Compound.ensures.row
    (λ r h m naming term list.
    let held = held_parts m s (term_at s p) (Compound v.name v.arguments) v.ensures term in
    subst (λ d. IsGiven s c.args.next (proc (codes "=..") 2) d m c.list_answer-in-Compound.new.store r)
    (compound_row m s v.name ts ps stand p (reads m s c.args.list) v.ensures.0 some)
    (h m (codes "=..") naming.stands term (parts_held m s v.name ts ps stand held.0 held.1) univ_is))
