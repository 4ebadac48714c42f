use Rattle.std.proofs.Common.{zero, ◌*◌, length, map, refl, sym, ap, subst, ◌∙◌, arith}
use Rattle.std.specs.List.{All}
use Rattle.pl_model.specs.BuiltinRows.{Answer}
use Rattle.pl_model.specs.History.{proc}
use Rattle.pl_model.specs.Terms.{list_term}
use Rattle.pl_model.specs.TermBuiltins.{two}
use Rattle.term_store.specs.Contents.{Holds, term_at}
use Rattle.world_builtins.specs.Spelling.{reads}
use Rattle.builtin_rows.specs.Lists.{cells_of}
use Rattle.builtin_term.proofs.PartAnswers.{makes_room, none_of, refused_given, some_of}
use Rattle.builtin_term.proofs.ListTerms.{list_given}
use Rattle.builtin_term.proofs.Making.{makes_then}
use Rattle.builtin_term.proofs.lists.list_answer.Goals as goal

pub make_list-requires : goal.make_list-requires
make_list-requires c =
    subst (λ t. All (Holds t) c.args.items.now) (sym (none_of _ c.in_ok-refused.refused c.in-None.is c.in_ok-refused.ensures.taken)) c.requires.items

pub returns-in-Some-refused-clause-row : goal.returns-in-Some-refused-clause-row
returns-in-Some-refused-clause-row c m p stands held all known =
    let s = c.args.store.now in
    let a : Answer = record { terms = two (reads m s c.args.first) (list_term (map (reads m s) c.args.items.now)); fresh = zero; made = 3 * length c.args.items.now } in
    refused_given s c.args.next (proc p 2) m c.take_room.new.store a c.in-Some-refused.row
    (λ ts. some_of _ c.in_ok-refused.refused c.in-Some-refused.row c.in-Some-refused.is c.in_ok-refused.ensures.refused m p ts a stands known refl (omega (arith, c.in-Some.ensures)))

pub returns-in_ok-list-in-None-clause-row : goal.returns-in_ok-list-in-None-clause-row
returns-in_ok-list-in-None-clause-row c m p stands held all known =
    let s = c.args.store.now in
    let t = c.take_room.new.store in
    let u = c.make_list.new.store in
    let items = c.args.items.now in
    let next = c.args.next in
    let made = c.in-Some.made in
    let list = c.in_ok-list-in-None.list in
    let l = c.in_ok-list-in-None.ensures in
    let same = none_of _ c.in_ok-refused.refused c.in-None.is c.in_ok-refused.ensures.taken in
    list_given m stands s u next p c.args.first list items made (makes_then s t u next zero made (makes_room s t next made same) l.makes) l.inside
    (l.means ∙ ap (λ v. cells_of (map (term_at v) items)) same) c.requires.first held all
    (omega (arith, c.in-Some.ensures)) (omega arith) (none_of _ c.in_ok-refused.refused c.in-None.is c.in_ok-refused.ensures.cells)
