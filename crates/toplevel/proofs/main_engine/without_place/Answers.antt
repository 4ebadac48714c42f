use Rattle.std.proofs.Common.{refl, sym, ◌∙◌}
use Rattle.toplevel.proofs.MainLaws.{unplaced_at, unread_so}
use Rattle.toplevel.proofs.main_engine.without_place.Goals as goal

pub returns-in_ok-put_no_atom_space-in-Some : goal.returns-in_ok-put_no_atom_space-in-Some
returns-in_ok-put_no_atom_space-in-Some c p h x found f end place =
    unplaced_at p c.args.name.now h c.args.script c.args.text.items c.args.part.now c.args.quotes x f _ c.in-Some.place found refl refl end (place ∙ c.in-Some.is)
    c.in_ok-put_no_atom_space-in-Some.ensures

pub returns-in_ok-under-in-None : goal.returns-in_ok-under-in-None
returns-in_ok-under-in-None c p h x found f end place =
    unread_so p c.args.name.now h c.args.script c.args.text.items c.args.part.now c.args.quotes x f _ found c.in_ok-under-in-None.under refl (λ none. none) refl refl end (place ∙ c.in-None.is)
    c.in_ok-under-in-None.ensures
