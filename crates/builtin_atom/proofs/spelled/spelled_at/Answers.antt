use Rattle.std.proofs.Common.{◌≡◌, List, Ok, map, subst}
use Rattle.pl_model.specs.Checks.{elements}
use Rattle.term_store.specs.declared.words.Place.{Place}
use Rattle.world_builtins.specs.Spelling.{reads}
use Rattle.builtin_rows.specs.Lists.{EndsAs, IsNaming}
use Rattle.builtin_atom.specs.Spelled.{AreRead, Spells}
use Rattle.builtin_atom.proofs.Rows.{with_ok}
use Rattle.builtin_atom.proofs.SpellLaws.{read_spells}
use Rattle.builtin_atom.proofs.spelled.spelled_at.Goals as goal

pub returns-in-Open-clause-spells : goal.returns-in-Open-clause-spells
returns-in-Open-clause-spells g c =
    let m = g.A.Atoms.held c.args.atoms.now in
    let whole = reads m c.args.store.now c.args.list in
    let naming : IsNaming m = record { stands = g.met.A.Atoms.fixed_held c.args.atoms.now; unlike = g.met.A.Atoms.unlike c.args.atoms.now } in
    subst (λ e. EndsAs e whole (map (reads m c.args.store.now) c.list_elements.new.all.items) (elements whole)) c.in-Open.is
    (c.in_ok-end.ensures.ended m naming c.requires.held)

pub returns-in-Broken-clause-spells : goal.returns-in-Broken-clause-spells
returns-in-Broken-clause-spells g c =
    let m = g.A.Atoms.held c.args.atoms.now in
    let whole = reads m c.args.store.now c.args.list in
    let naming : IsNaming m = record { stands = g.met.A.Atoms.fixed_held c.args.atoms.now; unlike = g.met.A.Atoms.unlike c.args.atoms.now } in
    subst (λ e. EndsAs e whole (map (reads m c.args.store.now) c.list_elements.new.all.items) (elements whole)) c.in-Broken.is
    (c.in_ok-end.ensures.ended m naming c.requires.held)

pub returns-clause-spells : goal.returns-clause-spells
returns-clause-spells g c =
    let m = g.A.Atoms.held c.args.atoms.now in
    let s = c.args.store.now in
    let whole = reads m s c.args.list in
    let naming : IsNaming m = record { stands = g.met.A.Atoms.fixed_held c.args.atoms.now; unlike = g.met.A.Atoms.unlike c.args.atoms.now } in
    let ts = map (reads m s) c.list_elements.new.all.items in
    let closed : elements whole ≡ Ok ts =
    subst (λ e. EndsAs e whole ts (elements whole)) c.in-Closed.is (c.in_ok-end.ensures.ended m naming c.requires.held) in
    with_ok (AreRead c.args.form m s (map (reads m s) c.deref.result.now)) (Spells c.args.form m s whole) c.read_elements.result
    (λ r h. read_spells c.args.form m s whole ts r closed
    (subst (λ (ps : List Place). AreRead c.args.form m s (map (reads m s) ps) r) c.deref.ensures.value h)) c.read_elements.ensures.read
