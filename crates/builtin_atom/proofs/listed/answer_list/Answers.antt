use Rattle.std.proofs.Common.{◌≡◌, ◌*◌, ◌+◌, ◌≤◌, zero, List, [], ◌∷◌, length, map, refl, sym, ap, subst, ◌∙◌, arith}
use Rattle.std.specs.List.{All}
use Rattle.pl_model.specs.Terms.{list_term}
use Rattle.pl_model.specs.TermBuiltins.{two}
use Rattle.term_store.specs.declared.words.Place.{Place}
use Rattle.term_store.specs.Contents.{Contents, Holds}
use Rattle.world_builtins.specs.Spelling.{reads}
use Rattle.builtin_rows.specs.declared.row.Places.TheVariants.{Two}
use Rattle.builtin_rows.specs.declared.row.Row.TheVariants.{Answer}
use Rattle.builtin_rows.specs.Lists.{IsListMade}
use Rattle.builtin_rows.specs.Rows.{IsRow}
use Rattle.builtin_atom.specs.Forms.{to_by}
use Rattle.builtin_atom.specs.Listed.{AreListed, element_texts}
use Rattle.builtin_atom.proofs.Asking.{asks_given}
use Rattle.builtin_atom.proofs.ListedLaws.{answer_texts, list_parts}
use Rattle.builtin_atom.proofs.Rows.{fits_is}
use Rattle.std.specs.List.{Contains}
use Rattle.builtin_atom.proofs.listed.answer_list.Goals as goal

pub returns-in_err-listed-in-None-clause-asked : goal.returns-in_err-listed-in-None-clause-asked
returns-in_err-listed-in-None-clause-asked g c p ts =
    let s = c.args.store.now in
    let cs = c.args.text.now in
    let first = reads (g.A.Atoms.held c.args.atoms.now) s c.args.first in
    let fits : s.used + 3 * length cs ≤ s.budget = omega (arith, c.in-None.ensures.fits, c.in-Some.ensures) in
    asks_given s p ts (two first (list_term (map (to_by c.args.form) cs))) (3 * length cs) (Contains (element_texts c.args.form cs)) _ _ fits
    (λ x h. answer_texts c.args.form first cs x h) c.make_elements.ensures.asked

pub returns-in_err-list-in-At-clause-asked : goal.returns-in_err-list-in-At-clause-asked
returns-in_err-list-in-At-clause-asked g c p ts =
    let s = c.args.store.now in
    let cs = c.args.text.now in
    let first = reads (g.A.Atoms.held c.args.atoms.now) s c.args.first in
    let fits : s.used + 3 * length cs ≤ s.budget = omega (arith, c.in-None.ensures.fits, c.in-Some.ensures) in
    asks_given s p ts (two first (list_term (map (to_by c.args.form) cs))) (3 * length cs) (Contains (element_texts c.args.form cs)) _ _ fits
    (λ x h. answer_texts c.args.form first cs x h) c.make_elements.ensures.asked

pub returns-in-Refused-clause-asked : goal.returns-in-Refused-clause-asked
returns-in-Refused-clause-asked g c p ts =
    let s = c.args.store.now in
    let cs = c.args.text.now in
    let first = reads (g.A.Atoms.held c.args.atoms.now) s c.args.first in
    let fits : s.used + 3 * length cs ≤ s.budget = omega (arith, c.in-None.ensures.fits, c.in-Some.ensures) in
    asks_given s p ts (two first (list_term (map (to_by c.args.form) cs))) (3 * length cs) (Contains (element_texts c.args.form cs)) _ _ fits
    (λ x h. answer_texts c.args.form first cs x h) c.make_elements.ensures.asked

pub returns-in_ok-list-in-At-clause-asked : goal.returns-in_ok-list-in-At-clause-asked
returns-in_ok-list-in-At-clause-asked g c p ts =
    let s = c.args.store.now in
    let cs = c.args.text.now in
    let first = reads (g.A.Atoms.held c.args.atoms.now) s c.args.first in
    let fits : s.used + 3 * length cs ≤ s.budget = omega (arith, c.in-None.ensures.fits, c.in-Some.ensures) in
    asks_given s p ts (two first (list_term (map (to_by c.args.form) cs))) (3 * length cs) (Contains (element_texts c.args.form cs)) _ _ fits
    (λ x h. answer_texts c.args.form first cs x h) c.make_elements.ensures.asked

pub make_list-requires : goal.make_list-requires
make_list-requires g c =
    let n = g.A.Atoms.held c.make_elements.new.atoms in
    let listed = subst (λ l. AreListed c.args.form n c.args.text.now l) c.in-At.is c.in_ok-listed-in-None.ensures.listed in
    subst (λ (ps : List Place). All (Holds c.take_cells.new.store) ps) (sym c.deref.ensures.value) (listed c.take_cells.new.store).inside

pub returns-in_ok-list-in-At-clause-row : goal.returns-in_ok-list-in-At-clause-row
returns-in_ok-list-in-At-clause-row g c p ts next below =
    let s = c.args.store.now in
    let t = c.make_list.new.store in
    let m = g.A.Atoms.held c.args.atoms.now in
    let n = g.A.Atoms.held c.make_elements.new.atoms in
    let cs = c.args.text.now in
    let form = c.args.form in
    let made = 3 * length cs in
    let us = two (reads m s c.args.first) (list_term (map (to_by form) cs)) in
    let qs = c.in-At.places.items in
    let list = c.in_ok-list-in-At.list in
    let cost : c.in-Some.made ≡ made = omega (arith, c.in-Some.ensures) in
    let fits : s.used + made ≤ s.budget = omega (arith, c.in-None.ensures.fits, cost) in
    let listed = subst (λ l. AreListed form n cs l) c.in-At.is c.in_ok-listed-in-None.ensures.listed in
    let charged_is = c.in-None.ensures.taken ∙ ap (λ k. let u : Contents = record { heap = s.heap; used = s.used + k; budget = s.budget } in u) cost in
    let made_list : IsListMade c.take_cells.new.store qs t list =
    subst (λ (xs : List Place). IsListMade c.take_cells.new.store xs t list) c.deref.ensures.value c.in_ok-list-in-At.ensures in
    subst (λ x. IsRow s next ts x n t (Answer (Two c.args.first list) zero)) (sym (fits_is p ts us next s.used s.budget made below fits))
    (list_parts form m n c.make_elements.ensures.holds (g.met.A.Atoms.fixed_held c.make_elements.new.atoms) s t next made c.args.first list qs (c.args.first ∷ (list ∷ [])) cs
    c.requires.inside c.requires.held (listed (let u : Contents = record { heap = s.heap; used = s.used + made; budget = s.budget } in u))
    (subst (λ (u : Contents). IsListMade u qs t list) charged_is made_list) refl)
